-- The flags of C's arrays: a bool as a float is 1 or 0, and so a value that may be missing is held. Assumes nothing.
use lib.Ieee.{binary32, of_int, round, of_bits, eq, ne}
use Rattle.std.proofs.Common.{◌≡◌, refl, Bool, true, false}
use Rattle.std.specs.Prelude.{pos, Float, None, Option, Some, is_some, unwrap_or, not, cond}
use Rattle.std.specs.Bool.{then_some}
use Rattle.std.specs.Int.{from_bool}
use Rattle.math.specs.Math.{zero, one}
use Rattle.control_c.specs.Missing.{given, held}

pub flag_of : (on : Bool) → of_int binary32 (pos (from_bool on)) ≡ cond on one zero
unfolding of_int round of_bits
flag_of true = refl
flag_of false = refl

pub held_by_parts : {T : Type 0} (value : Option T) (missing : T)
    → record { flag = of_int binary32 (pos (from_bool (is_some value))); value = unwrap_or value missing } ≡ held value missing
unfolding held
held_by_parts None missing = rw (flag_of false) refl
held_by_parts (Some value) missing = rw (flag_of true) refl

pub given_by_flag : {T : Type 0} (flag : Float) (value : T) → then_some (ne flag zero) value ≡ given (record { flag = flag; value = value })
unfolding given ne
given_by_flag flag value = case (eq flag zero)
  where
    case : (none : Bool) → then_some (not none) value ≡ cond none None (Some value)
    case true = refl
    case false = refl
