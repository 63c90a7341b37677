-- The size and the sign of a float, as Rust's `f32` has them. A NaN is told by `lib.Ieee`'s `is_nan`, and what is neither a NaN nor an infinity by
-- `lib.Ieee.Scale`'s `finite`. Assumes nothing.
use Rattle.std.specs.Prelude.{Bool, false, cond, pos, None, Option, Some}
use lib.Ieee.{Float, nan, inf, fin}
use lib.Ieee.Scale.{finite}

-- x where it is finite
unfoldable pub finite_or_none : Float → Option Float
finite_or_none x = cond (finite x) (Some x) None

-- The size: x without its sign.
unfoldable pub abs : Float → Float
abs nan = nan
abs (inf s) = inf false
abs (fin s m e) = fin false m e

-- The sign, which a zero has too. A NaN has none.
unfoldable pub is_negative : Float → Bool
is_negative nan = false
is_negative (inf s) = s
is_negative (fin s m e) = s

-- 1 with the sign of x
unfoldable pub signum : Float → Float
signum nan = nan
signum (inf s) = fin s 1 (pos 0)
signum (fin s m e) = fin s 1 (pos 0)
