-- Parts of a list, as the code lends them. Assumes nothing.
use Prim.Native.Nat.{ℕ, ◌-◌}
use mathlib.Core.Path.{◌≡◌}
use mathlib.Core.List.{List}
use native.Mathlib.Omega.{arith}
use lib.ListN.{length, take, drop, length-drop}
use lib.Seq.{take_all}
use Rattle.records.specs.declared.kinds.Call.{Call}
use Rattle.records.specs.declared.kinds.InFlight.TheVariants as flights
use Rattle.records.specs.Layout.{float_at}
use Rattle.records.specs.Kinds.{state_start, command_start}
use Rattle.records.specs.Read.{state, command, call_input, read}

-- what is left from a place on
pub lent : (l : List ℕ) (n : ℕ) → take (length l - n) (drop n l) ≡ drop n l
lent l n = take_all (length l - n) (drop n l) (omega (arith, length-drop n l))

-- what a call's body says, over its parts
pub parted : (call : Call) (body : List ℕ) → read (flights.Call call) body
    ≡ call_input (command call (take (length body - command_start) (drop command_start body))) (float_at body 0)
    (state (take (length body - state_start) (drop state_start body)))
unfolding read
parted call body = rw (lent body command_start, lent body state_start)
