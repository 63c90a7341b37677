-- The worked flight of document 01 about the descent, W8. It holds by computation. Assumes nothing.
use mathlib.Core.Path.{◌≡◌, refl}
use lib.Ieee.{is_nan, of_bits, add, sub, lt}
use Rattle.floats.specs.Ops.{f32}
use Rattle.floats.specs.MinMax.{max}
use Rattle.math.specs.Math.{one}
use Rattle.copter.specs.Descent.{lowered}

-- From 100 by 1, with a leash of 1: at altitude 98 it is 99, and at 105 it is 104. 42C80000 is 100, 42C40000 is 98, 42C60000 is 99, 42D20000 is 105
-- and 42D00000 is 104.
pub lowered_by_step : lowered (f32 0x42C8_0000) one (f32 0x42C4_0000) one ≡ f32 0x42C6_0000
unfolding lowered max sub add lt is_nan of_bits
lowered_by_step = refl

pub lowered_to_leash : lowered (f32 0x42C8_0000) one (f32 0x42D2_0000) one ≡ f32 0x42D0_0000
unfolding lowered max sub add lt is_nan of_bits
lowered_to_leash = refl
