-- The worked flight of document 01 about the divider, W3. It holds by computation. Assumes nothing.
use Rattle.std.specs.Prelude.{None, Some}
use mathlib.Core.Path.{◌≡◌, refl}
use lib.Ieee.{Float, of_bits, add, sub, mul, le}
use Rattle.floats.specs.Ops.{f32}
use Rattle.controllers.specs.declared.rate_divider.Paced.{Paced}
use Rattle.controllers.specs.RateDivider.{due, due_since, ran}

-- a period of 0.02 s
abbrev pub period : Float
period = f32 0x3CA3_D70A

-- a dt of 1/64 s
pub due_at_once : (due ran (f32 0x3C80_0000) period).due ≡ Some (f32 0x3C80_0000)
unfolding due_since add sub mul le of_bits
due_at_once = refl

-- the first, second and third call with a dt of 1/128 s
abbrev pub first : Paced
first = due ran (f32 0x3C00_0000) period

abbrev pub second : Paced
second = due first.divider (f32 0x3C00_0000) period

abbrev pub third : Paced
third = due second.divider (f32 0x3C00_0000) period

-- 3CC00000 is 3/128.
pub due_on_third_call : (first.due ≡ None) × (second.due ≡ None) × (third.due ≡ Some (f32 0x3CC0_0000))
unfolding due_since add sub mul le of_bits
due_on_third_call = (refl, refl, refl)
