-- The rules for a configuration's numbers, from controllers/mod.rs. Assumes nothing.
use Rattle.std.specs.Prelude.{Bool, ◌&&◌, Float}
use Rattle.std.specs.Float.Ieee.{lt, le}
use Rattle.std.specs.Float.Ieee.Scale.{finite}
use Rattle.math.specs.Math.{zero, one, half_pi}

-- non-negative and finite
unfoldable pub check_limit : Float → Bool
check_limit value = le zero value && finite value

-- above a number, and finite
unfoldable pub above : Float → Float → Bool
above least value = lt least value && finite value

-- positive and finite
unfoldable pub check_positive : Float → Bool
unfolding above
check_positive value = above zero value

-- in (0, 1]
unfoldable pub check_unit_interval : Float → Bool
check_unit_interval value = lt zero value && le value one

-- in (0, π/2)
unfoldable pub check_tilt : Float → Bool
check_tilt value = lt zero value && lt value half_pi
