-- Which numbers each check of a configuration takes. Assumes nothing.
use mathlib.Core.Logic.{◌↔◌}
use lib.Dec.{T}
use lib.Ieee.{Float, lt, le}
use lib.Ieee.Scale.{finite}
use lib.Ieee.Fits.{and_i, and_l, and_r}
use mathlib.Core.Bool.{Bool, ◌&&◌}
use Rattle.math.specs.Math.{zero, one, half_pi}
use Rattle.controllers.specs.Checks.{check_limit, above, check_positive, check_unit_interval, check_tilt}

-- A test of two parts holds exactly where both hold.
pub both : (a b : Bool) → T (a && b) ↔ T a × T b
both a b = (λ t. (and_l a b t, and_r a b t), λ t. and_i a b t.0 t.1)

pub limit_is_nonnegative_and_finite : (value : Float) → T (check_limit value) ↔ T (le zero value) × T (finite value)
unfolding check_limit
limit_is_nonnegative_and_finite value = both (le zero value) (finite value)

pub above_is_above_and_finite : (least value : Float) → T (above least value) ↔ T (lt least value) × T (finite value)
unfolding above
above_is_above_and_finite least value = both (lt least value) (finite value)

pub positive_is_above_zero_and_finite : (value : Float) → T (check_positive value) ↔ T (lt zero value) × T (finite value)
unfolding check_positive
positive_is_above_zero_and_finite value = above_is_above_and_finite zero value

pub unit_interval_is_above_zero_to_one : (value : Float) → T (check_unit_interval value) ↔ T (lt zero value) × T (le value one)
unfolding check_unit_interval
unit_interval_is_above_zero_to_one value = both (lt zero value) (le value one)

pub tilt_is_above_zero_below_half_pi : (value : Float) → T (check_tilt value) ↔ T (lt zero value) × T (lt value half_pi)
unfolding check_tilt
tilt_is_above_zero_below_half_pi value = both (lt zero value) (lt value half_pi)
