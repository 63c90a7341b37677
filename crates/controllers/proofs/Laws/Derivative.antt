-- What a step of the derivative gives with and without history. Assumes nothing.
use mathlib.Core.Path.{◌≡◌, refl}
use lib.Ieee.{Float}
use Rattle.math.specs.declared.vectors.Vec2.{Vec2}
use Rattle.math.specs.Vectors.{zeros, minus, over}
use Rattle.controllers.specs.declared.derivative.DerivativeState.{DerivativeState}
use Rattle.controllers.specs.Derivative.{no_history, previous_error, difference_over, step}

pub no_history_no_derivative : (error : Vec2) (dt : Float) → (step no_history error dt).derivative ≡ zeros
unfolding step difference_over
no_history_no_derivative error dt = refl

pub derivative_is_difference_over_step : (previous error : Vec2) (dt : Float) → (step (previous_error previous) error dt).derivative ≡ over (minus error previous) dt
unfolding step difference_over
derivative_is_difference_over_step previous error dt = refl

pub step_keeps_error : (state : DerivativeState) (error : Vec2) (dt : Float) → (step state error dt).state ≡ previous_error error
unfolding step
step_keeps_error state error dt = refl
