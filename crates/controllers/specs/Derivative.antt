-- The derivative of an error, from derivative.rs. Assumes nothing.
use Rattle.std.specs.Prelude.{Float, None, Option, Some}
use Rattle.math.specs.declared.vectors.Vec2.{Vec2}
use Rattle.math.specs.Vectors.{zeros, minus, over}
use Rattle.controllers.specs.declared.derivative.DerivativeState.{DerivativeState}
use Rattle.controllers.specs.declared.derivative.DerivativeStep.{DerivativeStep}

-- at first and once it was dropped
abbrev pub no_history : DerivativeState
no_history = record { previous_error = None }

-- with the error of the last step
abbrev pub previous_error : Vec2 → DerivativeState
previous_error error = record { previous_error = Some error }

-- (error - previous) / dt, or zero with no history
unfoldable pub difference_over : Option Vec2 → Vec2 → Float → Vec2
difference_over None error dt = zeros
difference_over (Some previous) error dt = over (minus error previous) dt

abbrev pub derivative : DerivativeState → Vec2 → Float → Vec2
derivative state = difference_over state.previous_error

-- the error is kept for the next step
unfoldable pub step : DerivativeState → Vec2 → Float → DerivativeStep
step state error dt = record { state = previous_error error; derivative = derivative state error dt }

-- the history dropped
abbrev pub forget : DerivativeState
forget = no_history
