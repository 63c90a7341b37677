-- A call of altitude control with an error that is not finite gives the hover thrust and leaves the integral. Assumes nothing.
use mathlib.Core.Path.{◌≡◌}
use mathlib.Core.Bool.{Bool, not, ◌&&◌}
use lib.Dec.{T}
use lib.Ieee.{Float}
use lib.Ieee.Bits.{is_false}
use lib.Ieee.Scale.{finite}
use Rattle.floats.specs.Ops.{◌⊖◌}
use Rattle.altitude.specs.declared.AltitudeControllerConfig.{AltitudeControllerConfig}
use Rattle.altitude.specs.declared.AltitudeTarget.{AltitudeTarget}
use Rattle.altitude.specs.declared.AltitudeEstimate.{AltitudeEstimate}
use Rattle.altitude.specs.declared.AltitudeController.{AltitudeController}
use Rattle.altitude.specs.Altitude.{control}

-- both errors are finite
abbrev pub finite_errors : AltitudeTarget → AltitudeEstimate → Bool
finite_errors target estimate = finite (target.altitude_m ⊖ estimate.altitude_m) && finite (target.velocity_mps ⊖ estimate.velocity_mps)

pub not_finite_hovers : (self : AltitudeController) (config : AltitudeControllerConfig) (dt : Float) (target : AltitudeTarget) (estimate : AltitudeEstimate)
    → T (not (finite_errors target estimate)) → control self config dt target estimate ≡ record { controller = self; thrust = config.hover_thrust }
unfolding control
not_finite_hovers self config dt target estimate t = rw (is_false (finite_errors target estimate) t)
