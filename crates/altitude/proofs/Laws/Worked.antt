-- The worked flight of document 01 about altitude control, W4. It holds by computation. Assumes nothing.
use mathlib.Core.Path.{◌≡◌, refl}
use lib.Ieee.{Float, nan, add, sub}
use Rattle.altitude.specs.declared.AltitudeControllerConfig.{AltitudeControllerConfig}
use Rattle.altitude.specs.declared.AltitudeEstimate.{AltitudeEstimate}
use Rattle.altitude.specs.declared.AltitudeController.{AltitudeController}
use Rattle.altitude.specs.Altitude.{control}

-- A NaN as altitude target gives the hover thrust and leaves the integral, whatever the other numbers are.
pub nan_target_hovers : (self : AltitudeController) (config : AltitudeControllerConfig) (dt velocity : Float) (estimate : AltitudeEstimate)
    → control self config dt (record { altitude_m = nan; velocity_mps = velocity }) estimate
    ≡ record { controller = self; thrust = config.hover_thrust }
unfolding control sub add
nan_target_hovers self config dt velocity estimate = refl
