-- Altitude control, from controllers/altitude.rs. Assumes nothing.
use Rattle.std.specs.Prelude.{cond, ◌&&◌, List, get_or, Float}
use Rattle.std.specs.Float.{nan}
use Rattle.std.specs.Float.Ieee.{lt}
use Rattle.std.specs.Float.Ieee.Scale.{finite}
use Rattle.floats.specs.Ops.{◌⊕◌, ◌⊖◌, ◌⊗◌, ◌⊘◌}
use Rattle.floats.specs.Compare.{abs}
use Rattle.floats.specs.MinMax.{clamp}
use Rattle.math.specs.Math.{zero, one, gravity, clamp_symmetric, tilt_boost}
use Rattle.math.specs.declared.vectors.Quaternion.{Quaternion}
use Rattle.altitude.specs.declared.AltitudeControllerConfig.{AltitudeControllerConfig}
use Rattle.altitude.specs.declared.AltitudeTarget.{AltitudeTarget}
use Rattle.altitude.specs.declared.AltitudeEstimate.{AltitudeEstimate}
use Rattle.altitude.specs.declared.AltitudeController.{AltitudeController}
use Rattle.altitude.specs.declared.AltitudeControl.{AltitudeControl}

-- the configuration of six numbers, in the order of its fields
abbrev pub config_of : List Float → AltitudeControllerConfig
config_of values =
    record {
      gains = record { p = get_or values 0 nan; i = get_or values 1 nan; d = get_or values 2 nan };
      max_integral = get_or values 3 nan;
      hover_thrust = get_or values 4 nan;
      integration_band_m = get_or values 5 nan;
    }

-- nothing integrated yet
unfoldable pub fresh : AltitudeController
fresh = record { integrated_error = zero }

-- The integral grows only while the error is within the band, and stays within its limit.
unfoldable pub integrated : AltitudeControllerConfig → Float → Float → Float → Float
integrated config dt error integral =
    clamp_symmetric (cond (lt (abs error) config.integration_band_m) (integral ⊕ error ⊗ dt) integral) config.max_integral

-- The thrust for the acceleration that the gains ask for, boosted for the tilt.
unfoldable pub thrust : AltitudeControllerConfig → Float → Float → Float → Quaternion → Float
thrust config altitude_error velocity_error integral attitude =
    let gains = config.gains in
    let acceleration = gains.p ⊗ altitude_error ⊕ gains.d ⊗ velocity_error ⊕ gains.i ⊗ integral in
    clamp (config.hover_thrust ⊗ (gravity ⊕ acceleration) ⊘ gravity ⊗ tilt_boost attitude) zero one

-- Where an error is not finite, the thrust is the hover thrust and the integral stays.
unfoldable pub control : AltitudeController → AltitudeControllerConfig → Float → AltitudeTarget → AltitudeEstimate → AltitudeControl
control self config dt target estimate =
    let altitude_error = target.altitude_m ⊖ estimate.altitude_m in
    let velocity_error = target.velocity_mps ⊖ estimate.velocity_mps in
    let integral = integrated config dt altitude_error self.integrated_error in
    cond (finite altitude_error && finite velocity_error)
    (record {
      controller = record { integrated_error = integral };
      thrust = thrust config altitude_error velocity_error integral estimate.attitude;
    })
    (record { controller = self; thrust = config.hover_thrust })
