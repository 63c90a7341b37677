-- How a thrust is boosted, clipped, floored and guarded, from copter.rs. Assumes nothing.
use Rattle.std.specs.Prelude.{true, false, cond, ◌||◌, Float, None, Option, Some}
use Rattle.std.specs.Float.Ieee.{lt}
use Rattle.floats.specs.Ops.{◌⊗◌}
use Rattle.floats.specs.MinMax.{max}
use Rattle.math.specs.Math.{zero, one, tilt_boost, saturate_throttle, guard_sink}
use Rattle.math.specs.declared.vectors.Quaternion.{Quaternion}
use Rattle.copter.specs.declared.config.ThrustLimits.{ThrustLimits}
use Rattle.copter.specs.declared.config.CopterGuidanceConfig.{CopterGuidanceConfig}
use Rattle.copter.specs.declared.thrust.Thrust.{Thrust}
use Rattle.copter.specs.declared.thrust.PilotedThrust.{PilotedThrust}

-- to [0, 1]; flagged where it was outside, which a NaN is not
unfoldable pub clip_thrust : Float → Thrust
clip_thrust thrust = record { value = saturate_throttle thrust; saturated = lt thrust zero || lt one thrust }

-- boosted for the tilt, up to the ceiling unless the stick itself is above it
unfoldable pub boost : Float → Quaternion → Float → Thrust
boost throttle attitude max_boost =
    let raised = throttle ⊗ tilt_boost attitude in
    let ceiling = max max_boost throttle in
    cond (lt ceiling raised) (record { value = ceiling; saturated = true }) (record { value = raised; saturated = false })

unfoldable pub floor_thrust : Float → Float → Thrust
floor_thrust thrust least = cond (lt thrust least) (record { value = least; saturated = true }) (record { value = thrust; saturated = false })

unfoldable pub guarded_by : Option Float → Thrust → Thrust
guarded_by None thrust = thrust
guarded_by (Some value) thrust = record { value = value; saturated = true }

unfoldable pub guarded : Thrust → Float → ThrustLimits → Thrust
unfolding guarded_by
guarded thrust climb limits = guarded_by (guard_sink thrust.value climb limits.sink_limit_mps limits.sink_gain) thrust

-- The raw throttle decides whether it is idle, and a NaN is. An idle throttle passes the thrust through; any other is floored and guarded.
unfoldable pub hold_piloted : Float → Thrust → Float → Float → ThrustLimits → PilotedThrust
hold_piloted throttle thrust climb idle limits =
    let held = guarded (floor_thrust thrust.value limits.min_thrust) climb limits in
    cond (lt idle throttle)
    (record { value = held.value; saturated = thrust.saturated || held.saturated; idle = false })
    (record { value = thrust.value; saturated = thrust.saturated; idle = true })

-- an absolute command's thrust is clipped and not boosted
unfoldable pub hold_absolute : Float → Float → CopterGuidanceConfig → PilotedThrust
hold_absolute thrust climb config = hold_piloted thrust (clip_thrust thrust) climb config.guidance.idle_throttle config.thrust

-- a stick's throttle is boosted and then clipped
unfoldable pub boosted : Float → Quaternion → Float → Thrust
boosted throttle attitude max_boost =
    let raised = boost throttle attitude max_boost in
    let clipped = clip_thrust raised.value in
    record { value = clipped.value; saturated = raised.saturated || clipped.saturated }
