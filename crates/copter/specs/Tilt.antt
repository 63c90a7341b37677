-- The tilt toward a waypoint, from copter.rs. Assumes nothing.
use Rattle.std.specs.Prelude.{Bool, false, cond, ◌&&◌, Float, None, Option, Some}
use Rattle.std.specs.Float.Ieee.{neg, lt, eq}
use Rattle.std.specs.Float.Ieee.Scale.{finite}
use Rattle.floats.specs.Ops.{◌⊕◌, ◌⊖◌, ◌⊗◌, ◌⊘◌}
use Rattle.floats.specs.SinCos.{sinf, cosf}
use Rattle.floats.specs.Atan.{atanf}
use Rattle.math.specs.Math.{zero, gravity, cap_magnitude, past, all_finite}
use Rattle.math.specs.Vectors.{zeros, plus, minus, times, norm}
use Rattle.math.specs.declared.vectors.Vec2.{Vec2}
use Rattle.controllers.specs.RateDivider.{due, ran}
use Rattle.controllers.specs.declared.rate_divider.RateDivider.{RateDivider}
use Rattle.lateral.specs.Lateral.{control}
use Rattle.lateral.specs.declared.LateralTarget.{LateralTarget}
use Rattle.lateral.specs.declared.LateralEstimate.{LateralEstimate}
use Rattle.wind.specs.Drag.{drag}
use Rattle.wind.specs.declared.drag.WindConfig.{WindConfig}
use Rattle.wind.specs.declared.state.VehicleState.{VehicleState}
use Rattle.copter.specs.declared.config.CopterGuidanceConfig.{CopterGuidanceConfig}
use Rattle.copter.specs.declared.memory.LateralMemory.{LateralMemory}
use Rattle.copter.specs.declared.tilt.Course.{Course}
use Rattle.wind.specs.declared.estimate.WindEstimate.{WindEstimate}
use Rattle.copter.specs.declared.tilt.Rotation.{Rotation}
use Rattle.copter.specs.declared.tilt.Tilted.{Tilted}

-- ---- north and east, and the body's axes: how the code divides the two steps below, which are stated without these

abbrev pub rotation : Float → Rotation
rotation heading = record { sin = sinf heading; cos = cosf heading }

-- from north and east to ahead and right of a heading
abbrev pub into_body : Rotation → Vec2 → Vec2
into_body r v = record { x = v.x ⊗ r.cos ⊕ v.y ⊗ r.sin; y = neg v.x ⊗ r.sin ⊕ v.y ⊗ r.cos }

-- and back
abbrev pub from_body : Rotation → Vec2 → Vec2
from_body r v = record { x = v.x ⊗ r.cos ⊖ v.y ⊗ r.sin; y = v.x ⊗ r.sin ⊕ v.y ⊗ r.cos }

-- ---- an acceleration to a tilt

-- Roll and pitch, at a heading, that point the thrust to give an acceleration north and east: a tilt of atan(|a| / g) toward it.
unfoldable pub tilt_for_acceleration : Vec2 → Float → Vec2
tilt_for_acceleration accel heading =
    let length = norm accel in
    let tilt = atanf (length ⊘ gravity) in
    let sin = sinf heading in
    let cos = cosf heading in
    let ahead = accel.x ⊗ cos ⊕ accel.y ⊗ sin in
    let right = neg accel.x ⊗ sin ⊕ accel.y ⊗ cos in
    cond (finite length)
    (cond (eq length zero) zeros
    (cond (finite heading) (times (record { x = right; y = neg ahead }) (tilt ⊘ length)) zeros))
    zeros

-- ---- the drag fed forward

-- the velocity through the air at the commanded one past the hold band, into the frame of the heading, and the push back out of it
unfoldable pub drag_feedforward : WindConfig → Float → Vec2 → Vec2 → Float → Vec2
drag_feedforward config band commanded wind heading =
    let air = minus (past commanded band) wind in
    let sin = sinf heading in
    let cos = cosf heading in
    let pulled = drag config (record { x = air.x ⊗ cos ⊕ air.y ⊗ sin; y = neg air.x ⊗ sin ⊕ air.y ⊗ cos }) in
    let push_x = neg pulled.x in
    let push_y = neg pulled.y in
    record { x = push_x ⊗ cos ⊖ push_y ⊗ sin; y = push_x ⊗ sin ⊕ push_y ⊗ cos }

-- ---- the lateral loop

unfoldable pub velocity_or_zero : Option Vec2 → Vec2
velocity_or_zero None = zeros
velocity_or_zero (Some velocity) = velocity

unfoldable pub wind_or_zero : Option WindEstimate → Vec2
wind_or_zero None = zeros
wind_or_zero (Some estimate) = estimate.velocity_mps

unfoldable pub lateral_target : Course → LateralTarget
lateral_target course =
    record {
      position_m = course.position_m;
      velocity_mps = velocity_or_zero course.velocity_mps;
      max_speed_mps = course.cruise_speed_mps;
    }

unfoldable pub lateral_estimate : VehicleState → LateralEstimate
lateral_estimate state =
    record {
      position_m = record { x = state.position_m.x; y = state.position_m.y };
      velocity_mps = record { x = state.velocity_mps.x; y = state.velocity_mps.y };
    }

-- position error, target velocity, own velocity and heading are finite
unfoldable pub navigable : LateralTarget → LateralEstimate → Float → Bool
navigable target own heading =
    all_finite (minus target.position_m own.position_m) && all_finite target.velocity_mps && all_finite own.velocity_mps
    && finite heading

-- the acceleration at whose limit the craft flies, or zero
unfoldable pub limit : LateralMemory → Vec2
limit self = cond self.tilt_capped self.requested_accel_mps2 zeros

-- a run over a step: what is stored is the capped tilt
unfoldable pub run : LateralMemory → CopterGuidanceConfig → Float → LateralTarget → LateralEstimate → Vec2 → Float → Tilted
run self config step target own wind heading =
    let controlled = control self.controller config.lateral step target own (limit self) in
    let fed_forward =
    drag_feedforward config.wind config.guidance.feedforward_hold_band_mps controlled.controller.commanded_velocity_mps wind heading in
    let accel = plus controlled.accel_mps2 fed_forward in
    let requested = tilt_for_acceleration accel heading in
    let tilt = cap_magnitude requested config.guidance.max_tilt_rad in
    record {
      memory =
          record {
            controller = controlled.controller;
            rate = ran;
            tilt_rad = tilt;
            tilt_capped = lt config.guidance.max_tilt_rad (norm requested);
            requested_accel_mps2 = accel;
          };
      tilt_rad = tilt;
    }

-- Not due: the divider alone goes on, and the stored tilt is answered. This is the one place where it is.
unfoldable pub held : LateralMemory → RateDivider → Tilted
held self rate =
    record {
      memory =
          record {
            controller = self.controller;
            rate = rate;
            tilt_rad = self.tilt_rad;
            tilt_capped = self.tilt_capped;
            requested_accel_mps2 = self.requested_accel_mps2;
          };
      tilt_rad = self.tilt_rad;
    }

-- Due with a number that is not finite: the answer is level, the stored tilt stays, capped is cleared and the divider is not restarted.
unfoldable pub levelled : LateralMemory → RateDivider → Tilted
levelled self rate =
    let kept = self.tilt_rad in
    record {
      memory =
          record {
            controller = self.controller;
            rate = rate;
            tilt_rad = kept;
            tilt_capped = false;
            requested_accel_mps2 = self.requested_accel_mps2;
          };
      tilt_rad = zeros;
    }

unfoldable pub tilted_when : Option Float → LateralMemory → RateDivider → CopterGuidanceConfig → Course → Option WindEstimate → VehicleState → Tilted
tilted_when None self rate config course estimate state = held self rate
tilted_when (Some step) self rate config course estimate state =
    let target = lateral_target course in
    let own = lateral_estimate state in
    cond (navigable target own state.heading_rad) (run self config step target own (wind_or_zero estimate) state.heading_rad) (levelled self rate)

unfoldable pub tilt_toward : LateralMemory → CopterGuidanceConfig → Float → Course → Option WindEstimate → VehicleState → Tilted
unfolding tilted_when
tilt_toward self config dt course estimate state =
    let paced = due self.rate dt config.guidance.navigation_period_s in
    tilted_when paced.due self paced.divider config course estimate state
