-- Lateral control, from controllers/lateral.rs. Assumes nothing.
use Rattle.std.specs.Prelude.{cond, false, ◌&&◌, List, get_or, Float, None, Option, Some, unwrap_or}
use Rattle.std.specs.Float.{inf, nan}
use Rattle.std.specs.Float.Ieee.{lt, le}
use Rattle.std.specs.Float.Ieee.Scale.{finite}
use Rattle.floats.specs.Ops.{◌⊗◌, ◌⊘◌}
use Rattle.math.specs.Math.{zero, cap_magnitude, clamp_symmetric_each, all_finite, shaped_closing_speed}
use Rattle.math.specs.Vectors.{zeros, plus, minus, times, over, dot, norm}
use Rattle.math.specs.declared.vectors.Vec2.{Vec2}
use Rattle.controllers.specs.Derivative.{no_history, step, forget}
use Rattle.lateral.specs.declared.LateralControllerConfig.{LateralControllerConfig}
use Rattle.lateral.specs.declared.LateralTarget.{LateralTarget}
use Rattle.lateral.specs.declared.LateralEstimate.{LateralEstimate}
use Rattle.lateral.specs.declared.LateralController.{LateralController}
use Rattle.lateral.specs.declared.Shaping.{Shaping}
use Rattle.lateral.specs.declared.LateralControl.{LateralControl}

-- the configuration of eight numbers, in the order of its fields
abbrev pub config_of : List Float → LateralControllerConfig
config_of values =
    record {
      position_p = get_or values 0 nan;
      velocity = record { p = get_or values 1 nan; i = get_or values 2 nan; d = get_or values 3 nan };
      max_integral = get_or values 4 nan;
      max_accel_mps2 = get_or values 5 nan;
      brake_mps2 = get_or values 6 nan;
      braking_share = get_or values 7 nan;
    }

unfoldable pub fresh : LateralController
fresh = record { integrated_error = zeros; derivative = no_history; shaped_velocity_mps = None; commanded_velocity_mps = zeros }

-- ---- the velocity to fly

-- a speed that is not positive means no cap
unfoldable pub max_speed : Float → Float
max_speed speed = cond (lt zero speed) speed (inf false)

-- the deceleration that a leg brakes at; 0 for none
unfoldable pub braking_decel : LateralControllerConfig → Float
braking_decel config =
    cond (lt zero config.max_accel_mps2) (config.braking_share ⊗ config.max_accel_mps2)
    (cond (lt zero config.brake_mps2) config.brake_mps2 zero)

unfoldable pub closing_velocity : Vec2 → Float → Float → Vec2
closing_velocity error p decel =
    let distance = norm error in
    cond (le decel zero) (times error p)
    (cond (lt zero distance && finite distance) (times error (shaped_closing_speed distance p decel ⊘ distance)) (times error p))

unfoldable pub desired_velocity : LateralControllerConfig → LateralTarget → LateralEstimate → Vec2
desired_velocity config target estimate =
    plus (closing_velocity (minus target.position_m estimate.position_m) config.position_p (braking_decel config)) target.velocity_mps

-- ---- shaping

unfoldable pub shape : Option Vec2 → Float → Float → Vec2 → Vec2 → Shaping
shape shaped max_accel dt demand measured =
    let from = unwrap_or shaped measured in
    let to = plus from (cap_magnitude (minus demand from) (max_accel ⊗ dt)) in
    cond (lt zero max_accel)
    (cond (all_finite demand && all_finite measured)
    (record { shaped_velocity_mps = Some to; commanded_mps = to; feedforward_mps2 = over (minus to from) dt })
    (record { shaped_velocity_mps = shaped; commanded_mps = demand; feedforward_mps2 = zeros }))
    (record { shaped_velocity_mps = None; commanded_mps = demand; feedforward_mps2 = zeros })

-- ---- the controller

-- The integral with the step added; where the step goes towards the limit, it does not get longer.
unfoldable pub hold_against_limit : Vec2 → Vec2 → Float → Vec2 → Vec2
hold_against_limit integral step i limit =
    cond (lt zero (i ⊗ dot step limit)) (cap_magnitude (plus integral step) (norm integral)) (plus integral step)

-- a call whose velocities are finite
unfoldable pub tracked : LateralController → LateralControllerConfig → Float → Shaping → Vec2 → Vec2 → LateralControl
tracked self config dt shaping error limit =
    let gains = config.velocity in
    let stepped = step self.derivative error dt in
    let integral = clamp_symmetric_each (hold_against_limit self.integrated_error (times error dt) gains.i limit) config.max_integral in
    record {
      controller =
          record {
            integrated_error = integral;
            derivative = stepped.state;
            shaped_velocity_mps = shaping.shaped_velocity_mps;
            commanded_velocity_mps = shaping.commanded_mps;
          };
      accel_mps2 =
          plus (plus (plus shaping.feedforward_mps2 (times error gains.p)) (times integral gains.i)) (times stepped.derivative gains.d);
    }

-- A call with a velocity that is not finite asks for no acceleration. The derivative is forgotten, and the integral and the commanded velocity stay.
unfoldable pub neutral : LateralController → Shaping → LateralControl
neutral self shaping =
    record {
      controller =
          record {
            integrated_error = self.integrated_error;
            derivative = forget;
            shaped_velocity_mps = shaping.shaped_velocity_mps;
            commanded_velocity_mps = self.commanded_velocity_mps;
          };
      accel_mps2 = zeros;
    }

-- The cap makes a velocity of no finite length zero, so the desired velocity is tested too.
unfoldable pub control : LateralController → LateralControllerConfig → Float → LateralTarget → LateralEstimate → Vec2 → LateralControl
control self config dt target estimate limit =
    let desired = desired_velocity config target estimate in
    let shaping = shape self.shaped_velocity_mps config.max_accel_mps2 dt (cap_magnitude desired (max_speed target.max_speed_mps)) estimate.velocity_mps in
    let error = minus shaping.commanded_mps estimate.velocity_mps in
    cond (all_finite desired && all_finite error) (tracked self config dt shaping error limit) (neutral self shaping)
