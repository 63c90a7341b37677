-- Calls of the controllers as C makes them, their numbers in arrays. Assumes nothing.
use Rattle.std.specs.Prelude.{List, [], ◌∷◌, Float}
use Rattle.math.specs.Vectors.{zeros}
use Rattle.math.specs.declared.vectors.Vec2.{Vec2}
use Rattle.altitude.specs.Altitude.{control as altitude_control}
use Rattle.altitude.specs.declared.AltitudeControl.{AltitudeControl}
use Rattle.lateral.specs.Lateral.{control as lateral_control}
use Rattle.lateral.specs.declared.LateralController.{LateralController}
use Rattle.lateral.specs.declared.LateralControl.{LateralControl}
use Rattle.wind.specs.declared.state.VehicleState.{VehicleState}
use Rattle.control_c.specs.declared.memory.Held.{Held}
use Rattle.control_c.specs.Places.{at, vec2, vec3}
use Rattle.control_c.specs.Missing.{held, vector_from}

-- A state: position, velocity, acceleration, attitude, yaw rate and heading.
abbrev pub state : List Float → VehicleState
state l =
    record {
      position_m = vec3 l 0 1 2;
      velocity_mps = vec3 l 3 4 5;
      acceleration_mps2 = vec3 l 6 7 8;
      attitude = record { w = at l 9; i = at l 10; j = at l 11; k = at l 12 };
      angular_velocity_z_radps = at l 13;
      heading_rad = at l 14;
    }

-- Altitude control from an integral. The array holds fields 1 to 6, dt, the target's altitude and climb, the estimate's, and the attitude.
abbrev pub altitude_call : Float → List Float → AltitudeControl
altitude_call integral l =
    altitude_control
    (record { integrated_error = integral })
    (record {
      gains = record { p = at l 0; i = at l 1; d = at l 2 };
      max_integral = at l 3;
      hover_thrust = at l 4;
      integration_band_m = at l 5;
    })
    (at l 6)
    (record { altitude_m = at l 7; velocity_mps = at l 8 })
    (record {
      altitude_m = at l 9;
      velocity_mps = at l 10;
      attitude = record { w = at l 11; i = at l 12; j = at l 13; k = at l 14 };
    })

-- ---- lateral control

-- The memory in the first ten places: the integral, the derivative's history, the shaped velocity and the commanded one.
abbrev pub memory : List Float → LateralController
memory m =
    record {
      integrated_error = vec2 m 0 1;
      derivative = record { previous_error = vector_from m 2 };
      shaped_velocity_mps = vector_from m 5;
      commanded_velocity_mps = vec2 m 8 9;
    }

-- The array holds fields 7 to 14, dt, the target's position, velocity and greatest speed, the estimate's position and velocity, and the limit.
abbrev pub lateral_call : LateralController → List Float → LateralControl
lateral_call controller l =
    lateral_control
    controller
    (record {
      position_p = at l 0;
      velocity = record { p = at l 1; i = at l 2; d = at l 3 };
      max_integral = at l 4;
      max_accel_mps2 = at l 5;
      brake_mps2 = at l 6;
      braking_share = at l 7;
    })
    (at l 8)
    (record { position_m = vec2 l 9 10; velocity_mps = vec2 l 11 12; max_speed_mps = at l 13 })
    (record { position_m = vec2 l 14 15; velocity_mps = vec2 l 16 17 })
    (vec2 l 18 19)

-- the memory after a call, and the acceleration
abbrev numbers : LateralController → Held Vec2 → Held Vec2 → Vec2 → List Float
numbers c history shaped accel =
    c.integrated_error.x ∷ c.integrated_error.y ∷
    history.flag ∷ history.value.x ∷ history.value.y ∷
    shaped.flag ∷ shaped.value.x ∷ shaped.value.y ∷
    c.commanded_velocity_mps.x ∷ c.commanded_velocity_mps.y ∷ accel.x ∷ accel.y ∷ []

abbrev pub lateral_numbers : LateralControl → List Float
lateral_numbers r =
    numbers r.controller (held r.controller.derivative.previous_error zeros) (held r.controller.shaped_velocity_mps zeros) r.accel_mps2
