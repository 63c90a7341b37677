-- Decoding: what a record's body says, an input or a refusal, from the bytes alone. Document 01's checks of the body, in its order. Assumes nothing.
use Rattle.records.specs.declared.answer.Refusal.{Refusal}
use Rattle.records.specs.declared.read.Input.{Input}
use Rattle.copter.specs.declared.config.CopterGuidanceConfig.{CopterGuidanceConfig}
use Rattle.copter.specs.declared.commands.Command.{Command}
use Rattle.std.specs.Prelude.{ℕ, Bool, not, cond, ◌&&◌, ◌||◌, List, leb, eqb, drop, Float, None, Option, Some, Result, Ok, Err}
use Rattle.std.specs.Float.Ieee.{le}
use Rattle.std.specs.Float.Ieee.Scale.{finite}
use Rattle.floats.specs.Ops.{f32}
use Rattle.floats.specs.Compare.{abs}
use Rattle.math.specs.Math.{one}
use Rattle.controllers.specs.RateDivider.{shortest}
use Rattle.wind.specs.declared.state.VehicleState.{VehicleState}
use Rattle.copter.specs.Config.{field_count, lowest, config_of}
use Rattle.copter.specs.declared.commands.AttitudeCommand.{AttitudeCommand}
use Rattle.copter.specs.declared.commands.WaypointCommand.{WaypointCommand}
use Rattle.copter.specs.declared.commands.AbsoluteAttitudeCommand.{AbsoluteAttitudeCommand}
use Rattle.copter.specs.declared.commands.LandCommand.{LandCommand}
use Rattle.copter.specs.declared.commands.AbsoluteRateCommand.{AbsoluteRateCommand}
use Rattle.copter.specs.declared.commands.Command.TheVariants as commands
use Rattle.records.specs.declared.answer.Refusal.TheVariants as refusals
use Rattle.records.specs.declared.kinds.Call.{Call}
use Rattle.records.specs.declared.kinds.Call.TheVariants as calls
use Rattle.records.specs.declared.kinds.InFlight.{InFlight}
use Rattle.records.specs.declared.kinds.InFlight.TheVariants as flights
use Rattle.records.specs.declared.read.Input.TheVariants as inputs
use Rattle.records.specs.Layout.{float_at, Takes, reads, floats_from}
use Rattle.math.specs.declared.vectors.Vec2.{Vec2}
use Rattle.records.specs.Kinds.{state_layout, command_layout, state_start, command_start}

-- ---- the parts of a body, each read from its own start

abbrev pub state_of : Takes state_layout VehicleState
state_of px py pz vx vy vz ax ay az w i j k turn heading =
    record {
      position_m = record { x = px; y = py; z = pz };
      velocity_mps = record { x = vx; y = vy; z = vz };
      acceleration_mps2 = record { x = ax; y = ay; z = az };
      attitude = record { w = w; i = i; j = j; k = k };
      angular_velocity_z_radps = turn;
      heading_rad = heading;
    }

unfoldable pub state : List ℕ → VehicleState
state = reads state_layout state_of

abbrev pub attitude_of : Takes (command_layout calls.Attitude) AttitudeCommand
attitude_of throttle roll pitch yaw = record { throttle = throttle; roll = roll; pitch = pitch; yaw = yaw }

unfoldable pub attitude_command : List ℕ → AttitudeCommand
attitude_command = reads (command_layout calls.Attitude) attitude_of

-- a mark is 1 present, 0 absent
abbrev pub target_velocity : ℕ → Float → Float → Option Vec2
target_velocity mark x y = cond (eqb mark 1) (Some (record { x = x; y = y })) None

abbrev pub commanded_heading : ℕ → Float → Option Float
commanded_heading mark heading = cond (eqb mark 1) (Some heading) None

abbrev pub waypoint_of : Takes (command_layout calls.Waypoint) WaypointCommand
waypoint_of x y velocity_mark vx vy altitude cruise heading_mark heading =
    record {
      position_m = record { x = x; y = y };
      velocity_mps = target_velocity velocity_mark vx vy;
      altitude_m = altitude;
      cruise_speed_mps = cruise;
      heading_rad = commanded_heading heading_mark heading;
    }

unfoldable pub waypoint_command : List ℕ → WaypointCommand
waypoint_command = reads (command_layout calls.Waypoint) waypoint_of

-- both marks are 0 or 1
abbrev pub marks_of : Takes (command_layout calls.Waypoint) Bool
marks_of x y velocity_mark vx vy altitude cruise heading_mark heading = leb velocity_mark 1 && leb heading_mark 1

unfoldable pub marks_ok : List ℕ → Bool
marks_ok = reads (command_layout calls.Waypoint) marks_of

abbrev pub absolute_attitude_of : Takes (command_layout calls.AbsoluteAttitude) AbsoluteAttitudeCommand
absolute_attitude_of roll pitch heading thrust = record { roll_rad = roll; pitch_rad = pitch; heading_rad = heading; thrust = thrust }

unfoldable pub absolute_attitude_command : List ℕ → AbsoluteAttitudeCommand
absolute_attitude_command = reads (command_layout calls.AbsoluteAttitude) absolute_attitude_of

abbrev pub land_of : Takes (command_layout calls.Land) LandCommand
land_of x y = record { position_m = record { x = x; y = y } }

unfoldable pub land_command : List ℕ → LandCommand
land_command = reads (command_layout calls.Land) land_of

abbrev pub absolute_rate_of : Takes (command_layout calls.AbsoluteRate) AbsoluteRateCommand
absolute_rate_of roll pitch yaw thrust = record { roll_radps = roll; pitch_radps = pitch; yaw_radps = yaw; thrust = thrust }

unfoldable pub absolute_rate_command : List ℕ → AbsoluteRateCommand
absolute_rate_command = reads (command_layout calls.AbsoluteRate) absolute_rate_of

-- a call's command; floats after a mark of 0 are not read
unfoldable pub command : Call → List ℕ → Result Command Refusal
command calls.Attitude part = Ok (commands.Attitude (attitude_command part))
command calls.Waypoint part = cond (marks_ok part) (Ok (commands.Waypoint (waypoint_command part))) (Err refusals.Mark)
command calls.AbsoluteAttitude part = Ok (commands.AbsoluteAttitude (absolute_attitude_command part))
command calls.Land part = Ok (commands.Land (land_command part))
command calls.AbsoluteRate part = Ok (commands.AbsoluteRate (absolute_rate_command part))

-- the state that starts at a byte
abbrev pub state_at : List ℕ → ℕ → VehicleState
state_at body at = state (drop at body)

-- ---- the checks

-- from 1/4,096 to 1; a NaN is not
unfoldable pub time_step_ok : Float → Bool
time_step_ok dt = le shortest dt && le dt one

-- 1,024 rad
abbrev pub heading_limit : Float
heading_limit = f32 0x4480_0000

-- not finite, or at most 1,024 in size
unfoldable pub heading_ok : Float → Bool
heading_ok heading = not (finite heading) || le (abs heading) heading_limit

-- ---- what a body says

-- the lowest field that breaks its rule, or the configuration
unfoldable pub configuration : List ℕ → Result CopterGuidanceConfig Refusal
configuration body =
    let values = floats_from 0 field_count body in
    let field = lowest values 1 field_count in
    cond (leb field field_count) (Err (refusals.Field field)) (Ok (config_of values))

unfoldable pub prime_input : VehicleState → Result Input Refusal
prime_input state = cond (heading_ok state.heading_rad) (Ok (inputs.Prime state)) (Err refusals.Heading)

-- a call's marks, its time step, its heading
unfoldable pub call_input : Result Command Refusal → Float → VehicleState → Result Input Refusal
call_input (Err refusal) dt state = Err refusal
call_input (Ok command) dt state =
    cond (time_step_ok dt) (cond (heading_ok state.heading_rad) (Ok (inputs.Call dt state command)) (Err refusals.Heading))
    (Err refusals.TimeStep)

unfoldable pub read : InFlight → List ℕ → Result Input Refusal
unfolding prime_input call_input
read flights.Prime body = prime_input (state body)
read (flights.Call call) body = call_input (command call (drop command_start body)) (float_at body 0) (state_at body state_start)
read flights.Rate body = Err refusals.Rate
read flights.Wind body = Ok inputs.Wind
