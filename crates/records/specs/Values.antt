-- The values of a state, of each command and of a call's body, by name, in the order of document 01's "The flight file". Laid so, they read back
-- (proofs/Laws/Values.antt). Assumes nothing.
use Rattle.std.specs.Prelude.{ℕ, List, [], ◌∷◌, ◌++◌, Float, None, Option, Some}
use Rattle.math.specs.declared.vectors.Vec2.{Vec2}
use Rattle.math.specs.declared.vectors.Vec3.{Vec3}
use Rattle.math.specs.declared.vectors.Quaternion.{Quaternion}
use Rattle.wind.specs.declared.state.VehicleState.{VehicleState}
use Rattle.copter.specs.declared.commands.AttitudeCommand.{AttitudeCommand}
use Rattle.copter.specs.declared.commands.WaypointCommand.{WaypointCommand}
use Rattle.copter.specs.declared.commands.AbsoluteAttitudeCommand.{AbsoluteAttitudeCommand}
use Rattle.copter.specs.declared.commands.LandCommand.{LandCommand}
use Rattle.copter.specs.declared.commands.AbsoluteRateCommand.{AbsoluteRateCommand}
use Rattle.copter.specs.declared.commands.Command.{Command}
use Rattle.copter.specs.declared.commands.Command.TheVariants as commands
use Rattle.records.specs.declared.kinds.Call.{Call}
use Rattle.records.specs.declared.kinds.Call.TheVariants as calls
use Rattle.records.specs.Layout.{Value, number, mark}

abbrev pub xy : Vec2 → List Value
xy v = number v.x ∷ number v.y ∷ []

abbrev pub xyz : Vec3 → List Value
xyz v = number v.x ∷ number v.y ∷ number v.z ∷ []

abbrev pub wijk : Quaternion → List Value
wijk q = number q.w ∷ number q.i ∷ number q.j ∷ number q.k ∷ []

abbrev pub state_values : VehicleState → List Value
state_values s =
    xyz s.position_m ++ xyz s.velocity_mps ++ xyz s.acceleration_mps2 ++ wijk s.attitude
    ++ (number s.angular_velocity_z_radps ∷ number s.heading_rad ∷ [])

abbrev pub attitude_values : AttitudeCommand → List Value
attitude_values c = number c.throttle ∷ number c.roll ∷ number c.pitch ∷ number c.yaw ∷ []

-- what stands where a mark is 0; it is not read
pub record Unread : Type 0 where
  pub velocity : Vec2
  pub heading : Float

-- a mark is 1 present, 0 absent
abbrev pub velocity_mark : Option Vec2 → ℕ
velocity_mark None = 0
velocity_mark (Some v) = 1

abbrev pub velocity_or : Vec2 → Option Vec2 → Vec2
velocity_or unread None = unread
velocity_or unread (Some v) = v

abbrev pub heading_mark : Option Float → ℕ
heading_mark None = 0
heading_mark (Some heading) = 1

abbrev pub heading_or : Float → Option Float → Float
heading_or unread None = unread
heading_or unread (Some heading) = heading

abbrev pub waypoint_values : Unread → WaypointCommand → List Value
waypoint_values unread c =
    xy c.position_m
    ++ (mark (velocity_mark c.velocity_mps) ∷ []) ++ xy (velocity_or unread.velocity c.velocity_mps)
    ++ (number c.altitude_m ∷ number c.cruise_speed_mps ∷ [])
    ++ (mark (heading_mark c.heading_rad) ∷ number (heading_or unread.heading c.heading_rad) ∷ [])

abbrev pub absolute_attitude_values : AbsoluteAttitudeCommand → List Value
absolute_attitude_values c = number c.roll_rad ∷ number c.pitch_rad ∷ number c.heading_rad ∷ number c.thrust ∷ []

abbrev pub land_values : LandCommand → List Value
land_values c = xy c.position_m

abbrev pub absolute_rate_values : AbsoluteRateCommand → List Value
absolute_rate_values c = number c.roll_radps ∷ number c.pitch_radps ∷ number c.yaw_radps ∷ number c.thrust ∷ []

abbrev pub command_values : Unread → Command → List Value
command_values unread (commands.Attitude c) = attitude_values c
command_values unread (commands.Waypoint c) = waypoint_values unread c
command_values unread (commands.AbsoluteAttitude c) = absolute_attitude_values c
command_values unread (commands.Land c) = land_values c
command_values unread (commands.AbsoluteRate c) = absolute_rate_values c

-- T, the state, the command
abbrev pub call_values : Unread → Float → VehicleState → Command → List Value
call_values unread dt s c = (number dt ∷ []) ++ state_values s ++ command_values unread c

-- the call that has a command
abbrev pub call_of : Command → Call
call_of (commands.Attitude c) = calls.Attitude
call_of (commands.Waypoint c) = calls.Waypoint
call_of (commands.AbsoluteAttitude c) = calls.AbsoluteAttitude
call_of (commands.Land c) = calls.Land
call_of (commands.AbsoluteRate c) = calls.AbsoluteRate
