-- The five calls as one type, so that a law of each call is one statement. Assumes nothing.
use mathlib.Core.Path.{◌≡◌, refl}
use lib.Ieee.{Float}
use Rattle.wind.specs.declared.state.VehicleState.{VehicleState}
use Rattle.copter.specs.declared.commands.AttitudeCommand.{AttitudeCommand}
use Rattle.copter.specs.declared.commands.WaypointCommand.{WaypointCommand}
use Rattle.copter.specs.declared.commands.AbsoluteAttitudeCommand.{AbsoluteAttitudeCommand}
use Rattle.copter.specs.declared.commands.LandCommand.{LandCommand}
use Rattle.copter.specs.declared.commands.AbsoluteRateCommand.{AbsoluteRateCommand}
use Rattle.copter.specs.declared.commands.Command.{Command}
use Rattle.copter.specs.declared.commands.Command.TheVariants as commands
use Rattle.copter.specs.declared.memory.CopterGuidance.{CopterGuidance}
use Rattle.copter.specs.declared.tilt.Course.{Course}
use Rattle.copter.specs.declared.guide.Guided.{Guided}
use Rattle.copter.specs.Guide.{attitude_call, absolute_attitude_call, absolute_rate_call, waypoint_call, land_call, guide_call}
use Rattle.copter.specs.Calls.{waypoint_course, land_course}

pub data Piloted : Type 0 where
  attitude : AttitudeCommand → Piloted
  absolute_attitude : AbsoluteAttitudeCommand → Piloted
  absolute_rate : AbsoluteRateCommand → Piloted

pub data Navigated : Type 0 where
  waypoint : WaypointCommand → Navigated
  land : LandCommand → Navigated

pub data Call : Type 0 where
  piloted : Piloted → Call
  navigated : Navigated → Call

abbrev pub pilot : CopterGuidance → Float → VehicleState → Piloted → Guided
pilot self dt state (attitude command) = attitude_call self dt state command
pilot self dt state (absolute_attitude command) = absolute_attitude_call self dt state command
pilot self dt state (absolute_rate command) = absolute_rate_call self dt state command

abbrev pub navigate : CopterGuidance → Float → VehicleState → Navigated → Guided
navigate self dt state (waypoint command) = waypoint_call self dt state command
navigate self dt state (land command) = land_call self dt state command

abbrev pub guide : CopterGuidance → Float → VehicleState → Call → Guided
guide self dt state (piloted call) = pilot self dt state call
guide self dt state (navigated call) = navigate self dt state call

-- where a navigated call flies to
abbrev pub course : Navigated → Course
course (waypoint command) = waypoint_course command
course (land command) = land_course command

-- ---- a command as a call

abbrev pub call_of : Command → Call
call_of (commands.Attitude command) = piloted (attitude command)
call_of (commands.Waypoint command) = navigated (waypoint command)
call_of (commands.AbsoluteAttitude command) = piloted (absolute_attitude command)
call_of (commands.Land command) = navigated (land command)
call_of (commands.AbsoluteRate command) = piloted (absolute_rate command)

pub guide_call_of : (self : CopterGuidance) (dt : Float) (state : VehicleState) (command : Command)
    → guide_call self dt state command ≡ guide self dt state (call_of command)
unfolding guide_call
guide_call_of self dt state (commands.Attitude command) = refl
guide_call_of self dt state (commands.Waypoint command) = refl
guide_call_of self dt state (commands.AbsoluteAttitude command) = refl
guide_call_of self dt state (commands.Land command) = refl
guide_call_of self dt state (commands.AbsoluteRate command) = refl
