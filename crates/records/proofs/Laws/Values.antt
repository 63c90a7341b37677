-- A state, each command, a configuration and whole bodies, laid in document 01's order, read back as they were, whatever stands where a mark is 0.
-- Assumes nothing.
use Rattle.std.specs.Prelude.{None, Option, Some, Ok}
use Prim.Native.Nat.{ℕ, suc}
use mathlib.Core.Path.{◌≡◌, refl, ap, ◌∙◌}
use mathlib.Core.Bool.{true}
use mathlib.Core.List.{List, [], ◌∷◌, ◌++◌, map}
use lib.Dec.{leb}
use lib.ListN.{drop}
use lib.Ieee.{Float}
use Rattle.math.specs.declared.vectors.Vec2.{Vec2}
use Rattle.wind.specs.declared.state.VehicleState.{VehicleState}
use Rattle.copter.specs.Config.{field_count, lowest, fields_of}
use Rattle.copter.specs.declared.config.CopterGuidanceConfig.{CopterGuidanceConfig}
use Rattle.copter.specs.declared.commands.AttitudeCommand.{AttitudeCommand}
use Rattle.copter.specs.declared.commands.WaypointCommand.{WaypointCommand}
use Rattle.copter.specs.declared.commands.AbsoluteAttitudeCommand.{AbsoluteAttitudeCommand}
use Rattle.copter.specs.declared.commands.LandCommand.{LandCommand}
use Rattle.copter.specs.declared.commands.AbsoluteRateCommand.{AbsoluteRateCommand}
use Rattle.copter.specs.declared.commands.Command.{Command}
use Rattle.copter.specs.declared.commands.Command.TheVariants as commands
use Rattle.copter.proofs.Laws.Config.{config_back}
use Rattle.records.specs.declared.kinds.InFlight.TheVariants as flights
use Rattle.records.specs.declared.read.Input.TheVariants as inputs
use Rattle.records.specs.Layout.{byte_at, float_at, Part, number, parts_of, laid, Fit}
use Rattle.records.specs.Kinds.{step_layout, state_layout, command_layout, in_flight_layout, state_start, command_start}
use Rattle.records.specs.Values.{state_values, attitude_values, waypoint_values, absolute_attitude_values, land_values, absolute_rate_values}
use Rattle.records.specs.Values.{Unread, velocity_mark, velocity_or, heading_mark, heading_or, command_values, call_values, call_of}
use Rattle.records.specs.Read.{state_of, attitude_of, target_velocity, commanded_heading, waypoint_of, marks_of, absolute_attitude_of, land_of}
use Rattle.records.specs.Read.{absolute_rate_of, state, attitude_command, waypoint_command, marks_ok, absolute_attitude_command, land_command}
use Rattle.records.specs.Read.{absolute_rate_command, command, state_at, time_step_ok, heading_ok, configuration, read}
use Rattle.records.proofs.Laws.Layout.{laid_parts, laid_behind, fit_parts, read_back, floats_back}

-- ---- the values are those of the layouts

pub state_laid_out : (s : VehicleState) → parts_of (state_values s) ≡ state_layout
state_laid_out s = refl

pub command_laid_out : (u : Unread) (c : Command) → parts_of (command_values u c) ≡ command_layout (call_of c)
command_laid_out u (commands.Attitude c) = refl
command_laid_out u (commands.Waypoint c) = refl
command_laid_out u (commands.AbsoluteAttitude c) = refl
command_laid_out u (commands.Land c) = refl
command_laid_out u (commands.AbsoluteRate c) = refl

pub call_laid_out : (u : Unread) (dt : Float) (s : VehicleState) (c : Command)
    → parts_of (call_values u dt s c) ≡ in_flight_layout (flights.Call (call_of c))
call_laid_out u dt s c = ap (λ (l : List Part). step_layout ++ state_layout ++ l) (command_laid_out u c)

-- ---- they read back

pub state_back : (s : VehicleState) → Fit (state_values s) → (more : List ℕ) → state (laid (state_values s) ++ more) ≡ s
unfolding state
state_back s fit more = read_back (state_values s) fit more state_of

pub attitude_back : (c : AttitudeCommand) → Fit (attitude_values c) → (more : List ℕ) → attitude_command (laid (attitude_values c) ++ more) ≡ c
unfolding attitude_command
attitude_back c fit more = read_back (attitude_values c) fit more attitude_of

-- whatever stands where a mark is 0
velocity_back : (unread : Vec2) (v : Option Vec2) → target_velocity (velocity_mark v) (velocity_or unread v).x (velocity_or unread v).y ≡ v
velocity_back unread None = refl
velocity_back unread (Some v) = refl

heading_back : (unread : Float) (h : Option Float) → commanded_heading (heading_mark h) (heading_or unread h) ≡ h
heading_back unread None = refl
heading_back unread (Some heading) = refl

velocity_marked : (v : Option Vec2) → leb (velocity_mark v) 1 ≡ true
velocity_marked None = refl
velocity_marked (Some v) = refl

heading_marked : (h : Option Float) → leb (heading_mark h) 1 ≡ true
heading_marked None = refl
heading_marked (Some heading) = refl

pub marks_back : (u : Unread) (c : WaypointCommand) → Fit (waypoint_values u c) → (more : List ℕ)
    → marks_ok (laid (waypoint_values u c) ++ more) ≡ true
unfolding marks_ok
marks_back u c fit more =
    read_back (waypoint_values u c) fit more marks_of ∙ rw (velocity_marked c.velocity_mps, heading_marked c.heading_rad)

pub waypoint_back : (u : Unread) (c : WaypointCommand) → Fit (waypoint_values u c) → (more : List ℕ)
    → waypoint_command (laid (waypoint_values u c) ++ more) ≡ c
unfolding waypoint_command
waypoint_back u c fit more =
    read_back (waypoint_values u c) fit more waypoint_of
    ∙ rw (velocity_back u.velocity c.velocity_mps, heading_back u.heading c.heading_rad)

-- Where a mark is 0 there is no velocity, or no heading, whatever bytes follow it.
pub velocity_unread : (part : List ℕ) → byte_at part 8 ≡ 0 → (waypoint_command part).velocity_mps ≡ None
unfolding waypoint_command
velocity_unread part absent = rw absent

pub heading_unread : (part : List ℕ) → byte_at part 25 ≡ 0 → (waypoint_command part).heading_rad ≡ None
unfolding waypoint_command
heading_unread part absent = rw absent

pub absolute_attitude_back : (c : AbsoluteAttitudeCommand) → Fit (absolute_attitude_values c) → (more : List ℕ)
    → absolute_attitude_command (laid (absolute_attitude_values c) ++ more) ≡ c
unfolding absolute_attitude_command
absolute_attitude_back c fit more = read_back (absolute_attitude_values c) fit more absolute_attitude_of

pub land_back : (c : LandCommand) → Fit (land_values c) → (more : List ℕ) → land_command (laid (land_values c) ++ more) ≡ c
unfolding land_command
land_back c fit more = read_back (land_values c) fit more land_of

pub absolute_rate_back : (c : AbsoluteRateCommand) → Fit (absolute_rate_values c) → (more : List ℕ)
    → absolute_rate_command (laid (absolute_rate_values c) ++ more) ≡ c
unfolding absolute_rate_command
absolute_rate_back c fit more = read_back (absolute_rate_values c) fit more absolute_rate_of

pub command_back : (u : Unread) (c : Command) → Fit (command_values u c) → (more : List ℕ)
    → command (call_of c) (laid (command_values u c) ++ more) ≡ Ok c
unfolding command
command_back u (commands.Attitude c) fit more = rw (attitude_back c fit more)
command_back u (commands.Waypoint c) fit more = rw (marks_back u c fit more, waypoint_back u c fit more)
command_back u (commands.AbsoluteAttitude c) fit more = rw (absolute_attitude_back c fit more)
command_back u (commands.Land c) fit more = rw (land_back c fit more)
command_back u (commands.AbsoluteRate c) fit more = rw (absolute_rate_back c fit more)

-- ---- whole bodies

-- A state whose heading is accepted.
pub prime_back : (s : VehicleState) → Fit (state_values s) → heading_ok s.heading_rad ≡ true → (more : List ℕ)
    → read flights.Prime (laid (state_values s) ++ more) ≡ Ok (inputs.Prime s)
unfolding read
prime_back s fit headed more = rw (state_back s fit more, headed)

module _ (u : Unread) (dt : Float) (s : VehicleState) (c : Command) (fit : Fit (call_values u dt s c)) (more : List ℕ) where
  abbrev body : List ℕ
  body = laid (call_values u dt s c) ++ more

  both_fit : Fit (state_values s) × Fit (command_values u c)
  both_fit = fit_parts (state_values s) (command_values u c) fit.1

  step_in_call : float_at body 0 ≡ dt
  step_in_call =
      rw (laid_parts (number dt ∷ []) (state_values s ++ command_values u c) more)
      (read_back (number dt ∷ []) (fit.0, tt) _ (λ (x : Float). x))

  state_in_call : state_at body state_start ≡ s
  state_in_call =
      rw (laid_behind (number dt ∷ []) (state_values s ++ command_values u c) more, laid_parts (state_values s) (command_values u c) more)
      (state_back s both_fit.0 _)

  command_in_call : command (call_of c) (drop command_start body) ≡ Ok c
  command_in_call =
      rw (laid_behind ((number dt ∷ []) ++ state_values s) (command_values u c) more) (command_back u c both_fit.1 more)

-- A time step, a state and a command, where the time step and the state's heading are accepted.
pub call_back : (u : Unread) (dt : Float) (s : VehicleState) (c : Command) → Fit (call_values u dt s c)
    → time_step_ok dt ≡ true → heading_ok s.heading_rad ≡ true → (more : List ℕ)
    → read (flights.Call (call_of c)) (laid (call_values u dt s c) ++ more) ≡ Ok (inputs.Call dt s c)
unfolding read
call_back u dt s c fit in_time headed more =
    rw (step_in_call u dt s c fit more, state_in_call u dt s c fit more, command_in_call u dt s c fit more, in_time, headed)

-- A configuration whose fields keep their rules.
pub configuration_back : (config : CopterGuidanceConfig) → Fit (map number (fields_of config))
    → lowest (fields_of config) 1 field_count ≡ suc field_count → (more : List ℕ)
    → configuration (laid (map number (fields_of config)) ++ more) ≡ Ok config
unfolding configuration fields_of
configuration_back config fit kept more = rw (floats_back (fields_of config) fit more, kept, config_back config)
