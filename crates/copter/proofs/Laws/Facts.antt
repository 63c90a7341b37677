-- Document 01's "What each call does": `EachCraft` holds of every craft that primings and calls lead to from a configuration, and `EachCall` of every accepted
-- call that such a craft gets. Assumes nothing.
pub mod Legs
use Rattle.std.specs.Prelude.{None}
use mathlib.Core.Path.{◌≡◌, refl}
use lib.Dec.{T}
use lib.Ieee.{Float, binary32, nan, neg, fits}
use Rattle.math.specs.Math.{zero}
use Rattle.controllers.specs.RateDivider.{Accepted}
use Rattle.altitude.specs.declared.AltitudeTarget.{AltitudeTarget}
use Rattle.math.proofs.Laws.Cases.{cond_holds}
use Rattle.controllers.proofs.Laws.Within.{Within, within→number}
use Rattle.wind.specs.declared.state.VehicleState.{VehicleState}
use Rattle.wind.specs.Window.{Updated, unchanged}
use Rattle.wind.proofs.Laws.Window.{update_cases}
use Rattle.heading.specs.HoverWind.{airborne}
use Rattle.heading.specs.HoverWind as hover
use Rattle.heading.specs.declared.hover_wind.HoverWind.{HoverWind}
use Rattle.heading.specs.declared.leg_heading.Turn.{Turn}
use Rattle.copter.specs.declared.commands.WaypointCommand.{WaypointCommand}
use Rattle.copter.specs.declared.commands.LandCommand.{LandCommand}
use Rattle.copter.specs.declared.commands.Command.{Command}
use Rattle.copter.specs.declared.commands.Command.TheVariants as commands
use Rattle.copter.specs.declared.memory.CopterGuidance.{CopterGuidance}
use Rattle.copter.specs.declared.descent.Descended.{Descended}
use Rattle.copter.specs.declared.tilt.Course.{Course}
use Rattle.copter.specs.Descent.{ramped_descent, level_at}
use Rattle.copter.specs.Guide.{wind_updated, navigated_thrust, altitude_control, piloted, fly_to}
use Rattle.copter.specs.Guide.{attitude_call, absolute_attitude_call, absolute_rate_call, waypoint_call, land_call, guide_call}
use Rattle.copter.specs.Calls.{WithinLimit, EachCraft, NanOrFrom, NoAltitude, Holds, waypoint_course, land_course}
use Rattle.copter.specs.Calls.{WaypointCall, LandCall, ByCommand, EachCall}
use Rattle.copter.proofs.Laws.Calls.{attitude, absolute_attitude, absolute_rate, waypoint, land, call_of, guide_call_of}
use Rattle.copter.proofs.Laws.Descent.{waypoint_flies_level, land_has_nan_target, waypoint_speed_capped, land_speed_capped}
use Rattle.copter.proofs.Laws.Facts.Legs.{waypoint_legs}
use Rattle.copter.proofs.Laws.Heading.{attitude_heading, absolute_attitude_heading, absolute_rate_heading, waypoint_heading, land_heading}
use Rattle.copter.proofs.Laws.Navigation.{lateral_call}
use Rattle.copter.proofs.Laws.Piloted.{piloted_call}
use Rattle.copter.proofs.Laws.Reached.{Reached, Sound, reached_sound}
use Rattle.copter.proofs.Laws.Thrust.{controlled_nan_or_from_floor}
use Rattle.copter.proofs.Laws.Wind.{guide_updates_wind, guide_keeps_config}

-- ---- every craft

within_limit : (limit x : Float) → Within limit x → WithinLimit limit x
within_limit limit x w = (w.0, w.1, within→number limit x w)

pub each_craft : {self : CopterGuidance} → Reached self → EachCraft self
each_craft {self} r =
    let s = reached_sound r in
    let integral = self.memory.lateral.controller.integrated_error in
    let limit = self.config.lateral.max_integral in
    record {
      valid = s.valid;
      altitude_target = s.altitude_target;
      altitude_integral = within_limit self.config.altitude.max_integral self.memory.vertical.controller.integrated_error s.altitude_integral;
      lateral_integral_x = within_limit limit integral.x s.lateral.integral.0;
      lateral_integral_y = within_limit limit integral.y s.lateral.integral.1;
      elapsed = s.lateral.divider;
      window = s.wind.window.few;
      ground = s.wind.ground;
    }

-- ---- each call

-- The heading that an absolute attitude commands is a float of 32 bits. Nothing is asked of the other commands' floats.
abbrev pub CommandFits : Command → Type 0
CommandFits (commands.Attitude command) = Unit {0}
CommandFits (commands.Waypoint command) = Unit {0}
CommandFits (commands.AbsoluteAttitude command) = T (fits binary32 command.heading_rad)
CommandFits (commands.Land command) = Unit {0}
CommandFits (commands.AbsoluteRate command) = Unit {0}

-- on the ground the wind stays
wind_update_cases : (self : CopterGuidance) (dt : Float) (state : VehicleState) → Sound self → Accepted dt
    → Updated self.memory.wind.estimator self.config.wind (wind_updated self.memory self.config dt state).estimator
unfolding wind_updated hover.update
wind_update_cases self dt state s a =
    let wind = self.memory.wind in
    cond_holds (λ (w : HoverWind). Updated wind.estimator self.config.wind w.estimator)
    (airborne wind self.config.guidance.airborne_height_m state)
    (λ _. update_cases wind.estimator dt self.config.wind state s.wind.window a)
    (λ _. unchanged)

module _ (self : CopterGuidance) (dt : Float) (state : VehicleState) where
  -- a waypoint or land call with no target to remember
  fly_to_holds : (course : Course) (descended : Descended) (turn : Turn) (wind : HoverWind) (target : AltitudeTarget)
      → descended ≡ record { target = target; hold = None; speed_mps = zero }
      → Holds self dt state target (fly_to self dt state course descended turn wind)
  unfolding fly_to
  fly_to_holds course descended turn wind target e = rw e (record { thrust = refl; no_target = refl; at_rest = refl })

  waypoint_holds : (command : WaypointCommand) → NoAltitude self state
      → Holds self dt state (level_at command.altitude_m) (waypoint_call self dt state command)
  unfolding waypoint_call
  waypoint_holds command n =
      fly_to_holds (waypoint_course command) _ _ _ (level_at command.altitude_m)
      (rw n.no_target
      (waypoint_flies_level self.config dt self.memory.vertical.descent_speed_mps state.position_m.z state.velocity_mps.z
      n.not_finite command.altitude_m))

  land_holds : (command : LandCommand) → NoAltitude self state →
      let rate = ramped_descent self.config dt self.config.guidance.land_speed_mps self.memory.vertical.descent_speed_mps in
      Holds self dt state (record { altitude_m = nan; velocity_mps = neg rate }) (land_call self dt state command)
  unfolding land_call
  land_holds command n =
      fly_to_holds (land_course command) _ _ _ _
      (rw n.no_target
      (land_has_nan_target self.config dt self.memory.vertical.descent_speed_mps state.position_m.z state.velocity_mps.z
      n.not_finite))

  module _ (s : Sound self) (a : Accepted dt) (q : T (fits binary32 state.heading_rad)) where
    navigated_thrust_from_floor : (target : AltitudeTarget)
        → NanOrFrom self.config.thrust.min_thrust
        (navigated_thrust (altitude_control self.memory.vertical self.config dt target state).thrust self.config.thrust.min_thrust).value
    unfolding altitude_control
    navigated_thrust_from_floor target =
        controlled_nan_or_from_floor self.memory.vertical.controller self.config.altitude dt target _ self.config.thrust.min_thrust
        s.valid.hover_thrust s.valid.min_thrust

    waypoint_facts : (command : WaypointCommand) → WaypointCall self dt state command (waypoint_call self dt state command)
    unfolding waypoint_call fly_to
    waypoint_facts command =
        record {
          heading = waypoint_heading self dt state s.heading q command;
          answers_heading = refl;
          flies_level = waypoint_holds command;
          descent_speed =
              waypoint_speed_capped self.config s.valid.max_descent_mps dt self.memory.vertical.target
              self.memory.vertical.descent_speed_mps command.altitude_m state.position_m.z state.velocity_mps.z;
          lateral = lateral_call self dt state (waypoint command) s.lateral.divider a;
          legs = waypoint_legs self dt state command s.heading q;
          thrust = navigated_thrust_from_floor _;
          never_idle = refl;
        }

    land_facts : (command : LandCommand) → LandCall self dt state command (land_call self dt state command)
    unfolding land_call fly_to
    land_facts command =
        record {
          heading = land_heading self dt state s.heading q command;
          answers_heading = refl;
          nan_target = land_holds command;
          descent_speed =
              land_speed_capped self.config s.valid.land_speed_mps dt self.memory.vertical.target
              self.memory.vertical.descent_speed_mps state.position_m.z state.velocity_mps.z;
          lateral = lateral_call self dt state (land command) s.lateral.divider a;
          thrust = navigated_thrust_from_floor _;
          never_idle = refl;
        }

    by_command : (command : Command) → CommandFits command → ByCommand self dt state command (guide_call self dt state command)
    unfolding guide_call attitude_call absolute_attitude_call absolute_rate_call piloted
    by_command (commands.Attitude command) p =
        (piloted_call self dt state (attitude command) s.valid.min_thrust, attitude_heading self dt state s.heading q command, refl, (refl, refl))
    by_command (commands.Waypoint command) p = waypoint_facts command
    by_command (commands.AbsoluteAttitude command) p = (
      piloted_call self dt state (absolute_attitude command) s.valid.min_thrust,
      absolute_attitude_heading self dt state s.heading q command p,
      refl,
      (refl, refl),
    )
    by_command (commands.Land command) p = land_facts command
    by_command (commands.AbsoluteRate command) p =
        (piloted_call self dt state (absolute_rate command) s.valid.min_thrust, absolute_rate_heading self dt state s.heading q command, (refl, refl, refl))

pub each_call : {self : CopterGuidance} → Reached self → (dt : Float) (state : VehicleState) (command : Command) → Accepted dt
    → T (fits binary32 state.heading_rad) → CommandFits command → EachCall self dt state command (guide_call self dt state command)
each_call {self} r dt state command a q p =
    let s = reached_sound r in
    let call = call_of command in
    let same = guide_call_of self dt state command in
    let updated : (guide_call self dt state command).craft.memory.wind ≡ wind_updated self.memory self.config dt state =
    rw same (guide_updates_wind self dt state call) in
    record {
      config_stays = rw same (guide_keeps_config self dt state call);
      wind_first = updated;
      window = rw updated (wind_update_cases self dt state s a);
      by_command = by_command self dt state s a q command p;
    }
