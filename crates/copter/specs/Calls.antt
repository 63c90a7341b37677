-- Document 01's "What each call does", sentence by sentence: `EachCraft` is what holds of a craft, `EachCall` of an accepted call that it gets. Both hold of
-- every craft that a list of records leads to (proofs/Laws/Facts.antt, and records/specs/Facts.antt over whole lists). Assumes nothing.
use Rattle.std.specs.Prelude.{◌<◌, ◌≡◌, Bool, true, false, not, cond, ◌&&◌, ◌⊎◌, T, Float, None, Option, Some}
use Rattle.std.specs.Float.{nan}
use Rattle.std.specs.Float.Ieee.{neg, lt, le, is_nan}
use Rattle.std.specs.Float.Ieee.Scale.{finite}
use Rattle.controllers.specs.Derivative.{no_history}
use Rattle.floats.specs.Ops.{◌⊕◌, ◌⊖◌, ◌⊗◌}
use Rattle.floats.specs.Compare.{abs, signum}
use Rattle.math.specs.Math.{zero, half, one, pi, saturate_unit, all_finite, wrap_angle}
use Rattle.math.specs.Vectors.{zeros, minus}
use Rattle.math.specs.declared.vectors.Vec2.{Vec2}
use Rattle.math.specs.declared.vectors.Vec3.{Vec3}
use Rattle.controllers.specs.RateDivider.{never_ran, elapsed, due, Legal, Bounded}
use Rattle.controllers.specs.declared.rate_divider.RateDivider.{RateDivider}
use Rattle.controllers.specs.declared.rate_divider.Paced.{Paced}
use Rattle.altitude.specs.declared.AltitudeTarget.{AltitudeTarget}
use Rattle.wind.specs.Window.{Updated}
use Rattle.wind.specs.declared.state.VehicleState.{VehicleState}
use Rattle.heading.specs.HoverWind.{FiniteGround}
use Rattle.heading.specs.HoverWind as hover
use Rattle.heading.specs.LegHeading.{New, started, on_leg, here_of, finite_angle, may_yield}
use Rattle.heading.specs.LegHeading as leg
use Rattle.heading.specs.declared.leg_heading.Leg.{Leg}
use Rattle.heading.specs.declared.leg_heading.LegHeading.{LegHeading}
use Rattle.heading.specs.declared.leg_heading.Bearing.{Bearing}
use Rattle.heading.specs.declared.leg_heading.Turn.{Turn}
use Rattle.copter.specs.declared.commands.AttitudeCommand.{AttitudeCommand}
use Rattle.copter.specs.declared.commands.WaypointCommand.{WaypointCommand}
use Rattle.copter.specs.declared.commands.LandCommand.{LandCommand}
use Rattle.copter.specs.declared.commands.AbsoluteRateCommand.{AbsoluteRateCommand}
use Rattle.copter.specs.declared.commands.Command.{Command}
use Rattle.copter.specs.declared.commands.Command.TheVariants as commands
use Rattle.copter.specs.declared.commands.Setpoint.{Setpoint}
use Rattle.copter.specs.declared.commands.Setpoint.TheVariants.{Attitude, BodyRate}
use Rattle.copter.specs.declared.memory.LateralMemory.{LateralMemory}
use Rattle.copter.specs.declared.memory.Memory.{Memory}
use Rattle.copter.specs.declared.memory.CopterGuidance.{CopterGuidance}
use Rattle.copter.specs.declared.tilt.Course.{Course}
use Rattle.copter.specs.declared.guide.Guided.{Guided}
use Rattle.copter.specs.Config.{Valid}
use Rattle.copter.specs.Descent.{ramped_descent, level_at}
use Rattle.copter.specs.Tilt.{velocity_or_zero}
use Rattle.copter.specs.Guide.{command_heading, wind_updated, navigated_thrust, altitude_control, waypoint_call}

-- ---- every craft

-- none, or a finite height
abbrev pub NoneOrFinite : Option Float → Type 0
NoneOrFinite None = Unit {0}
NoneOrFinite (Some height) = T (finite height)

-- within a limit, and never a NaN
abbrev pub WithinLimit : Float → Float → Type 0
WithinLimit limit x = T (le (neg limit) x) × T (le x limit) × T (not (is_nan x))

pub record EachCraft (self : CopterGuidance) : Type 0 where
  -- Each field keeps its rule.
  pub valid : Valid self.config
  -- The altitude target is either none or a finite height.
  pub altitude_target : NoneOrFinite self.memory.vertical.target
  -- Both integrals stay within fields 4 and 11.
  pub altitude_integral : WithinLimit self.config.altitude.max_integral self.memory.vertical.controller.integrated_error
  pub lateral_integral_x : WithinLimit self.config.lateral.max_integral self.memory.lateral.controller.integrated_error.x
  pub lateral_integral_y : WithinLimit self.config.lateral.max_integral self.memory.lateral.controller.integrated_error.y
  -- elapsed stays ≤ 16,777,216.
  pub elapsed : Bounded self.memory.lateral.rate
  -- An open wind window has fewer than 820 accepted samples.
  pub window : self.memory.wind.estimator.window.ticks < 820
  -- Remembered ground is none or a finite height.
  pub ground : FiniteGround self.memory.wind.ground_altitude_m

-- ---- the heading target

-- at least -π and below π, both of f32
abbrev pub Wrapped : Float → Type 0
Wrapped x = T (le (neg pi) x) × T (lt x pi)

-- Wrapped; if the wrap is not finite, the wrapped estimate; if that is not finite either, kept.
pub record Heads (kept target estimate after : Float) : Type 0 where
  pub to_target : T (finite (wrap_angle target)) → after ≡ wrap_angle target
  pub to_estimate : T (not (finite (wrap_angle target))) → T (finite (wrap_angle estimate)) → after ≡ wrap_angle estimate
  pub kept_else : T (not (finite (wrap_angle target))) → T (not (finite (wrap_angle estimate))) → after ≡ kept
  -- A wrapped finite angle is at least -π and below π.
  pub target_range : T (finite target) → Wrapped (wrap_angle target)
  pub estimate_range : T (finite estimate) → Wrapped (wrap_angle estimate)

-- Waypoint and land wrap what they keep: a heading that was primed as given, and not wrapped, is wrapped then.
abbrev pub rewrapped : Float → Float
rewrapped kept = cond (finite (wrap_angle kept)) (wrap_angle kept) kept

-- what the yaw stick turns it to
abbrev pub stick_turned : CopterGuidance → Float → AttitudeCommand → Float
stick_turned self dt command =
    self.memory.heading_rad ⊕ saturate_unit command.yaw ⊗ self.config.guidance.stick_yaw_rate_radps ⊗ dt

-- what a waypoint or a land call turns it to
abbrev pub waypoint_turn : CopterGuidance → Float → VehicleState → WaypointCommand → Turn
waypoint_turn self dt state command =
    leg.target self.memory.leg_heading dt self.config.guidance.heading self.memory.heading_rad command.position_m
    command.heading_rad (hover.estimate (wind_updated self.memory self.config dt state)) state

abbrev pub land_turn : CopterGuidance → Float → VehicleState → Turn
land_turn self dt state =
    leg.land_target self.memory.leg_heading dt self.config.guidance.heading self.memory.heading_rad
    (hover.estimate (wind_updated self.memory self.config dt state)) state

-- ---- piloted calls: attitude, absolute attitude, absolute rate

-- no leg, no yield count and no yielding, and of the wind no side, no heading and no estimate weighed
abbrev pub leg_reset : LegHeading
leg_reset =
    record { leg = None; stuck_s = zero; yielding = false; wind = record { side = None; target_rad = None; weighed = None } }

-- Altitude and lateral memory, requested acceleration, altitude target, descent speed, rate divider and leg heading are reset. Stored tilt is not.
pub record Resets (before after : Memory) : Type 0 where
  pub altitude : after.vertical ≡ record { controller = record { integrated_error = zero }; target = None; descent_speed_mps = zero }
  pub lateral : after.lateral.controller
      ≡ record { integrated_error = zeros; derivative = no_history; shaped_velocity_mps = None; commanded_velocity_mps = zeros }
  pub requested : after.lateral.requested_accel_mps2 ≡ zeros
  pub divider : after.lateral.rate ≡ never_ran
  pub leg_heading : after.leg_heading ≡ leg_reset
  pub tilt_stays : after.lateral.tilt_rad ≡ before.lateral.tilt_rad
  pub capped_stays : after.lateral.tilt_capped ≡ before.lateral.tilt_capped

-- what a setpoint asks for
abbrev pub thrust_of : Setpoint → Float
thrust_of (Attitude setpoint) = setpoint.thrust
thrust_of (BodyRate setpoint) = setpoint.thrust

-- `raw` is what the pilot asks for, before boost and clip, and decides whether the call is idle: a NaN is.
pub record PilotedCall (self : CopterGuidance) (raw : Float) (after : Guided) : Type 0 where
  pub resets : Resets self.memory after.craft.memory
  pub idle : after.flags.idle ≡ not (lt self.config.guidance.idle_throttle raw)
  pub tilt_not_flagged : after.flags.tilt ≡ false
  pub thrust_in_unit : T (le zero (thrust_of after.setpoint)) × T (le (thrust_of after.setpoint) one)

-- ---- waypoint and land: the lateral loop

-- how the divider goes on
abbrev pub paced : CopterGuidance → Float → Paced
paced self dt = due self.memory.lateral.rate dt self.config.guidance.navigation_period_s

-- the x and y of a vector
abbrev pub xy_of : Vec3 → Vec2
xy_of v = record { x = v.x; y = v.y }

-- Position error, target velocity (0 where there is none), own velocity and heading are finite.
abbrev pub able : Course → VehicleState → Bool
able course state =
    all_finite (minus course.position_m (xy_of state.position_m)) && all_finite (velocity_or_zero course.velocity_mps)
    && all_finite (xy_of state.velocity_mps)
    && finite state.heading_rad

-- the tilt that a setpoint asks for
abbrev pub Tilts : Setpoint → Vec2 → Type 0
Tilts (Attitude setpoint) tilt = (setpoint.roll_rad ≡ tilt.x) × (setpoint.pitch_rad ≡ tilt.y)
Tilts (BodyRate setpoint) tilt = ⊥

-- A due call with a number that is not finite: tilt (0, 0), the stored tilt kept, capped cleared, and the divider not restarted.
pub record NotRun (before : LateralMemory) (rate : RateDivider) (after : Guided) : Type 0 where
  pub level : Tilts after.setpoint zeros
  pub not_flagged : after.flags.tilt ≡ false
  pub tilt_kept : after.craft.memory.lateral.tilt_rad ≡ before.tilt_rad
  pub capped_cleared : after.craft.memory.lateral.tilt_capped ≡ false
  pub not_restarted : after.craft.memory.lateral.rate ≡ rate
  pub controller_kept : after.craft.memory.lateral.controller ≡ before.controller
  pub request_kept : after.craft.memory.lateral.requested_accel_mps2 ≡ before.requested_accel_mps2

-- A call that is not due: the divider alone goes on, and the stored tilt is answered.
pub record NotDue (before : LateralMemory) (rate : RateDivider) (after : Guided) : Type 0 where
  pub stored : Tilts after.setpoint before.tilt_rad
  pub goes_on : after.craft.memory.lateral.rate ≡ rate
  pub tilt_kept : after.craft.memory.lateral.tilt_rad ≡ before.tilt_rad
  pub capped_kept : after.craft.memory.lateral.tilt_capped ≡ before.tilt_capped
  pub controller_kept : after.craft.memory.lateral.controller ≡ before.controller
  pub request_kept : after.craft.memory.lateral.requested_accel_mps2 ≡ before.requested_accel_mps2

-- A due call with finite numbers: the divider is restarted, and the tilt that is answered is stored.
pub record Runs (after : Guided) : Type 0 where
  pub restarted : after.craft.memory.lateral.rate ≡ elapsed zero
  pub stored : Tilts after.setpoint after.craft.memory.lateral.tilt_rad

pub record LateralCall (self : CopterGuidance) (dt : Float) (state : VehicleState) (course : Course) (after : Guided) : Type 0 where
  -- The divider's first call is due with dt; later it is due exactly when elapsed ≥ period - 0.5 × dt.
  pub first_due : self.memory.lateral.rate ≡ never_ran → (paced self dt).due ≡ Some dt
  pub later_due : (before : Float) → self.memory.lateral.rate ≡ elapsed before →
      let elapsed = before ⊕ dt in
      (paced self dt).due ≡ cond (le (self.config.guidance.navigation_period_s ⊖ half ⊗ dt) elapsed) (Some elapsed) None
  -- elapsed is always a legal step.
  pub legal : (step : Float) → (paced self dt).due ≡ Some step → Legal step
  pub not_due : (paced self dt).due ≡ None → NotDue self.memory.lateral (paced self dt).divider after
  pub runs : (step : Float) → (paced self dt).due ≡ Some step → T (able course state) → Runs after
  pub not_run : (step : Float) → (paced self dt).due ≡ Some step → T (not (able course state))
      → NotRun self.memory.lateral (paced self dt).divider after
  -- A first call then leaves the next one due.
  pub first_leaves_due : self.memory.lateral.rate ≡ never_ran → T (not (able course state)) → (next period : Float)
      → (due after.craft.memory.lateral.rate next period).due ≡ Some next
  pub flags_capped : after.flags.tilt ≡ after.craft.memory.lateral.tilt_capped

-- ---- waypoint and land: altitude and thrust

-- Navigated thrust is NaN or in [min_thrust, 1].
abbrev pub NanOrFrom : Float → Float → Type 0
NanOrFrom least x = (x ≡ nan) ⊎ (T (le least x) × T (le x one))

-- the thrust, the altitude target and the descent speed of a call that holds an altitude target
pub record Holds (self : CopterGuidance) (dt : Float) (state : VehicleState) (target : AltitudeTarget) (after : Guided) : Type 0 where
  pub thrust : thrust_of after.setpoint
      ≡ (navigated_thrust (altitude_control self.memory.vertical self.config dt target state).thrust self.config.thrust.min_thrust).value
  pub no_target : after.craft.memory.vertical.target ≡ None
  pub at_rest : after.craft.memory.vertical.descent_speed_mps ≡ zero

-- no target, and no finite altitude
pub record NoAltitude (self : CopterGuidance) (state : VehicleState) : Type 0 where
  pub no_target : self.memory.vertical.target ≡ None
  pub not_finite : T (not (finite state.position_m.z))

-- ---- waypoint: legs and yields

-- the leg that the call flies, and the heading that the wind gives it on station
abbrev pub leg_flown : CopterGuidance → VehicleState → WaypointCommand → Bearing
leg_flown self state command = leg.bearing self.memory.leg_heading self.config.guidance.heading command.position_m (here_of state)

abbrev pub wind_heading : CopterGuidance → Float → VehicleState → WaypointCommand → Option Float
wind_heading self dt state command =
    (leg.wind_turn (leg_flown self state command) self.config.guidance.heading command.position_m
    (hover.estimate (wind_updated self.memory self.config dt state)) state
    ).target_rad

-- The craft cannot bring its nose round: it is off its heading target by more than field 29, and turns toward it slower than field 30.
abbrev pub cannot_turn : CopterGuidance → VehicleState → Bool
cannot_turn self state =
    let config = self.config.guidance.heading in
    let error = wrap_angle (self.memory.heading_rad ⊖ state.heading_rad) in
    lt config.heading_yield_rad (abs error) && lt (signum error ⊗ state.angular_velocity_z_radps) config.heading_yield_rate_radps

-- the craft with no leg, no yield count and no yielding, and with the wind's side as it was
abbrev pub leg_cleared : CopterGuidance → CopterGuidance
leg_cleared self =
    let memory = self.memory in
    record {
      config = self.config;
      memory =
          record {
            vertical = memory.vertical;
            lateral = memory.lateral;
            heading_rad = memory.heading_rad;
            leg_heading = leg.cleared memory.leg_heading;
            wind = memory.wind;
          };
    }

-- A new position sets the yield count to 0 and ends yielding, before this call is counted, and the whole call goes as if both had been forgotten before it.
-- It starts a new leg if the craft's own x and y are finite; else no leg is remembered.
pub record NewPosition (self : CopterGuidance) (dt : Float) (state : VehicleState) (command : WaypointCommand) (after : Guided) : Type 0 where
  pub count_zero : (leg_flown self state command).memory.stuck_s ≡ zero
  pub not_yielding : (leg_flown self state command).memory.yielding ≡ false
  pub as_cleared : after ≡ waypoint_call (leg_cleared self) dt state command
  pub starts_leg : all_finite (here_of state) ≡ true
      → after.craft.memory.leg_heading.leg ≡ Some (started self.config.guidance.heading command.position_m (here_of state))
  pub no_leg : all_finite (here_of state) ≡ false → after.craft.memory.leg_heading.leg ≡ None

-- the heading that a setpoint asks for
abbrev pub Points : Setpoint → Float → Type 0
Points (Attitude setpoint) heading = setpoint.heading_rad ≡ heading
Points (BodyRate setpoint) heading = ⊥

-- A call answers the heading target that it leaves.
abbrev pub AnswersHeading : Guided → Type 0
AnswersHeading after = Points after.setpoint after.craft.memory.heading_rad

-- A call with no finite commanded heading, to which the wind gives none, of a craft with a finite heading and a positive field 31.
pub record LegCall (self : CopterGuidance) (dt : Float) (state : VehicleState) (command : WaypointCommand) : Type 0 where
  pub uncommanded : finite_angle command.heading_rad ≡ None
  pub no_wind_heading : wind_heading self dt state command ≡ None
  pub may_yield : may_yield self.config.guidance.heading state ≡ true

pub record Legs (self : CopterGuidance) (dt : Float) (state : VehicleState) (command : WaypointCommand) (after : Guided) : Type 0 where
  -- With no finite commanded heading, a new waypoint position ..
  pub new_position : finite_angle command.heading_rad ≡ None → New self.memory.leg_heading.leg command.position_m
      → NewPosition self dt state command after
  -- With no leg remembered every position is new, and a NaN position is new on every call.
  pub new_without_leg : self.memory.leg_heading.leg ≡ None → New self.memory.leg_heading.leg command.position_m
  pub nan_is_new : T (is_nan command.position_m.x) ⊎ T (is_nan command.position_m.y)
      → New self.memory.leg_heading.leg command.position_m
  -- On the leg it stays.
  pub stays_on_leg : (flown : Leg) → finite_angle command.heading_rad ≡ None → self.memory.leg_heading.leg ≡ Some flown
      → on_leg flown command.position_m ≡ true → after.craft.memory.leg_heading.leg ≡ Some flown
  -- A finite commanded heading resets the leg heading.
  pub commanded_resets : (heading : Float) → finite_angle command.heading_rad ≡ Some heading → after.craft.memory.leg_heading ≡ leg_reset
  -- The yield count goes on by dt while the craft cannot bring its nose round, else it is 0; with the first count above field 31 the call yields.
  pub counts : LegCall self dt state command → (leg_flown self state command).memory.yielding ≡ false →
      let config = self.config.guidance.heading in
      let count = cond (cannot_turn self state) ((leg_flown self state command).memory.stuck_s ⊕ dt) zero in
      (after.craft.memory.leg_heading.stuck_s ≡ count)
      × (after.craft.memory.leg_heading.yielding ≡ lt config.heading_yield_s count)
  -- Yielding lasts until the position changes.
  pub yielding_lasts : (flown : Leg) → finite_angle command.heading_rad ≡ None → self.memory.leg_heading.leg ≡ Some flown
      → on_leg flown command.position_m ≡ true → self.memory.leg_heading.yielding ≡ true
      → after.craft.memory.leg_heading.yielding ≡ true
  -- A craft that yields flies on as it points.
  pub flies_as_it_points : LegCall self dt state command → after.craft.memory.leg_heading.yielding ≡ true
      → Points after.setpoint (wrap_angle state.heading_rad)

-- ---- each call

-- no target velocity, and a cruise speed of 0, which means no cap
abbrev pub land_course : LandCommand → Course
land_course command = record { position_m = command.position_m; velocity_mps = None; cruise_speed_mps = zero }

abbrev pub waypoint_course : WaypointCommand → Course
waypoint_course command =
    record { position_m = command.position_m; velocity_mps = command.velocity_mps; cruise_speed_mps = command.cruise_speed_mps }

-- the heading target before and after a call, and the craft's own heading
abbrev pub HeadsTo : CopterGuidance → VehicleState → (Float → Float) → Float → Guided → Type 0
HeadsTo self state keeps target after =
    Heads (keeps self.memory.heading_rad) target state.heading_rad after.craft.memory.heading_rad

abbrev pub as_it_is : Float → Float
as_it_is heading = heading

pub record WaypointCall (self : CopterGuidance) (dt : Float) (state : VehicleState) (command : WaypointCommand) (after : Guided) : Type 0 where
  pub heading : HeadsTo self state rewrapped (waypoint_turn self dt state command).heading_rad after
  pub answers_heading : AnswersHeading after
  -- With no target and no finite altitude, waypoint flies level to its altitude.
  pub flies_level : NoAltitude self state → Holds self dt state (level_at command.altitude_m) after
  -- After a waypoint call, descent speed is at most field 21.
  pub descent_speed : T (le after.craft.memory.vertical.descent_speed_mps self.config.guidance.max_descent_mps)
  pub lateral : LateralCall self dt state (waypoint_course command) after
  pub legs : Legs self dt state command after
  pub thrust : NanOrFrom self.config.thrust.min_thrust (thrust_of after.setpoint)
  pub never_idle : after.flags.idle ≡ false

pub record LandCall (self : CopterGuidance) (dt : Float) (state : VehicleState) (command : LandCommand) (after : Guided) : Type 0 where
  pub heading : HeadsTo self state rewrapped (land_turn self dt state).heading_rad after
  pub answers_heading : AnswersHeading after
  -- With no target and no finite altitude, land has a NaN target.
  pub nan_target : NoAltitude self state →
      let rate = ramped_descent self.config dt self.config.guidance.land_speed_mps self.memory.vertical.descent_speed_mps in
      Holds self dt state (record { altitude_m = nan; velocity_mps = neg rate }) after
  -- After a land call, descent speed is at most field 25.
  pub descent_speed : T (le after.craft.memory.vertical.descent_speed_mps self.config.guidance.land_speed_mps)
  pub lateral : LateralCall self dt state (land_course command) after
  pub thrust : NanOrFrom self.config.thrust.min_thrust (thrust_of after.setpoint)
  pub never_idle : after.flags.idle ≡ false

-- the sticks' part of the largest angles
abbrev pub stick_angles : CopterGuidance → AttitudeCommand → Vec2
stick_angles self command =
    let largest = self.config.guidance.max_stick_angles_rad in
    record { x = saturate_unit command.roll ⊗ largest.x; y = saturate_unit command.pitch ⊗ largest.y }

-- the rates that a setpoint asks for
abbrev pub Rates : Setpoint → AbsoluteRateCommand → Type 0
Rates (Attitude setpoint) command = ⊥
Rates (BodyRate setpoint) command =
    (setpoint.roll_radps ≡ command.roll_radps) × (setpoint.pitch_radps ≡ command.pitch_radps) × (setpoint.yaw_radps ≡ command.yaw_radps)

abbrev pub ByCommand : CopterGuidance → Float → VehicleState → Command → Guided → Type 0
ByCommand self dt state (commands.Attitude command) after =
    PilotedCall self command.throttle after × HeadsTo self state as_it_is (stick_turned self dt command) after × AnswersHeading after
    × Tilts after.setpoint (stick_angles self command)
ByCommand self dt state (commands.Waypoint command) after = WaypointCall self dt state command after
ByCommand self dt state (commands.AbsoluteAttitude command) after =
    PilotedCall self command.thrust after
    × HeadsTo self state as_it_is (command_heading self.memory.heading_rad command.heading_rad) after
    × AnswersHeading after
    × Tilts after.setpoint (record { x = command.roll_rad; y = command.pitch_rad })
ByCommand self dt state (commands.Land command) after = LandCall self dt state command after
ByCommand self dt state (commands.AbsoluteRate command) after =
    PilotedCall self command.thrust after × HeadsTo self state as_it_is state.heading_rad after × Rates after.setpoint command

pub record EachCall (self : CopterGuidance) (dt : Float) (state : VehicleState) (command : Command) (after : Guided) : Type 0 where
  pub config_stays : after.craft.config ≡ self.config
  -- First: wind updated.
  pub wind_first : after.craft.memory.wind ≡ wind_updated self.memory self.config dt state
  -- A wind window closes after at most 820 accepted samples: it is then empty, and there is a new estimate. (wind/specs/Window.antt: reached at dt 1/4,096.)
  pub window : Updated self.memory.wind.estimator self.config.wind after.craft.memory.wind.estimator
  pub by_command : ByCommand self dt state command after
