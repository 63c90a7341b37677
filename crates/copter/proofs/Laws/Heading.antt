-- The heading target after each call: wrapped; if the wrap is not finite, the wrapped estimate; if that is not finite either, kept. A wrapped finite angle is
-- at least -π and below π. A priming stores the heading as given. Assumes nothing.
use Rattle.std.specs.Prelude.{None, Option, Some}
use mathlib.Core.Path.{◌≡◌, refl}
use lib.Dec.{T}
use lib.Ieee.{Float, binary32, lt, fits}
use lib.Ieee.Bits.{is_true, is_false}
use lib.Ieee.Fits.{cond-fits, add-fits, sub-fits}
use lib.Ieee.Scale.{finite}
use Rattle.floats.specs.Ops.{◌⊕◌, ◌⊖◌, ◌⊗◌}
use Rattle.floats.proofs.Laws.Order.{same_test}
use Rattle.math.specs.Math.{zero, pi, tau, saturate_unit, clamp_symmetric, rem_euclid, wrap_angle}
use Rattle.math.proofs.Laws.Cases.{by_test}
use Rattle.math.proofs.Laws.Wrap.{wrap_range, wrap_finite, wrap_not_finite, wrap_twice}
use Rattle.wind.specs.declared.state.VehicleState.{VehicleState}
use Rattle.heading.specs.HoverWind as hover
use Rattle.heading.specs.LegHeading as leg
use Rattle.heading.specs.WindHeading as wind
use Rattle.heading.specs.declared.HeadingConfig.{HeadingConfig}
use Rattle.heading.specs.declared.leg_heading.LegHeading.{LegHeading}
use Rattle.heading.specs.declared.leg_heading.Turn.{Turn}
use Rattle.math.specs.declared.vectors.Vec2.{Vec2}
use Rattle.copter.specs.declared.commands.AttitudeCommand.{AttitudeCommand}
use Rattle.copter.specs.declared.commands.WaypointCommand.{WaypointCommand}
use Rattle.copter.specs.declared.commands.AbsoluteAttitudeCommand.{AbsoluteAttitudeCommand}
use Rattle.copter.specs.declared.commands.LandCommand.{LandCommand}
use Rattle.copter.specs.declared.commands.AbsoluteRateCommand.{AbsoluteRateCommand}
use Rattle.copter.specs.declared.memory.CopterGuidance.{CopterGuidance}
use Rattle.copter.specs.Guide.{followed_heading, heading_target, command_heading, wind_updated, piloted, prime}
use Rattle.copter.specs.Guide.{attitude_call, absolute_attitude_call, absolute_rate_call, fly_to, waypoint_call, land_call}
use Rattle.wind.specs.declared.estimate.WindEstimate.{WindEstimate}
use Rattle.copter.specs.Calls.{Heads, HeadsTo, as_it_is, rewrapped, stick_turned, waypoint_turn, land_turn}

wrap_fits : (x : Float) → T (fits binary32 (wrap_angle x))
unfolding wrap_angle
wrap_fits x = sub-fits binary32 (rem_euclid (x ⊕ pi) tau) pi

-- only a finite angle has a finite wrap
finite_wrapped : (x : Float) → T (finite (wrap_angle x)) → T (finite x)
finite_wrapped x h = by_test (finite x) (λ q. q) (λ n. absurd (rw (wrap_not_finite x n) at h))

wrap_finite_alike : (x : Float) → T (fits binary32 x) → finite (wrap_angle x) ≡ finite x
wrap_finite_alike x p = same_test (finite (wrap_angle x)) (finite x) (finite_wrapped x) (wrap_finite x p)

-- ---- the rule

-- an estimate that is followed is what the target was to be
pub followed_heads : (kept estimate : Float) → T (fits binary32 estimate) → Heads kept estimate estimate (followed_heading kept estimate)
unfolding followed_heading
followed_heads kept estimate p =
    let wrapped = finite (wrap_angle estimate) in
    let alike = wrap_finite_alike estimate p in
    let followed : T wrapped → followed_heading kept estimate ≡ wrap_angle estimate = λ q. rw (← alike, is_true wrapped q) in
    record {
      to_target = followed;
      to_estimate = λ _. followed;
      kept_else = λ _ n. rw (← alike, is_false wrapped n);
      target_range = wrap_range estimate p;
      estimate_range = wrap_range estimate p;
    }

pub target_heads : (kept target estimate : Float) → T (fits binary32 target) → T (fits binary32 estimate)
    → Heads kept target estimate (heading_target kept target estimate)
unfolding heading_target
target_heads kept target estimate p r =
    let wrapped = finite (wrap_angle target) in
    let followed = followed_heads kept estimate r in
    record {
      to_target = λ q. rw (is_true wrapped q);
      to_estimate = λ n q. rw (is_false wrapped n) (followed.to_target q);
      kept_else = λ n m. rw (is_false wrapped n) (followed.kept_else m m);
      target_range = wrap_range target p;
      estimate_range = followed.estimate_range;
    }

-- a wrapped heading set again stays
wrapped_stays : (x estimate : Float) → T (fits binary32 x) → T (finite (wrap_angle x)) → heading_target (wrap_angle x) (wrap_angle x) estimate ≡ wrap_angle x
unfolding heading_target
wrapped_stays x estimate p q = rw (wrap_twice x p (finite_wrapped x q), is_true (finite (wrap_angle x)) q)

-- Set twice, to `target` and then to itself, as a waypoint or land call does. What is kept is then wrapped.
pub twice_heads : (kept target estimate : Float) → T (fits binary32 target) → T (fits binary32 estimate)
    → Heads (rewrapped kept) target estimate
    (heading_target (heading_target kept target estimate) (heading_target kept target estimate) estimate)
unfolding heading_target
twice_heads kept target estimate p r =
    let first = target_heads kept target estimate p r in
    record {
      to_target = λ q. rw (first.to_target q) (wrapped_stays target estimate p q);
      to_estimate = λ n q. rw (first.to_estimate n q) (wrapped_stays estimate estimate r q);
      kept_else = λ n m. rw (first.kept_else n m, (followed_heads kept estimate r).kept_else m m);
      target_range = first.target_range;
      estimate_range = first.estimate_range;
    }

-- ---- it is a float of 32 bits

pub followed_fits : (kept estimate : Float) → T (fits binary32 kept) → T (fits binary32 (followed_heading kept estimate))
unfolding followed_heading
followed_fits kept estimate p = cond-fits binary32 (finite estimate) (wrap_angle estimate) kept (wrap_fits estimate) p

pub heading_fits : (kept target estimate : Float) → T (fits binary32 kept) → T (fits binary32 (heading_target kept target estimate))
unfolding heading_target
heading_fits kept target estimate p =
    cond-fits binary32 (finite (wrap_angle target)) (wrap_angle target) (followed_heading kept estimate) (wrap_fits target) (followed_fits kept estimate p)

-- ---- the turned heading of a navigated call is a float of 32 bits

abbrev TurnFits : Turn → Type 0
TurnFits turn = T (fits binary32 turn.heading_rad)

module _ (dt : Float) (config : HeadingConfig) (target : Float) (state : VehicleState)
    (p : T (fits binary32 target)) (q : T (fits binary32 state.heading_rad)) where
  turned_fits : (to step : Float) → T (fits binary32 (leg.turned_toward target to step))
  unfolding leg.turned_toward
  turned_fits to step = add-fits binary32 target (clamp_symmetric (wrap_angle (to ⊖ target)) step)

  turned_along_fits : (bearing : Option Float) → T (fits binary32 (leg.turned_along bearing dt config target))
  unfolding leg.turned_along
  turned_along_fits None = p
  turned_along_fits (Some bearing) =
      cond-fits binary32 (lt zero config.waypoint_yaw_radps) (leg.turned_toward target bearing (config.waypoint_yaw_radps ⊗ dt)) target
      (turned_fits bearing (config.waypoint_yaw_radps ⊗ dt)) p

  along_leg_fits : (self : LegHeading) (bearing : Option Float) → TurnFits (leg.along_leg self dt config target bearing state)
  unfolding leg.along_leg
  along_leg_fits self bearing =
      cond-fits binary32 (leg.yielded self dt config target state).yields state.heading_rad (leg.turned_along bearing dt config target) q
      (turned_along_fits bearing)

  wind_or_leg_fits : (to : Option Float) (self : LegHeading) (bearing : Option Float) → TurnFits (leg.wind_or_leg to self dt config target bearing state)
  unfolding leg.wind_or_leg
  wind_or_leg_fits None self bearing = along_leg_fits self bearing
  wind_or_leg_fits (Some to) self bearing = turned_fits to (config.heading_rate_radps ⊗ dt)

  uncommanded_fits : (self : LegHeading) (position : Vec2) (estimate : Option WindEstimate) → TurnFits (leg.uncommanded self dt config target position estimate state)
  unfolding leg.uncommanded
  uncommanded_fits self position estimate =
      let flown = leg.bearing self config position (leg.here_of state) in
      let turn = leg.wind_turn flown config position estimate state in
      wind_or_leg_fits turn.target_rad (leg.with_wind flown.memory turn.wind) flown.bearing_rad

  target_at_fits : (commanded : Option Float) (self : LegHeading) (position : Vec2) (estimate : Option WindEstimate)
      → TurnFits (leg.target_at commanded self dt config target position estimate state)
  unfolding leg.target_at
  target_at_fits None self position estimate = uncommanded_fits self position estimate
  target_at_fits (Some to) self position estimate = turned_fits to (config.heading_rate_radps ⊗ dt)

  leg_target_fits : (self : LegHeading) (position : Vec2) (commanded : Option Float) (estimate : Option WindEstimate)
      → TurnFits (leg.target self dt config target position commanded estimate state)
  unfolding leg.target
  leg_target_fits self position commanded estimate = target_at_fits (leg.finite_angle commanded) self position estimate

  held_or_turned_fits : (to : Option Float) (self : LegHeading) → TurnFits (leg.held_or_turned to self dt config target)
  unfolding leg.held_or_turned
  held_or_turned_fits None self = p
  held_or_turned_fits (Some to) self = turned_fits to (config.heading_rate_radps ⊗ dt)

  land_target_fits : (self : LegHeading) (estimate : Option WindEstimate) → TurnFits (leg.land_target self dt config target estimate state)
  unfolding leg.land_target
  land_target_fits self estimate =
      let kept = leg.cleared self in
      let turn = wind.target kept.wind config estimate state.heading_rad in
      held_or_turned_fits turn.target_rad (leg.with_wind kept turn.wind)

-- ---- each call

abbrev pub heading : CopterGuidance → Float
heading craft = craft.memory.heading_rad

abbrev updated_estimate : CopterGuidance → Float → VehicleState → Option WindEstimate
updated_estimate self dt state = hover.estimate (wind_updated self.memory self.config dt state)

module _ (self : CopterGuidance) (dt : Float) (state : VehicleState)
    (p : T (fits binary32 (heading self))) (q : T (fits binary32 state.heading_rad)) where
  pub attitude_heading : (command : AttitudeCommand) → HeadsTo self state as_it_is (stick_turned self dt command) (attitude_call self dt state command)
  unfolding attitude_call piloted
  attitude_heading command =
      target_heads (heading self) (stick_turned self dt command) state.heading_rad
      (add-fits binary32 (heading self) (saturate_unit command.yaw ⊗ self.config.guidance.stick_yaw_rate_radps ⊗ dt)) q

  pub absolute_attitude_heading : (command : AbsoluteAttitudeCommand) → T (fits binary32 command.heading_rad)
      → HeadsTo self state as_it_is (command_heading (heading self) command.heading_rad) (absolute_attitude_call self dt state command)
  unfolding absolute_attitude_call piloted command_heading
  absolute_attitude_heading command r =
      let commanded = command.heading_rad in
      target_heads (heading self) (command_heading (heading self) commanded) state.heading_rad
      (cond-fits binary32 (finite commanded) commanded (heading self) r p) q

  pub absolute_rate_heading : (command : AbsoluteRateCommand)
      → HeadsTo self state as_it_is state.heading_rad (absolute_rate_call self dt state command)
  unfolding absolute_rate_call piloted
  absolute_rate_heading command = followed_heads (heading self) state.heading_rad q

  pub waypoint_heading : (command : WaypointCommand)
      → HeadsTo self state rewrapped (waypoint_turn self dt state command).heading_rad (waypoint_call self dt state command)
  unfolding waypoint_call fly_to
  waypoint_heading command =
      twice_heads (heading self) (waypoint_turn self dt state command).heading_rad state.heading_rad
      (leg_target_fits dt self.config.guidance.heading (heading self) state p q self.memory.leg_heading
      command.position_m command.heading_rad (updated_estimate self dt state)) q

  pub land_heading : (command : LandCommand)
      → HeadsTo self state rewrapped (land_turn self dt state).heading_rad (land_call self dt state command)
  unfolding land_call fly_to
  land_heading command =
      twice_heads (heading self) (land_turn self dt state).heading_rad state.heading_rad
      (land_target_fits dt self.config.guidance.heading (heading self) state p q self.memory.leg_heading (updated_estimate self dt state)) q

-- ---- a priming

pub prime_heading : (self : CopterGuidance) (state : VehicleState) → heading (prime self state) ≡ state.heading_rad
unfolding prime
prime_heading self state = refl
