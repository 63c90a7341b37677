-- What holds of every craft that a list of operations leads to: its configuration is valid, the altitude target is none or a finite height, both integrals are
-- within their limits, the heading target is a float of 32 bits, the divider's elapsed time is at most 16,777,216 s, while the divider has never run the
-- requested acceleration is zero, the wind's window has fewer than 820 samples and is finite and less than 0.2 s long, and the ground is none or finite.
-- Assumes nothing.
use Rattle.std.specs.Prelude.{None, Option, Some}
use mathlib.Core.Path.{ap, ◌≡◌, refl}
use Prim.Native.Nat.{ℕ}
use native.Mathlib.Omega.{arith}
use lib.Dec.{T}
use lib.Ieee.{Float, binary32, fits, of_bits, le}
use lib.Ieee.Scale.{finite}
use Rattle.math.specs.Math.{one}
use Rattle.math.specs.Vectors.{zeros}
use Rattle.controllers.specs.RateDivider.{never_ran, elapsed, due_since, due, shortest, Accepted, Bounded}
use Rattle.controllers.specs.declared.rate_divider.RateDivider.{RateDivider}
use Rattle.controllers.proofs.Laws.Divider.{accepted→legal, legal_finite, ran_bounded, due_keeps_bound, step_is_legal}
use Rattle.math.proofs.Laws.Cases.{cond_holds}
use Rattle.altitude.proofs.Laws.Integral as altitudes
use Rattle.controllers.proofs.Laws.Within.{Within}
use Rattle.lateral.specs.Lateral as lateral
use Rattle.lateral.proofs.Laws.Integral as laterals
use Rattle.lateral.proofs.Laws.Vectors.{Each}
use Rattle.wind.specs.declared.state.VehicleState.{VehicleState}
use Rattle.heading.specs.declared.leg_heading.Turn.{Turn}
use Rattle.heading.proofs.Laws.HoverWind.{update_sound}
use Rattle.heading.proofs.Laws.HoverWind as winds
use Rattle.copter.specs.declared.commands.Command.{Command}
use Rattle.copter.specs.declared.config.CopterGuidanceConfig.{CopterGuidanceConfig}
use Rattle.copter.specs.declared.memory.LateralMemory.{LateralMemory}
use Rattle.copter.specs.declared.memory.Memory.{Memory}
use Rattle.copter.specs.declared.memory.CopterGuidance.{CopterGuidance}
use Rattle.copter.specs.declared.descent.Descended.{Descended}
use Rattle.copter.specs.declared.tilt.Course.{Course}
use Rattle.copter.specs.declared.tilt.Tilted.{Tilted}
use Rattle.copter.specs.Config.{Valid}
use Rattle.copter.specs.Memory.{fresh_vertical, fresh_lateral, reset_lateral, fresh}
use Rattle.copter.specs.Tilt.{lateral_target, lateral_estimate, navigable, held, levelled, run, tilted_when, tilt_toward}
use Rattle.copter.specs.Guide.{heading_target, wind_updated, piloted, attitude_call, absolute_attitude_call, absolute_rate_call, altitude_control, fly_to}
use Rattle.copter.specs.Guide.{waypoint_call, land_call, guide_call, new_craft, prime}
use Rattle.copter.specs.Calls.{NoneOrFinite}
use Rattle.copter.proofs.Laws.Calls.{attitude, absolute_attitude, absolute_rate, waypoint, land, Call, guide, course, call_of, guide_call_of}
use Rattle.copter.proofs.Laws.Calls as calls
use Rattle.copter.proofs.Laws.Descent.{waypoint_target_none_or_finite, land_target_none_or_finite}
use Rattle.wind.specs.declared.estimate.WindEstimate.{WindEstimate}
use Rattle.copter.proofs.Laws.Heading.{followed_fits, heading_fits}

-- ---- the lateral memory

-- `limit` is that of its integral
pub record LateralSound (limit : Float) (self : LateralMemory) : Type 0 where
  pub divider : Bounded self.rate
  pub no_request : self.rate ≡ never_ran → self.requested_accel_mps2 ≡ zeros
  pub integral : Each (Within limit) self.controller.integrated_error

elapsed_ran : (t : Float) → elapsed t ≡ never_ran → ⊥
elapsed_ran t e =
    let since : Some t ≡ None = ap (λ (d : RateDivider). d.elapsed_s) e in
    let z : ◌≡◌ {A = ℕ} 0 1 = cc in omega arith

since_never_ran : (since : Option Float) (dt period : Float) → (due_since since dt period).divider ≡ never_ran → record { elapsed_s = since } ≡ never_ran
unfolding due_since
since_never_ran None dt period e = refl
since_never_ran (Some t) dt period e = absurd (elapsed_ran _ e)

due_never_ran : (d : RateDivider) (dt period : Float) → (due d dt period).divider ≡ never_ran → d ≡ never_ran
due_never_ran d = since_never_ran d.elapsed_s

module _ (config : CopterGuidanceConfig) (valid : Valid config) where
  abbrev limit : Float
  limit = config.lateral.max_integral

  fresh_integral : Each (Within limit) (lateral.fresh).integrated_error
  fresh_integral = laterals.fresh_within config.lateral valid.lateral_max_integral

  fresh_lateral_sound : LateralSound limit fresh_lateral
  unfolding fresh_lateral
  fresh_lateral_sound = record { divider = tt; no_request = λ _. refl; integral = fresh_integral }

  reset_lateral_sound : (self : LateralMemory) → LateralSound limit (reset_lateral self)
  unfolding reset_lateral
  reset_lateral_sound self = record { divider = tt; no_request = λ _. refl; integral = fresh_integral }

  module _ (self : LateralMemory) (course : Course) (estimate : Option WindEstimate) (state : VehicleState) where
    tilted_sound : (step : Option Float) (rate : RateDivider) → Bounded rate → (rate ≡ never_ran → self.requested_accel_mps2 ≡ zeros)
        → ((t : Float) → step ≡ Some t → T (finite t)) → Each (Within limit) self.controller.integrated_error
        → LateralSound limit (tilted_when step self rate config course estimate state).memory
    unfolding tilted_when held levelled run
    tilted_sound None rate b n f w = record { divider = b; no_request = n; integral = w }
    tilted_sound (Some step) rate b n f w =
        cond_holds (λ (t : Tilted). LateralSound limit t.memory) (navigable (lateral_target course) (lateral_estimate state) state.heading_rad)
        (λ _. record {
          divider = ran_bounded;
          no_request = λ e. absurd (elapsed_ran _ e);
          integral = laterals.control_within config.lateral valid.lateral_max_integral self.controller step _ _ _ (f step refl) w;
        })
        (λ _. record { divider = b; no_request = n; integral = w })

    tilt_toward_sound : (dt : Float) → Accepted dt → LateralSound limit self → LateralSound limit (tilt_toward self config dt course estimate state).memory
    unfolding tilt_toward
    tilt_toward_sound dt a s =
        let period = config.guidance.navigation_period_s in
        let pace = due self.rate dt period in
        tilted_sound pace.due pace.divider (due_keeps_bound self.rate dt period s.divider a)
        (λ e. s.no_request (due_never_ran self.rate dt period e))
        (λ t e. legal_finite t (step_is_legal self.rate dt period t s.divider a e))
        s.integral

-- ---- wind memory

-- A time step within both bounds is accepted.
pub accepted_step : (dt : Float) → T (le shortest dt) × T (le dt one) → Accepted dt
accepted_step dt a = record { at_least = a.0; at_most = a.1 }

wind_updated_sound : (self : Memory) (config : CopterGuidanceConfig) (dt : Float) (state : VehicleState) → Accepted dt → winds.Sound self.wind
    → winds.Sound (wind_updated self config dt state)
unfolding wind_updated
wind_updated_sound self config dt state a s =
    update_sound self.wind dt config.wind config.guidance.airborne_height_m state s a

-- ---- the whole craft

pub record Sound (self : CopterGuidance) : Type 0 where
  pub valid : Valid self.config
  pub altitude_target : NoneOrFinite self.memory.vertical.target
  pub altitude_integral : Within self.config.altitude.max_integral self.memory.vertical.controller.integrated_error
  pub lateral : LateralSound self.config.lateral.max_integral self.memory.lateral
  pub heading : T (fits binary32 self.memory.heading_rad)
  pub wind : winds.Sound self.memory.wind

fresh_sound : (config : CopterGuidanceConfig) → Valid config → Sound (new_craft config)
unfolding new_craft fresh fresh_vertical fits of_bits
fresh_sound config v =
    record {
      valid = v;
      altitude_target = tt;
      altitude_integral = altitudes.fresh_within config.altitude v.altitude_max_integral;
      lateral = fresh_lateral_sound config v;
      heading = tt;
      wind = winds.fresh_sound;
    }

pub prime_sound : (self : CopterGuidance) (state : VehicleState) → T (fits binary32 state.heading_rad) → Sound self → Sound (prime self state)
unfolding prime fresh_vertical
prime_sound self state p s =
    record {
      valid = s.valid;
      altitude_target = tt;
      altitude_integral = altitudes.fresh_within self.config.altitude s.valid.altitude_max_integral;
      lateral = fresh_lateral_sound self.config s.valid;
      heading = p;
      wind = winds.prime_sound self.memory.wind self.config.guidance.airborne_height_m state s.wind;
    }

module _ (self : CopterGuidance) (dt : Float) (state : VehicleState) (a : Accepted dt) (s : Sound self) where
  piloted_sound : (heading : Float) → T (fits binary32 heading)
      → Sound (record { config = self.config; memory = piloted self.memory self.config dt state heading })
  unfolding piloted fresh_vertical
  piloted_sound heading p =
      record {
        valid = s.valid;
        altitude_target = tt;
        altitude_integral = altitudes.fresh_within self.config.altitude s.valid.altitude_max_integral;
        lateral = reset_lateral_sound self.config s.valid self.memory.lateral;
        heading = p;
        wind = wind_updated_sound self.memory self.config dt state a s.wind;
      }

  fly_to_sound : (course : Course) (descended : Descended) (turn : Turn) → NoneOrFinite descended.hold
      → Sound (fly_to self dt state course descended turn (wind_updated self.memory self.config dt state)).craft
  unfolding fly_to altitude_control
  fly_to_sound course descended turn h =
      let kept = self.memory.heading_rad in
      let estimate = state.heading_rad in
      let turned = heading_target kept turn.heading_rad estimate in
      record {
        valid = s.valid;
        altitude_target = h;
        altitude_integral =
            altitudes.control_within self.config.altitude s.valid.altitude_max_integral self.memory.vertical.controller dt _ _
            (legal_finite dt (accepted→legal dt a)) s.altitude_integral;
        lateral = tilt_toward_sound self.config s.valid self.memory.lateral course _ state dt a s.lateral;
        heading = heading_fits turned turned estimate (heading_fits kept turn.heading_rad estimate s.heading);
        wind = wind_updated_sound self.memory self.config dt state a s.wind;
      }

  pub guide_sound : (call : Call) → Sound (guide self dt state call).craft
  unfolding attitude_call absolute_attitude_call absolute_rate_call waypoint_call land_call
  guide_sound (calls.piloted (attitude command)) =
      piloted_sound _ (heading_fits self.memory.heading_rad _ state.heading_rad s.heading)
  guide_sound (calls.piloted (absolute_attitude command)) =
      piloted_sound _ (heading_fits self.memory.heading_rad _ state.heading_rad s.heading)
  guide_sound (calls.piloted (absolute_rate command)) =
      piloted_sound _ (followed_fits self.memory.heading_rad state.heading_rad s.heading)
  guide_sound (calls.navigated (waypoint command)) =
      fly_to_sound (course (waypoint command)) _ _
      (waypoint_target_none_or_finite self.config dt self.memory.vertical.target self.memory.vertical.descent_speed_mps
      state.position_m.z state.velocity_mps.z command.altitude_m s.altitude_target)
  guide_sound (calls.navigated (land command)) =
      fly_to_sound (course (land command)) _ _
      (land_target_none_or_finite self.config dt self.memory.vertical.target self.memory.vertical.descent_speed_mps
      state.position_m.z state.velocity_mps.z)

-- ---- any list of operations

-- the crafts that primings and calls lead to from a configuration
pub data Reached : CopterGuidance → Type 0 where
  configured : (config : CopterGuidanceConfig) → Valid config → Reached (new_craft config)
  primed : {self : CopterGuidance} (state : VehicleState) → T (fits binary32 state.heading_rad) → Reached self → Reached (prime self state)
  guided : {self : CopterGuidance} (dt : Float) (state : VehicleState) (call : Call) → Accepted dt → Reached self
      → Reached (guide self dt state call).craft

pub reached_guided : {self : CopterGuidance} → Reached self → (dt : Float) (state : VehicleState) (command : Command) → Accepted dt
    → Reached (guide_call self dt state command).craft
reached_guided {self} r dt state command a = rw (guide_call_of self dt state command) (guided dt state (call_of command) a r)

pub reached_sound : {self : CopterGuidance} → Reached self → Sound self
reached_sound (configured config v) = fresh_sound config v
reached_sound (primed {self} state p r) = prime_sound self state p (reached_sound r)
reached_sound (guided {self} dt state call a r) = guide_sound self dt state a (reached_sound r) call
