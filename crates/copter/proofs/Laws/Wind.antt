-- The wind of whole calls: every call updates it alike, and two configurations that document 01 accepts lead to a wind that is no number. Assumes
-- nothing.
use Rattle.std.specs.Prelude.{Option, Some}
use mathlib.Core.Path.{◌≡◌, refl, ◌∙◌, ap}
use mathlib.Core.Bool.{false}
use lib.Ieee.{Float, nan, inf, of_bits, of_int, round, is_nan, neg, add, sub, mul, div, lt, le}
use Rattle.floats.specs.Ops.{f32}
use Rattle.floats.specs.Compare.{abs}
use Rattle.floats.specs.MinMax.{max}
use Rattle.floats.specs.Sqrt.{sqrt}
use Rattle.math.specs.Math.{zero, one, two, all_finite}
use Rattle.math.specs.Vectors.{zeros}
use Rattle.math.specs.declared.vectors.Vec2.{Vec2}
use Rattle.wind.specs.declared.state.VehicleState.{VehicleState}
use Rattle.wind.specs.declared.drag.WindConfig.{WindConfig}
use Rattle.wind.specs.declared.estimate.Matrix2.{Matrix2}
use Rattle.wind.specs.Drag.{is_on, axis_drag, slope, against, air_velocity}
use Rattle.wind.specs.Estimate.{diagonal, initial, predict, covariance_along, corrected, correct}
use Rattle.wind.specs.Sample.{rotation, body_axes, specific_force_ned, sample_finite, along, from_state}
use Rattle.wind.specs.Wind.{empty, grown, mean, filter_or, noise, axis_corrected_by, axis_corrected, closed, gathered, taken}
use Rattle.wind.specs.Wind as estimators
use Rattle.heading.specs.HoverWind.{latched, above, airborne, update}
use Rattle.heading.specs.HoverWind as hover
use Rattle.heading.specs.declared.hover_wind.HoverWind.{HoverWind}
use Rattle.copter.specs.declared.config.CopterGuidanceConfig.{CopterGuidanceConfig}
use Rattle.copter.specs.declared.memory.CopterGuidance.{CopterGuidance}
use Rattle.copter.specs.Config.{below_one, above_descending, up_to_pi, field_count, rule, lowest, default_config, fields_of}
use Rattle.copter.specs.Memory.{fresh}
use Rattle.copter.specs.Guide.{wind_updated, piloted, attitude_call, absolute_attitude_call, absolute_rate_call, fly_to, waypoint_call, land_call}
use Rattle.copter.specs.Guide.{new_craft, prime, wind_reading}
use Rattle.controllers.specs.Checks.{check_limit, check_positive, check_unit_interval, check_tilt}
use Rattle.copter.proofs.Laws.Calls.{attitude, absolute_attitude, absolute_rate, waypoint, land, Call, guide}
use Rattle.wind.specs.declared.estimate.WindEstimate.{WindEstimate}
use Rattle.copter.proofs.Laws.Calls as calls

-- ---- every call updates the wind alike, and keeps the configuration

pub guide_updates_wind : (self : CopterGuidance) (dt : Float) (state : VehicleState) (call : Call)
    → (guide self dt state call).craft.memory.wind ≡ wind_updated self.memory self.config dt state
unfolding attitude_call absolute_attitude_call absolute_rate_call waypoint_call land_call piloted fly_to
guide_updates_wind self dt state (calls.piloted (attitude command)) = refl
guide_updates_wind self dt state (calls.piloted (absolute_attitude command)) = refl
guide_updates_wind self dt state (calls.piloted (absolute_rate command)) = refl
guide_updates_wind self dt state (calls.navigated (waypoint command)) = refl
guide_updates_wind self dt state (calls.navigated (land command)) = refl

pub guide_keeps_config : (self : CopterGuidance) (dt : Float) (state : VehicleState) (call : Call) → (guide self dt state call).craft.config ≡ self.config
unfolding attitude_call absolute_attitude_call absolute_rate_call waypoint_call land_call fly_to
guide_keeps_config self dt state (calls.piloted (attitude command)) = refl
guide_keeps_config self dt state (calls.piloted (absolute_attitude command)) = refl
guide_keeps_config self dt state (calls.piloted (absolute_rate command)) = refl
guide_keeps_config self dt state (calls.navigated (waypoint command)) = refl
guide_keeps_config self dt state (calls.navigated (land command)) = refl

-- ---- two configurations

-- the defaults, but for the wind's fields
unfoldable pub with_wind : WindConfig → CopterGuidanceConfig
with_wind wind =
    let config = default_config in
    record { altitude = config.altitude; lateral = config.lateral; guidance = config.guidance; thrust = config.thrust; wind = wind }

-- momentum drag of 0.3 on both axes, and no noise
unfoldable pub noiseless : WindConfig
noiseless =
    record {
      ballistic_kgpm2 = zeros;
      momentum_per_s = record { x = f32 0x3E99_999A; y = f32 0x3E99_999A };
      force_noise_mps2 = zero;
      process_noise_mps_per_rt_s = zero;
      initial_sd_mps = zero;
      gate_sigma = f32 0x40A0_0000;  -- 5
      max_axial_speed_mps = one;
    }

-- the same drag, the noises of the defaults, and a gate whose square no f32 holds
unfoldable pub gateless : WindConfig
gateless =
    record {
      ballistic_kgpm2 = zeros;
      momentum_per_s = record { x = f32 0x3E99_999A; y = f32 0x3E99_999A };
      force_noise_mps2 = f32 0x3F00_0000;  -- 0.5
      process_noise_mps_per_rt_s = f32 0x3DCC_CCCD;  -- 0.1
      initial_sd_mps = f32 0x4120_0000;  -- 10
      gate_sigma = f32 0x60AD_78EC;  -- 1e20
      max_axial_speed_mps = one;
    }

-- no field breaks its rule
pub both_accepted : (lowest (fields_of (with_wind noiseless)) 1 field_count ≡ 51) × (lowest (fields_of (with_wind gateless)) 1 field_count ≡ 51)
unfolding fields_of with_wind noiseless gateless default_config lowest rule
    check_limit check_positive check_unit_interval check_tilt below_one above_descending up_to_pi of_bits lt le
both_accepted = (refl, refl)

-- ---- what their wind becomes

-- level and heading north, at an altitude and with an acceleration north
abbrev pub upright : Float → Float → VehicleState
upright altitude north =
    record {
      position_m = record { x = zero; y = zero; z = altitude };
      velocity_mps = record { x = zero; y = zero; z = zero };
      acceleration_mps2 = record { x = north; y = zero; z = zero };
      attitude = record { w = one; i = zero; j = zero; k = zero };
      angular_velocity_z_radps = zero;
      heading_rad = zero;
    }

abbrev pub grounded : VehicleState
grounded = upright zero zero

-- two metres up
abbrev pub hovering : VehicleState
hovering = upright two zero

-- with an acceleration of 3e38 m/s², of which the double is infinite
abbrev pub pushed : VehicleState
pushed = upright two (f32 0x7F61_B1E6)

-- 0.125 s, two of which close a window
abbrev pub eighth : Float
eighth = f32 0x3E00_0000

-- the craft after a priming on the ground
abbrev pub primed : WindConfig → CopterGuidance
primed wind = prime (new_craft (with_wind wind)) grounded

abbrev primed_wind : HoverWind
primed_wind = hover.prime hover.fresh one grounded

abbrev pushed_wind : HoverWind
pushed_wind = update (update primed_wind eighth gateless one pushed) eighth gateless one pushed

-- an estimate with this velocity, whatever its covariance
abbrev pub Blows : Option WindEstimate → Vec2 → Type 0
Blows wind velocity = (p : Matrix2) × (wind ≡ Some (record { velocity_mps = velocity; covariance_m2ps2 = p }))

computed : (hover.estimate (update primed_wind one noiseless one hovering)
    ≡ Some (record { velocity_mps = record { x = nan; y = nan }; covariance_m2ps2 = record { m00 = nan; m01 = nan; m10 = nan; m11 = nan } }))
    × Blows (hover.estimate pushed_wind) (record { x = inf false; y = nan })
    × Blows (hover.estimate (update pushed_wind one gateless one hovering)) (record { x = inf false; y = nan })
unfolding noiseless gateless update hover.prime hover.fresh airborne above latched estimators.fresh estimators.update taken gathered grown empty mean
    closed filter_or axis_corrected axis_corrected_by noise is_on axis_drag slope against air_velocity diagonal initial predict covariance_along corrected
    correct rotation body_axes specific_force_ned sample_finite along from_state abs max sqrt all_finite of_bits of_int round is_nan neg add sub mul div lt le
computed = (refl, (_, refl), (_, refl))

primed_memory : (wind : WindConfig) → (primed wind).memory.wind ≡ primed_wind
unfolding prime new_craft fresh with_wind default_config
primed_memory wind = refl

-- the wind memory after a call, from the one before it
module _ (wind : WindConfig) (self : CopterGuidance) (dt : Float) (state : VehicleState) (call : Call) where
  next_wind : (before : HoverWind) → self.config ≡ with_wind wind → self.memory.wind ≡ before
      → (guide self dt state call).craft.memory.wind ≡ update before dt wind one state
  unfolding wind_updated with_wind default_config
  next_wind before e m = guide_updates_wind self dt state call ∙ rw (e, m)

-- the velocity and the covariance, after any call one second long
pub noiseless_wind_is_nan : (call : Call)
    → wind_reading (guide (primed noiseless) one hovering call).craft
    ≡ Some (record { velocity_mps = record { x = nan; y = nan }; covariance_m2ps2 = record { m00 = nan; m01 = nan; m10 = nan; m11 = nan } })
unfolding wind_reading prime new_craft
noiseless_wind_is_nan call =
    ap hover.estimate (next_wind noiseless (primed noiseless) one hovering call primed_wind refl (primed_memory noiseless)) ∙ computed.0

module _ (first second third : Call) where
  abbrev pub after_push : CopterGuidance
  after_push = (guide (guide (primed gateless) eighth pushed first).craft eighth pushed second).craft

  abbrev pub a_window_later : CopterGuidance
  a_window_later = (guide after_push one hovering third).craft

  -- the window of the two pushes leaves an infinite wind, and the next window leaves it so
  pub gateless_wind_is_infinite : Blows (wind_reading after_push) (record { x = inf false; y = nan })
      × Blows (wind_reading a_window_later) (record { x = inf false; y = nan })
  unfolding wind_reading prime new_craft
  gateless_wind_is_infinite =
      let once = (guide (primed gateless) eighth pushed first).craft in
      let once_config : once.config ≡ with_wind gateless = guide_keeps_config (primed gateless) eighth pushed first in
      let once_wind = next_wind gateless (primed gateless) eighth pushed first primed_wind refl (primed_memory gateless) in
      let twice_config : after_push.config ≡ with_wind gateless = guide_keeps_config once eighth pushed second ∙ once_config in
      let twice_wind = next_wind gateless once eighth pushed second (update primed_wind eighth gateless one pushed) once_config once_wind in
      let later_wind = next_wind gateless after_push one hovering third pushed_wind twice_config twice_wind in
      ((computed.1.0, ap hover.estimate twice_wind ∙ computed.1.1), (computed.2.0, ap hover.estimate later_wind ∙ computed.2.1))
