-- The fields of a configuration are those of document 01's order, by number and by name: `config_back`, `kept_is_valid`. The defaults keep all
-- rules, and are the Rust's by name. Which numbers the rules of this layer take; those of the checks of the layer below are in its laws. Assumes nothing.
use Prim.Native.Nat.{ℕ, zero, suc, ◌+◌, ◌≤◌, ◌<◌}
use mathlib.Core.Path.{◌≡◌, refl, subst}
use mathlib.Core.Bool.{Bool, true, false, cond, ◌&&◌}
use mathlib.Core.Logic.{◌↔◌}
use mathlib.Core.List.{List}
use native.Mathlib.Omega.{arith}
use borrow.Author.Tests.{ltb-true, ltb-false}
use lib.Dec.{T, leb, ltb, lit≤}
use lib.ListN.{length}
use lib.Ieee.{Float, of_bits, lt, le}
use lib.Ieee.Scale.{finite}
use Rattle.std.specs.Prelude.{Some, None}
use Rattle.floats.specs.Ops.{f32}
use Rattle.math.specs.Math as math
use Rattle.controllers.specs.Checks.{check_limit, check_positive, check_unit_interval, check_tilt}
use Rattle.controllers.proofs.Laws.Checks.{both, above_is_above_and_finite}
use Rattle.copter.specs.declared.config.CopterGuidanceConfig.{CopterGuidanceConfig}
use Rattle.copter.specs.Config.{below_one, above_descending, up_to_pi, keeps, fields, field_count, defaults, nth, rule, lowest, lowest_broken, config_of}
use Rattle.copter.specs.Config.{default_config, fields_of, Valid}

-- ---- the fields by number and by name

pub fields_counted : length fields ≡ field_count
unfolding fields
fields_counted = refl

-- The numbers of a configuration, in order, make that configuration again.
pub config_back : (config : CopterGuidanceConfig) → config_of (fields_of config) ≡ config
unfolding config_of fields_of
config_back config = refl

-- each field keeps its rule, by number
abbrev pub EachKeeps : List Float → Type 0
EachKeeps values = (n : ℕ) → 1 ≤ n → n ≤ field_count → T (rule n (nth values n))

-- and so by name
pub kept_valid : (values : List Float) → EachKeeps values → Valid (config_of values)
unfolding config_of rule
kept_valid values keeps =
    record {
      altitude_gains_p = its 1 tt;
      altitude_gains_i = its 2 tt;
      altitude_gains_d = its 3 tt;
      altitude_max_integral = its 4 tt;
      hover_thrust = its 5 tt;
      integration_band_m = its 6 tt;
      position_p = its 7 tt;
      lateral_max_integral = its 11 tt;
      max_accel_mps2 = its 12 tt;
      brake_mps2 = its 13 tt;
      braking_share = its 14 tt;
      navigation_period_s = its 15 tt;
      max_stick_angles_rad_x = its 16 tt;
      max_stick_angles_rad_y = its 17 tt;
      stick_yaw_rate_radps = its 18 tt;
      idle_throttle = its 19 tt;
      max_tilt_rad = its 20 tt;
      max_descent_mps = its 21 tt;
      descent_accel_mps2 = its 22 tt;
      climb_decel_mps2 = its 23 tt;
      altitude_leash_m = its 24 tt;
      land_speed_mps = its 25 tt;
      waypoint_yaw_radps = its 26 tt;
      heading_rate_radps = its 27 tt;
      waypoint_yaw_min_leg_m = its 28 tt;
      heading_yield_rad = its 29 tt;
      heading_yield_rate_radps = its 30 tt;
      heading_yield_s = its 31 tt;
      wind_heading_min_mps = its 32 tt;
      wind_heading_from_wind_rad = its 33 tt;
      wind_heading_max_sd_rad = its 34 tt;
      wind_heading_deadband_rad = its 35 tt;
      airborne_height_m = its 36 tt;
      feedforward_hold_band_mps = its 37 tt;
      min_thrust = its 38 tt;
      sink_limit_mps = its 39 tt;
      sink_gain = its 40 tt;
      max_boost_thrust = its 41 tt;
      ballistic_kgpm2_x = its 42 tt;
      ballistic_kgpm2_y = its 43 tt;
      momentum_per_s_x = its 44 tt;
      momentum_per_s_y = its 45 tt;
      force_noise_mps2 = its 46 tt;
      process_noise_mps_per_rt_s = its 47 tt;
      initial_sd_mps = its 48 tt;
      gate_sigma = its 49 tt;
      max_axial_speed_mps = its 50 tt;
    }
  where
    its : (n : ℕ) → T (leb 1 n && leb n field_count) → T (rule n (nth values n))
    its n inside = let bounds = (both (leb 1 n) (leb n field_count)).0 inside in keeps n (lit≤ bounds.0) (lit≤ bounds.1)

-- ---- and back

-- At n or past it.
pub here_or_later : (P : ℕ → Type 0) (n m : ℕ) → n ≤ m → P n → (suc n ≤ m → P m) → P m
here_or_later P n m low here later = go (ltb n m) refl
  where
    go : (past : Bool) → ltb n m ≡ past → P m
    go true past = later (ltb-true n m past)
    go false past = let least = ltb-false n m past in let same : n ≡ m = omega arith in subst P same here

-- one after another, from n on, d of them
abbrev InTurn : (ℕ → Type 0) → ℕ → ℕ → Type 0
InTurn P n zero = Unit {0}
InTurn P n (suc d) = P n × InTurn P (suc n) d

infixr 30 ◌▸◌
◌▸◌ : {A B : Type 0} → A → B → A × B
first ▸ others = (first, others)

each_in_turn : (P : ℕ → Type 0) (n d : ℕ) → InTurn P n d → (m : ℕ) → n ≤ m → m < n + d → P m
each_in_turn P n zero all m low high = absurd (omega arith)
each_in_turn P n (suc d) (first, others) m low high =
    here_or_later P n m low first (λ later. each_in_turn P (suc n) d others m later (omega arith))

-- What keeps its rule by name does so by number: no field has a rule that `Valid` does not name.
pub valid_kept : (values : List Float) → Valid (config_of values) → EachKeeps values
unfolding config_of rule
valid_kept values valid n low high =
    each_in_turn (λ (n : ℕ). T (rule n (nth values n))) 1 field_count
    (valid.altitude_gains_p ▸ valid.altitude_gains_i ▸ valid.altitude_gains_d ▸ valid.altitude_max_integral ▸
    valid.hover_thrust ▸ valid.integration_band_m ▸ valid.position_p ▸ tt ▸ tt ▸ tt ▸ valid.lateral_max_integral ▸
    valid.max_accel_mps2 ▸ valid.brake_mps2 ▸ valid.braking_share ▸ valid.navigation_period_s ▸
    valid.max_stick_angles_rad_x ▸ valid.max_stick_angles_rad_y ▸ valid.stick_yaw_rate_radps ▸
    valid.idle_throttle ▸ valid.max_tilt_rad ▸ valid.max_descent_mps ▸ valid.descent_accel_mps2 ▸
    valid.climb_decel_mps2 ▸ valid.altitude_leash_m ▸ valid.land_speed_mps ▸ valid.waypoint_yaw_radps ▸
    valid.heading_rate_radps ▸ valid.waypoint_yaw_min_leg_m ▸ valid.heading_yield_rad ▸
    valid.heading_yield_rate_radps ▸ valid.heading_yield_s ▸ valid.wind_heading_min_mps ▸
    valid.wind_heading_from_wind_rad ▸ valid.wind_heading_max_sd_rad ▸ valid.wind_heading_deadband_rad ▸
    valid.airborne_height_m ▸ valid.feedforward_hold_band_mps ▸ valid.min_thrust ▸ valid.sink_limit_mps ▸
    valid.sink_gain ▸ valid.max_boost_thrust ▸ valid.ballistic_kgpm2_x ▸ valid.ballistic_kgpm2_y ▸
    valid.momentum_per_s_x ▸ valid.momentum_per_s_y ▸ valid.force_noise_mps2 ▸ valid.process_noise_mps_per_rt_s ▸
    valid.initial_sd_mps ▸ valid.gate_sigma ▸ valid.max_axial_speed_mps ▸ tt) n low (omega arith)

pub kept_is_valid : (values : List Float) → EachKeeps values ↔ Valid (config_of values)
kept_is_valid values = (kept_valid values, valid_kept values)

-- ---- what a rule takes

pub below_one_is_zero_to_below_one : (value : Float) → T (below_one value) ↔ T (le math.zero value) × T (lt value math.one)
unfolding below_one
below_one_is_zero_to_below_one value = both (le math.zero value) (lt value math.one)

-- 3E4CCCCD is 0.2.
pub above_descending_is_above_touchdown : (value : Float) → T (above_descending value) ↔ T (lt (f32 0x3E4C_CCCD) value) × T (finite value)
unfolding above_descending
above_descending_is_above_touchdown value = above_is_above_and_finite (f32 0x3E4C_CCCD) value

pub up_to_pi_is_zero_to_pi : (value : Float) → T (up_to_pi value) ↔ T (le math.zero value) × T (le value math.pi)
unfolding up_to_pi
up_to_pi_is_zero_to_pi value = both (le math.zero value) (le value math.pi)

-- ---- the defaults

-- The search for a field that breaks its rule ends past the last.
pub defaults_keep_rules : lowest defaults 1 field_count ≡ suc field_count
unfolding lowest rule defaults check_limit check_positive check_unit_interval check_tilt below_one above_descending up_to_pi of_bits lt le
defaults_keep_rules = refl

-- So none does.
pub defaults_accepted : lowest_broken defaults ≡ None
unfolding lowest_broken
defaults_accepted = rw defaults_keep_rules

-- The number of the field that is found is where the search ends.
pub broken_by_number : (values : List Float) (n : ℕ) → lowest_broken values ≡ Some n → lowest values 1 field_count ≡ n
unfolding lowest_broken
broken_by_number values n found = told (leb (lowest values 1 field_count) field_count) found
  where
    told : (inside : Bool) → cond inside (Some (lowest values 1 field_count)) None ≡ Some n → lowest values 1 field_count ≡ n
    told true is = cc
    told false is = cc

-- The defaults of the Rust, as its text names them, by their bits.
pub defaults_by_name : default_config
    ≡ record {
      altitude = record {
        gains = record { p = f32 0x3FC0_0000; i = f32 0x3E4C_CCCD; d = f32 0x4000_0000 };
        max_integral = f32 0x40A0_0000;
        hover_thrust = f32 0x3F00_0000;
        integration_band_m = f32 0x3F80_0000;
      };
      lateral = record {
        position_p = f32 0x3F00_0000;
        velocity = record { p = f32 0x3FA1_47AE; i = f32 0x3ECC_CCCD; d = f32 0 };
        max_integral = f32 0x4148_0000;
        max_accel_mps2 = f32 0;
        brake_mps2 = f32 0;
        braking_share = f32 0x3F33_3333;
      };
      guidance = record {
        navigation_period_s = f32 0x3CA3_D70A;
        max_stick_angles_rad = record { x = f32 0x3F49_0FDB; y = f32 0x3F49_0FDB };
        stick_yaw_rate_radps = f32 0x3F80_0000;
        idle_throttle = f32 0x3D4C_CCCD;
        max_tilt_rad = f32 0x3EF1_4639;
        max_descent_mps = f32 0x4040_0000;
        descent_accel_mps2 = f32 0x3F80_0000;
        climb_decel_mps2 = f32 0x4020_0000;
        altitude_leash_m = f32 0x3F80_0000;
        land_speed_mps = f32 0x3F33_3333;
        heading = record {
          waypoint_yaw_radps = f32 0x3F86_0A92;
          heading_rate_radps = f32 0x3F86_0A92;
          waypoint_yaw_min_leg_m = f32 0x4040_0000;
          heading_yield_rad = f32 0x3F06_0A92;
          heading_yield_rate_radps = f32 0x3DCC_CCCD;
          heading_yield_s = f32 0x3F80_0000;
          wind_heading_min_mps = f32 0;
          wind_heading_from_wind_rad = f32 0x3FB2_B8C2;
          wind_heading_max_sd_rad = f32 0x3E86_0A92;
          wind_heading_deadband_rad = f32 0x3E32_B8C2;
        };
        airborne_height_m = f32 0x3F80_0000;
        feedforward_hold_band_mps = f32 0x3E99_999A;
      };
      thrust = record {
        min_thrust = f32 0;
        sink_limit_mps = f32 0;
        sink_gain = f32 0;
        max_boost_thrust = f32 0x3F80_0000;
      };
      wind = record {
        ballistic_kgpm2 = record { x = f32 0; y = f32 0 };
        momentum_per_s = record { x = f32 0; y = f32 0 };
        force_noise_mps2 = f32 0x3F00_0000;
        process_noise_mps_per_rt_s = f32 0x3DCC_CCCD;
        initial_sd_mps = f32 0x4120_0000;
        gate_sigma = f32 0x40A0_0000;
        max_axial_speed_mps = f32 0x3F80_0000;
      };
    }
unfolding default_config config_of defaults fields
defaults_by_name = refl
