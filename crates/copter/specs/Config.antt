-- The 50 fields of a configuration in document 01's order: the rule and the default of each, said once, and the configuration that 50 numbers make. The
-- rules are those of the Rust for 7 and 11 to 41, and document 01's own for the rest. Assumes nothing.
use Rattle.std.specs.Prelude.{ℕ, zero, suc, ◌-◌, Bool, true, cond, ◌&&◌, List, [], ◌∷◌, map, T, get_or, Float, leb, Option, Some, None}
use Rattle.std.specs.Float.{nan}
use Rattle.std.specs.Float.Ieee.{lt, le}
use Rattle.floats.specs.Ops.{f32}
use Rattle.math.specs.Math as math
use Rattle.controllers.specs.Checks.{check_limit, above, check_positive, check_unit_interval, check_tilt}
use Rattle.altitude.specs.declared.AltitudeControllerConfig.{AltitudeControllerConfig}
use Rattle.lateral.specs.declared.LateralControllerConfig.{LateralControllerConfig}
use Rattle.wind.specs.declared.drag.WindConfig.{WindConfig}
use Rattle.heading.specs.declared.HeadingConfig.{HeadingConfig}
use Rattle.copter.specs.declared.config.Rule.{Rule}
use Rattle.copter.specs.declared.config.Rule.TheVariants.{Anything, Limit, Positive, UnitInterval, Tilt, BelowOne, AboveDescending, UpToPi}
use Rattle.copter.specs.declared.config.Field.{Field}
use Rattle.copter.specs.declared.config.ThrustLimits.{ThrustLimits}
use Rattle.copter.specs.declared.config.GuidanceConfig.{GuidanceConfig}
use Rattle.copter.specs.declared.config.CopterGuidanceConfig.{CopterGuidanceConfig}

-- ---- the rules

-- in [0, 1)
unfoldable pub below_one : Float → Bool
below_one value = le math.zero value && lt value math.one

-- above 0.2 m/s and finite
unfoldable pub above_descending : Float → Bool
unfolding above
above_descending value = above (f32 0x3E4C_CCCD) value

-- in [0, π]
unfoldable pub up_to_pi : Float → Bool
up_to_pi value = le math.zero value && le value math.pi

unfoldable pub keeps : Rule → Float → Bool
unfolding below_one above_descending up_to_pi
keeps Anything value = true
keeps Limit value = check_limit value
keeps Positive value = check_positive value
keeps UnitInterval value = check_unit_interval value
keeps Tilt value = check_tilt value
keeps BelowOne value = below_one value
keeps AboveDescending value = above_descending value
keeps UpToPi value = up_to_pi value

-- ---- the fields

-- a field's rule, and its default by its bits
abbrev pub field : Rule → ℕ → Field
field rule bits = record { 0 = rule; 1 = f32 bits }

abbrev pub field_count : ℕ
field_count = 50

unfoldable pub fields : List Field
fields =
    field Limit 0x3FC0_0000  -- 1 altitude gains p, 1.5
    ∷ field Limit 0x3E4C_CCCD  -- 2 altitude gains i, 0.2
    ∷ field Limit 0x4000_0000  -- 3 altitude gains d, 2
    ∷ field Limit 0x40A0_0000  -- 4 altitude max_integral, 5
    ∷ field UnitInterval 0x3F00_0000  -- 5 hover_thrust, 0.5
    ∷ field Limit 0x3F80_0000  -- 6 integration_band_m, 1
    ∷ field Limit 0x3F00_0000  -- 7 position_p, 0.5
    ∷ field Anything 0x3FA1_47AE  -- 8 velocity gains p, 1.26
    ∷ field Anything 0x3ECC_CCCD  -- 9 velocity gains i, 0.4
    ∷ field Anything 0  -- 10 velocity gains d, 0
    ∷ field Limit 0x4148_0000  -- 11 lateral max_integral, 12.5
    ∷ field Limit 0  -- 12 max_accel_mps2, 0
    ∷ field Limit 0  -- 13 brake_mps2, 0
    ∷ field UnitInterval 0x3F33_3333  -- 14 braking_share, 0.7
    ∷ field Limit 0x3CA3_D70A  -- 15 navigation_period_s, 0.02
    ∷ field Limit 0x3F49_0FDB  -- 16 max_stick_angles_rad x, 45°, 0.7853982
    ∷ field Limit 0x3F49_0FDB  -- 17 max_stick_angles_rad y, 45°
    ∷ field Limit 0x3F80_0000  -- 18 stick_yaw_rate_radps, 1
    ∷ field BelowOne 0x3D4C_CCCD  -- 19 idle_throttle, 0.05
    ∷ field Tilt 0x3EF1_4639  -- 20 max_tilt_rad, 27°, 0.47123888
    ∷ field Positive 0x4040_0000  -- 21 max_descent_mps, 3
    ∷ field Positive 0x3F80_0000  -- 22 descent_accel_mps2, 1
    ∷ field Positive 0x4020_0000  -- 23 climb_decel_mps2, 2.5
    ∷ field Positive 0x3F80_0000  -- 24 altitude_leash_m, 1
    ∷ field AboveDescending 0x3F33_3333  -- 25 land_speed_mps, 0.7
    ∷ field Limit 0x3F86_0A92  -- 26 waypoint_yaw_radps, 60° a second, 1.0471976
    ∷ field Positive 0x3F86_0A92  -- 27 heading_rate_radps, 60° a second
    ∷ field Limit 0x4040_0000  -- 28 waypoint_yaw_min_leg_m, 3
    ∷ field Limit 0x3F06_0A92  -- 29 heading_yield_rad, 30°, 0.5235988
    ∷ field Limit 0x3DCC_CCCD  -- 30 heading_yield_rate_radps, 0.1
    ∷ field Limit 0x3F80_0000  -- 31 heading_yield_s, 1
    ∷ field Limit 0  -- 32 wind_heading_min_mps, 0
    ∷ field UpToPi 0x3FB2_B8C2  -- 33 wind_heading_from_wind_rad, 80°, 1.3962634
    ∷ field Limit 0x3E86_0A92  -- 34 wind_heading_max_sd_rad, 15°, 0.2617994
    ∷ field Limit 0x3E32_B8C2  -- 35 wind_heading_deadband_rad, 10°, 0.17453292
    ∷ field Limit 0x3F80_0000  -- 36 airborne_height_m, 1
    ∷ field Limit 0x3E99_999A  -- 37 feedforward_hold_band_mps, 0.3
    ∷ field BelowOne 0  -- 38 min_thrust, 0
    ∷ field Limit 0  -- 39 sink_limit_mps, 0
    ∷ field Limit 0  -- 40 sink_gain, 0
    ∷ field UnitInterval 0x3F80_0000  -- 41 max_boost_thrust, 1
    ∷ field Limit 0  -- 42 ballistic_kgpm2 x, 0
    ∷ field Limit 0  -- 43 ballistic_kgpm2 y, 0
    ∷ field Limit 0  -- 44 momentum_per_s x, 0
    ∷ field Limit 0  -- 45 momentum_per_s y, 0
    ∷ field Limit 0x3F00_0000  -- 46 force_noise_mps2, 0.5
    ∷ field Limit 0x3DCC_CCCD  -- 47 process_noise_mps_per_rt_s, 0.1
    ∷ field Limit 0x4120_0000  -- 48 initial_sd_mps, 10
    ∷ field Limit 0x40A0_0000  -- 49 gate_sigma, 5
    ∷ field Limit 0x3F80_0000  -- 50 max_axial_speed_mps, 1
    ∷ []

unfoldable pub rules : List Rule
unfolding fields
rules = map (λ (f : Field). f.0) fields

unfoldable pub defaults : List Float
unfolding fields
defaults = map (λ (f : Field). f.1) fields

-- field n of a list of numbers, counted from 1
abbrev pub nth : List Float → ℕ → Float
nth values n = get_or values (n - 1) nan

-- the rule of field n
unfoldable pub rule : ℕ → Float → Bool
unfolding rules keeps
rule n value = keeps (get_or rules (n - 1) Anything) value

-- The lowest of the fields from n on, d of them, that breaks its rule; n + d where none does.
unfoldable pub lowest : List Float → ℕ → ℕ → ℕ
lowest values n zero = n
lowest values n (suc d) = cond (rule n (nth values n)) (lowest values (suc n) d) n

-- The lowest of all fields that breaks its rule, if one does.
unfoldable pub lowest_broken : List Float → Option ℕ
lowest_broken values =
    let field = lowest values 1 field_count in
    cond (leb field field_count) (Some field) None

-- ---- the configuration of 50 numbers

-- fields 1 to 6
abbrev pub altitude_of : List Float → AltitudeControllerConfig
altitude_of values =
    record {
      gains = record { p = nth values 1; i = nth values 2; d = nth values 3 };
      max_integral = nth values 4;
      hover_thrust = nth values 5;
      integration_band_m = nth values 6;
    }

-- fields 7 to 14
abbrev pub lateral_of : List Float → LateralControllerConfig
lateral_of values =
    record {
      position_p = nth values 7;
      velocity = record { p = nth values 8; i = nth values 9; d = nth values 10 };
      max_integral = nth values 11;
      max_accel_mps2 = nth values 12;
      brake_mps2 = nth values 13;
      braking_share = nth values 14;
    }

-- fields 26 to 35
abbrev pub heading_of : List Float → HeadingConfig
heading_of values =
    record {
      waypoint_yaw_radps = nth values 26;
      heading_rate_radps = nth values 27;
      waypoint_yaw_min_leg_m = nth values 28;
      heading_yield_rad = nth values 29;
      heading_yield_rate_radps = nth values 30;
      heading_yield_s = nth values 31;
      wind_heading_min_mps = nth values 32;
      wind_heading_from_wind_rad = nth values 33;
      wind_heading_max_sd_rad = nth values 34;
      wind_heading_deadband_rad = nth values 35;
    }

-- fields 15 to 37
abbrev pub guidance_of : List Float → GuidanceConfig
guidance_of values =
    record {
      navigation_period_s = nth values 15;
      max_stick_angles_rad = record { x = nth values 16; y = nth values 17 };
      stick_yaw_rate_radps = nth values 18;
      idle_throttle = nth values 19;
      max_tilt_rad = nth values 20;
      max_descent_mps = nth values 21;
      descent_accel_mps2 = nth values 22;
      climb_decel_mps2 = nth values 23;
      altitude_leash_m = nth values 24;
      land_speed_mps = nth values 25;
      heading = heading_of values;
      airborne_height_m = nth values 36;
      feedforward_hold_band_mps = nth values 37;
    }

-- fields 38 to 41
abbrev pub thrust_of : List Float → ThrustLimits
thrust_of values =
    record {
      min_thrust = nth values 38;
      sink_limit_mps = nth values 39;
      sink_gain = nth values 40;
      max_boost_thrust = nth values 41;
    }

-- fields 42 to 50
abbrev pub wind_of : List Float → WindConfig
wind_of values =
    record {
      ballistic_kgpm2 = record { x = nth values 42; y = nth values 43 };
      momentum_per_s = record { x = nth values 44; y = nth values 45 };
      force_noise_mps2 = nth values 46;
      process_noise_mps_per_rt_s = nth values 47;
      initial_sd_mps = nth values 48;
      gate_sigma = nth values 49;
      max_axial_speed_mps = nth values 50;
    }

unfoldable pub config_of : List Float → CopterGuidanceConfig
config_of values =
    record {
      altitude = altitude_of values;
      lateral = lateral_of values;
      guidance = guidance_of values;
      thrust = thrust_of values;
      wind = wind_of values;
    }

-- the configuration of the Rust's defaults
unfoldable pub default_config : CopterGuidanceConfig
unfolding config_of defaults
default_config = config_of defaults

-- ---- the same by name

-- the fields of a configuration in document 01's order
unfoldable pub fields_of : CopterGuidanceConfig → List Float
fields_of config =
    config.altitude.gains.p
    ∷ config.altitude.gains.i
    ∷ config.altitude.gains.d
    ∷ config.altitude.max_integral
    ∷ config.altitude.hover_thrust
    ∷ config.altitude.integration_band_m
    ∷ config.lateral.position_p
    ∷ config.lateral.velocity.p
    ∷ config.lateral.velocity.i
    ∷ config.lateral.velocity.d
    ∷ config.lateral.max_integral
    ∷ config.lateral.max_accel_mps2
    ∷ config.lateral.brake_mps2
    ∷ config.lateral.braking_share
    ∷ config.guidance.navigation_period_s
    ∷ config.guidance.max_stick_angles_rad.x
    ∷ config.guidance.max_stick_angles_rad.y
    ∷ config.guidance.stick_yaw_rate_radps
    ∷ config.guidance.idle_throttle
    ∷ config.guidance.max_tilt_rad
    ∷ config.guidance.max_descent_mps
    ∷ config.guidance.descent_accel_mps2
    ∷ config.guidance.climb_decel_mps2
    ∷ config.guidance.altitude_leash_m
    ∷ config.guidance.land_speed_mps
    ∷ config.guidance.heading.waypoint_yaw_radps
    ∷ config.guidance.heading.heading_rate_radps
    ∷ config.guidance.heading.waypoint_yaw_min_leg_m
    ∷ config.guidance.heading.heading_yield_rad
    ∷ config.guidance.heading.heading_yield_rate_radps
    ∷ config.guidance.heading.heading_yield_s
    ∷ config.guidance.heading.wind_heading_min_mps
    ∷ config.guidance.heading.wind_heading_from_wind_rad
    ∷ config.guidance.heading.wind_heading_max_sd_rad
    ∷ config.guidance.heading.wind_heading_deadband_rad
    ∷ config.guidance.airborne_height_m
    ∷ config.guidance.feedforward_hold_band_mps
    ∷ config.thrust.min_thrust
    ∷ config.thrust.sink_limit_mps
    ∷ config.thrust.sink_gain
    ∷ config.thrust.max_boost_thrust
    ∷ config.wind.ballistic_kgpm2.x
    ∷ config.wind.ballistic_kgpm2.y
    ∷ config.wind.momentum_per_s.x
    ∷ config.wind.momentum_per_s.y
    ∷ config.wind.force_noise_mps2
    ∷ config.wind.process_noise_mps_per_rt_s
    ∷ config.wind.initial_sd_mps
    ∷ config.wind.gate_sigma
    ∷ config.wind.max_axial_speed_mps
    ∷ []

-- What the Rust's `validate` asks, with document 01's own rules for fields 1 to 6 and 42 to 50; the velocity gains take anything.
pub record Valid (config : CopterGuidanceConfig) : Type 0 where
  pub altitude_gains_p : T (check_limit config.altitude.gains.p)
  pub altitude_gains_i : T (check_limit config.altitude.gains.i)
  pub altitude_gains_d : T (check_limit config.altitude.gains.d)
  pub altitude_max_integral : T (check_limit config.altitude.max_integral)
  pub hover_thrust : T (check_unit_interval config.altitude.hover_thrust)
  pub integration_band_m : T (check_limit config.altitude.integration_band_m)
  pub position_p : T (check_limit config.lateral.position_p)
  pub lateral_max_integral : T (check_limit config.lateral.max_integral)
  pub max_accel_mps2 : T (check_limit config.lateral.max_accel_mps2)
  pub brake_mps2 : T (check_limit config.lateral.brake_mps2)
  pub braking_share : T (check_unit_interval config.lateral.braking_share)
  pub navigation_period_s : T (check_limit config.guidance.navigation_period_s)
  pub max_stick_angles_rad_x : T (check_limit config.guidance.max_stick_angles_rad.x)
  pub max_stick_angles_rad_y : T (check_limit config.guidance.max_stick_angles_rad.y)
  pub stick_yaw_rate_radps : T (check_limit config.guidance.stick_yaw_rate_radps)
  pub idle_throttle : T (below_one config.guidance.idle_throttle)
  pub max_tilt_rad : T (check_tilt config.guidance.max_tilt_rad)
  pub max_descent_mps : T (check_positive config.guidance.max_descent_mps)
  pub descent_accel_mps2 : T (check_positive config.guidance.descent_accel_mps2)
  pub climb_decel_mps2 : T (check_positive config.guidance.climb_decel_mps2)
  pub altitude_leash_m : T (check_positive config.guidance.altitude_leash_m)
  pub land_speed_mps : T (above_descending config.guidance.land_speed_mps)
  pub waypoint_yaw_radps : T (check_limit config.guidance.heading.waypoint_yaw_radps)
  pub heading_rate_radps : T (check_positive config.guidance.heading.heading_rate_radps)
  pub waypoint_yaw_min_leg_m : T (check_limit config.guidance.heading.waypoint_yaw_min_leg_m)
  pub heading_yield_rad : T (check_limit config.guidance.heading.heading_yield_rad)
  pub heading_yield_rate_radps : T (check_limit config.guidance.heading.heading_yield_rate_radps)
  pub heading_yield_s : T (check_limit config.guidance.heading.heading_yield_s)
  pub wind_heading_min_mps : T (check_limit config.guidance.heading.wind_heading_min_mps)
  pub wind_heading_from_wind_rad : T (up_to_pi config.guidance.heading.wind_heading_from_wind_rad)
  pub wind_heading_max_sd_rad : T (check_limit config.guidance.heading.wind_heading_max_sd_rad)
  pub wind_heading_deadband_rad : T (check_limit config.guidance.heading.wind_heading_deadband_rad)
  pub airborne_height_m : T (check_limit config.guidance.airborne_height_m)
  pub feedforward_hold_band_mps : T (check_limit config.guidance.feedforward_hold_band_mps)
  pub min_thrust : T (below_one config.thrust.min_thrust)
  pub sink_limit_mps : T (check_limit config.thrust.sink_limit_mps)
  pub sink_gain : T (check_limit config.thrust.sink_gain)
  pub max_boost_thrust : T (check_unit_interval config.thrust.max_boost_thrust)
  pub ballistic_kgpm2_x : T (check_limit config.wind.ballistic_kgpm2.x)
  pub ballistic_kgpm2_y : T (check_limit config.wind.ballistic_kgpm2.y)
  pub momentum_per_s_x : T (check_limit config.wind.momentum_per_s.x)
  pub momentum_per_s_y : T (check_limit config.wind.momentum_per_s.y)
  pub force_noise_mps2 : T (check_limit config.wind.force_noise_mps2)
  pub process_noise_mps_per_rt_s : T (check_limit config.wind.process_noise_mps_per_rt_s)
  pub initial_sd_mps : T (check_limit config.wind.initial_sd_mps)
  pub gate_sigma : T (check_limit config.wind.gate_sigma)
  pub max_axial_speed_mps : T (check_limit config.wind.max_axial_speed_mps)
