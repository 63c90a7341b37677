-- The configuration of ten numbers. Assumes nothing.
use Rattle.std.specs.Prelude.{List, get_or, Float}
use Rattle.std.specs.Float.{nan}
use Rattle.heading.specs.declared.HeadingConfig.{HeadingConfig}

-- in the order of its fields, counted from 0
abbrev pub config_of : List Float → HeadingConfig
config_of values =
    record {
      waypoint_yaw_radps = get_or values 0 nan;
      heading_rate_radps = get_or values 1 nan;
      waypoint_yaw_min_leg_m = get_or values 2 nan;
      heading_yield_rad = get_or values 3 nan;
      heading_yield_rate_radps = get_or values 4 nan;
      heading_yield_s = get_or values 5 nan;
      wind_heading_min_mps = get_or values 6 nan;
      wind_heading_from_wind_rad = get_or values 7 nan;
      wind_heading_max_sd_rad = get_or values 8 nan;
      wind_heading_deadband_rad = get_or values 9 nan;
    }
