-- A step of the leg's heading as C makes it. Assumes nothing.
use Rattle.std.specs.Prelude.{Bool, cond, List, [], ◌∷◌, Float, None}
use Rattle.std.specs.Float.Ieee.{ne}
use Rattle.math.specs.Math.{zero, one}
use Rattle.math.specs.Vectors.{zeros}
use Rattle.wind.specs.declared.state.VehicleState.{VehicleState}
use Rattle.heading.specs.LegHeading.{target}
use Rattle.heading.specs.declared.HeadingConfig.{HeadingConfig}
use Rattle.heading.specs.declared.wind_heading.WindHeading.{WindHeading}
use Rattle.heading.specs.declared.leg_heading.LegHeading.{LegHeading}
use Rattle.heading.specs.declared.leg_heading.Turn.{Turn}
use Rattle.heading.specs.declared.leg_heading.Leg.{Leg}
use Rattle.wind.specs.declared.estimate.WindEstimate.{WindEstimate}
use Rattle.control_c.specs.declared.memory.Held.{Held}
use Rattle.control_c.specs.Places.{at, vec2}
use Rattle.control_c.specs.Missing.{held, given_from, leg, number_from, estimate_from, no_estimate}

-- ---- the memory

-- the leg that stands where there is none
abbrev pub no_leg : Leg
no_leg = record { to_m = zeros; bearing_rad = None }

unfoldable pub yielding_flag : Bool → Float
yielding_flag yielding = cond yielding one zero

-- The wingtip heading in places 7 to 17: the side, the heading and the estimate that was weighed last.
abbrev pub wind_memory : List Float → WindHeading
wind_memory m =
    record {
      side = number_from m 7;
      target_rad = number_from m 9;
      weighed = estimate_from m 11;
    }

-- The leg with its waypoint and its direction, the yield count, whether it yields, and the wingtip heading.
abbrev pub memory : List Float → LegHeading
memory m =
    record {
      leg = given_from leg m 0;
      stuck_s = at m 5;
      yielding = ne (at m 6) zero;
      wind = wind_memory m;
    }

abbrev listed : LegHeading → Held Leg → Held Float → Held Float → Held Float → Held WindEstimate → List Float
listed after leg bearing side target e =
    leg.flag ∷ leg.value.to_m.x ∷ leg.value.to_m.y ∷ bearing.flag ∷ bearing.value ∷
    after.stuck_s ∷ yielding_flag after.yielding ∷
    side.flag ∷ side.value ∷ target.flag ∷ target.value ∷
    e.flag ∷ e.value.velocity_mps.x ∷ e.value.velocity_mps.y ∷
    e.value.covariance_m2ps2.m00 ∷ e.value.covariance_m2ps2.m01 ∷
    e.value.covariance_m2ps2.m10 ∷ e.value.covariance_m2ps2.m11 ∷ []

-- the numbers of a memory
abbrev pub numbers : LegHeading → List Float
numbers after =
    listed after (held after.leg no_leg) (held (held after.leg no_leg).value.bearing_rad zero) (held after.wind.side zero)
    (held after.wind.target_rad zero) (held after.wind.weighed no_estimate)

-- ---- the call

-- Fields 26 to 35.
abbrev pub config : List Float → HeadingConfig
config l =
    record {
      waypoint_yaw_radps = at l 0;
      heading_rate_radps = at l 1;
      waypoint_yaw_min_leg_m = at l 2;
      heading_yield_rad = at l 3;
      heading_yield_rate_radps = at l 4;
      heading_yield_s = at l 5;
      wind_heading_min_mps = at l 6;
      wind_heading_from_wind_rad = at l 7;
      wind_heading_max_sd_rad = at l 8;
      wind_heading_deadband_rad = at l 9;
    }

-- The array holds fields 26 to 35, dt, the heading target, the waypoint's position, its heading and the wind's estimate.
abbrev pub call : LegHeading → List Float → VehicleState → Turn
call before l state =
    target before (at l 10) (config l) (at l 11) (vec2 l 12 13) (number_from l 14) (estimate_from l 16) state
