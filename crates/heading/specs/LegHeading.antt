-- The heading along a waypoint leg, from leg_heading.rs. Assumes nothing.
use Rattle.std.specs.Prelude.{◌≡◌, Bool, true, false, cond, ◌&&◌, Float, None, Option, Some}
use Rattle.std.specs.Float.Ieee.{lt, le}
use Rattle.std.specs.Float.Ieee.Scale.{finite}
use Rattle.floats.specs.Ops.{◌⊕◌, ◌⊖◌, ◌⊗◌}
use Rattle.floats.specs.Compare.{abs, signum}
use Rattle.floats.specs.Atan.{atan2f}
use Rattle.math.specs.Math.{zero, all_finite, clamp_symmetric, wrap_angle}
use Rattle.math.specs.Vectors.{minus, norm}
use Rattle.math.specs.declared.vectors.Vec2.{Vec2}
use Rattle.wind.specs.declared.state.VehicleState.{VehicleState}
use Rattle.heading.specs.Equality.{same_vector}
use Rattle.heading.specs.declared.HeadingConfig.{HeadingConfig}
use Rattle.heading.specs.declared.wind_heading.WindHeading.{WindHeading}
use Rattle.heading.specs.declared.wind_heading.WindTurn.{WindTurn}
use Rattle.heading.specs.declared.leg_heading.Leg.{Leg}
use Rattle.heading.specs.declared.leg_heading.LegHeading.{LegHeading}
use Rattle.heading.specs.declared.leg_heading.Turn.{Turn}
use Rattle.heading.specs.declared.leg_heading.Bearing.{Bearing}
use Rattle.heading.specs.declared.leg_heading.Yielded.{Yielded}
use Rattle.wind.specs.declared.estimate.WindEstimate.{WindEstimate}
use Rattle.heading.specs.WindHeading as wind

unfoldable pub fresh : LegHeading
fresh = record { leg = None; stuck_s = zero; yielding = false; wind = wind.fresh }

-- the leg and the yielding forgotten, the wind heading kept
unfoldable pub cleared : LegHeading → LegHeading
cleared self = record { leg = None; stuck_s = zero; yielding = false; wind = self.wind }

unfoldable pub with_wind : LegHeading → WindHeading → LegHeading
with_wind self wind = record { leg = self.leg; stuck_s = self.stuck_s; yielding = self.yielding; wind = wind }

-- ---- turning

-- the shorter way round, by at most a step
unfoldable pub turned_toward : Float → Float → Float → Float
turned_toward from to step = from ⊕ clamp_symmetric (wrap_angle (to ⊖ from)) step

abbrev pub commanded_turn : Float → HeadingConfig → Float → Float → Float
commanded_turn dt config from to = turned_toward from to (config.heading_rate_radps ⊗ dt)

-- ---- the leg

-- Whether a position is the leg's. A NaN never is, so such a position is new on every call.
unfoldable pub on_leg : Leg → Vec2 → Bool
on_leg leg position = same_vector leg.to_m position

-- the direction of a leg that is longer than the least one
unfoldable pub leg_bearing : HeadingConfig → Vec2 → Option Float
leg_bearing config leg =
    cond (lt config.waypoint_yaw_min_leg_m (norm leg)) (Some (atan2f leg.y leg.x)) None

-- A new position sets the yield count to 0 and ends yielding. It starts a new leg if the craft's own position is finite, else no leg is remembered.
unfoldable pub new_leg : LegHeading → HeadingConfig → Vec2 → Vec2 → Bearing
new_leg self config position here =
    let bearing = leg_bearing config (minus position here) in
    let leg = Some (record { to_m = position; bearing_rad = bearing }) in
    cond (all_finite here)
    (record { memory = record { leg = leg; stuck_s = zero; yielding = false; wind = self.wind }; bearing_rad = bearing })
    (record { memory = cleared self; bearing_rad = None })

-- with no leg remembered every position is new
unfoldable pub bearing_of : Option Leg → LegHeading → HeadingConfig → Vec2 → Vec2 → Bearing
bearing_of None self config position here = new_leg self config position here
bearing_of (Some leg) self config position here =
    cond (on_leg leg position) (record { memory = self; bearing_rad = leg.bearing_rad }) (new_leg self config position here)

unfoldable pub bearing : LegHeading → HeadingConfig → Vec2 → Vec2 → Bearing
unfolding bearing_of
bearing self config position here = bearing_of self.leg self config position here

-- the leg has no direction, or the craft is within the least leg of the waypoint
unfoldable pub on_station : Option Float → HeadingConfig → Vec2 → Bool
on_station None config to = true
on_station (Some bearing) config to = le (norm to) config.waypoint_yaw_min_leg_m

-- ---- yielding

-- The heading is stuck while it is off the target by more than the yield angle and the craft turns towards it slower than the yield rate.
unfoldable pub stuck : HeadingConfig → Float → VehicleState → Bool
stuck config target state =
    let error = wrap_angle (target ⊖ state.heading_rad) in
    let toward = signum error ⊗ state.angular_velocity_z_radps in
    lt config.heading_yield_rad (abs error) && lt toward config.heading_yield_rate_radps

-- the yield count: longer by dt while the heading is stuck, else 0
unfoldable pub stuck_for : Float → Float → HeadingConfig → Float → VehicleState → Float
stuck_for count dt config target state = cond (stuck config target state) (count ⊕ dt) zero

unfoldable pub counted : LegHeading → Float → HeadingConfig → Yielded
counted self count config =
    let yields = lt config.heading_yield_s count in
    record { memory = record { leg = self.leg; stuck_s = count; yielding = yields; wind = self.wind }; yields = yields }

-- a positive yield time and a finite heading
abbrev pub may_yield : HeadingConfig → VehicleState → Bool
may_yield config state = lt zero config.heading_yield_s && finite state.heading_rad

-- once yielding, it lasts until the position changes
unfoldable pub yielded : LegHeading → Float → HeadingConfig → Float → VehicleState → Yielded
yielded self dt config target state =
    cond (may_yield config state)
    (cond self.yielding (record { memory = self; yields = true }) (counted self (stuck_for self.stuck_s dt config target state) config))
    (record { memory = self; yields = false })

-- ---- the heading to turn to

-- a leg with a direction, flown with a positive yaw rate
unfoldable pub turned_along : Option Float → Float → HeadingConfig → Float → Float
turned_along None dt config target = target
turned_along (Some bearing) dt config target =
    cond (lt zero config.waypoint_yaw_radps) (turned_toward target bearing (config.waypoint_yaw_radps ⊗ dt)) target

-- the craft's own heading where it yields, else along the leg
unfoldable pub along_leg : LegHeading → Float → HeadingConfig → Float → Option Float → VehicleState → Turn
unfolding turned_along
along_leg self dt config target bearing state =
    let y = yielded self dt config target state in
    record { memory = y.memory; heading_rad = cond y.yields state.heading_rad (turned_along bearing dt config target) }

-- the wind's heading, which is asked for on station only
unfoldable pub station_turn : Bool → WindHeading → HeadingConfig → Option WindEstimate → Float → WindTurn
station_turn on memory config estimate heading =
    cond on (wind.target memory config estimate heading) (record { wind = memory; target_rad = None })

-- where the wind gives a heading it is turned to, else the leg's
unfoldable pub wind_or_leg : Option Float → LegHeading → Float → HeadingConfig → Float → Option Float → VehicleState → Turn
wind_or_leg None self dt config target bearing state = along_leg self dt config target bearing state
wind_or_leg (Some heading) self dt config target bearing state = record { memory = self; heading_rad = commanded_turn dt config target heading }

abbrev pub here_of : VehicleState → Vec2
here_of state = record { x = state.position_m.x; y = state.position_m.y }

-- what the wind is asked in a call
abbrev pub wind_turn : Bearing → HeadingConfig → Vec2 → Option WindEstimate → VehicleState → WindTurn
wind_turn leg config position estimate state =
    station_turn (on_station leg.bearing_rad config (minus position (here_of state))) leg.memory.wind config estimate state.heading_rad

-- with no finite commanded heading
unfoldable pub uncommanded : LegHeading → Float → HeadingConfig → Float → Vec2 → Option WindEstimate → VehicleState → Turn
unfolding wind_or_leg
uncommanded self dt config target position estimate state =
    let leg = bearing self config position (here_of state) in
    let turn = wind_turn leg config position estimate state in
    wind_or_leg turn.target_rad (with_wind leg.memory turn.wind) dt config target leg.bearing_rad state

-- a commanded heading that is not finite counts as none
unfoldable pub finite_angle : Option Float → Option Float
finite_angle None = None
finite_angle (Some heading) = cond (finite heading) (Some heading) None

unfoldable pub target_at : Option Float → LegHeading → Float → HeadingConfig → Float → Vec2 → Option WindEstimate → VehicleState → Turn
target_at None self dt config target position estimate state = uncommanded self dt config target position estimate state
target_at (Some heading) self dt config target position estimate state =
    record { memory = fresh; heading_rad = commanded_turn dt config target heading }

-- a finite commanded heading resets all
unfoldable pub target : LegHeading → Float → HeadingConfig → Float → Vec2 → Option Float → Option WindEstimate → VehicleState → Turn
unfolding target_at
target self dt config heading position commanded estimate state = target_at (finite_angle commanded) self dt config heading position estimate state

-- ---- landing: the heading is held, or turned with the wind

unfoldable pub held_or_turned : Option Float → LegHeading → Float → HeadingConfig → Float → Turn
held_or_turned None self dt config target = record { memory = self; heading_rad = target }
held_or_turned (Some heading) self dt config target = record { memory = self; heading_rad = commanded_turn dt config target heading }

unfoldable pub land_target : LegHeading → Float → HeadingConfig → Float → Option WindEstimate → VehicleState → Turn
unfolding held_or_turned
land_target self dt config heading estimate state =
    let kept = cleared self in
    let turn = wind.target kept.wind config estimate state.heading_rad in
    held_or_turned turn.target_rad (with_wind kept turn.wind) dt config heading

-- ---- what is said of it

-- A position that is not the leg's is new; with no leg remembered every one is.
abbrev pub New : Option Leg → Vec2 → Type 0
New None position = Unit {0}
New (Some leg) position = on_leg leg position ≡ false

-- the leg that starts at a new position
abbrev pub started : HeadingConfig → Vec2 → Vec2 → Leg
started config position here = record { to_m = position; bearing_rad = leg_bearing config (minus position here) }
