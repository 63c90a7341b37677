-- How the port divides a waypoint or land call's heading: what its inner functions give. Nothing here has to be believed, since `target_rad` and
-- `land_target_rad` are stated without it. Assumes nothing.
use Rattle.std.specs.Prelude.{true, Float, None, Option}
use Rattle.math.specs.Vectors.{minus}
use Rattle.wind.specs.declared.state.VehicleState.{VehicleState}
use Rattle.heading.specs.declared.HeadingConfig.{HeadingConfig}
use Rattle.heading.specs.declared.leg_heading.LegHeading.{LegHeading}
use Rattle.heading.specs.declared.leg_heading.Goal.{Goal}
use Rattle.heading.specs.declared.leg_heading.Goal.TheVariants.{Waypoint, Land}
use Rattle.heading.specs.declared.leg_heading.Turn.{Turn}
use Rattle.heading.specs.declared.leg_heading.Approach.{Approach}
use Rattle.wind.specs.declared.estimate.WindEstimate.{WindEstimate}
use Rattle.heading.specs.LegHeading.{cleared, bearing, on_station, here_of, finite_angle, target, land_target}

-- the heading target for what a call flies to
unfoldable pub toward : LegHeading → Float → HeadingConfig → Float → Goal → Option WindEstimate → VehicleState → Turn
toward self dt config heading (Waypoint position commanded) estimate state = target self dt config heading position commanded estimate state
toward self dt config heading Land estimate state = land_target self dt config heading estimate state

-- a land call has no commanded heading
unfoldable pub commanded_angle : Goal → Option Float
commanded_angle (Waypoint position commanded) = finite_angle commanded
commanded_angle Land = None

-- what a call knows of its goal before it asks the wind; a land call is on station
unfoldable pub approach : LegHeading → HeadingConfig → Goal → VehicleState → Approach
approach self config (Waypoint position commanded) state =
    let leg = bearing self config position (here_of state) in
    let on = on_station leg.bearing_rad config (minus position (here_of state)) in
    record { memory = leg.memory; bearing_rad = leg.bearing_rad; on_station = on }
approach self config Land state = record { memory = cleared self; bearing_rad = None; on_station = true }
