-- A call with its goal, in the order of the code: a look at the goal, which leaves the wind heading as it is; the wind, asked once; the turn. Assumes nothing.
use Rattle.std.specs.Prelude.{None, Option, Some}
use mathlib.Core.Path.{◌≡◌, refl}
use Rattle.math.specs.declared.vectors.Vec2.{Vec2}
use lib.Ieee.{Float}
use Rattle.wind.specs.declared.state.VehicleState.{VehicleState}
use Rattle.heading.specs.declared.HeadingConfig.{HeadingConfig}
use Rattle.heading.specs.declared.wind_heading.WindTurn.{WindTurn}
use Rattle.heading.specs.declared.leg_heading.LegHeading.{LegHeading}
use Rattle.heading.specs.declared.leg_heading.Goal.{Goal}
use Rattle.heading.specs.declared.leg_heading.Goal.TheVariants.{Waypoint, Land}
use Rattle.heading.specs.declared.leg_heading.Turn.{Turn}
use Rattle.heading.specs.declared.leg_heading.Approach.{Approach}
use Rattle.heading.proofs.Laws.Side.{bearing_keeps_wind}
use Rattle.heading.specs.LegHeading.{fresh, cleared, with_wind, commanded_turn, along_leg, station_turn, wind_or_leg, here_of, uncommanded, target}
use Rattle.heading.specs.LegHeading.{held_or_turned, land_target}
use Rattle.wind.specs.declared.estimate.WindEstimate.{WindEstimate}
use Rattle.heading.specs.Inner.{toward, commanded_angle, approach}

-- ---- the heading where none is commanded

-- the wind's, else kept in a land call, else along the leg
unfoldable pub turned_for : Option Float → Goal → Option Float → LegHeading → Float → HeadingConfig → Float → VehicleState → Turn
turned_for (Some to) goal bearing self dt config heading state = record { memory = self; heading_rad = commanded_turn dt config heading to }
turned_for None Land bearing self dt config heading state = record { memory = self; heading_rad = heading }
turned_for None (Waypoint position commanded) bearing self dt config heading state = along_leg self dt config heading bearing state

module _ (self : LegHeading) (dt : Float) (config : HeadingConfig) (heading : Float) (state : VehicleState) where
  turned_on_leg : (to : Option Float) (position : Vec2) (commanded bearing : Option Float)
      → wind_or_leg to self dt config heading bearing state ≡ turned_for to (Waypoint position commanded) bearing self dt config heading state
  unfolding turned_for wind_or_leg
  turned_on_leg None position commanded bearing = refl
  turned_on_leg (Some to) position commanded bearing = refl

  turned_in_land : (to bearing : Option Float) → held_or_turned to self dt config heading ≡ turned_for to Land bearing self dt config heading state
  unfolding turned_for held_or_turned
  turned_in_land None bearing = refl
  turned_in_land (Some to) bearing = refl

-- what the wind is asked, with the wind heading that the call began with
abbrev pub asked : Approach → LegHeading → HeadingConfig → Option WindEstimate → VehicleState → WindTurn
asked seen self config estimate state = station_turn seen.on_station self.wind config estimate state.heading_rad

-- a call with no commanded heading: the wind is asked, then the heading is turned
abbrev pub uncommanded_turn : Goal → Approach → LegHeading → Float → HeadingConfig → Float → Option WindEstimate → VehicleState → Turn
uncommanded_turn goal seen self dt config heading estimate state =
    let turn = asked seen self config estimate state in
    turned_for turn.target_rad goal seen.bearing_rad (with_wind seen.memory turn.wind) dt config heading state

module _ (self : LegHeading) (dt : Float) (config : HeadingConfig) (heading : Float) (estimate : Option WindEstimate) (state : VehicleState) where
  pub toward_commanded : (goal : Goal) (to : Float) → commanded_angle goal ≡ Some to
      → toward self dt config heading goal estimate state ≡ record { memory = fresh; heading_rad = commanded_turn dt config heading to }
  unfolding toward target commanded_angle
  toward_commanded (Waypoint position commanded) to e = rw e
  toward_commanded Land to e = cc

  pub toward_uncommanded : (goal : Goal) → commanded_angle goal ≡ None
      → toward self dt config heading goal estimate state ≡ uncommanded_turn goal (approach self config goal state) self dt config heading estimate state
  unfolding toward target uncommanded land_target commanded_angle approach station_turn cleared
  toward_uncommanded (Waypoint position commanded) e =
      rw (e, bearing_keeps_wind self config position (here_of state)) (turned_on_leg _ dt config heading state _ position commanded _)
  toward_uncommanded Land e = turned_in_land _ dt config heading state _ _
