-- The side of the wind, once picked, is kept by waypoint calls with no finite commanded heading, by land calls and by `clear`. A reset forgets it.
-- Assumes nothing.
use Rattle.std.specs.Prelude.{None, Option, Some}
use mathlib.Core.Path.{◌≡◌, refl}
use mathlib.Core.Bool.{Bool, true, false}
use mathlib.Core.List.{List, foldl}
use lib.Ieee.{Float}
use Rattle.math.specs.Math.{all_finite}
use Rattle.math.specs.Vectors.{minus}
use Rattle.math.specs.declared.vectors.Vec2.{Vec2}
use Rattle.wind.specs.declared.state.VehicleState.{VehicleState}
use Rattle.math.proofs.Laws.Cases.{cond_holds}
use Rattle.math.proofs.Laws.Feed.{kept_by_calls}
use Rattle.heading.specs.declared.HeadingConfig.{HeadingConfig}
use Rattle.heading.specs.declared.wind_heading.WindHeading.{WindHeading}
use Rattle.heading.specs.declared.leg_heading.LegHeading.{LegHeading}
use Rattle.heading.specs.declared.leg_heading.Bearing.{Bearing}
use Rattle.heading.specs.WindHeading as wind
use Rattle.heading.specs.LegHeading.{fresh, cleared, with_wind, on_leg, new_leg, bearing_of, bearing, on_station, here_of, station_turn}
use Rattle.heading.specs.LegHeading.{held_or_turned, land_target}
use Rattle.heading.proofs.Laws.WindHeading.{target_keeps_side}
use Rattle.wind.specs.declared.estimate.WindEstimate.{WindEstimate}
use Rattle.heading.specs.declared.leg_heading.Leg.{Leg}
use Rattle.heading.proofs.Laws.Leg.{Call, Uncommanded, called, leg_of, call_wind}

pub clear_keeps_wind : (self : LegHeading) → (cleared self).wind ≡ self.wind
unfolding cleared
clear_keeps_wind self = refl

pub reset_forgets_side : fresh.wind.side ≡ None
unfolding fresh wind.fresh
reset_forgets_side = refl

-- ---- the leg leaves the wind's memory alone

new_leg_keeps_wind : (self : LegHeading) (config : HeadingConfig) (position here : Vec2) → (new_leg self config position here).memory.wind ≡ self.wind
unfolding new_leg cleared
new_leg_keeps_wind self config position here = cond_holds (λ (b : Bearing). b.memory.wind ≡ self.wind) (all_finite here) (λ _. refl) (λ _. refl)

bearing_of_keeps_wind : (leg : Option Leg) (self : LegHeading) (config : HeadingConfig) (position here : Vec2)
    → (bearing_of leg self config position here).memory.wind ≡ self.wind
unfolding bearing_of
bearing_of_keeps_wind None self config position here = new_leg_keeps_wind self config position here
bearing_of_keeps_wind (Some leg) self config position here =
    cond_holds (λ (b : Bearing). b.memory.wind ≡ self.wind) (on_leg leg position) {y = new_leg self config position here} (λ _. refl)
    (λ _. new_leg_keeps_wind self config position here)

pub bearing_keeps_wind : (self : LegHeading) (config : HeadingConfig) (position here : Vec2) → (bearing self config position here).memory.wind ≡ self.wind
unfolding bearing
bearing_keeps_wind self config position here = bearing_of_keeps_wind self.leg self config position here

-- ---- a land call

landed : (to : Option Float) (m : LegHeading) (dt : Float) (config : HeadingConfig) (heading : Float) → (held_or_turned to m dt config heading).memory ≡ m
unfolding held_or_turned
landed None m dt config heading = refl
landed (Some to) m dt config heading = refl

-- it drops the leg and the yielding, and asks the wind
pub land_memory : (self : LegHeading) (dt : Float) (config : HeadingConfig) (heading : Float) (estimate : Option WindEstimate) (state : VehicleState)
    → (land_target self dt config heading estimate state).memory
    ≡ with_wind (cleared self) (wind.target self.wind config estimate state.heading_rad).wind
unfolding land_target cleared
land_memory self dt config heading estimate state =
    let turn = wind.target self.wind config estimate state.heading_rad in
    landed turn.target_rad (with_wind (cleared self) turn.wind) dt config heading

-- ---- the side over any operations but a reset

-- A waypoint call with no finite commanded heading, a land call, or `clear`.
pub data Operation : Type 0 where
  waypoint : (call : Call) → Uncommanded call → Operation
  land : Float → Float → Option WindEstimate → VehicleState → Operation
  clear : Operation

abbrev pub after : HeadingConfig → LegHeading → Operation → LegHeading
after config self (waypoint call none) = (called config self call).memory
after config self (land dt heading estimate state) = (land_target self dt config heading estimate state).memory
after config self clear = cleared self

module _ (s : Float) (config : HeadingConfig) where
  station_keeps_side : (holds : Bool) (memory : WindHeading) (estimate : Option WindEstimate) (heading : Float) → memory.side ≡ Some s
      → (station_turn holds memory config estimate heading).wind.side ≡ Some s
  unfolding station_turn
  station_keeps_side true memory estimate heading e = target_keeps_side s memory config estimate heading e
  station_keeps_side false memory estimate heading e = e

  pub keeps_side : (self : LegHeading) (operation : Operation) → self.wind.side ≡ Some s → (after config self operation).wind.side ≡ Some s
  unfolding with_wind cleared
  keeps_side self (waypoint call none) e =
      rw (call_wind config self call none)
      (station_keeps_side (on_station (leg_of config self call).bearing_rad config (minus call.position (here_of call.state)))
      (leg_of config self call).memory.wind call.estimate call.state.heading_rad
      (rw (bearing_keeps_wind self config call.position (here_of call.state)) e))
  keeps_side self (land dt heading estimate state) e =
      rw (land_memory self dt config heading estimate state) (target_keeps_side s self.wind config estimate state.heading_rad e)
  keeps_side self clear e = e

  pub side_kept_until_reset : (self : LegHeading) (operations : List Operation) → self.wind.side ≡ Some s
      → (foldl (after config) self operations).wind.side ≡ Some s
  side_kept_until_reset = kept_by_calls (after config) (λ (self : LegHeading). self.wind.side ≡ Some s) keeps_side
