-- The legs and yields of a waypoint call, from what the heading's laws say of the turn that it flies. Assumes nothing.
use mathlib.Core.Path.{◌≡◌, ap, ◌∙◌}
use mathlib.Core.Bool.{false, and-false}
use mathlib.Core.Logic.{◌⊎◌, inl, inr}
use lib.Dec.{T}
use lib.Ieee.{Float, binary32, is_nan, fits, lt}
use lib.Ieee.Bits.{is_true}
use lib.Ieee.Fits.{and_r}
use lib.Ieee.Scale.{finite}
use Rattle.floats.proofs.Laws.Order.{number}
use Rattle.math.specs.Math.{zero, wrap_angle}
use Rattle.math.specs.declared.vectors.Vec2.{Vec2}
use Rattle.math.proofs.Laws.Wrap.{wrap_finite}
use Rattle.wind.specs.declared.state.VehicleState.{VehicleState}
use Rattle.heading.specs.HoverWind as hover
use Rattle.heading.specs.LegHeading.{New, with_wind}
use Rattle.heading.specs.LegHeading as leg
use Rattle.heading.specs.WindHeading as wind
use Rattle.heading.specs.declared.HeadingConfig.{HeadingConfig}
use Rattle.heading.specs.declared.leg_heading.LegHeading.{LegHeading}
use Rattle.heading.proofs.Laws.Equality.{vector_numbers}
use Rattle.heading.proofs.Laws.Leg.{Call, Uncommanded, new_without_leg, nan_position_new, commanded_resets, call_on_leg}
use Rattle.heading.proofs.Laws.Leg.{new_position_as_cleared, new_position_ends_yielding, new_position_starts_leg, new_position_no_leg}
use Rattle.heading.proofs.Laws.Yield.{counts_while_off_and_slow, call_counts, yields_own_heading, yielding_lasts}
use Rattle.copter.specs.declared.commands.WaypointCommand.{WaypointCommand}
use Rattle.copter.specs.declared.memory.CopterGuidance.{CopterGuidance}
use Rattle.copter.specs.Guide.{wind_updated, fly_to, waypoint_call}
use Rattle.copter.specs.Calls.{waypoint_turn, NewPosition, Points, Legs}
use Rattle.copter.proofs.Laws.Heading.{waypoint_heading}

nan_among_numbers : (v : Vec2) → T (is_nan v.x) ⊎ T (is_nan v.y) → vector_numbers v ≡ false
nan_among_numbers v (inl h) = rw (is_true (is_nan v.x) h)
nan_among_numbers v (inr h) = rw (is_true (is_nan v.y) h) (and-false (number v.x))

module _ (self : CopterGuidance) (dt : Float) (state : VehicleState) (command : WaypointCommand) where
  -- what it is to the leg heading
  abbrev call : Call
  call =
      record {
        dt = dt;
        heading = self.memory.heading_rad;
        position = command.position_m;
        commanded = command.heading_rad;
        estimate = hover.estimate (wind_updated self.memory self.config dt state);
        state = state;
      }

  abbrev config : HeadingConfig
  config = self.config.guidance.heading

  abbrev before : LegHeading
  before = self.memory.leg_heading

  new_position : Uncommanded call → New before.leg command.position_m → NewPosition self dt state command (waypoint_call self dt state command)
  unfolding waypoint_call fly_to wind_updated
  new_position none new =
      record {
        count_zero = (new_position_ends_yielding config before call none new).0;
        not_yielding = (new_position_ends_yielding config before call none new).1;
        as_cleared = rw (new_position_as_cleared config before call none new);
        starts_leg = new_position_starts_leg config before call none new;
        no_leg = new_position_no_leg config before call none new;
      }

  module _ (p : T (fits binary32 self.memory.heading_rad)) (q : T (fits binary32 state.heading_rad)) where
    -- the answer to a turn to the craft's own heading
    points_own : (waypoint_turn self dt state command).heading_rad ≡ state.heading_rad → T (finite state.heading_rad)
        → Points (waypoint_call self dt state command).setpoint (wrap_angle state.heading_rad)
    unfolding waypoint_call fly_to
    points_own e f =
        let heads = waypoint_heading self dt state p q command in
        heads.to_target (rw e (wrap_finite state.heading_rad q f)) ∙ ap wrap_angle e

    pub waypoint_legs : Legs self dt state command (waypoint_call self dt state command)
    unfolding waypoint_call fly_to with_wind leg.fresh wind.fresh
    waypoint_legs =
        record {
          new_position = new_position;
          new_without_leg = new_without_leg before command.position_m;
          nan_is_new = λ h. nan_position_new before.leg command.position_m (nan_among_numbers command.position_m h);
          stays_on_leg = λ flown none. call_on_leg config before call none flown;
          commanded_resets = commanded_resets config before call;
          counts =
              λ l y.
              let e = call_counts config before call l.uncommanded l.no_wind_heading l.may_yield y in
              let count = counts_while_off_and_slow _ dt config self.memory.heading_rad state in
              (ap (λ (m : LegHeading). m.stuck_s) e ∙ count, ap (λ (m : LegHeading). m.yielding) e ∙ ap (lt config.heading_yield_s) count);
          yielding_lasts =
              λ flown none e o y.
              (yielding_lasts config flown before (record { call = call; uncommanded = none; on = o }) (record { flown = e; yields = y })).yields;
          flies_as_it_points =
              λ l y.
              points_own (yields_own_heading config before call l.uncommanded l.no_wind_heading l.may_yield y)
              (and_r (lt zero config.heading_yield_s) (finite state.heading_rad) (rw l.may_yield tt));
        }
