-- The leg in a waypoint call: which positions are new, what a new one does, and that a finite commanded heading resets all. Assumes nothing.
use Rattle.std.specs.Prelude.{None, Option, Some}
use mathlib.Core.Path.{◌≡◌, refl, ◌∙◌}
use mathlib.Core.Bool.{true, false}
use lib.Ieee.{Float}
use lib.Ieee.Scale.{finite}
use Rattle.math.specs.Math.{zero, all_finite}
use Rattle.math.specs.declared.vectors.Vec2.{Vec2}
use Rattle.wind.specs.declared.state.VehicleState.{VehicleState}
use Rattle.math.proofs.Laws.Cases.{cond_holds}
use Rattle.heading.specs.declared.HeadingConfig.{HeadingConfig}
use Rattle.heading.specs.declared.wind_heading.WindTurn.{WindTurn}
use Rattle.heading.specs.declared.leg_heading.Leg.{Leg}
use Rattle.heading.specs.declared.leg_heading.LegHeading.{LegHeading}
use Rattle.heading.specs.declared.leg_heading.Turn.{Turn}
use Rattle.heading.specs.declared.leg_heading.Bearing.{Bearing}
use Rattle.heading.specs.declared.leg_heading.Yielded.{Yielded}
use Rattle.heading.specs.Equality.{same_vector}
use Rattle.heading.specs.LegHeading.{New, started, fresh, cleared, with_wind, on_leg, new_leg, bearing_of, bearing, may_yield, stuck_for, counted}
use Rattle.heading.specs.LegHeading.{yielded, along_leg, wind_or_leg, here_of, wind_turn, uncommanded, finite_angle, target}
use Rattle.wind.specs.declared.estimate.WindEstimate.{WindEstimate}
use Rattle.heading.proofs.Laws.Equality.{vector_numbers, vector_same_itself, nan_vector_differs}

-- ---- which positions are on a leg

-- a position with a NaN in it is on no leg
pub nan_position_off_leg : (leg : Leg) (position : Vec2) → vector_numbers position ≡ false → on_leg leg position ≡ false
unfolding on_leg
nan_position_off_leg leg position = nan_vector_differs leg.to_m position

-- one that equals the leg's is on it
pub same_position_on_leg : (leg : Leg) (position : Vec2) → same_vector leg.to_m position ≡ true → on_leg leg position ≡ true
unfolding on_leg
same_position_on_leg leg position e = e

-- the leg's own position, with no NaN in it, is
pub own_position_on_leg : (leg : Leg) → vector_numbers leg.to_m ≡ true → on_leg leg leg.to_m ≡ true
own_position_on_leg leg e = same_position_on_leg leg leg.to_m (vector_same_itself leg.to_m ∙ e)

-- ---- which positions are new

pub new_without_leg : (self : LegHeading) (position : Vec2) → self.leg ≡ None → New self.leg position
new_without_leg self position e = rw e tt

pub nan_position_new : (leg : Option Leg) (position : Vec2) → vector_numbers position ≡ false → New leg position
nan_position_new None position e = tt
nan_position_new (Some leg) position e = nan_position_off_leg leg position e

-- ---- the leg after a look at the position

bearing_of_new : (leg : Option Leg) (self : LegHeading) (config : HeadingConfig) (position here : Vec2) → New leg position
    → bearing_of leg self config position here ≡ new_leg self config position here
unfolding bearing_of
bearing_of_new None self config position here n = refl
bearing_of_new (Some leg) self config position here n = rw n

module _ (self : LegHeading) (config : HeadingConfig) (position here : Vec2) where
  pub bearing_new : New self.leg position → bearing self config position here ≡ new_leg self config position here
  unfolding bearing
  bearing_new = bearing_of_new self.leg self config position here

  pub bearing_on_leg : (leg : Leg) → self.leg ≡ Some leg → on_leg leg position ≡ true
      → bearing self config position here ≡ record { memory = self; bearing_rad = leg.bearing_rad }
  unfolding bearing
  bearing_on_leg leg e o = rw (e, o)

  -- the yield count is 0 and yielding has ended
  pub new_leg_ends_yielding : ((new_leg self config position here).memory.stuck_s ≡ zero) × ((new_leg self config position here).memory.yielding ≡ false)
  unfolding new_leg cleared
  new_leg_ends_yielding =
      cond_holds (λ (b : Bearing). (b.memory.stuck_s ≡ zero) × (b.memory.yielding ≡ false)) (all_finite here) (λ _. (refl, refl)) (λ _. (refl, refl))

  pub new_leg_starts : all_finite here ≡ true
      → (new_leg self config position here).memory
      ≡ record { leg = Some (started config position here); stuck_s = zero; yielding = false; wind = self.wind }
  unfolding new_leg
  new_leg_starts e = rw e

  pub new_leg_none : all_finite here ≡ false → (new_leg self config position here).memory ≡ cleared self
  unfolding new_leg
  new_leg_none e = rw e

  -- of what was remembered only the wind heading counts
  pub bearing_as_cleared : New self.leg position → bearing self config position here ≡ bearing (cleared self) config position here
  unfolding bearing cleared new_leg
  bearing_as_cleared n = bearing_new n

-- ---- a waypoint call

pub record Call : Type 0 where
  pub dt : Float
  pub heading : Float
  pub position : Vec2
  pub commanded : Option Float
  pub estimate : Option WindEstimate
  pub state : VehicleState

-- with no finite commanded heading
abbrev pub Uncommanded : Call → Type 0
Uncommanded call = finite_angle call.commanded ≡ None

pub no_heading_uncommanded : finite_angle None ≡ None
unfolding finite_angle
no_heading_uncommanded = refl

pub not_finite_uncommanded : (heading : Float) → finite heading ≡ false → finite_angle (Some heading) ≡ None
unfolding finite_angle
not_finite_uncommanded heading e = rw e

pub finite_commanded : (heading : Float) → finite heading ≡ true → finite_angle (Some heading) ≡ Some heading
unfolding finite_angle
finite_commanded heading e = rw e

-- what a yield step and a turn with the wind leave alone
yielded_keeps : (m : LegHeading) (dt : Float) (config : HeadingConfig) (heading : Float) (state : VehicleState)
    → ((yielded m dt config heading state).memory.leg ≡ m.leg) × ((yielded m dt config heading state).memory.wind ≡ m.wind)
unfolding yielded counted
yielded_keeps m dt config heading state =
    cond_holds (λ (y : Yielded). (y.memory.leg ≡ m.leg) × (y.memory.wind ≡ m.wind)) (may_yield config state)
    (λ _.
    cond_holds (λ (y : Yielded). (y.memory.leg ≡ m.leg) × (y.memory.wind ≡ m.wind)) m.yielding
    {y = counted m (stuck_for m.stuck_s dt config heading state) config} (λ _. (refl, refl)) (λ _. (refl, refl)))
    (λ _. (refl, refl))

wind_or_leg_keeps : (to : Option Float) (m : LegHeading) (dt : Float) (config : HeadingConfig) (heading : Float) (b : Option Float) (state : VehicleState)
    → ((wind_or_leg to m dt config heading b state).memory.leg ≡ m.leg) × ((wind_or_leg to m dt config heading b state).memory.wind ≡ m.wind)
unfolding wind_or_leg along_leg
wind_or_leg_keeps None m dt config heading b state = yielded_keeps m dt config heading state
wind_or_leg_keeps (Some to) m dt config heading b state = (refl, refl)

abbrev pub called : HeadingConfig → LegHeading → Call → Turn
called config self call = target self call.dt config call.heading call.position call.commanded call.estimate call.state

-- the leg that a call flies, and what it asks the wind
abbrev pub leg_of : HeadingConfig → LegHeading → Call → Bearing
leg_of config self call = bearing self config call.position (here_of call.state)

abbrev pub wind_of : HeadingConfig → LegHeading → Call → WindTurn
wind_of config self call = wind_turn (leg_of config self call) config call.position call.estimate call.state

module _ (config : HeadingConfig) (self : LegHeading) (call : Call) where
  pub commanded_resets : (heading : Float) → finite_angle call.commanded ≡ Some heading → (called config self call).memory ≡ fresh
  unfolding target
  commanded_resets heading e = rw e

  module _ (none : Uncommanded call) where
    pub call_uncommanded : called config self call
        ≡ wind_or_leg (wind_of config self call).target_rad (with_wind (leg_of config self call).memory (wind_of config self call).wind) call.dt config
        call.heading (leg_of config self call).bearing_rad call.state
    unfolding target uncommanded
    call_uncommanded = rw none

    kept : ((called config self call).memory.leg ≡ (leg_of config self call).memory.leg)
        × ((called config self call).memory.wind ≡ (wind_of config self call).wind)
    unfolding with_wind
    kept =
        rw call_uncommanded
        (wind_or_leg_keeps (wind_of config self call).target_rad (with_wind (leg_of config self call).memory (wind_of config self call).wind) call.dt config
        call.heading (leg_of config self call).bearing_rad call.state)

    pub call_leg : (called config self call).memory.leg ≡ (leg_of config self call).memory.leg
    call_leg = kept.0

    pub call_wind : (called config self call).memory.wind ≡ (wind_of config self call).wind
    call_wind = kept.1

    module _ (new : New self.leg call.position) where
      -- The call goes as if the leg, the yield count and the yielding had been forgotten before it.
      pub new_position_as_cleared : called config self call ≡ called config (cleared self) call
      unfolding target uncommanded
      new_position_as_cleared = rw (none, bearing_as_cleared self config call.position (here_of call.state) new)

      -- nothing is counted and nothing yields when this call comes to count
      pub new_position_ends_yielding : ((leg_of config self call).memory.stuck_s ≡ zero) × ((leg_of config self call).memory.yielding ≡ false)
      new_position_ends_yielding =
          rw (bearing_new self config call.position (here_of call.state) new) (new_leg_ends_yielding self config call.position (here_of call.state))

      pub new_position_starts_leg : all_finite (here_of call.state) ≡ true
          → (called config self call).memory.leg ≡ Some (started config call.position (here_of call.state))
      new_position_starts_leg e =
          rw (call_leg, bearing_new self config call.position (here_of call.state) new, new_leg_starts self config call.position (here_of call.state) e)

      pub new_position_no_leg : all_finite (here_of call.state) ≡ false → (called config self call).memory.leg ≡ None
      unfolding cleared
      new_position_no_leg e =
          rw (call_leg, bearing_new self config call.position (here_of call.state) new, new_leg_none self config call.position (here_of call.state) e)

    -- so does a call at a position with a NaN in it, which is always new
    pub nan_position_as_cleared : vector_numbers call.position ≡ false → called config self call ≡ called config (cleared self) call
    nan_position_as_cleared e = new_position_as_cleared (nan_position_new self.leg call.position e)

    -- on the leg it is kept
    pub call_on_leg : (leg : Leg) → self.leg ≡ Some leg → on_leg leg call.position ≡ true
        → (called config self call).memory.leg ≡ Some leg
    call_on_leg leg e o = rw (call_leg, bearing_on_leg self config call.position (here_of call.state) leg e o) e
