-- Yielding: the yield count is a sum of time steps while the heading is stuck and 0 when it is not, yielding starts with the first count above the
-- yield time, and it lasts until the position changes. Assumes nothing.
use Rattle.std.specs.Prelude.{None, Option, Some}
use mathlib.Core.Path.{◌≡◌, refl, sym}
use mathlib.Core.Bool.{Bool, true, false, cond, ◌&&◌}
use mathlib.Core.List.{List, [], ◌∷◌, foldl}
use lib.Ieee.{Float, lt}
use lib.Ieee.Scale.{finite}
use Rattle.floats.specs.Ops.{◌⊕◌, ◌⊖◌, ◌⊗◌}
use Rattle.floats.specs.Compare.{abs, signum}
use Rattle.math.specs.Math.{zero, all_finite, wrap_angle}
use Rattle.wind.specs.declared.state.VehicleState.{VehicleState}
use Rattle.math.proofs.Laws.Feed.{kept_by_calls}
use Rattle.heading.specs.declared.HeadingConfig.{HeadingConfig}
use Rattle.heading.specs.declared.wind_heading.WindHeading.{WindHeading}
use Rattle.heading.specs.declared.leg_heading.Leg.{Leg}
use Rattle.heading.specs.declared.leg_heading.LegHeading.{LegHeading}
use Rattle.heading.specs.LegHeading.{New, started, with_wind, on_leg, may_yield, stuck, stuck_for, counted, yielded}
use Rattle.heading.specs.LegHeading.{along_leg, wind_or_leg, here_of, station_turn}
use Rattle.heading.proofs.Laws.WindHeading.{off_moves_nothing}
use Rattle.wind.specs.declared.estimate.WindEstimate.{WindEstimate}
use Rattle.heading.proofs.Laws.Leg.{bearing_new, bearing_on_leg, new_leg_starts, Call, Uncommanded, called, leg_of, wind_of, call_uncommanded, call_on_leg}

-- ---- the count in one call

module _ (count dt : Float) (config : HeadingConfig) (heading : Float) (state : VehicleState) where
  pub stuck_adds_time : stuck config heading state ≡ true → stuck_for count dt config heading state ≡ count ⊕ dt
  unfolding stuck_for
  stuck_adds_time e = rw e

  -- Stuck is off the target by more than the yield angle, and turning toward it slower than the yield rate.
  pub counts_while_off_and_slow :
      let error = wrap_angle (heading ⊖ state.heading_rad) in
      let off = lt config.heading_yield_rad (abs error) in
      let slow = lt (signum error ⊗ state.angular_velocity_z_radps) config.heading_yield_rate_radps in
      stuck_for count dt config heading state ≡ cond (off && slow) (count ⊕ dt) zero
  unfolding stuck_for stuck
  counts_while_off_and_slow = refl

  pub free_counts_zero : stuck config heading state ≡ false → stuck_for count dt config heading state ≡ zero
  unfolding stuck_for
  free_counts_zero e = rw e

module _ (m : LegHeading) (dt : Float) (config : HeadingConfig) (heading : Float) (state : VehicleState) where
  -- with no yield time, or no finite heading
  pub yield_off : may_yield config state ≡ false → yielded m dt config heading state ≡ record { memory = m; yields = false }
  unfolding yielded
  yield_off e = rw e

  pub yielding_yields : may_yield config state ≡ true → m.yielding ≡ true → yielded m dt config heading state ≡ record { memory = m; yields = true }
  unfolding yielded
  yielding_yields e y = rw (e, y)

  pub yield_counts : may_yield config state ≡ true → m.yielding ≡ false
      → yielded m dt config heading state ≡ counted m (stuck_for m.stuck_s dt config heading state) config
  unfolding yielded
  yield_counts e y = rw (e, y)

  -- that it yields is what is remembered
  yields_as_remembered : may_yield config state ≡ true
      → (yielded m dt config heading state).yields ≡ (yielded m dt config heading state).memory.yielding
  yields_as_remembered e = go m.yielding refl
    where
      go : (b : Bool) → m.yielding ≡ b → (yielded m dt config heading state).yields ≡ (yielded m dt config heading state).memory.yielding
      go true y = rw (yielding_yields e y) (sym y)
      go false y = unfold counted in rw (yield_counts e y)

  yielding_stays : m.yielding ≡ true → (yielded m dt config heading state).memory.yielding ≡ true
  yielding_stays y = go (may_yield config state) refl
    where
      go : (b : Bool) → may_yield config state ≡ b → (yielded m dt config heading state).memory.yielding ≡ true
      go true e = rw (yielding_yields e y) y
      go false e = rw (yield_off e) y

-- ---- the memory after a call

-- a memory with another count, which may start the yielding
abbrev pub with_count : HeadingConfig → LegHeading → Float → LegHeading
with_count config m count = record { leg = m.leg; stuck_s = count; yielding = lt config.heading_yield_s count; wind = m.wind }

-- the memory that a call hands on to counting
abbrev pub handed : HeadingConfig → LegHeading → Call → LegHeading
handed config self call = with_wind (leg_of config self call).memory (wind_of config self call).wind

module _ (config : HeadingConfig) (self : LegHeading) (call : Call) (none : Uncommanded call) where
  -- turned with the wind it is not counted
  pub wind_turn_not_counted : (to : Float) → (wind_of config self call).target_rad ≡ Some to → (called config self call).memory ≡ handed config self call
  unfolding wind_or_leg
  wind_turn_not_counted to e = rw (call_uncommanded config self call none, e)

  module _ (no_wind : (wind_of config self call).target_rad ≡ None) where
    pub call_along_leg : called config self call
        ≡ along_leg (handed config self call) call.dt config call.heading (leg_of config self call).bearing_rad call.state
    unfolding wind_or_leg
    call_along_leg = rw (call_uncommanded config self call none, no_wind)

    -- nor with no yield time, or no finite heading
    pub yield_off_not_counted : may_yield config call.state ≡ false → (called config self call).memory ≡ handed config self call
    unfolding along_leg
    yield_off_not_counted e = rw (call_along_leg, yield_off (handed config self call) call.dt config call.heading call.state e)

    module _ (may : may_yield config call.state ≡ true) where
      -- once yielding it is not counted, and the answer is the craft's own heading
      pub yielding_answers_own_heading : (handed config self call).yielding ≡ true
          → called config self call ≡ record { memory = handed config self call; heading_rad = call.state.heading_rad }
      unfolding along_leg
      yielding_answers_own_heading y = rw (call_along_leg, yielding_yields (handed config self call) call.dt config call.heading call.state may y)

      -- A call that leaves it yielding answers the craft's own heading, also where this call's count starts the yielding.
      pub yields_own_heading : (called config self call).memory.yielding ≡ true → (called config self call).heading_rad ≡ call.state.heading_rad
      unfolding along_leg
      yields_own_heading y =
          let m = handed config self call in
          let yields = yields_as_remembered m call.dt config call.heading call.state may in
          let y' : (yielded m call.dt config call.heading call.state).memory.yielding ≡ true = rw call_along_leg at y in
          rw (call_along_leg, yields, y')

      pub call_counts : (handed config self call).yielding ≡ false
          → (called config self call).memory
          ≡ with_count config (handed config self call) (stuck_for (handed config self call).stuck_s call.dt config call.heading call.state)
      unfolding along_leg counted
      call_counts y = rw (call_along_leg, yield_counts (handed config self call) call.dt config call.heading call.state may y)

-- ---- yielding lasts until the position changes

turn_keeps_yielding : (to : Option Float) (m : LegHeading) (dt : Float) (config : HeadingConfig) (heading : Float) (b : Option Float) (state : VehicleState)
    → m.yielding ≡ true → (wind_or_leg to m dt config heading b state).memory.yielding ≡ true
unfolding wind_or_leg along_leg
turn_keeps_yielding None m dt config heading b state y = yielding_stays m dt config heading state y
turn_keeps_yielding (Some to) m dt config heading b state y = y

-- A call with no finite commanded heading, at a position of the leg.
pub record LegCall (leg : Leg) : Type 0 where
  pub call : Call
  pub uncommanded : Uncommanded call
  pub on : on_leg leg call.position ≡ true

abbrev pub after : {leg : Leg} → HeadingConfig → LegHeading → LegCall leg → LegHeading
after config self next = (called config self next.call).memory

-- The leg is flown, and its heading is yielded.
pub record Yielding (leg : Leg) (self : LegHeading) : Type 0 where
  pub flown : self.leg ≡ Some leg
  pub yields : self.yielding ≡ true

module _ (config : HeadingConfig) (leg : Leg) where
  module _ (self : LegHeading) (next : LegCall leg) (y : Yielding leg self) where
    handed_yielding : (handed config self next.call).yielding ≡ true
    unfolding with_wind
    handed_yielding = rw (bearing_on_leg self config next.call.position (here_of next.call.state) leg y.flown next.on) y.yields

    pub yielding_lasts : Yielding leg (after config self next)
    yielding_lasts =
        let call = next.call in
        let stays : (called config self call).memory.yielding ≡ true =
        rw (call_uncommanded config self call next.uncommanded)
        (turn_keeps_yielding (wind_of config self call).target_rad (handed config self call) call.dt config call.heading
        (leg_of config self call).bearing_rad call.state
        handed_yielding) in
        record { flown = call_on_leg config self call next.uncommanded leg y.flown next.on; yields = stays }

    -- where the wind gives no heading, the answer is the craft's own
    pub yielding_leg_answers_own_heading : (wind_of config self next.call).target_rad ≡ None → may_yield config next.call.state ≡ true
        → (called config self next.call).heading_rad ≡ next.call.state.heading_rad
    yielding_leg_answers_own_heading no_wind may = rw (yielding_answers_own_heading config self next.call next.uncommanded no_wind may handed_yielding)

  pub yielding_lasts_on_leg : (self : LegHeading) (calls : List (LegCall leg)) → Yielding leg self → Yielding leg (foldl (after config) self calls)
  yielding_lasts_on_leg = kept_by_calls (after config) (Yielding leg) yielding_lasts

-- ---- the count over calls, with the wind heading off

-- A finite heading is stuck.
pub record Stuck (config : HeadingConfig) (call : Call) : Type 0 where
  pub finite_heading : finite call.state.heading_rad ≡ true
  pub is_stuck : stuck config call.heading call.state ≡ true

pub record StuckCall (config : HeadingConfig) (leg : Leg) : Type 0 where
  pub leg_call : LegCall leg
  pub stuck_heading : Stuck config leg_call.call

abbrev pub stuck_after : {config : HeadingConfig} {leg : Leg} → LegHeading → StuckCall config leg → LegHeading
stuck_after {config} self next = after config self next.leg_call

abbrev pub count_longer : {config : HeadingConfig} {leg : Leg} → Float → StuckCall config leg → Float
count_longer count next = count ⊕ next.leg_call.call.dt

-- the count with the time steps of calls added, one after the other
abbrev pub count_after : {config : HeadingConfig} {leg : Leg} → Float → List (StuckCall config leg) → Float
count_after count calls = foldl count_longer count calls

-- none of these counts is above the yield time
abbrev pub NeverAbove : {config : HeadingConfig} {leg : Leg} → Float → List (StuckCall config leg) → Type 0
NeverAbove count [] = Unit {0}
NeverAbove {config} count (next ∷ calls) =
    (lt config.heading_yield_s (count_longer count next) ≡ false) × NeverAbove (count_longer count next) calls

module _ (config : HeadingConfig) (off : lt zero config.wind_heading_min_mps ≡ false) (timed : lt zero config.heading_yield_s ≡ true) where
  station_off : (holds : Bool) (memory : WindHeading) (estimate : Option WindEstimate) (heading : Float)
      → station_turn holds memory config estimate heading ≡ record { wind = memory; target_rad = None }
  unfolding station_turn
  station_off true memory estimate heading = off_moves_nothing memory config estimate heading off
  station_off false memory estimate heading = refl

  counts : (self : LegHeading) (call : Call) → Uncommanded call → Stuck config call → (leg_of config self call).memory.yielding ≡ false
      → (called config self call).memory ≡ with_count config (leg_of config self call).memory ((leg_of config self call).memory.stuck_s ⊕ call.dt)
  unfolding with_wind
  counts self call none s y =
      let m = (leg_of config self call).memory in
      rw (
        call_counts config self call none (rw station_off) (rw (timed, s.finite_heading)) y,
        station_off,
        stuck_adds_time m.stuck_s call.dt config call.heading call.state s.is_stuck,
      )

  -- A call at a new position counts from 0.
  pub first_call_counts : (self : LegHeading) (call : Call) → Uncommanded call → Stuck config call → New self.leg call.position
      → all_finite (here_of call.state) ≡ true
      → (called config self call).memory
      ≡ with_count config
      (record { leg = Some (started config call.position (here_of call.state)); stuck_s = zero; yielding = false; wind = self.wind })
      (zero ⊕ call.dt)
  first_call_counts self call none s n f =
      let here = here_of call.state in
      let e = bearing_new self config call.position here n in
      let starts = new_leg_starts self config call.position here f in
      rw (counts self call none s (rw (e, starts)), e, starts)

  module _ (leg : Leg) where
    pub stuck_call_counts : (self : LegHeading) (next : StuckCall config leg) → self.leg ≡ Some leg → self.yielding ≡ false
        → stuck_after self next ≡ with_count config self (count_longer self.stuck_s next)
    stuck_call_counts self next l y =
        let call = next.leg_call.call in
        let e = bearing_on_leg self config call.position (here_of call.state) leg l next.leg_call.on in
        rw (counts self call next.leg_call.uncommanded next.stuck_heading (rw e y), e)

    -- While no count is above the yield time, every call is counted and none yields.
    pub stuck_calls_count : (self : LegHeading) (calls : List (StuckCall config leg)) → self.leg ≡ Some leg → self.yielding ≡ false
        → NeverAbove self.stuck_s calls
        → foldl stuck_after self calls ≡ record { leg = self.leg; stuck_s = count_after self.stuck_s calls; yielding = false; wind = self.wind }
    stuck_calls_count self [] l y n = rw (← y)
    stuck_calls_count self (next ∷ calls) l y n =
        rw (stuck_call_counts self next l y)
        (stuck_calls_count (with_count config self (count_longer self.stuck_s next)) calls l n.0 n.1)

    -- The call after them yields exactly if its count is above.
    pub yields_with_first_above : (self : LegHeading) (calls : List (StuckCall config leg)) (next : StuckCall config leg) → self.leg ≡ Some leg
        → self.yielding ≡ false → NeverAbove self.stuck_s calls
        → stuck_after (foldl stuck_after self calls) next ≡ with_count config self (count_longer (count_after self.stuck_s calls) next)
    yields_with_first_above self calls next l y n =
        let counted_up : LegHeading =
        record { leg = self.leg; stuck_s = count_after self.stuck_s calls; yielding = false; wind = self.wind } in
        rw (stuck_calls_count self calls l y n) (stuck_call_counts counted_up next l refl)

  -- From the call that starts a leg on: while no count is above the yield time nothing yields, and the call after that yields exactly if its count is.
  pub leg_yields_with_first_above : (self : LegHeading) (first : Call) → Uncommanded first → Stuck config first → New self.leg first.position
      → all_finite (here_of first.state) ≡ true → lt config.heading_yield_s (zero ⊕ first.dt) ≡ false
      → (calls : List (StuckCall config (started config first.position (here_of first.state))))
      (next : StuckCall config (started config first.position (here_of first.state))) → NeverAbove (zero ⊕ first.dt) calls
      → stuck_after (foldl stuck_after (called config self first).memory calls) next
      ≡ with_count config (called config self first).memory (count_longer (count_after (zero ⊕ first.dt) calls) next)
  leg_yields_with_first_above self first none s n f below calls next never =
      let leg = started config first.position (here_of first.state) in
      rw (first_call_counts self first none s n f)
      (yields_with_first_above leg
      (with_count config (record { leg = Some leg; stuck_s = zero; yielding = false; wind = self.wind }) (zero ⊕ first.dt)) calls next refl below never)
