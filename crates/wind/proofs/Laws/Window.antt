-- The window with accepted time steps: specs/Window.antt's `WindowCloses`, that it closes after at most 820 samples and at the least step at the
-- 820th. So its count neither overflows nor loses a digit as a float, and the time elapsed is finite. Assumes nothing.
use Rattle.std.specs.Prelude.{None, Option, Some}
use Rattle.std.proofs.Common.{◌≡◌, ℕ, zero, suc, ◌+◌, ◌%◌, ◌^◌, ◌≤◌, Bool, true, false, cond, T, ◌⊎◌, List, [], ◌∷◌, length, take}
use Rattle.std.proofs.Common.{refl, ◌∙◌, inl, inr, ⊎_elim, le_of_suc-le-suc, add-zero, mul-le-mul_right, mod-eq_of_lt, lt_of_not-le, zero-add}
use Rattle.std.proofs.Common.{arith, lit<, lit≤}
use lib.Ieee.{Float, binary32, is_nan, of_bits, of_int, round, lt, le, add}
use lib.Ieee.Back.{round_whole}
use lib.Ieee.Exact.{HasValue}
use lib.Ieee.Order.{round_mono}
use lib.Ieee.Scale.{finite}
use Rattle.floats.specs.Ops.{◌⊕◌}
use Rattle.floats.proofs.Laws.Order.{+0, float_le_trans, le_lt_trans, lt→le, lt_excludes, le_not_lt, number, finite_between, finite→number}
use Rattle.floats.proofs.Laws.Round.{round_number, round_nonneg}
use Rattle.floats.proofs.Laws.Fractions.{add_alike}
use Rattle.floats.proofs.Laws.Grid.{round_count}
use Rattle.floats.proofs.Laws.Sum.{add_mono, add_finite_number}
use Rattle.math.specs.Math.{one}
use Rattle.controllers.specs.RateDivider.{shortest, Accepted}
use Rattle.wind.specs.declared.state.VehicleState.{VehicleState}
use Rattle.wind.specs.declared.drag.WindConfig.{WindConfig}
use Rattle.wind.specs.declared.sample.Sample.{Sample}
use Rattle.wind.specs.declared.window.Window.{Window}
use Rattle.wind.specs.declared.window.WindEstimator.{WindEstimator}
use Rattle.wind.specs.Drag.{is_on}
use Rattle.wind.specs.Sample.{from_state}
use Rattle.wind.specs.Wind.{update_period, empty, grown, closed, fresh, gathered, taken, update}
use Rattle.wind.specs.Window.{steps, OpenWindow, OneMore, Updated, unchanged, open_still, finished}
use Rattle.wind.specs.Window.{AcceptedSample, updates, sums, LeastSteps, ClosesAt, WindowCloses}
use Rattle.wind.proofs.Laws.Sample.{either_way}

-- ---- time steps

least_step_value : HasValue shortest false 1 4096
unfolding of_bits
least_step_value = (refl, refl)

steps_value : (n : ℕ) → n ≤ 2 ^ 24 → HasValue (steps n) false n 4096
steps_value n h = round_count binary32 false n 12 (lit≤ tt) h

steps_mono : (m n : ℕ) → m ≤ n → T (le (steps m) (steps n))
steps_mono m n h = round_mono binary32 m 4096 n 4096 (lit< tt) (lit< tt) (mul-le-mul_right 4096 h)

one_step_more : (n : ℕ) → n ≤ 2 ^ 24 → steps n ⊕ shortest ≡ steps (n + 1)
one_step_more n h = add_alike binary32 (steps n) shortest false n 1 4096 (lit< tt) (steps_value n h) least_step_value

pub step_finite : (dt : Float) → Accepted dt → T (finite dt)
unfolding of_bits
step_finite dt a = finite_between shortest dt one tt tt a.at_least a.at_most

-- ---- a window that is open

-- 820 steps are past 0.2 s
period_passed : T (le update_period (steps 820))
unfolding of_bits round le
period_passed = tt

-- that it is long and short enough tells the rest
pub open_window : (w : Window) → T (le (steps w.ticks) w.elapsed_s) → T (lt w.elapsed_s update_period) → OpenWindow w
unfolding of_bits
open_window w l s =
    let n = w.ticks in
    let t = w.elapsed_s in
    let z = float_le_trans +0 (steps n) t (round_nonneg binary32 n 4096) l in
    let past : 820 ≤ n → T (le update_period t) =
    λ h. float_le_trans update_period (steps 820) t period_passed (float_le_trans (steps 820) (steps n) t (steps_mono 820 n h) l) in
    record {
      few = lt_of_not-le (λ (h : 820 ≤ n). lt_excludes t update_period s (past h));
      long = l;
      short = s;
      non_negative = z;
      is_finite = finite_between +0 t update_period tt tt z (lt→le t update_period s);
    }

pub empty_open : OpenWindow empty
unfolding empty of_bits round le lt
empty_open = open_window empty tt tt

-- ---- one sample more

-- 1 s more than 0.2 s is finite
period_and_step_finite : T (finite (update_period ⊕ one))
unfolding of_bits add
period_and_step_finite = tt

module _ (w : Window) (dt : Float) (o : OpenWindow w) (a : Accepted dt) where
  sum_number : T (number (w.elapsed_s ⊕ dt))
  sum_number = add_finite_number binary32 w.elapsed_s dt o.is_finite (step_finite dt a)

  sum_long : T (le (steps (w.ticks + 1)) (w.elapsed_s ⊕ dt))
  sum_long =
      let n = w.ticks in
      let e = one_step_more n (omega (arith, o.few)) in
      let p : T (number (steps n ⊕ shortest)) = rw e (round_number binary32 false (n + 1) 4096) in
      rw e at (add_mono binary32 (steps n) w.elapsed_s shortest dt o.long a.at_least p sum_number)

  sum_finite : T (finite (w.elapsed_s ⊕ dt))
  sum_finite =
      let t = w.elapsed_s in
      finite_between +0 (t ⊕ dt) (update_period ⊕ one) tt period_and_step_finite
      (float_le_trans +0 (steps (w.ticks + 1)) (t ⊕ dt) (round_nonneg binary32 (w.ticks + 1) 4096) sum_long)
      (add_mono binary32 t update_period dt one (lt→le t update_period o.short) a.at_most sum_number
      (finite→number (update_period ⊕ one) period_and_step_finite))

pub grown_counts : (w : Window) (dt : Float) (sample : Sample) → OpenWindow w → Accepted dt → OneMore w (grown w dt sample)
unfolding grown of_int
grown_counts w dt sample o a =
    let n = w.ticks in
    let e : (n + 1) % 2 ^ 32 ≡ n + 1 = mod-eq_of_lt (omega (arith, o.few)) in
    record {
      counted = e;
      few = rw e (omega (arith, o.few));
      count_exact = rw e (round_whole binary32 false (n + 1) (omega (arith, o.few)));
      long = rw e (sum_long w dt o a);
      is_finite = sum_finite w dt o a;
    }

-- ---- an update

-- still short, or long enough to close
short_or_long : (w : Window) (x y : WindEstimator) (b : Bool) → lt w.elapsed_s update_period ≡ b → T (le (steps w.ticks) w.elapsed_s)
    → T (finite w.elapsed_s) → ((cond b x y ≡ x) × OpenWindow w) ⊎ ((cond b x y ≡ y) × T (le update_period w.elapsed_s))
unfolding of_bits is_nan
short_or_long w x y true e l f = inl (refl, open_window w l (rw e tt))
short_or_long w x y false e l f = inr (refl, rw (le_not_lt update_period w.elapsed_s tt (finite→number w.elapsed_s f), e) tt)

-- the window stays open, or it closes
gathered_cases : (self : WindEstimator) (dt : Float) (config : WindConfig) (sample : Sample) → OneMore self.window (grown self.window dt sample) →
    let w = grown self.window dt sample in
    ((gathered self dt config sample ≡ record { filter = self.filter; window = w }) × OpenWindow w)
    ⊎ ((gathered self dt config sample ≡ record { filter = Some (closed self.filter config w); window = empty })
    × T (le update_period w.elapsed_s))
unfolding gathered
gathered_cases self dt config sample m =
    let w = grown self.window dt sample in
    short_or_long w _ _ (lt w.elapsed_s update_period) refl m.long m.is_finite

sample_cases : (sampled : Option Sample) (self : WindEstimator) (dt : Float) (config : WindConfig) → OpenWindow self.window → Accepted dt
    → Updated self config (taken sampled self dt config)
unfolding taken
sample_cases None self dt config o a = unchanged
sample_cases (Some sample) self dt config o a =
    let w = grown self.window dt sample in
    let m = grown_counts self.window dt sample o a in
    ⊎_elim (λ p. rw p.0 (open_still w m p.1)) (λ p. rw p.0 (finished w m p.1)) (gathered_cases self dt config sample m)

pub update_cases : (self : WindEstimator) (dt : Float) (config : WindConfig) (state : VehicleState) → OpenWindow self.window → Accepted dt
    → Updated self config (update self dt config state)
unfolding update
update_cases self dt config state o a = go (is_on config)
  where
    go : (b : Bool) → Updated self config (cond b (taken (from_state state config.max_axial_speed_mps) self dt config) self)
    go true = sample_cases (from_state state config.max_axial_speed_mps) self dt config o a
    go false = unchanged

pub update_open : (self : WindEstimator) (dt : Float) (config : WindConfig) (state : VehicleState) → OpenWindow self.window → Accepted dt
    → OpenWindow (update self dt config state).window
update_open self dt config state o a = go (update_cases self dt config state o a)
  where
    go : {after : WindEstimator} → Updated self config after → OpenWindow after.window
    go unchanged = o
    go (open_still w m p) = p
    go (finished w m p) = empty_open

pub fresh_open : OpenWindow fresh.window
unfolding fresh
fresh_open = empty_open

-- ---- a whole window

-- with an accepted sample more
abbrev wider : {config : WindConfig} → Window → AcceptedSample config → Window
wider window next = grown window next.dt next.sample

update_gathers : (self : WindEstimator) (config : WindConfig) (next : AcceptedSample config) → is_on config ≡ true
    → update self next.dt config next.state ≡ gathered self next.dt config next.sample
unfolding update taken
update_gathers self config next on = rw (on, next.is_taken)

updates_same : (config : WindConfig) (samples : List (AcceptedSample config)) {a b : WindEstimator} → a ≡ b
    → updates config a samples ≡ updates config b samples
updates_same config samples e = rw e

module _ (self : WindEstimator) (config : WindConfig) (next : AcceptedSample config) (samples : List (AcceptedSample config))
    (m : OneMore self.window (wider self.window next)) where
  closes_now : update self next.dt config next.state
      ≡ record { filter = Some (closed self.filter config (wider self.window next)); window = empty }
      → T (le update_period (wider self.window next).elapsed_s) → ClosesAt self config (next ∷ samples) 1
  unfolding updates sums
  closes_now e l =
      record {
        gathers = elim [ zero ↦ λ h. refl | suc k ↦ λ h. absurd (omega arith) ];
        counts = elim [ zero ↦ λ h. omega arith | suc zero ↦ λ h. m.counted | suc (suc k) ↦ λ h. absurd (omega arith) ];
        long = l;
        closes = e;
      }

  closes_later : (n : ℕ) → update self next.dt config next.state ≡ record { filter = self.filter; window = wider self.window next }
      → ClosesAt (record { filter = self.filter; window = wider self.window next }) config samples n → ClosesAt self config (next ∷ samples) (suc n)
  unfolding updates sums
  closes_later n e c =
      record {
        gathers = elim [ zero ↦ λ h. refl | suc k ↦ λ h. updates_same config (take k samples) e ∙ c.gathers k (le_of_suc-le-suc h) ];
        counts = elim [ zero ↦ λ h. omega arith | suc k ↦ λ h. omega (arith, c.counts k (le_of_suc-le-suc h)) ];
        long = c.long;
        closes = updates_same config (take n samples) e ∙ c.closes;
      }

closes_within : (config : WindConfig) → is_on config ≡ true → (samples : List (AcceptedSample config)) (self : WindEstimator)
    → OpenWindow self.window → 820 ≤ self.window.ticks + length samples
    → (n : ℕ) × (1 ≤ n) × (self.window.ticks + n ≤ 820) × ClosesAt self config samples n
closes_within config on [] self o h = absurd (omega (arith, o.few))
closes_within config on (next ∷ samples) self o h =
    let m = grown_counts self.window next.dt next.sample o next.step_accepted in
    let e = update_gathers self config next on in
    ⊎_elim
    (λ p.
    let r = closes_within config on samples (record { filter = self.filter; window = wider self.window next }) p.1 (omega arith) in
    (suc r.0, omega arith, omega arith, closes_later self config next samples m r.0 (e ∙ p.0) r.3))
    (λ p. (1, omega arith, omega (arith, o.few), closes_now self config next samples m (e ∙ p.0) p.1))
    (gathered_cases self next.dt config next.sample m)

-- ---- at the least step

-- no digit is lost
least_steps_exact : {config : WindConfig} (samples : List (AcceptedSample config)) (w : Window) (n k : ℕ) → LeastSteps samples
    → w.elapsed_s ≡ steps n → n + k ≤ 820 → k ≤ length samples → (sums w (take k samples)).elapsed_s ≡ steps (n + k)
unfolding sums grown
least_steps_exact samples w n zero a e h l = rw add-zero e
least_steps_exact [] w n (suc k) a e h l = absurd (omega arith)
least_steps_exact (next ∷ samples) w n (suc k) a e h l =
    let one_more : w.elapsed_s ⊕ next.dt ≡ steps (n + 1) = rw (e, a.0) (one_step_more n (omega arith)) in
    let count : n + suc k ≡ n + 1 + k = omega arith in
    rw count (least_steps_exact samples (grown w next.dt next.sample) (n + 1) k a.1 one_more (omega arith) (le_of_suc-le-suc l))

step_not_past : T (lt (steps 819) update_period)
unfolding of_bits round lt
step_not_past = tt

past_period : (n : ℕ) → T (le update_period (steps n)) → 820 ≤ n
past_period n l =
    lt_of_not-le
    (λ (h : n ≤ 819). lt_excludes (steps n) update_period (le_lt_trans (steps n) (steps 819) update_period (steps_mono n 819 h) step_not_past) l)

empty_exact : empty.elapsed_s ≡ steps 0
unfolding empty of_bits round
empty_exact = refl

-- ---- the claim

module _ (self : WindEstimator) (config : WindConfig) (samples : List (AcceptedSample config)) (e : self.window ≡ empty) (on : is_on config ≡ true)
    (many : 820 ≤ length samples) where
  by_820 : (n : ℕ) × (1 ≤ n) × (n ≤ 820) × ClosesAt self config samples n
  by_820 =
      let r = closes_within config on samples self (rw e empty_open) (omega arith) in
      (r.0, r.1, omega arith, r.3)

  at_820 : LeastSteps samples → ClosesAt self config samples 820
  at_820 least =
      let r = by_820 in
      let n = r.0 in
      let exact = least_steps_exact samples self.window 0 n least (rw e empty_exact) (omega arith) (omega arith) in
      let last : n ≡ 820 = omega (arith, past_period n (rw (exact, zero-add) at r.3.long)) in
      rw last at r.3

pub window_closes : WindowCloses
unfolding update taken
window_closes =
    record {
      by_820 = by_820;
      at_820 = at_820;
      others_change_nothing = λ self config dt state e. rw e (either_way (is_on config) self);
    }
