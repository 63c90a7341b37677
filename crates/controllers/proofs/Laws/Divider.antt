-- The rate divider: when it is due, that over any number of accepted time steps the time to step over is positive and at most 16,777,216 s, and
-- that a call that is due and does not run is due again. Assumes nothing.
use Rattle.std.specs.Prelude.{None, Option, Some}
use Rattle.std.proofs.lemmas.Option.{same_Some}
use mathlib.Core.Path.{◌≡◌, refl, subst}
use mathlib.Core.Bool.{Bool, true, false, cond}
use mathlib.Core.Logic.{◌↔◌}
use lib.Dec.{T}
use lib.Ieee.{Float, binary32, lt, le, add, sub, mul, of_bits, fits, is_nan}
use lib.Ieee.Fits.{add-fits}
use lib.Ieee.Scale.{finite}
use lib.Ieee.Positive.{positive, between, mul_mono}
use Rattle.floats.specs.Ops.{f32, ◌⊕◌, ◌⊖◌, ◌⊗◌}
use Rattle.floats.proofs.Laws.Order.{number, le_numbers, float_le_refl, float_le_trans, lt_le_trans, finite_between}
use Rattle.floats.proofs.Laws.Sum.{add_mono, sub_mono, sub_numbers, number_add, number_sub, add_nonneg_number, le_add}
use Rattle.math.specs.Math.{zero, half, one}
use Rattle.controllers.specs.declared.rate_divider.RateDivider.{RateDivider}
use Rattle.controllers.specs.RateDivider.{never_ran, elapsed, due_since, due, ran, shortest, longest, Accepted, Legal, Bounded}

-- ---- when a call is due

pub first_call_due : (dt period : Float) → due never_ran dt period ≡ record { divider = never_ran; due = Some dt }
unfolding due_since
first_call_due dt period = refl

pub elapsed_grows : (before dt period : Float) → (due (elapsed before) dt period).divider ≡ elapsed (before ⊕ dt)
unfolding due_since
elapsed_grows before dt period = refl

step_by_test : (b : Bool) (e t : Float) → (cond b (Some e) None ≡ Some t) ↔ T b × (e ≡ t)
step_by_test true e t = (λ p. (tt, cc), λ p. cc)
step_by_test false e t = (λ p. cc, λ p. absurd p.0)

pub later_call_due : (before dt period t : Float)
    → ((due (elapsed before) dt period).due ≡ Some t) ↔ T (le (period ⊖ half ⊗ dt) (before ⊕ dt)) × (before ⊕ dt ≡ t)
unfolding due_since
later_call_due before dt period t = step_by_test (le (period ⊖ half ⊗ dt) (before ⊕ dt)) (before ⊕ dt) t

-- ---- accepted time steps

pub accepted→legal : (dt : Float) → Accepted dt → Legal dt
unfolding le of_bits
accepted→legal dt a = (a.at_least, float_le_trans dt one longest a.at_most tt)

-- a legal step is positive and finite
pub legal_positive : (t : Float) → Legal t → T (lt zero t)
unfolding lt of_bits
legal_positive t l = lt_le_trans zero shortest t tt l.0

pub legal_finite : (t : Float) → Legal t → T (finite t)
unfolding of_bits
legal_finite t l = finite_between shortest t longest tt tt l.0 l.1

-- ---- the time since the last run

-- 2 ^ 24 + 1 is rounded to 2 ^ 24.
legal_sum : (before dt : Float) → Bounded (elapsed before) → Accepted dt → Legal (before ⊕ dt)
unfolding le of_bits add is_nan
legal_sum before dt b a =
    let d : T (le zero dt) = float_le_trans zero shortest dt tt a.at_least in
    let n : T (number (before ⊕ dt)) = add_nonneg_number binary32 before dt b.0 d in
    (add_mono binary32 zero before shortest dt b.0 a.at_least tt n, add_mono binary32 before longest dt one b.1 a.at_most n tt)

pub ran_bounded : Bounded ran
unfolding le of_bits
ran_bounded = (tt, tt)

since_keeps_bound : (since : Option Float) (dt period : Float) → Bounded (record { elapsed_s = since }) → Accepted dt → Bounded (due_since since dt period).divider
unfolding due_since le of_bits
since_keeps_bound None dt period b a = tt
since_keeps_bound (Some before) dt period b a =
    let l = legal_sum before dt b a in (float_le_trans zero shortest (before ⊕ dt) tt l.0, l.1)

pub due_keeps_bound : (d : RateDivider) (dt period : Float) → Bounded d → Accepted dt → Bounded (due d dt period).divider
due_keeps_bound d = since_keeps_bound d.elapsed_s

since_step_is_legal : (since : Option Float) (dt period t : Float) → Bounded (record { elapsed_s = since }) → Accepted dt → (due_since since dt period).due ≡ Some t → Legal t
unfolding due_since
since_step_is_legal None dt period t b a e = subst Legal (same_Some dt t e) (accepted→legal dt a)
since_step_is_legal (Some before) dt period t b a e = subst Legal ((later_call_due before dt period t).0 e).1 (legal_sum before dt b a)

pub step_is_legal : (d : RateDivider) (dt period t : Float) → Bounded d → Accepted dt → (due d dt period).due ≡ Some t → Legal t
step_is_legal d = since_step_is_legal d.elapsed_s

-- ---- any number of calls

-- the dividers that accepted steps lead to from one that never ran, whatever the periods, with runs and resets in between
pub data Reached : RateDivider → Type 0 where
  at_first : Reached never_ran
  ran_now : Reached ran
  stepped : {d : RateDivider} (dt period : Float) → Accepted dt → Reached d → Reached (due d dt period).divider

pub elapsed_bounded : {d : RateDivider} → Reached d → Bounded d
elapsed_bounded at_first = tt
elapsed_bounded ran_now = ran_bounded
elapsed_bounded (stepped {d = d} dt period a r) = due_keeps_bound d dt period (elapsed_bounded r) a

pub reached_step_is_legal : {d : RateDivider} → Reached d → (dt period t : Float) → Accepted dt → (due d dt period).due ≡ Some t → Legal t
reached_step_is_legal {d} r dt period t a e = step_is_legal d dt period t (elapsed_bounded r) a e

-- ---- a call that was due and did not run

half_step : (dt dt' : Float) → Accepted dt → Accepted dt' → T (le dt dt') → T (le (half ⊗ dt) (half ⊗ dt')) × T (finite (half ⊗ dt'))
unfolding le mul of_bits
half_step dt dt' a a' h =
    let p : T (positive dt) = between shortest dt one tt tt a.at_least a.at_most in
    let p' : T (positive dt') = between shortest dt' one tt tt a'.at_least a'.at_most in (
      mul_mono binary32 half half dt dt' tt tt p p' tt h,
      finite_between (half ⊗ shortest) (half ⊗ dt') (half ⊗ one) tt tt
          (mul_mono binary32 half half shortest dt' tt tt tt p' tt a'.at_least) (mul_mono binary32 half half dt' one tt tt p' tt tt a'.at_most),
    )

waits_longer : (w dt dt' period : Float) → Accepted dt → Accepted dt' → T (le dt dt') → T (fits binary32 w) → T (le (period ⊖ half ⊗ dt) w)
    → T (le (period ⊖ half ⊗ dt') w) × T (le w (w ⊕ dt'))
unfolding le of_bits
waits_longer w dt dt' period a a' h f k =
    let n = le_numbers (period ⊖ half ⊗ dt) w k in
    let p : T (number period) = (sub_numbers binary32 period (half ⊗ dt) n.0).0 in
    let s = half_step dt dt' a a' h in
    let d : T (finite dt') = legal_finite dt' (accepted→legal dt' a') in (
      float_le_trans (period ⊖ half ⊗ dt') (period ⊖ half ⊗ dt) w
          (sub_mono binary32 period period (half ⊗ dt') (half ⊗ dt) (float_le_refl period p) s.0 (number_sub binary32 period (half ⊗ dt') p s.1) n.0) k,
      le_add binary32 w dt' f (float_le_trans zero shortest dt' tt a'.at_least)
          (number_add binary32 w dt' n.1 d),
    )

-- It is due again at the next call whose step is no shorter, and steps over no less time.
since_stays_due : (since : Option Float) (dt dt' period t : Float) → Accepted dt → Accepted dt' → T (le dt dt') → (due_since since dt period).due ≡ Some t
    → (t' : Float) × ((due (due_since since dt period).divider dt' period).due ≡ Some t') × T (le t t')
unfolding due_since
since_stays_due None dt dt' period t a a' h e = (dt', refl, subst (λ (z : Float). T (le z dt')) (same_Some dt t e) h)
since_stays_due (Some before) dt dt' period t a a' h e =
    let w = before ⊕ dt in
    let k = (later_call_due before dt period t).0 e in
    let l = waits_longer w dt dt' period a a' h (add-fits binary32 before dt) k.0 in (
      w ⊕ dt',
      (later_call_due w dt' period (w ⊕ dt')).1 (float_le_trans (period ⊖ half ⊗ dt') w (w ⊕ dt') l.0 l.1, refl),
      subst
          (λ (z : Float). T (le z (w ⊕ dt'))) k.1 l.1,
    )

pub stays_due : (d : RateDivider) (dt dt' period t : Float) → Accepted dt → Accepted dt' → T (le dt dt') → (due d dt period).due ≡ Some t
    → (t' : Float) × ((due (due d dt period).divider dt' period).due ≡ Some t') × T (le t t')
stays_due d = since_stays_due d.elapsed_s

-- Not so where the next step is shorter: with a period of 10 s, 9.5 s are due at a step of 1 s, and a step of 1/4,096 s later the loop waits.
pub shorter_step_waits :
    ((due (elapsed (f32 0x4108_0000)) one (f32 0x4120_0000)).due ≡ Some (f32 0x4118_0000))
    × ((due (due (elapsed (f32 0x4108_0000)) one (f32 0x4120_0000)).divider shortest (f32 0x4120_0000)).due ≡ None)
unfolding due_since add sub mul le of_bits
shorter_step_waits = (refl, refl)
