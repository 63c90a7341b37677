-- A wrapped finite angle is at least -π and below π and stays as it is when it is wrapped again, and one that is not finite wraps to a NaN.
-- Assumes nothing.
use mathlib.Core.Path.{◌≡◌, refl, ap, ◌∙◌}
use mathlib.Core.Bool.{Bool, true, false, not}
use mathlib.Core.Logic.{◌⊎◌, inl, inr, ⊎_elim}
use Prim.Native.Nat.{ℕ, zero as zeroℕ, suc, ◌*◌, ◌%◌, ◌^◌, ◌≤◌, ◌<◌}
use native.Mathlib.Nat.{mod-lt}
use native.Mathlib.Omega.{arith}
use lib.Dec.{T, not_T, leb, leb→le, nleb→lt, lit<}
use Rattle.std.proofs.lemmas.Float.{T_from_true}
use lib.Pow.{pow_pos}
use lib.Ieee.{Float, nan, inf, fin, binary32, round, neg, add, sub, rem, lt, le, fits, is_nan, of_bits}
use lib.Ieee.Bits.{is_true, is_false}
use lib.Ieee.Fits.{cond-fits, neg-fits, add-fits, sub-fits, rem-fits}
use lib.Ieee.Positive.{num, den, den_pos, positive, positive-finite, between}
use lib.Ieee.Scale.{finite}
use Rattle.floats.specs.Ops.{f32, ◌⊕◌, ◌⊖◌}
use Rattle.floats.specs.Compare.{abs, is_negative}
use Rattle.floats.proofs.Laws.Order.{number, finite→number, le_numbers, lt_numbers, lt_not_le, le_or_lt, lt→le, lt_excludes, float_le_trans, le_lt_trans, finite_between, neg_neg, neg_le}
use Rattle.floats.proofs.Laws.Round.{AtMost, Less, fractions_of_lt, own_fraction, le_of_fractions}
use Rattle.floats.proofs.Laws.Round.{round_zero, round_nonneg, round_at_most, round_at_least, round_below}
use Rattle.floats.proofs.Laws.Fractions.{rem_rounds}
use Rattle.floats.proofs.Laws.Grid.{large_on_grid}
use Rattle.floats.proofs.Laws.Remainder.{rem_of_smaller, rem_inside, above_opposite, below_divisor}
use Rattle.floats.proofs.Laws.Sterbenz.{sterbenz_add_back, sterbenz_sub_back}
use Rattle.floats.proofs.Laws.Sum.{add_mono, sub_mono, add_finite, add_finite_number, number_add, number_sub}
use Rattle.math.specs.Math.{zero, pi, tau, half_pi, rem_euclid, wrap_angle}
use Rattle.math.proofs.Laws.Largest.{le_largest, largest}

-- ---- the remainder by 2π

-- 2π is 13176795 * 2 ^ -21. This is the float below it, 13176794 * 2 ^ -21.
abbrev below_tau : Float
below_tau = f32 0x40C9_0FDA

-- -2 ^ -22
abbrev nearest_below_zero : Float
nearest_below_zero = f32 0xB480_0000

-- Where the remainder is not negative it is at most the float below 2π. Where it is negative it is at most -2 ^ -22, since the shifted angle is a multiple of
-- 2 ^ -22 then, so the sum with 2π is again at most the float below 2π.
abbrev Within : Float → Type 0
Within r = (T (le zero r) × T (le r below_tau)) ⊎ (T (le (neg tau) r) × T (le r nearest_below_zero))

rounded_within : (s : Bool) (k : ℕ) → k < 13176795 → Within (round binary32 s k (2 ^ 21))
unfolding le neg of_bits fits
rounded_within false k h =
    inl (round_nonneg binary32 k (2 ^ 21), round_below binary32 k (2 ^ 21) below_tau 13176794 (2 ^ 21) (pow_pos 21) (pow_pos 21) tt (refl, refl) (omega arith))
rounded_within true zeroℕ h = rw (round_zero binary32 true (2 ^ 21) (pow_pos 21)) (inl (tt, tt))
rounded_within true (suc k) h =
    inr (
      round_at_least binary32 true (suc k) (2 ^ 21) (neg tau) true 13176795 (2 ^ 21) (pow_pos 21) (pow_pos 21) tt (refl, refl) (omega arith),
      round_at_most binary32 true (suc k) (2 ^ 21) nearest_below_zero true 1 (2 ^ 22) (pow_pos 21) (pow_pos 22) tt (refl, refl) (omega arith),
    )

-- a value below 4 in size lies between -2π and the float below 2π
at_most_below_tau : (s : Bool) (n d : ℕ) → n * 2 ^ 21 < 2 ^ 23 * d → AtMost s n d false 13176794 (2 ^ 21)
at_most_below_tau true n d h = omega arith
at_most_below_tau false n d h = omega arith

at_least_minus_tau : (s : Bool) (n d : ℕ) → n * 2 ^ 21 < 2 ^ 23 * d → AtMost true 13176795 (2 ^ 21) s n d
at_least_minus_tau true n d h = omega arith
at_least_minus_tau false n d h = omega arith

small_within : (y : Float) → T (finite y) → (T (lt y zero) → T (le y nearest_below_zero)) → num y * 2 ^ 21 < 2 ^ 23 * den y → Within y
unfolding neg of_bits is_nan
small_within y q n h = ⊎_elim (λ z. inl (z, under)) (λ z. inr (over, n z)) (le_or_lt zero y tt (finite→number y q))
  where
    s : Bool
    s = is_negative y

    under : T (le y below_tau)
    under =
        le_of_fractions y below_tau s (num y) (den y) false 13176794 (2 ^ 21) (den_pos y) (pow_pos 21) (own_fraction y q) (refl, refl)
        (at_most_below_tau s (num y) (den y) h)

    over : T (le (neg tau) y)
    over =
        le_of_fractions (neg tau) y true 13176795 (2 ^ 21) s (num y) (den y) (pow_pos 21) (den_pos y) (refl, refl) (own_fraction y q)
        (at_least_minus_tau s (num y) (den y) h)

rem_within : (y : Float) → T (fits binary32 y) → T (finite y) → (T (lt y zero) → T (le y nearest_below_zero)) → Within (rem binary32 y tau)
unfolding of_bits
rem_within y p q n = go (leb (2 ^ 23 * den y) (num y * 2 ^ 21)) (leb→le (2 ^ 23 * den y) (num y * 2 ^ 21)) (nleb→lt (2 ^ 23 * den y) (num y * 2 ^ 21))
  where
    go : (b : Bool) → (T b → 2 ^ 23 * den y ≤ num y * 2 ^ 21) → (T (not b) → num y * 2 ^ 21 < 2 ^ 23 * den y) → Within (rem binary32 y tau)
    go true large small =
        let g = large_on_grid binary32 y 21 p q (large tt) in
        rw (rem_rounds binary32 y tau (is_negative y) g.0 false 13176795 (2 ^ 21) (pow_pos 21) (lit< tt) g.1 (refl, refl))
        (rounded_within (is_negative y) (g.0 % 13176795) (mod-lt g.0 (lit< tt)))
    go false large small =
        rw (rem_of_smaller binary32 y tau false 13176795 (2 ^ 21) p q (pow_pos 21) (lit< tt) (refl, refl) (omega (arith, small tt)))
        (small_within y q n (small tt))

rem_euclid_range : (y : Float) → T (fits binary32 y) → T (finite y) → (T (lt y zero) → T (le y nearest_below_zero))
    → T (le zero (rem_euclid y tau)) × T (le (rem_euclid y tau) below_tau)
unfolding rem_euclid le add is_nan neg of_bits
rem_euclid_range y p q n = ⊎_elim above below (rem_within y p q n)
  where
    r : Float
    r = rem binary32 y tau

    above : T (le zero r) × T (le r below_tau) → T (le zero (rem_euclid y tau)) × T (le (rem_euclid y tau) below_tau)
    above h = rw (is_false (lt r zero) (not_T (lt r zero) (λ l. lt_excludes r zero l h.0))) h

    below : T (le (neg tau) r) × T (le r nearest_below_zero) → T (le zero (rem_euclid y tau)) × T (le (rem_euclid y tau) below_tau)
    below h =
        let f = finite_between (neg tau) r nearest_below_zero tt tt h.0 h.1 in
        let m = add_finite_number binary32 r tau f tt in
        rw (is_true (lt r zero) (le_lt_trans r nearest_below_zero zero h.1 tt)) (
          add_mono binary32 (neg tau) r tau tau h.0 tt tt m,
          add_mono binary32 r nearest_below_zero tau tau h.1 tt m tt,
        )

-- ---- the shifted angle

-- -π is -13176795 * 2 ^ -22, and the float below it is -13176796 * 2 ^ -22.
abbrev below_minus_pi : Float
below_minus_pi = f32 0xC049_0FDC

past_minus_pi : (s : Bool) (n d : ℕ) → Less s n d true 13176795 (2 ^ 22) → 13176795 * d < n * 2 ^ 22
past_minus_pi true n d h = omega arith
past_minus_pi false n d h = omega arith

next_past_minus_pi : (s : Bool) (a : ℕ) → Less s a (2 ^ 22) true 13176795 (2 ^ 22) → AtMost s a (2 ^ 22) true 13176796 (2 ^ 22)
next_past_minus_pi true a h = omega arith
next_past_minus_pi false a h = omega arith

next_below_minus_pi : (x : Float) → T (fits binary32 x) → T (finite x) → T (lt x (neg pi)) → T (le x below_minus_pi)
unfolding neg of_bits
next_below_minus_pi x p q l =
    let s = is_negative x in
    let h = past_minus_pi s (num x) (den x) (fractions_of_lt x (neg pi) s (num x) (den x) true 13176795 (2 ^ 22) (den_pos x) (pow_pos 22)
    (own_fraction x q) (refl, refl) l) in
    let g = large_on_grid binary32 x 22 p q (omega arith) in
    le_of_fractions x below_minus_pi s g.0 (2 ^ 22) true 13176796 (2 ^ 22) (pow_pos 22) (pow_pos 22) g.1 (refl, refl)
    (next_past_minus_pi s g.0 (fractions_of_lt x (neg pi) s g.0 (2 ^ 22) true 13176795 (2 ^ 22) (pow_pos 22) (pow_pos 22) g.1 (refl, refl) l))

shifted_finite : (x : Float) → T (fits binary32 x) → T (finite x) → T (finite (x ⊕ pi))
unfolding abs le add of_bits
shifted_finite x p q = add_finite binary32 x pi (largest binary32) pi (le_largest binary32 x p q) tt tt

shifted_negative : (x : Float) → T (fits binary32 x) → T (finite x) → T (lt (x ⊕ pi) zero) → T (le (x ⊕ pi) nearest_below_zero)
unfolding le add neg is_nan of_bits
shifted_negative x p q l =
    let n = add_finite_number binary32 x pi q tt in
    ⊎_elim
    (λ (h : T (le (neg pi) x)). absurd (lt_excludes (x ⊕ pi) zero l (add_mono binary32 (neg pi) x pi pi h tt tt n)))
    (λ (h : T (lt x (neg pi))). add_mono binary32 x below_minus_pi pi pi (next_below_minus_pi x p q h) tt n tt)
    (le_or_lt (neg pi) x tt (finite→number x q))

-- ---- the wrapped angle

shifted_rem_range : (x : Float) → T (fits binary32 x) → T (finite x)
    → T (le zero (rem_euclid (x ⊕ pi) tau)) × T (le (rem_euclid (x ⊕ pi) tau) below_tau)
shifted_rem_range x p q = rem_euclid_range (x ⊕ pi) (add-fits binary32 x pi) (shifted_finite x p q) (shifted_negative x p q)

-- a remainder less π
less_pi_range : (r b : Float) → T (le zero r) → T (le r b) → T (le (neg pi) (r ⊖ pi)) × T (le (r ⊖ pi) (b ⊖ pi))
unfolding le sub add neg is_nan of_bits
less_pi_range r b h k =
    let m = number_sub binary32 r pi (le_numbers zero r h).1 tt in
    (sub_mono binary32 zero r pi pi h tt tt m, sub_mono binary32 r b pi pi k tt m (number_sub binary32 b pi (le_numbers r b k).1 tt))

pub wrap_range : (x : Float) → T (fits binary32 x) → T (finite x) → T (le (neg pi) (wrap_angle x)) × T (lt (wrap_angle x) pi)
unfolding wrap_angle le sub add of_bits
wrap_range x p q =
    let r = rem_euclid (x ⊕ pi) tau in
    let h = shifted_rem_range x p q in
    let k = less_pi_range r below_tau h.0 h.1 in
    (k.0, le_lt_trans (r ⊖ pi) (below_tau ⊖ pi) pi k.1 tt)

pub wrap_finite : (x : Float) → T (fits binary32 x) → T (finite x) → T (finite (wrap_angle x))
unfolding neg of_bits
wrap_finite x p q = let h = wrap_range x p q in finite_between (neg pi) (wrap_angle x) pi tt tt h.0 (lt→le (wrap_angle x) pi h.1)

pub wrap_pi : wrap_angle pi ≡ neg pi
unfolding wrap_angle rem_euclid rem add sub neg lt of_bits
wrap_pi = refl

pub wrap_not_finite : (x : Float) → T (not (finite x)) → wrap_angle x ≡ nan
unfolding wrap_angle rem_euclid rem add sub lt of_bits
wrap_not_finite nan h = refl
wrap_not_finite (inf s) h = refl
wrap_not_finite (fin s m e) h = absurd h

-- ---- wrapped twice

pub rem_euclid_inside : (v d : Float) → T (fits binary32 v) → T (le zero v) → T (lt v d) → rem_euclid v d ≡ v
unfolding rem_euclid of_bits
rem_euclid_inside v d p h l =
    rw (rem_inside binary32 v d p (above_opposite v d h l) l, is_false (lt v zero) (not_T (lt v zero) (λ n. lt_excludes v zero n h)))

-- below zero is not at least zero
negative_by : (v : Float) → T (number v) → lt v zero ≡ not (le zero v)
unfolding is_nan of_bits
negative_by v n = lt_not_le v zero n tt

pub rem_euclid_negative : (v d : Float) → T (fits binary32 v) → le zero v ≡ false → lt (neg d) v ≡ true → rem_euclid v d ≡ v ⊕ d
unfolding rem_euclid of_bits
rem_euclid_negative v d p h k =
    let l = T_from_true _ k in
    let e : lt v zero ≡ true = negative_by v (lt_numbers (neg d) v l).1 ∙ ap not h in
    rw (rem_inside binary32 v d p l (below_divisor v d (T_from_true _ e) l), e)

-- the remainder less π and plus π again
back_in_range : (r : Float) → T (le zero r) → T (le r below_tau) → T (le zero (r ⊖ pi ⊕ pi)) × T (le (r ⊖ pi ⊕ pi) below_tau)
unfolding le sub add neg is_nan of_bits
back_in_range r h k =
    let g = less_pi_range r below_tau h k in
    let m = number_add binary32 (r ⊖ pi) pi (le_numbers (neg pi) (r ⊖ pi) g.0).1 tt in
    (add_mono binary32 (neg pi) (r ⊖ pi) pi pi g.0 tt tt m, add_mono binary32 (r ⊖ pi) (below_tau ⊖ pi) pi pi g.1 tt m tt)

-- Neither of π and a value from π/2 to 2π is more than twice the other.
module _ (v : Float) (p : T (fits binary32 v)) (h : T (le half_pi v)) (k : T (le v below_tau)) where
  v_positive : T (positive v)
  unfolding of_bits
  v_positive = between half_pi v below_tau tt tt h k

  at_most_twice_pi : T (le v (pi ⊕ pi))
  unfolding le add of_bits
  at_most_twice_pi = float_le_trans v below_tau tau k tt

  pi_at_most_twice : T (le pi (v ⊕ v))
  unfolding le add is_nan of_bits
  pi_at_most_twice = let f = positive-finite v v_positive in add_mono binary32 half_pi v half_pi v h h tt (add_finite_number binary32 v v f f)

  difference_back : v ⊖ pi ⊕ pi ≡ v
  unfolding fits of_bits
  difference_back = sterbenz_sub_back binary32 v pi p tt v_positive tt at_most_twice_pi pi_at_most_twice

  sum_back : neg v ⊕ pi ⊖ pi ≡ neg v
  unfolding fits of_bits
  sum_back = sterbenz_add_back binary32 v pi p tt v_positive tt at_most_twice_pi pi_at_most_twice

from_half_pi : (r : Float) → T (fits binary32 r) → T (le half_pi r) → T (le r below_tau) → r ⊖ pi ⊕ pi ⊖ pi ≡ r ⊖ pi
from_half_pi r p h k = rw (difference_back r p h k)

-- A smaller remainder less π is an angle from -π to -π/2, whether it was rounded or not.
below_half_pi : (r : Float) → T (le zero r) → T (le r half_pi) → r ⊖ pi ⊕ pi ⊖ pi ≡ r ⊖ pi
unfolding le sub add neg is_nan of_bits
below_half_pi r h k =
    let y = r ⊖ pi in
    let g = less_pi_range r half_pi h k in
    let most = float_le_trans (neg y) pi below_tau (neg_le (neg pi) y g.0) tt in
    rw neg_neg at (sum_back (neg y) (neg-fits binary32 y (sub-fits binary32 r pi)) (neg_le y (neg half_pi) g.1) most)

rem_euclid_fits : (x y : Float) → T (fits binary32 x) → T (fits binary32 (rem_euclid x y))
unfolding rem_euclid
rem_euclid_fits x y p =
    let r = rem binary32 x y in
    cond-fits binary32 (lt r zero) (r ⊕ y) r (add-fits binary32 r y) (rem-fits binary32 x y p)

pub wrap_twice : (x : Float) → T (fits binary32 x) → T (finite x) → wrap_angle (wrap_angle x) ≡ wrap_angle x
unfolding wrap_angle lt is_nan of_bits
wrap_twice x p q =
    let r = rem_euclid (x ⊕ pi) tau in
    let z = r ⊖ pi ⊕ pi in
    let h = shifted_rem_range x p q in
    let g = back_in_range r h.0 h.1 in
    ap (λ (v : Float). v ⊖ pi) (rem_euclid_inside z tau (add-fits binary32 (r ⊖ pi) pi) g.0 (le_lt_trans z below_tau tau g.1 tt))
    ∙ ⊎_elim
    (λ l. from_half_pi r (rem_euclid_fits (x ⊕ pi) tau (add-fits binary32 x pi)) l h.1)
    (λ l. below_half_pi r h.0 (lt→le r half_pi l))
    (le_or_lt half_pi r tt (le_numbers zero r h.0).1)
