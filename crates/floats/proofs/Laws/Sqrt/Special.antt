-- The root where no digit has to be worked out: of a NaN, a zero, an infinity, a number below zero. Every other value is `positive`. Assumes nothing.
use Rattle.std.proofs.Common.{arith, ◌≡◌, ℕ, ◌+◌, ◌*◌, ◌<◌, ◌≤◌, true, false, cond, not, T, eqb, ◌⊎◌, sym, refl, ap, ◌∙◌, subst, inl, inr, le_trans, lt_irrefl, mul-pos, eqb→eq, ltb→lt, lt→ltb, T_not}
use native.Mathlib.Nat.{mod-le}
use lib.Dec.{not_T}
use lib.Ieee.{Float, nan, inf, fin, Format, up, down, is_nan, fits, le, lt, eq, hid, ones, top, nan_bits}
use lib.Ieee.Fits.{up_pos, down_pos, eq→eqb, cond-fits, nan-fits, round-fits}
use lib.Ieee.Bits.{is_true, cond_no}
use lib.Ieee.Scale.{finite}
use lib.Ieee.Positive.{num, den, positive, above, first_pos}
use Rattle.floats.specs.Compare.{is_negative}
use Rattle.floats.specs.Sqrt.{scale, root_of, sqrt}
use Rattle.floats.specs.Root.{zero}
use Rattle.floats.proofs.Laws.Order.{number, nan_or_number, le_or_lt, float_le_antisymm, lt_excludes, eq→le}
use Rattle.floats.proofs.Laws.Round.{round_sign, round_nonneg}
use Rattle.floats.proofs.Laws.Product.{zero_digits}
use Rattle.floats.proofs.Laws.Special.{up_to_infinity}
use Rattle.floats.proofs.Laws.Sqrt.Bounds.{rounded}

-- ---- the definition, clause by clause

pub sqrt_nan : (f : Format) → sqrt f nan ≡ nan
unfolding sqrt
sqrt_nan f = refl

pub sqrt_infinity : (f : Format) → sqrt f (inf false) ≡ inf false
unfolding sqrt
sqrt_infinity f = refl

above_not_zero : (m : ℕ) → 0 < m → T (not (eqb m 0))
above_not_zero m h = not_T (eqb m 0) (λ t. lt_irrefl 0 (subst (λ (x : ℕ). 0 < x) (eqb→eq m 0 t) h))

pub sqrt_positive : (f : Format) (x : Float) → T (positive x) → sqrt f x ≡ root_of f (num x) (den x)
unfolding sqrt
sqrt_positive f (fin false m e) p = cond_no (eqb m 0) (fin false m e) (root_of f (m * up e) (down e)) (above_not_zero m (ltb→lt 0 m p))
sqrt_positive f nan p = elim p [ ]
sqrt_positive f (inf _) p = elim p [ ]
sqrt_positive f (fin true m e) p = elim p [ ]

pub sqrt_zero : (f : Format) (x : Float) → T (eq x zero) → sqrt f x ≡ x
unfolding sqrt eq
sqrt_zero f (fin s m e) t = rw (is_true (eqb m 0) (eq→eqb (zero_digits s m e t)))
sqrt_zero f nan t = elim t [ ]
sqrt_zero f (inf _) t = elim t [ ]

pub sqrt_below_zero : (f : Format) (x : Float) → T (lt x zero) → sqrt f x ≡ nan
unfolding sqrt lt
sqrt_below_zero f (inf true) t = refl
sqrt_below_zero f (fin true m e) t =
    cond_no (eqb m 0) (fin true m e) nan
    (above_not_zero m (first_pos m (up e) (omega (arith, ltb→lt 0 (m * up e * 1 + 0 * down e) t))))
sqrt_below_zero f (fin false m e) t = absurd (omega (arith, ltb→lt (m * up e * 1) (0 * down e) t))
sqrt_below_zero f nan t = elim t [ ]
sqrt_below_zero f (inf false) t = elim t [ ]

-- ---- a root is a value of the format, and without a sign
module _ (f : Format) (num den : ℕ) (D : 0 < den) where
  pub root_of_fits : T (fits f (root_of f num den))
  root_of_fits = let R = rounded f num den D in subst (λ (z : Float). T (fits f z)) (sym R.value) (round-fits f false (2 * R.whole + R.digit) (2 * scale f))

  pub root_of_sign : is_negative (root_of f num den) ≡ false
  root_of_sign = let R = rounded f num den D in ap is_negative R.value ∙ round_sign f false (2 * R.whole + R.digit) (2 * scale f)

  pub root_of_nonneg : T (le zero (root_of f num den))
  root_of_nonneg = let R = rounded f num den D in subst (λ (z : Float). T (le zero z)) (sym R.value) (round_nonneg f (2 * R.whole + R.digit) (2 * scale f))

pub sqrt_fits : (f : Format) (x : Float) → T (fits f x) → T (fits f (sqrt f x))
unfolding sqrt
sqrt_fits f nan h = nan-fits f
sqrt_fits f (inf s) h = cond-fits f s nan (inf s) (nan-fits f) h
sqrt_fits f (fin s m e) h =
    cond-fits f (eqb m 0) (fin s m e) (cond s nan (root_of f (m * up e) (down e))) h
    (cond-fits f s nan (root_of f (m * up e) (down e)) (nan-fits f) (root_of_fits f (m * up e) (down e) (down_pos e)))

-- ---- above zero

-- an infinity included, as `lt` puts it
pub above_of_lt : (x : Float) → T (lt zero x) → T (above x)
unfolding lt
above_of_lt (inf s) t = t
above_of_lt (fin false m e) t = lt→ltb 0 m (first_pos m (up e) (omega (arith, ltb→lt (0 * down e) (m * up e * 1) t)))
above_of_lt nan t = elim t [ ]
above_of_lt (fin true m e) t = elim t [ ]

pub lt_of_above : (x : Float) → T (above x) → T (lt zero x)
unfolding lt
lt_of_above (inf s) t = t
lt_of_above (fin false m e) t = lt→ltb (0 * down e) (m * up e * 1) (omega (arith, mul-pos (ltb→lt 0 m t) (up_pos e)))
lt_of_above nan t = elim t [ ]
lt_of_above (fin true m e) t = elim t [ ]

pub above_of_positive : (x : Float) → T (positive x) → T (above x)
above_of_positive (fin false m e) p = p
above_of_positive nan p = elim p [ ]
above_of_positive (inf _) p = elim p [ ]
above_of_positive (fin true m e) p = elim p [ ]

pub positive_or_infinite : (x : Float) → T (above x) → T (positive x) ⊎ (x ≡ inf false)
positive_or_infinite (inf false) a = inr refl
positive_or_infinite (fin false m e) a = inl a
positive_or_infinite nan a = elim a [ ]
positive_or_infinite (inf true) a = elim a [ ]
positive_or_infinite (fin true m e) a = elim a [ ]

pub positive_of_above : (x : Float) → T (finite x) → T (above x) → T (positive x)
positive_of_above x t a = elim (positive_or_infinite x a) [ inl p ↦ p | inr e ↦ absurd (subst (λ (z : Float). T (finite z)) e t) ]

-- ---- the cases

-- what is at least zero, and what is not
pub data AtLeastZero (x : Float) : Type 0 where
  equals_zero : T (eq x zero) → AtLeastZero x
  above_zero : T (positive x) → AtLeastZero x
  infinite : x ≡ inf false → AtLeastZero x

pub data AgainstZero (x : Float) : Type 0 where
  not_a_number : x ≡ nan → AgainstZero x
  below_zero : T (lt x zero) → AgainstZero x
  at_least_zero : AtLeastZero x → AgainstZero x

pub against_zero : (x : Float) → AgainstZero x
unfolding is_nan
against_zero x = elim (nan_or_number x) [ inl e ↦ not_a_number e | inr n ↦ go n (le_or_lt zero x tt n) ]
  where
    over : T (above x) → AtLeastZero x
    over a = elim (positive_or_infinite x a) [ inl p ↦ above_zero p | inr e ↦ infinite e ]

    go : T (number x) → T (le zero x) ⊎ T (lt x zero) → AgainstZero x
    go n (inr l) = below_zero l
    go n (inl h) = at_least_zero (elim (le_or_lt x zero n tt) [ inl k ↦ equals_zero (float_le_antisymm x zero k h) | inr l ↦ over (above_of_lt x l) ])

pub not_below_zero : (x : Float) → T (not (is_nan x)) → T (not (lt x zero)) → AtLeastZero x
unfolding is_nan
not_below_zero x n l = go (against_zero x)
  where
    go : AgainstZero x → AtLeastZero x
    go (not_a_number e) = absurd (subst (λ (z : Float). T (not (is_nan z))) e n)
    go (below_zero t) = absurd (T_not (lt x zero) l t)
    go (at_least_zero a) = a

pub zero_not_above : (x : Float) → T (eq x zero) → T (above x) → ⊥
zero_not_above x t a = lt_excludes zero x (lt_of_above x a) (eq→le x zero t)

-- a pattern up to infinity's is no NaN's
pub upto_infinity : (f : Format) (n : ℕ) → n ≤ ones f * hid f → T (not (nan_bits f n))
upto_infinity f n h = rw (up_to_infinity f n (le_trans (mod-le n (top f)) h)) tt
