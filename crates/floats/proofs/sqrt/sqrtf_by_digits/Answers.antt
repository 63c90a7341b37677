-- `floats::sqrt::sqrtf_by_digits` meets its contract: of a zero, an infinity, a NaN and a number below zero by the definition's own cases, and of any
-- other number by `sqrt_pattern`. Assumes nothing.
use Rattle.std.proofs.Common.{◌≡◌, ℕ, ◌+◌, ◌-◌, ◌*◌, ◌/◌, ◌^◌, ◌<◌, ◌≤◌, true, false, T, sym, refl, ap, ◌∙◌, subst, inl, inr, arith}
use Rattle.std.proofs.lemmas.Float.{T_from_true}
use lib.Ieee.{Float, nan, inf, binary32, binary64, fits, of_bits, to_bits, lt, eq, fin}
use lib.Ieee.Positive.{positive, above}
use lib.Ieee.Bits.{of_bits-to_bits}
use Rattle.floats.specs.Sqrt.{sqrt}
use Rattle.floats.specs.Root.{zero}
use Rattle.floats.proofs.Laws.Sqrt.Special.{sqrt_nan, sqrt_zero, sqrt_infinity, sqrt_below_zero, sqrt_fits, equals_zero, above_zero, infinite}
use Rattle.floats.proofs.Laws.Sqrt.Special.{AgainstZero, not_a_number, below_zero, at_least_zero, against_zero}
use Rattle.floats.proofs.Laws.Sqrt.Special.{above_of_lt, lt_of_above, above_of_positive, positive_or_infinite, upto_infinity}
use Rattle.floats.proofs.Laws.Sqrt.Pattern.{exponent, root, field, field_in, root_in, sqrt_pattern}
use Rattle.floats.proofs.Laws.Special.{quiet_nan}
use Rattle.floats.proofs.sqrt.sqrtf_by_digits.Goals as goal

-- ---- the constants in the code
zero_is : of_bits binary32 0 ≡ zero
unfolding of_bits
zero_is = refl

infinity_is : of_bits binary32 2139095040 ≡ inf false
unfolding of_bits
infinity_is = refl

-- ---- what the tests say
no_root : (x : Float) → eq x zero ≡ false → lt zero x ≡ false → sqrt binary32 x ≡ nan
no_root x not_zero not_above = go (against_zero x)
  where
    go : AgainstZero x → sqrt binary32 x ≡ nan
    go (not_a_number e) = ap (sqrt binary32) e ∙ sqrt_nan binary32
    go (below_zero t) = sqrt_below_zero binary32 x t
    go (at_least_zero (equals_zero t)) = absurd (subst T not_zero t)
    go (at_least_zero (above_zero p)) = absurd (subst T not_above (lt_of_above x (above_of_positive x p)))
    go (at_least_zero (infinite e)) = absurd (subst T not_above (lt_of_above x (subst (λ (y : Float). T (above y)) (sym e) tt)))

infinity_equals : (x : Float) → T (eq x (inf false)) → x ≡ inf false
unfolding eq
infinity_equals (inf false) t = refl
infinity_equals nan t = elim t [ ]
infinity_equals (inf true) t = elim t [ ]
infinity_equals (fin _ _ _) t = elim t [ ]

equals_infinity : (x : Float) → x ≡ inf false → T (eq x (inf false))
unfolding eq
equals_infinity x e = subst (λ (y : Float). T (eq y (inf false))) (sym e) tt

is_positive : (x : Float) → lt (of_bits binary32 0) x ≡ true → eq x (of_bits binary32 2139095040) ≡ false → T (positive x)
is_positive x over_zero not_infinite =
    elim (positive_or_infinite x (above_of_lt x (subst (λ (z : Float). T (lt z x)) zero_is (T_from_true _ over_zero)))) [
      | inl p ↦ p
      | inr e ↦ absurd (subst T (subst (λ (z : Float). eq x z ≡ false) infinity_is not_infinite) (equals_infinity x e))
    ]

-- ---- the early returns
pub returns-then-x : goal.returns-then-x
returns-then-x c = sym (sqrt_zero binary32 c.args.x (subst (λ (z : Float). T (eq c.args.x z)) zero_is (T_from_true _ c.if-x.true)))

pub returns-then-not-x : goal.returns-then-not-x
returns-then-not-x c =
    let x = c.args.x in
    quiet_nan
    ∙ sym (no_root x (subst (λ (z : Float). eq x z ≡ false) zero_is c.if-x.false) (subst (λ (z : Float). lt z x ≡ false) zero_is c.if-not-x.true))

pub returns-then-x-2 : goal.returns-then-x-2
returns-then-x-2 c =
    let x = c.args.x in
    let e = infinity_equals x (subst (λ (z : Float). T (eq x z)) infinity_is (T_from_true _ c.if-x-2.true)) in
    e ∙ sym (ap (sqrt binary32) e ∙ sqrt_infinity binary32)

-- ---- past them x is positive, and a value of the format: the exponent and the root are in range, and the pattern is that of the root of x
record Found (x : Float) (r : ℕ) : Type 0 where
  fit : T (fits binary32 x)
  low : 386 ≤ (exponent (to_bits binary64 x) + 1) / 2
  small : field (to_bits binary64 x) < 190
  digits : r < 2 ^ 25 - 1
  pattern : field (to_bits binary64 x) * 2 ^ 23 + (r + 1) / 2 ≡ to_bits binary32 (sqrt binary32 x)

found : (x : Float) (r : ℕ) → fits binary32 x ≡ true → lt (of_bits binary32 0) x ≡ true → eq x (of_bits binary32 2139095040) ≡ false
    → r ≡ root (to_bits binary64 x) → Found x r
found x r fitting over_zero not_infinite is =
    let fit : T (fits binary32 x) = T_from_true _ fitting in
    let p = is_positive x over_zero not_infinite in
    let f = field_in x fit p in
    record {
      fit = fit;
      low = f.0;
      small = f.1;
      digits = subst (λ (n : ℕ). n < 2 ^ 25 - 1) (sym is) (root_in x fit p).1;
      pattern = ap (λ (n : ℕ). field (to_bits binary64 x) * 2 ^ 23 + (n + 1) / 2) is ∙ sym (sqrt_pattern x fit p);
    }

pub overflow_add-result : goal.overflow_add-result
overflow_add-result c = omega (arith, found c.args.x _ c.well_formed.0.1 c.if-not-x.false c.if-x-2.false c.whole_root-root.ensures)

pub overflow_sub-result : goal.overflow_sub-result
overflow_sub-result c = (found c.args.x _ c.well_formed.0.1 c.if-not-x.false c.if-x-2.false c.whole_root-root.ensures).low

pub overflow_mul-result : goal.overflow_mul-result
overflow_mul-result c = omega (arith, found c.args.x _ c.well_formed.0.1 c.if-not-x.false c.if-x-2.false c.whole_root-root.ensures)

pub overflow_add-result-2 : goal.overflow_add-result-2
overflow_add-result-2 c = omega (arith, found c.args.x _ c.well_formed.0.1 c.if-not-x.false c.if-x-2.false c.whole_root-root.ensures)

pub overflow_add-result-3 : goal.overflow_add-result-3
overflow_add-result-3 c = omega (arith, found c.args.x _ c.well_formed.0.1 c.if-not-x.false c.if-x-2.false c.whole_root-root.ensures)

pub overflow_cast-result : goal.overflow_cast-result
overflow_cast-result c = omega (arith, found c.args.x _ c.well_formed.0.1 c.if-not-x.false c.if-x-2.false c.whole_root-root.ensures)

pub float_from_bits-result : goal.float_from_bits-result
float_from_bits-result c =
    let w = found c.args.x _ c.well_formed.0.1 c.if-not-x.false c.if-x-2.false c.whole_root-root.ensures in
    upto_infinity binary32 _ (omega arith)

pub returns : goal.returns
returns c =
    let x = c.args.x in
    let w = found x _ c.well_formed.0.1 c.if-not-x.false c.if-x-2.false c.whole_root-root.ensures in
    ap (of_bits binary32) w.pattern ∙ of_bits-to_bits binary32 (sqrt binary32 x) (sqrt_fits binary32 x w.fit)
