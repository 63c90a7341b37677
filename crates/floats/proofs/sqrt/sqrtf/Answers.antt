-- `floats::sqrt::sqrtf` meets its contract: by that of `is_root` where the guess passes, and else by that of `sqrtf_by_digits`. Assumes nothing.
use Rattle.std.proofs.Common.{◌≡◌, ℕ, ◌^◌, ◌<◌, Bool, true, false, not, T, sym, ap, ◌∙◌, subst, inl, inr, arith}
use Rattle.std.proofs.lemmas.Float.{T_from_true}
use lib.Ieee.{Float, binary32, binary64, fits, is_nan, le, of_bits, to_bits, nan_bits}
use lib.Ieee.Positive.{num, den, positive, positive-finite, own_value, above_of_le}
use lib.Ieee.Bits.{of_bits-to_bits, to_bits-lt, nan_bits_is}
use Rattle.floats.specs.Sqrt.{sqrt}
use Rattle.floats.proofs.Laws.Order.{float_le_trans, abs_is, finite→number}
use Rattle.floats.proofs.Laws.Sqrt.{sqrt_fits, sqrt_above_zero}
use Rattle.floats.proofs.Laws.Sqrt.Special.{positive_or_infinite}
use Rattle.floats.proofs.Laws.Sign.{size_below_top}
use Rattle.floats.proofs.Laws.Round.{value_sign}
use Rattle.floats.proofs.Laws.Sqrt.Pattern.{smallest_positive}
use Rattle.floats.proofs.sqrt.sqrtf.Goals as goal

-- ---- a number in the range of the tests is normal and positive
abbrev lowest : Float
lowest = of_bits binary32 34086122

abbrev highest : Float
highest = of_bits binary32 2137108966

normal_above : (x : Float) → le lowest x ≡ true → T (le (of_bits binary32 8388608) x)
unfolding of_bits le
normal_above x h = float_le_trans (of_bits binary32 8388608) lowest x tt (T_from_true _ h)

normal_positive : (x : Float) → le lowest x ≡ true → le x highest ≡ true → T (positive x)
unfolding of_bits le
normal_positive x h l =
    elim (positive_or_infinite x (above_of_le (of_bits binary32 8388608) x smallest_positive (normal_above x h))) [
      | inl p ↦ p
      | inr e ↦ absurd (subst (λ (y : Float). T (le y highest)) e (T_from_true _ l))
    ]

pub overflow_add-pattern : goal.overflow_add-pattern
overflow_add-pattern c = omega (arith, to_bits-lt binary64 c.near-s.result (T_from_true _ c.near-s.type_inv))

pub is_root-requires-clause-above_zero : goal.is_root-requires-clause-above_zero
is_root-requires-clause-above_zero c = normal_positive c.args.x c.if-x.true c.if-x-2.true

pub is_root-requires-clause-normal : goal.is_root-requires-clause-normal
is_root-requires-clause-normal c = normal_above c.args.x c.if-x.true

-- ---- the guess n passes: it is the root's pattern
record Root (x : Float) (n : ℕ) : Type 0 where
  below : n < 2 ^ 31
  number : T (not (nan_bits binary32 n))
  is : of_bits binary32 n ≡ sqrt binary32 x

root : (x : Float) (n : ℕ) → fits binary32 x ≡ true → le lowest x ≡ true → le x highest ≡ true → n ≡ to_bits binary32 (sqrt binary32 x) → Root x n
root x n fitting h l e =
    let fit : T (fits binary32 x) = T_from_true _ fitting in
    let p = normal_positive x h l in
    let r = sqrt binary32 x in
    let root_fits : T (fits binary32 r) = sqrt_fits binary32 x fit in
    let root_positive : T (positive r) = sqrt_above_zero binary32 x fit p in
    let is : of_bits binary32 n ≡ r = ap (of_bits binary32) e ∙ of_bits-to_bits binary32 r root_fits in
    record {
      below = omega (arith, rw (abs_is r, value_sign r false (num r) (den r) (own_value r root_positive)) at (size_below_top binary32 r root_fits));
      number = subst (λ (b : Bool). T (not b)) (sym (nan_bits_is binary32 n ∙ ap is_nan is)) (finite→number r (positive-finite r root_positive));
      is = is;
    }

pub overflow_cast-result : goal.overflow_cast-result
overflow_cast-result c = omega (arith, (root c.args.x _ c.well_formed.0.1 c.if-x.true c.if-x-2.true (c.is_root.ensures c.if-is_root.true)).below)

pub float_from_bits-result : goal.float_from_bits-result
float_from_bits-result c = (root c.args.x _ c.well_formed.0.1 c.if-x.true c.if-x-2.true (c.is_root.ensures c.if-is_root.true)).number

pub returns-then-is_root : goal.returns-then-is_root
returns-then-is_root c = (root c.args.x _ c.well_formed.0.1 c.if-x.true c.if-x-2.true (c.is_root.ensures c.if-is_root.true)).is
