-- What the helpers that limit a number give: within the limit, and at a NaN, an infinity and a zero. Assumes nothing.
use mathlib.Core.Path.{◌≡◌, refl, ◌∙◌}
use mathlib.Core.Bool.{Bool, true, false, not, cond}
use lib.Dec.{T, not_T}
use lib.IntN.{pos}
use lib.Ieee.{Float, nan, inf, fin, neg, lt, eq, le, is_nan, of_bits}
use lib.Ieee.Bits.{is_true, is_false}
use Rattle.floats.specs.MinMax.{clamp}
use Rattle.floats.proofs.Laws.Order.{number, nan_right, eq→le, lt_excludes, le_numbers, lt_numbers, float_le_trans}
use Rattle.floats.proofs.Laws.MinMax.{clamp_inside, clamp_below, clamp_above, clamp_nan, clamp_nan_at, clamp_at_least, clamp_at_most, clamp_least, clamp_greatest}
use Rattle.floats.proofs.Laws.Special.{is_nan_lem}
use Rattle.floats.proofs.Laws.Sum.{neg_nonneg}
use Rattle.math.specs.Math.{zero, one, limit_or_zero, clamp_symmetric, saturate_symmetric, saturate_unit, saturate_throttle}
use Rattle.math.proofs.Laws.Cases.{by_test}

pub zero_nonneg : T (le zero zero)
unfolding le of_bits
zero_nonneg = tt

zero_below_one : T (le zero one)
unfolding le of_bits
zero_below_one = tt

pub positive_not_zero : (x : Float) → T (lt zero x) → T (not (eq x zero))
positive_not_zero x h = not_T (eq x zero) (λ e. lt_excludes zero x h (eq→le x zero e))

zeros_level : (s : Bool) → T (le zero (fin s 0 (pos 0))) × T (le (fin s 0 (pos 0)) zero)
unfolding le of_bits
zeros_level true = (tt, tt)
zeros_level false = (tt, tt)

neg_below_zero : (x : Float) → T (le zero x) → T (le (neg x) zero)
unfolding of_bits
neg_below_zero x h = neg_nonneg x h

-- ---- a limit

pub limit_kept : (limit : Float) → T (le zero limit) → limit_or_zero limit ≡ limit
unfolding limit_or_zero
limit_kept limit h = rw (is_true (le zero limit) h)

pub no_limit_is_zero : (limit : Float) → T (not (le zero limit)) → limit_or_zero limit ≡ zero
unfolding limit_or_zero
no_limit_is_zero limit h = rw (is_false (le zero limit) h)

pub nan_limit_is_zero : limit_or_zero nan ≡ zero
nan_limit_is_zero = no_limit_is_zero nan (rw (nan_right zero).2 tt)

pub limit_of_infinity : (s : Bool) → limit_or_zero (inf s) ≡ cond s zero (inf s)
unfolding limit_or_zero le of_bits
limit_of_infinity true = refl
limit_of_infinity false = refl

-- a zero keeps its sign
pub limit_of_zero : (s : Bool) → limit_or_zero (fin s 0 (pos 0)) ≡ fin s 0 (pos 0)
limit_of_zero s = limit_kept (fin s 0 (pos 0)) (zeros_level s).0

-- so a limit is never a NaN
pub limit_nonneg : (limit : Float) → T (le zero (limit_or_zero limit))
limit_nonneg limit = by_test (le zero limit) (λ h. rw (limit_kept limit h) h) (λ h. rw (no_limit_is_zero limit h) zero_nonneg)

limit_range : (limit : Float) → T (le (neg (limit_or_zero limit)) (limit_or_zero limit))
limit_range limit =
    let l = limit_or_zero limit in
    let h = limit_nonneg limit in
    float_le_trans (neg l) zero l (neg_below_zero l h) h

-- ---- clamp_symmetric

pub clamp_symmetric_keeps_nan : (limit : Float) → clamp_symmetric nan limit ≡ nan
unfolding clamp_symmetric
clamp_symmetric_keeps_nan limit = clamp_nan_at (neg (limit_or_zero limit)) (limit_or_zero limit)

pub clamp_symmetric_within : (value limit : Float) → T (number value)
    → T (le (neg (limit_or_zero limit)) (clamp_symmetric value limit)) × T (le (clamp_symmetric value limit) (limit_or_zero limit))
unfolding clamp_symmetric
clamp_symmetric_within value limit p =
    let l = limit_or_zero limit in
    (clamp_at_least value (neg l) l (limit_range limit) p, clamp_at_most value (neg l) l (limit_range limit) p)

pub clamp_symmetric_nan_alone : (value limit : Float) → is_nan (clamp_symmetric value limit) ≡ is_nan value
unfolding clamp_symmetric
clamp_symmetric_nan_alone value limit = clamp_nan value (neg (limit_or_zero limit)) (limit_or_zero limit) (limit_range limit)

pub clamp_symmetric_inside : (value limit : Float) → T (le (neg (limit_or_zero limit)) value) → T (le value (limit_or_zero limit))
    → clamp_symmetric value limit ≡ value
unfolding clamp_symmetric
clamp_symmetric_inside value limit l h = clamp_inside value (neg (limit_or_zero limit)) (limit_or_zero limit) l h

pub clamp_symmetric_of_infinity : (s : Bool) (limit : Float) → clamp_symmetric (inf s) limit ≡ cond s (neg (limit_or_zero limit)) (limit_or_zero limit)
unfolding clamp_symmetric
clamp_symmetric_of_infinity true limit = clamp_least (neg (limit_or_zero limit)) (limit_or_zero limit) (limit_range limit)
clamp_symmetric_of_infinity false limit = clamp_greatest (neg (limit_or_zero limit)) (limit_or_zero limit) (limit_range limit)

-- a zero keeps its sign
pub clamp_symmetric_of_zero : (s : Bool) (limit : Float) → clamp_symmetric (fin s 0 (pos 0)) limit ≡ fin s 0 (pos 0)
clamp_symmetric_of_zero s limit =
    let l = limit_or_zero limit in
    let z = fin s 0 (pos 0) in
    let h = limit_nonneg limit in
    clamp_symmetric_inside z limit (float_le_trans (neg l) zero z (neg_below_zero l h) (zeros_level s).0) (float_le_trans z zero l (zeros_level s).1 h)

-- ---- saturate_symmetric

pub saturate_symmetric_of_nan : (limit : Float) → saturate_symmetric nan limit ≡ zero
unfolding saturate_symmetric is_nan
saturate_symmetric_of_nan limit = refl

-- any other value is clamped
pub saturate_symmetric_of_number : (value limit : Float) → T (number value) → saturate_symmetric value limit ≡ clamp_symmetric value limit
unfolding saturate_symmetric
saturate_symmetric_of_number value limit p = rw (is_false (is_nan value) p)

pub saturate_symmetric_within : (value limit : Float)
    → T (le (neg (limit_or_zero limit)) (saturate_symmetric value limit)) × T (le (saturate_symmetric value limit) (limit_or_zero limit))
saturate_symmetric_within value limit =
    let l = limit_or_zero limit in
    let h = limit_nonneg limit in
    by_test (is_nan value)
    (λ n. rw (is_nan_lem value (is_true (is_nan value) n), saturate_symmetric_of_nan limit) (neg_below_zero l h, h))
    (λ p. rw (saturate_symmetric_of_number value limit p) (clamp_symmetric_within value limit p))

pub saturate_unit_within : (value : Float) → T (le (neg one) (saturate_unit value)) × T (le (saturate_unit value) one)
saturate_unit_within value = rw (limit_kept one zero_below_one) at (saturate_symmetric_within value one)

-- ---- saturate_throttle

pub saturate_throttle_of_nan : saturate_throttle nan ≡ zero
unfolding saturate_throttle is_nan
saturate_throttle_of_nan = refl

saturate_throttle_of_number : (value : Float) → T (number value) → saturate_throttle value ≡ clamp value zero one
unfolding saturate_throttle
saturate_throttle_of_number value p = rw (is_false (is_nan value) p)

-- never a NaN
pub saturate_throttle_in_unit : (value : Float) → T (le zero (saturate_throttle value)) × T (le (saturate_throttle value) one)
saturate_throttle_in_unit value =
    by_test (is_nan value)
    (λ n. rw (is_nan_lem value (is_true (is_nan value) n), saturate_throttle_of_nan) (zero_nonneg, zero_below_one))
    (λ p. rw (saturate_throttle_of_number value p) (clamp_at_least value zero one zero_below_one p, clamp_at_most value zero one zero_below_one p))

pub saturate_throttle_inside : (value : Float) → T (le zero value) → T (le value one) → saturate_throttle value ≡ value
saturate_throttle_inside value l h = saturate_throttle_of_number value (le_numbers value one h).0 ∙ clamp_inside value zero one l h

pub saturate_throttle_below : (value : Float) → T (lt value zero) → saturate_throttle value ≡ zero
saturate_throttle_below value l = saturate_throttle_of_number value (lt_numbers value zero l).0 ∙ clamp_below value zero one zero_below_one l

pub saturate_throttle_above : (value : Float) → T (lt one value) → saturate_throttle value ≡ one
saturate_throttle_above value l = saturate_throttle_of_number value (lt_numbers one value l).1 ∙ clamp_above value zero one zero_below_one l

pub saturate_throttle_of_infinity : (s : Bool) → saturate_throttle (inf s) ≡ cond s zero one
unfolding is_nan
saturate_throttle_of_infinity true = saturate_throttle_of_number (inf true) tt ∙ clamp_least zero one zero_below_one
saturate_throttle_of_infinity false = saturate_throttle_of_number (inf false) tt ∙ clamp_greatest zero one zero_below_one

-- a zero keeps its sign
pub saturate_throttle_of_zero : (s : Bool) → saturate_throttle (fin s 0 (pos 0)) ≡ fin s 0 (pos 0)
saturate_throttle_of_zero s =
    saturate_throttle_inside (fin s 0 (pos 0)) (zeros_level s).0 (float_le_trans (fin s 0 (pos 0)) zero one (zeros_level s).1 zero_below_one)
