-- What makes `sqrt` the square root of IEEE 754, in any format. For a positive value x of the format it is the one value of the format that is nearest to √x: no other is nearer, and none is as near
-- (`sqrt_nearest`, `sqrt_unique`). It is √x itself where the format holds that (`sqrt_exact`), a fraction on one side of √x rounds to that side of it (`sqrt_at_least`, `sqrt_at_most`),
-- and it grows with x (`sqrt_mono`). `sqrt_nan`, `sqrt_zero`, `sqrt_infinity` and `sqrt_below_zero` have the other values. Assumes nothing.
pub mod WholeRoot
pub mod Rounding
pub mod Bounds
pub mod Values
pub mod Special
pub mod Signs
pub mod Digits
pub mod Leading
pub mod Nearest
pub mod Pattern
pub mod Square
pub mod Limit
use Rattle.std.proofs.Common.{◌≡◌, ℕ, ◌*◌, ◌<◌, ◌≤◌, false, not, T, sym, refl, ap, ◌∙◌, subst, subst₂, le_of_eq}
use lib.Dec.{not_T}
use lib.Ieee.{Float, inf, Format, binary32, round, fits, is_nan, le, lt, eq, of_bits, to_bits}
use lib.Ieee.Scale.{finite}
use lib.Ieee.Positive.{num, den, den_pos, positive, own_value, between, le→cross, above_of_le, positive-finite}
use Rattle.floats.specs.Compare.{is_negative}
use Rattle.floats.proofs.Laws.Order.{lt_excludes, le_numbers, finite→number, inf_greatest, greatest_only, float_le_trans, eq→le}
use Rattle.floats.specs.Sqrt.{root_digits, whole_root, root_of, sqrt}
use Rattle.floats.specs.Root.{zero, IsNearest, CorrectRoot}
use Rattle.floats.proofs.Laws.Sqrt.Bounds.{root_at_least, root_at_most, root_mono}
use Rattle.floats.proofs.Laws.Round.{round_of_value}
use Rattle.floats.proofs.Laws.Sqrt.Values.{le_antisymm_positive}
use Rattle.floats.proofs.Laws.Sqrt.Nearest.{nearest, root_positive, nearest_unique}
use Rattle.floats.proofs.Laws.Sqrt.Special.{root_of_fits, root_of_sign, root_of_nonneg, sqrt_positive, AtLeastZero, equals_zero, above_zero, infinite, AgainstZero, not_a_number, below_zero, at_least_zero, against_zero, not_below_zero, zero_not_above, positive_of_above, above_of_lt, lt_of_above, above_of_positive}
use Rattle.floats.proofs.Laws.Sqrt.Signs.{unsigned, root_unsigned}
pub use Rattle.floats.proofs.Laws.Sqrt.WholeRoot.{IsRoot, whole_root_is, whole_root_unique}
pub use Rattle.floats.proofs.Laws.Sqrt.Special.{sqrt_fits, sqrt_nan, sqrt_zero, sqrt_infinity, sqrt_below_zero}

-- ---- the nearest value
pub sqrt_nearest : (f : Format) (x : Float) → T (fits f x) → T (positive x) → IsNearest f x (sqrt f x)
sqrt_nearest f x fit p = nearest f x fit p

-- of a positive value of the format it is one
pub sqrt_above_zero : (f : Format) (x : Float) → T (fits f x) → T (positive x) → T (positive (sqrt f x))
sqrt_above_zero f x fit p = root_positive f x fit p

pub sqrt_unique : (f : Format) (x z : Float) → T (fits f x) → T (positive x) → T (fits f z) → T (finite z) → IsNearest f x z → z ≡ sqrt f x
sqrt_unique f x z fit p z_fits t N = nearest_unique f x z (sqrt f x) z_fits (sqrt_fits f x fit) t (root_positive f x fit p) N (nearest f x fit p)

-- ---- all of it: `sqrt` is the square root of IEEE 754
pub root_is_correct : (f : Format) → CorrectRoot f (sqrt f)
root_is_correct f = record {
  of_nan = sqrt_nan f;
  of_zero = sqrt_zero f;
  below_zero = sqrt_below_zero f;
  of_infinity = sqrt_infinity f;
  above_zero = λ x fit t h.
      let p = positive_of_above x t (above_of_lt x h) in
      let r = sqrt_above_zero f x fit p in
      record {
        of_format = sqrt_fits f x fit;
        bounded = positive-finite (sqrt f x) r;
        above_zero = lt_of_above (sqrt f x) (above_of_positive (sqrt f x) r);
        nearest = sqrt_nearest f x fit p;
        only = λ y y_fits y_finite N. sqrt_unique f x y fit p y_fits y_finite N;
      };
}

-- ---- bounds

-- a / b ≤ √x
pub sqrt_at_least : (f : Format) (x : Float) (a b : ℕ) → T (positive x) → 0 < b → a * a * den x ≤ num x * (b * b) → T (le (round f false a b) (sqrt f x))
sqrt_at_least f x a b p B h = subst (λ (z : Float). T (le (round f false a b) z)) (sym (sqrt_positive f x p)) (root_at_least f (num x) (den x) a b (den_pos x) B h)

-- √x ≤ a / b
pub sqrt_at_most : (f : Format) (x : Float) (a b : ℕ) → T (positive x) → 0 < b → num x * (b * b) ≤ a * a * den x → T (le (sqrt f x) (round f false a b))
sqrt_at_most f x a b p B h = subst (λ (z : Float). T (le z (round f false a b))) (sym (sqrt_positive f x p)) (root_at_most f (num x) (den x) a b (den_pos x) B h)

-- y is √x
pub sqrt_exact : (f : Format) (x y : Float) → T (positive x) → T (positive y) → T (fits f y) → num y * num y * den x ≡ num x * (den y * den y) → sqrt f x ≡ y
sqrt_exact f x y p q y_fits e =
    let above : T (le y (sqrt f x)) = subst (λ (z : Float). T (le z (sqrt f x))) (round_of_value f y false (num y) (den y) (den_pos y) y_fits (own_value y q)) (sqrt_at_least f x (num y) (den y) p (den_pos y) (le_of_eq e)) in
    let below : T (le (sqrt f x) y) = subst (λ (z : Float). T (le (sqrt f x) z)) (round_of_value f y false (num y) (den y) (den_pos y) y_fits (own_value y q)) (sqrt_at_most f x (num y) (den y) p (den_pos y) (le_of_eq (sym e))) in
    let fit : T (fits f (sqrt f x)) = subst (λ (z : Float). T (fits f z)) (sym (sqrt_positive f x p)) (root_of_fits f (num x) (den x) (den_pos x)) in
    le_antisymm_positive f (sqrt f x) y fit y_fits (between y (sqrt f x) y q q above below) q below above

-- ---- what a root is
pub sqrt_unsigned : (f : Format) (x : Float) → T (positive x) → T (unsigned (sqrt f x))
sqrt_unsigned f x p = subst (λ (z : Float). T (unsigned z)) (sym (sqrt_positive f x p)) (root_unsigned f (num x) (den x) (den_pos x))

at_least_plus_zero : (f : Format) (x : Float) → T (positive x) → T (le zero (sqrt f x))
at_least_plus_zero f x p = subst (λ (z : Float). T (le zero z)) (sym (sqrt_positive f x p)) (root_of_nonneg f (num x) (den x) (den_pos x))

-- of a number that is not below zero it is a number
pub sqrt_number : (f : Format) (x : Float) → T (not (is_nan x)) → T (not (lt x zero)) → T (not (is_nan (sqrt f x)))
unfolding is_nan
sqrt_number f x n l = go (not_below_zero x n l)
  where
    go : AtLeastZero x → T (not (is_nan (sqrt f x)))
    go (equals_zero t) = subst (λ (z : Float). T (not (is_nan z))) (sym (sqrt_zero f x t)) n
    go (above_zero p) = (le_numbers zero (sqrt f x) (at_least_plus_zero f x p)).1
    go (infinite e) = subst (λ (z : Float). T (not (is_nan z))) (sym (ap (sqrt f) e ∙ sqrt_infinity f)) tt

-- and of one that is finite, of the format, a finite number
pub sqrt_finite : (f : Format) (x : Float) → T (fits f x) → T (finite x) → T (not (lt x zero)) → T (finite (sqrt f x))
sqrt_finite f x fit t l = go (not_below_zero x (finite→number x t) l)
  where
    go : AtLeastZero x → T (finite (sqrt f x))
    go (equals_zero z) = subst (λ (y : Float). T (finite y)) (sym (sqrt_zero f x z)) t
    go (above_zero p) = positive-finite (sqrt f x) (root_positive f x fit p)
    go (infinite e) = absurd (subst (λ (z : Float). T (finite z)) e t)

-- it has a sign only at -0, which is its own root
pub sqrt_sign : (f : Format) (x : Float) → T (is_negative (sqrt f x)) → T (eq x zero) × (sqrt f x ≡ x)
unfolding is_negative
sqrt_sign f x n = go (against_zero x)
  where
    go : AgainstZero x → T (eq x zero) × (sqrt f x ≡ x)
    go (not_a_number e) = absurd (subst (λ (z : Float). T (is_negative z)) (ap (sqrt f) e ∙ sqrt_nan f) n)
    go (below_zero t) = absurd (subst (λ (z : Float). T (is_negative z)) (sqrt_below_zero f x t) n)
    go (at_least_zero (equals_zero t)) = (t, sqrt_zero f x t)
    go (at_least_zero (above_zero p)) = absurd (subst T (ap is_negative (sqrt_positive f x p) ∙ root_of_sign f (num x) (den x) (den_pos x)) n)
    go (at_least_zero (infinite e)) = absurd (subst (λ (z : Float). T (is_negative z)) (ap (sqrt f) e ∙ sqrt_infinity f) n)

-- ---- it grows
pub sqrt_mono : (f : Format) (x y : Float) → T (not (lt x zero)) → T (not (lt y zero)) → T (le x y) → T (le (sqrt f x) (sqrt f y))
sqrt_mono f x y nx ny h = go (not_below_zero x (le_numbers x y h).0 nx) (not_below_zero y (le_numbers x y h).1 ny)
  where
    to_infinity : y ≡ inf false → T (le (sqrt f x) (sqrt f y))
    to_infinity e = subst (λ (z : Float). T (le (sqrt f x) z)) (sym (ap (sqrt f) e ∙ sqrt_infinity f)) (inf_greatest (sqrt f x) (sqrt_number f x (le_numbers x y h).0 nx))

    go : AtLeastZero x → AtLeastZero y → T (le (sqrt f x) (sqrt f y))
    go (infinite e) b = to_infinity (greatest_only y (subst (λ (z : Float). T (le z y)) e h))
    go (equals_zero t) (infinite e) = to_infinity e
    go (equals_zero t) (equals_zero u) = subst₂ (λ (w z : Float). T (le w z)) (sym (sqrt_zero f x t)) (sym (sqrt_zero f y u)) h
    go (equals_zero t) (above_zero q) = subst (λ (z : Float). T (le z (sqrt f y))) (sym (sqrt_zero f x t)) (float_le_trans x zero (sqrt f y) (eq→le x zero t) (at_least_plus_zero f y q))
    go (above_zero p) (infinite e) = to_infinity e
    go (above_zero p) (equals_zero u) = absurd (zero_not_above y u (above_of_le x y p h))
    go (above_zero p) (above_zero q) =
        subst₂ (λ (w z : Float). T (le w z)) (sym (sqrt_positive f x p)) (sym (sqrt_positive f y q))
        (root_mono f (num x) (den x) (num y) (den y) (den_pos x) (den_pos y) (le→cross x y p q h))

-- ---- it is not negative
pub sqrt_nonneg : (f : Format) (x : Float) → T (le zero x) → T (le zero (sqrt f x))
unfolding eq lt
sqrt_nonneg f x h = rw (sqrt_zero f zero tt) at (sqrt_mono f zero x tt (not_T (lt x zero) (λ (l : T (lt x zero)). lt_excludes x zero l h)) h)

-- ---- the root of 2, in an f32
pub sqrt_two : sqrt binary32 (of_bits binary32 0x4000_0000) ≡ of_bits binary32 0x3FB5_04F3
unfolding sqrt root_of whole_root root_digits of_bits round
sqrt_two = refl

pub sqrt_two_bits : to_bits binary32 (sqrt binary32 (of_bits binary32 0x4000_0000)) ≡ 0x3FB5_04F3
unfolding sqrt root_of whole_root root_digits of_bits round to_bits
sqrt_two_bits = refl
