-- The root's digits: with d digits of its whole part r cut off, which leaves one more than the format keeps, the result is that number h halved, and rounded up where h is odd.
-- That holds where the root is at no tie. Assumes nothing.
use Rattle.std.proofs.Common.{◌≡◌, ℕ, suc, ◌+◌, ◌-◌, ◌*◌, ◌/◌, ◌%◌, ◌^◌, ◌<◌, ◌≤◌, false, sym, ap, ◌∙◌, subst, ap₂, le_trans, le_of_eq, lt_of_lt_of_le, lt_of_le_of_lt, mul-le-mul_right, mul_assoc, div-lt_iff_lt-mul, add-mul, lt_of_mul-lt-mul_right, suc-add, mul-pos, one-mul, le-div_iff_mul-le, div-mul-le_self, le_of_mul-le-mul_right, mul-div_cancel, arith, pow_pos, pow-add}
use native.Mathlib.Nat.{eq_of_mul-eq-mul_right, mul-div-mul_right, mul-mul-mul_comm}
use lib.Ieee.{Format, prec, units}
use lib.Ieee.Fits.{two, two-le_pos}
use Rattle.floats.specs.Sqrt.{whole_root, scale, square, root_of}
use Rattle.floats.proofs.Laws.Pattern.{excess}
use Rattle.floats.proofs.Laws.Sqrt.WholeRoot.{whole_root_unique, whole_root_div}
use Rattle.floats.proofs.Laws.Sqrt.Rounding.{dropped, halves, round_by_digits}
use Rattle.floats.proofs.Laws.Sqrt.Bounds.{LeftOver, nothing, something, Rounded, rounded, scale_pos, two_scale_pos}

-- ---- how many digits of r are beyond those that the format keeps and one more
rest : (p d : ℕ) → 2 ≤ p → p ≤ suc d → p - 1 + (suc d - p) ≡ d
rest p d P h = omega arith

module _ (f : Format) (r d : ℕ) (enough : prec f ≤ suc d) (at_least : 2 ^ (prec f + d) ≤ r) (below : r < 2 ^ suc (prec f + d)) where
  dropped_is : dropped f r ≡ suc d - prec f
  dropped_is =
      excess (prec f) (suc d - prec f) (r / 2 ^ prec f) (two-le_pos (prec f) (two f))
      ((div-lt_iff_lt-mul (pow_pos (prec f))).1 (lt_of_lt_of_le below (le_of_eq (ap (λ (x : ℕ). 2 ^ x) (top (prec f) enough) ∙ pow-add 2 (prec f + (suc d - prec f)) (prec f)))))
      (λ (K : 0 < suc d - prec f). (le-div_iff_mul-le (pow_pos (prec f))).1 (le_trans (le_of_eq (sym (pow-add 2 (prec f - 1 + (suc d - prec f)) (prec f)) ∙ ap (λ (x : ℕ). 2 ^ x) (first (prec f) (two f) enough))) at_least))
    where
      top : (p : ℕ) → p ≤ suc d → suc (p + d) ≡ p + (suc d - p) + p
      top p h = omega arith

      first : (p : ℕ) → 2 ≤ p → p ≤ suc d → p - 1 + (suc d - p) + p ≡ p + d
      first p P h = omega arith

  cut_is : prec f - 1 + dropped f r ≡ d
  cut_is = ap (λ (k : ℕ). prec f - 1 + k) dropped_is ∙ rest (prec f) d (two f) enough

  halves_is : halves f r ≡ r / 2 ^ d
  halves_is = ap (λ (x : ℕ). r / 2 ^ x) cut_is

-- ---- the root of num / den, which at the scale's square is the whole number n
module _ (f : Format) (num den n : ℕ) (D : 0 < den) (exact : square f num ≡ n * den) (R : Rounded f num den) where
  whole_is : R.whole ≡ whole_root n
  whole_is = whole_root_unique (le_of_mul-le-mul_right (le_trans R.at_least (le_of_eq exact)) D, lt_of_mul-lt-mul_right den (lt_of_le_of_lt (le_of_eq (sym exact)) R.below))

  -- the digit is below the whole part's last one
  digit_below : (2 * R.whole + R.digit) * scale f / (2 * scale f) ≡ whole_root n
  digit_below = mul-div-mul_right (2 * R.whole + R.digit) 2 (scale_pos f) ∙ half R.rest ∙ whole_is
    where
      half : {a b : ℕ} → LeftOver R.digit a b → (2 * R.whole + R.digit) / 2 ≡ R.whole
      half (nothing d e) = omega arith
      half (something d i) = omega arith

  -- at a tie nothing is left over, and the root is c
  only_exact : (c : ℕ) → c * (2 * scale f) ≡ (2 * R.whole + R.digit) * scale f → (whole_root n ≡ c) × (c * c ≡ n)
  only_exact c e = go R.rest (eq_of_mul-eq-mul_right (scale f) (scale_pos f) (c * 2) (2 * R.whole + R.digit) (mul_assoc c 2 (scale f) ∙ e))
    where
      go : LeftOver R.digit (R.whole * R.whole * den) (square f num) → c * 2 ≡ 2 * R.whole + R.digit → (whole_root n ≡ c) × (c * c ≡ n)
      go (nothing d q) t =
          let w : R.whole ≡ c = omega arith in
          (sym whole_is ∙ w, eq_of_mul-eq-mul_right den D (c * c) n (ap (λ (x : ℕ). x * x * den) (sym w) ∙ q ∙ exact))
      go (something d i) t = absurd (parity c R.whole (t ∙ ap (λ (x : ℕ). 2 * R.whole + x) d))
        where
          parity : (c w : ℕ) → c * 2 ≡ 2 * w + 1 → ⊥
          parity c w t = omega arith

pub root_by_digits : (f : Format) (num den n d : ℕ) → 0 < den → square f num ≡ n * den
    → prec f ≤ suc d → 2 ^ (prec f + d) ≤ whole_root n → whole_root n < 2 ^ suc (prec f + d)
    → (whole_root n / 2 ^ d % 2 ≡ 1 → whole_root n ≡ whole_root n / 2 ^ d * 2 ^ d → whole_root n * whole_root n ≡ n → ⊥)
    → root_of f num den ≡ units f false ((whole_root n / 2 ^ d + 1) / 2) (suc d - prec f)
root_by_digits f num den n d D exact enough at_least below no_tie =
    let R = rounded f num den D in
    let r = whole_root n in
    let cut = cut_is f r d enough at_least below in
    let hs = halves_is f r d enough at_least below in
    R.value
    ∙ round_by_digits f false (2 * R.whole + R.digit) (2 * scale f) r (two_scale_pos f) (digit_below f num den n D exact R)
    (λ o e.
    let t = only_exact f num den n D exact R (r / 2 ^ d * 2 ^ d) (ap (λ (x : ℕ). r / 2 ^ x * 2 ^ x * (2 * scale f)) (sym cut) ∙ e) in
    no_tie (ap (λ (x : ℕ). x % 2) (sym hs) ∙ o) t.0 (ap (λ (x : ℕ). x * x) t.0 ∙ t.1))
    ∙ ap (λ (h : ℕ). units f false ((h + 1) / 2) (dropped f r)) hs
    ∙ ap (λ (k : ℕ). units f false ((r / 2 ^ d + 1) / 2) k) (dropped_is f r d enough at_least below)

-- ---- the same from a smaller whole number n, which has the root's first digits. The root is at no tie since n is even.
pub even_not_odd : (n : ℕ) → n % 2 ≡ 0 → n % 2 ≡ 1 → ⊥
even_not_odd n e o = omega arith

pub odd_square : (r : ℕ) → r % 2 ≡ 1 → r * r % 2 ≡ 1
odd_square r o = odd_product (r / 2) (r * r) (ap (λ (x : ℕ). x * r) (split r o) ∙ add-mul (2 * (r / 2)) 1 r ∙ ap₂ (λ (x y : ℕ). x + y) (mul_assoc 2 (r / 2) r) (one-mul r))
  where
    split : (r : ℕ) → r % 2 ≡ 1 → r ≡ 2 * (r / 2) + 1
    split r o = omega arith

    odd_product : (h s : ℕ) → s ≡ 2 * (h * r) + r → s % 2 ≡ 1
    odd_product h s e = omega arith

module _ (f : Format) (num den n d : ℕ) (D : 0 < den) (exact : square f num ≡ n * (2 ^ d * 2 ^ d) * den) where
  first_digits : whole_root (n * (2 ^ d * 2 ^ d)) / 2 ^ d ≡ whole_root n
  first_digits = whole_root_div (n * (2 ^ d * 2 ^ d)) (2 ^ d) (pow_pos d) ∙ ap whole_root (mul-div_cancel n (mul-pos (pow_pos d) (pow_pos d)))

  pub root_of_shifted : prec f ≤ suc d → 2 ^ prec f ≤ whole_root n → whole_root n < 2 ^ suc (prec f) → n % 2 ≡ 0 → root_of f num den ≡ units f false ((whole_root n + 1) / 2) (suc d - prec f)
  root_of_shifted enough at_least below even =
      let r = whole_root (n * (2 ^ d * 2 ^ d)) in
      root_by_digits f num den (n * (2 ^ d * 2 ^ d)) d D exact enough
      (le_trans (le_of_eq (pow-add 2 (prec f) d)) (le_trans (mul-le-mul_right (2 ^ d) (subst (λ (x : ℕ). 2 ^ prec f ≤ x) (sym first_digits) at_least)) (div-mul-le_self r (2 ^ d))))
      (subst (λ (x : ℕ). r < 2 ^ x) (suc-add (prec f) d)
      (subst (λ (x : ℕ). r < x) (sym (pow-add 2 (suc (prec f)) d)) ((div-lt_iff_lt-mul (pow_pos d)).0 (subst (λ (x : ℕ). x < 2 ^ suc (prec f)) (sym first_digits) below))))
      (λ o w q. even_not_odd n even (ap (λ (x : ℕ). x % 2) (is_square w q) ∙ odd_square (whole_root n) (ap (λ (x : ℕ). x % 2) (sym first_digits) ∙ o)))
      ∙ ap (λ (h : ℕ). units f false ((h + 1) / 2) (suc d - prec f)) first_digits
    where
      is_square : whole_root (n * (2 ^ d * 2 ^ d)) ≡ whole_root (n * (2 ^ d * 2 ^ d)) / 2 ^ d * 2 ^ d
          → whole_root (n * (2 ^ d * 2 ^ d)) * whole_root (n * (2 ^ d * 2 ^ d)) ≡ n * (2 ^ d * 2 ^ d) → n ≡ whole_root n * whole_root n
      is_square w q = eq_of_mul-eq-mul_right (2 ^ d * 2 ^ d) (mul-pos (pow_pos d) (pow_pos d)) n (whole_root n * whole_root n)
          (sym q ∙ ap (λ (x : ℕ). x * x) (w ∙ ap (λ (x : ℕ). x * 2 ^ d) first_digits) ∙ mul-mul-mul_comm (whole_root n) (2 ^ d) (whole_root n) (2 ^ d))
