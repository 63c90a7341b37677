-- The bit pattern of an f32's root by whole numbers alone: from that of the f32 as an f64, as `sqrtf_by_digits` works it out (`sqrt_pattern`), and from a normal f32's own, as `is_root` checks it
-- (`sqrt_checked`). Assumes nothing.
use Rattle.std.proofs.Common.{mul-le-mul_right, ◌≡◌, ℕ, zero, suc, ◌+◌, ◌-◌, ◌*◌, ◌/◌, ◌%◌, ◌^◌, ◌<◌, ◌≤◌, false, T, sym, refl, ap, ◌∙◌, subst, le_trans, le_of_eq, lt_of_lt_of_le, lt_of_le_of_lt, mul_assoc, mul-le-mul, mul-le-mul_left, mul-pos, one-mul, pow-suc, lt_of_not-le, not-le_of_lt, mul-div_cancel, mul_left_comm, arith, lit<, lit≤, pow_pos, pow_mono, pow-add, shl_lt}
use native.Mathlib.Nat.{mul-mul-mul_comm, mul-mod_left}
use lib.Ieee.{Float, binary32, binary64, fits, to_bits, units, le, of_bits}
use lib.Ieee.Exact.{HasValue, units_val}
use lib.Ieee.Positive.{num, den, den_pos, positive, values_of_le, positive_of_value}
use Rattle.floats.specs.Sqrt.{whole_root, sqrt}
use Rattle.floats.proofs.Laws.Sqrt.WholeRoot.{next_square, lt_of_squares, le_of_squares, whole_root_is}
use Rattle.floats.proofs.Laws.Sqrt.Values.{Full, in_full, rescaled, to_bits_normal, value_of}
use Rattle.floats.proofs.Laws.Sqrt.Digits.{root_of_shifted}
use Rattle.floats.proofs.Laws.Sqrt.Special.{sqrt_positive}

-- ---- one fraction at two scales: num / den is m * 2 ^ i over 2 ^ l, and m * 2 ^ t * (2 ^ d)² over (2 ^ s)²
rescaled_square : (num den m i l s t d : ℕ) → num * 2 ^ l ≡ m * 2 ^ i * den → i + (s + s) ≡ t + (d + d) + l → num * (2 ^ s * 2 ^ s) ≡ m * 2 ^ t * (2 ^ d * 2 ^ d) * den
rescaled_square num den m i l s t d h e = simp mul_assoc (simp (pow-add, mul_assoc) at (rescaled num den m i l (s + s) (t + (d + d)) h e))

-- ---- the numbers that the code names, from the pattern b of x as an f64
abbrev pub exponent : ℕ → ℕ
exponent b = b / 2 ^ 52

-- the f64's 53 digits, cut to 49 or 50
abbrev pub radicand : ℕ → ℕ
radicand b = (b % 2 ^ 52 + 2 ^ 52) / 2 ^ (3 + exponent b % 2)

abbrev pub root : ℕ → ℕ
root b = whole_root (radicand b)

abbrev pub field : ℕ → ℕ
field b = (exponent b + 1) / 2 - 386

module _ (b M K : ℕ) (full : 2 ^ 23 ≤ M) (few : M < 2 ^ 24) (bits : b ≡ K * 2 ^ 52 + M * 2 ^ 29) where
  exponent_is : exponent b ≡ K + 1
  exponent_is = omega arith

  digits_are : b % 2 ^ 52 + 2 ^ 52 ≡ M * 2 ^ 29
  digits_are = omega arith

  radicand_is : radicand b ≡ M * 2 ^ suc (25 - exponent b % 2)
  radicand_is =
      let t = suc (25 - exponent b % 2) in
      let u = 3 + exponent b % 2 in
      ap (λ (x : ℕ). x / 2 ^ u) (digits_are ∙ ap (λ (x : ℕ). M * 2 ^ x) (parts (exponent b)) ∙ ap (λ (x : ℕ). M * x) (pow-add 2 t u) ∙ sym (mul_assoc M (2 ^ t) (2 ^ u)))
      ∙ mul-div_cancel (M * 2 ^ t) (pow_pos u)
    where
      parts : (e : ℕ) → 29 ≡ suc (25 - e % 2) + (3 + e % 2)
      parts e = omega arith

  radicand_even : radicand b % 2 ≡ 0
  radicand_even =
      let t = 25 - exponent b % 2 in
      ap (λ (x : ℕ). x % 2) (radicand_is ∙ ap (λ (x : ℕ). M * x) (pow-suc 2 t) ∙ sym (mul_assoc M (2 ^ t) 2)) ∙ mul-mod_left (M * 2 ^ t) 2

  pub root_low : 2 ^ 24 ≤ root b
  root_low = le_of_squares (le_trans (mul-le-mul full (pow_mono (least (exponent b)))) (le_of_eq (sym radicand_is))) (whole_root_is (radicand b)).1
    where
      least : (e : ℕ) → 25 ≤ suc (25 - e % 2)
      least e = omega arith

  pub root_high : root b < 2 ^ 25 - 1
  root_high =
      lt_of_squares (lt_of_le_of_lt (whole_root_is (radicand b)).0
      (lt_of_le_of_lt (le_trans (le_of_eq radicand_is) (mul-le-mul_left M (pow_mono (most (exponent b))))) (below M few)))
    where
      most : (e : ℕ) → suc (25 - e % 2) ≤ 26
      most e = omega arith

      below : (m : ℕ) → m < 2 ^ 24 → m * 2 ^ 26 < (2 ^ 25 - 1) * (2 ^ 25 - 1)
      below m h = omega arith

  -- the root in units of the smallest f32
  in_units : (x : Float) (P : ℕ) → T (positive x) → K ≡ P + 872 → 0 < P → num x * 2 ^ 173 ≡ M * 2 ^ P * den x → sqrt binary32 x ≡ units binary32 false ((root b + 1) / 2) (field b)
  in_units x P p wide deep equals =
      let d = (exponent b + 1) / 2 - 363 in
      let e : exponent b ≡ P + 873 = omega (arith, exponent_is, wide) in
      sqrt_positive binary32 x p
      ∙ root_of_shifted binary32 (num x) (den x) (radicand b) d (den_pos x)
      (rescaled_square (num x) (den x) M P 173 173 (suc (25 - exponent b % 2)) d equals (places (exponent b) P e deep) ∙ ap (λ (n : ℕ). n * (2 ^ d * 2 ^ d) * den x) (sym radicand_is))
      (omega arith) root_low (lt_of_lt_of_le root_high (lit≤ tt)) radicand_even
      ∙ ap (λ (k : ℕ). units binary32 false ((root b + 1) / 2) k) (omega arith)
    where
      places : (e K : ℕ) → e ≡ K + 873 → 0 < K → K + (173 + 173) ≡ suc (25 - e % 2) + ((e + 1) / 2 - 363 + ((e + 1) / 2 - 363)) + 173
      places e K h l = omega arith

-- ---- the root's pattern
module _ (x : Float) (fit : T (fits binary32 x)) (p : T (positive x)) where
  full : Full binary32 x
  full = in_full binary32 x fit p

  -- as an f64 it is normal
  wide : to_bits binary64 x ≡ (full.place + 872) * 2 ^ 52 + full.digits * 2 ^ 29
  wide =
      let u = full in
      let e : num x * 2 ^ 1074 ≡ u.digits * 2 ^ 29 * 2 ^ (u.place + 872) * den x =
      rescaled (num x) (den x) u.digits u.place 173 1074 (29 + (u.place + 872)) u.equals (omega arith)
      ∙ ap (λ (y : ℕ). y * den x) (ap (λ (y : ℕ). u.digits * y) (pow-add 2 29 (u.place + 872)) ∙ sym (mul_assoc u.digits (2 ^ 29) (2 ^ (u.place + 872)))) in
      to_bits_normal binary64 x (u.digits * 2 ^ 29) (u.place + 872) (mul-le-mul_right (2 ^ 29) u.full) (shl_lt 24 29 u.few)
      (value_of x (u.digits * 2 ^ 29 * 2 ^ (u.place + 872)) (2 ^ 1074) p e)

  place_below : full.place < 278
  place_below =
      let u = full in
      lt_of_not-le (λ (g : 278 ≤ u.place). not-le_of_lt u.inside (mul-le-mul u.full (pow_mono g)))

  pub field_in : (386 ≤ (exponent (to_bits binary64 x) + 1) / 2) × (field (to_bits binary64 x) < 190)
  field_in = let u = full in omega (arith, exponent_is (to_bits binary64 x) u.digits (u.place + 872) u.full u.few wide, u.placed, place_below)

  pub root_in : (2 ^ 24 ≤ root (to_bits binary64 x)) × (root (to_bits binary64 x) < 2 ^ 25 - 1)
  root_in =
      let u = full in
      (root_low (to_bits binary64 x) u.digits (u.place + 872) u.full u.few wide, root_high (to_bits binary64 x) u.digits (u.place + 872) u.full u.few wide)

  pub sqrt_pattern : to_bits binary32 (sqrt binary32 x) ≡ field (to_bits binary64 x) * 2 ^ 23 + (root (to_bits binary64 x) + 1) / 2
  sqrt_pattern =
      let u = full in
      let b = to_bits binary64 x in
      let q = (root b + 1) / 2 in
      let k = field b in
      let r = root_in in
      let is = in_units b u.digits (u.place + 872) u.full u.few wide x u.place p refl u.placed u.equals in
      let small : q < 2 ^ 24 = omega arith in
      let inside : q * 2 ^ k < 2 ^ 277 = lt_of_lt_of_le (shl_lt 24 k small) (pow_mono {j = 277} (omega (arith, field_in))) in
      to_bits_normal binary32 (sqrt binary32 x) q k (omega arith) small (subst (λ (y : Float). HasValue y false (q * 2 ^ k) (2 ^ 149)) (sym is) (units_val binary32 false q k inside))

-- ---- a guess q at half of the root of n = 4 * k, rounded
odd_squared : (a : ℕ) → (2 * a + 1) * (2 * a + 1) ≡ 4 * (a * a) + 4 * a + 1
odd_squared a = next_square (2 * a) ∙ rw (mul-mul-mul_comm 2 a 2 a) (omega arith)

-- (2 * q - 1)² ≤ n < (2 * q + 1)²
half_root : (n k q : ℕ) → n ≡ 4 * k → 0 < k → q * q < k + q → k ≤ q * q + q → (whole_root n + 1) / 2 ≡ q
half_root n k zero e some low high = absurd (not-le_of_lt some high)
half_root n k (suc a) e some low high =
    let r = whole_root n in
    let at_least : 2 * a + 1 ≤ r = le_of_squares (omega (arith, odd_squared a, next_square a)) (whole_root_is n).1 in
    let below : r < 2 * (a + 1) + 1 = lt_of_squares (lt_of_le_of_lt (whole_root_is n).0 (omega (arith, odd_squared (a + 1)))) in
    omega arith

-- ---- the root's pattern, from that of a normal x as an f32

-- the numbers that `is_root` names, from the pattern b of x as an f32
abbrev pub base32 : ℕ → ℕ
base32 b = (b / 2 ^ 23 + 125) / 2 * 2 ^ 23

abbrev pub radicand32 : ℕ → ℕ
radicand32 b = (b % 2 ^ 23 + 2 ^ 23) * 2 ^ (24 - b / 2 ^ 23 % 2)

pub radicand32_below : (b : ℕ) → radicand32 b < 2 ^ 48
radicand32_below b =
    let few : b % 2 ^ 23 + 2 ^ 23 < 2 ^ 24 = omega arith in
    lt_of_lt_of_le (shl_lt 24 (24 - b / 2 ^ 23 % 2) few) (pow_mono {j = 48} (omega arith))

-- the smallest normal number
smallest_value : HasValue (of_bits binary32 8388608) false 1 (2 ^ 126)
unfolding of_bits
smallest_value = (refl, refl)

pub smallest_positive : T (positive (of_bits binary32 8388608))
smallest_positive = positive_of_value (of_bits binary32 8388608) 1 (2 ^ 126) smallest_value (lit< tt)

module _ (x : Float) (fit : T (fits binary32 x)) (p : T (positive x)) (reached : T (le (of_bits binary32 8388608) x)) where
  normal_place : 24 ≤ (full x fit p).place
  normal_place =
      let u = full x fit p in
      let K = u.place in
      let units : u.digits * 2 ^ K * 2 ^ 126 < 2 ^ (24 + K + 126) = shl_lt (24 + K) 126 (shl_lt 24 K u.few) in
      let least : 1 * 2 ^ 173 ≤ u.digits * 2 ^ K * 2 ^ 126 =
      values_of_le (of_bits binary32 8388608) x 1 (2 ^ 126) (u.digits * 2 ^ K) (2 ^ 173)
      smallest_positive p smallest_value (value_of x (u.digits * 2 ^ K) (2 ^ 173) p u.equals) reached in
      let more : 173 < 24 + K + 126 = lt_of_not-le (λ (g : 24 + K + 126 ≤ 173). not-le_of_lt units (le_trans (pow_mono g) (subst (λ (y : ℕ). y ≤ u.digits * 2 ^ K * 2 ^ 126) (one-mul (2 ^ 173)) least))) in
      omega arith

  narrow_bits : to_bits binary32 x ≡ ((full x fit p).place - 24) * 2 ^ 23 + (full x fit p).digits
  narrow_bits =
      let u = full x fit p in
      let k = u.place - 24 in
      let deep = normal_place in
      to_bits_normal binary32 x u.digits k u.full u.few (value_of x (u.digits * 2 ^ k) (2 ^ 149) p (rescaled (num x) (den x) u.digits u.place 173 149 k u.equals (omega arith)))

  pub bits_below : to_bits binary32 x < 255 * 2 ^ 23
  bits_below = let u = full x fit p in omega (arith, narrow_bits, normal_place, u.few, place_below x fit p)

  wide_bits : to_bits binary64 x ≡ (to_bits binary32 x / 2 ^ 23 + 895) * 2 ^ 52 + (to_bits binary32 x % 2 ^ 23 + 2 ^ 23) * 2 ^ 29
  wide_bits = let u = full x fit p in omega (arith, narrow_bits, normal_place, wide x fit p, u.full, u.few)

  -- the fields of x as an f64, by those of x as an f32
  field_is : field (to_bits binary64 x) ≡ (to_bits binary32 x / 2 ^ 23 + 125) / 2
  field_is = omega (arith, wide_bits)

  radicand_is_four : radicand (to_bits binary64 x) ≡ 4 * radicand32 (to_bits binary32 x)
  radicand_is_four =
      let b = to_bits binary32 x in
      let B = to_bits binary64 x in
      let M = b % 2 ^ 23 + 2 ^ 23 in
      let t = 24 - b / 2 ^ 23 % 2 in
      let w = wide_bits in
      radicand_is B M (b / 2 ^ 23 + 895) (omega arith) (omega arith) (omega (arith, wide_bits))
      ∙ ap (λ (y : ℕ). M * 2 ^ y) (two_more (exponent B) (b / 2 ^ 23) (omega arith))
      ∙ ap (λ (y : ℕ). M * y) (pow-add 2 2 t)
      ∙ mul_left_comm M 4 (2 ^ t)
    where
      two_more : (e d : ℕ) → e ≡ d + 896 → suc (25 - e % 2) ≡ 2 + (24 - d % 2)
      two_more e d h = omega arith

  pub sqrt_checked : (q : ℕ) → q * q < radicand32 (to_bits binary32 x) + q → radicand32 (to_bits binary32 x) ≤ q * q + q → base32 (to_bits binary32 x) + q ≡ to_bits binary32 (sqrt binary32 x)
  sqrt_checked q low high =
      let b = to_bits binary32 x in
      let some : 0 < b % 2 ^ 23 + 2 ^ 23 = omega arith in
      sym
      (sqrt_pattern x fit p
      ∙ ap (λ (y : ℕ). y * 2 ^ 23 + (root (to_bits binary64 x) + 1) / 2) field_is
      ∙ ap (λ (y : ℕ). base32 b + y) (half_root (radicand (to_bits binary64 x)) (radicand32 b) q radicand_is_four (mul-pos some (pow_pos (24 - b / 2 ^ 23 % 2))) low high))
