-- The bit pattern of a rounded fraction, over both formats: the sign's bit, and without it the digits that rounding drops times the weight of the
-- exponent's field, plus the number that it keeps (`round_pattern`). A carry into the exponent's field, subnormal results and the infinity are
-- cases of the one formula. Assumes nothing.
use Rattle.std.proofs.Common.{◌≡◌, ℕ, suc, ◌+◌, ◌-◌, ◌*◌, ◌/◌, ◌^◌, ◌<◌, ◌≤◌, Bool, cond, ◌⊎◌, sym, refl, ap, ◌∙◌, inl, inr, ⊎_elim, le_trans, le_of_eq, le_refl, lt_of_lt_of_le, add_assoc, mul-le-mul_right, mul_assoc, suc-mul, mul_comm, div-lt_iff_lt-mul, eq-zero-or-pos, le_antisymm, eq-or-lt_of_le, mul-lt-mul_of_pos_right, mul-pos, lt_of_not-le, le-div_iff_mul-le, mul_right_comm, not-le_of_lt, le_of_mul-le-mul_right, mul-div_cancel, arith, pow_pos, pow_mono, pow-add, shl_lt, le-ltb}
use native.Mathlib.Nat.{pow-succ'}
use native.Mathlib.Decide.{dec_le}
use lib.Pow.{pow-lt}
use lib.Ieee.{Float, inf, fin, Format, prec, emax, low, down, size, units, round, hid, ones, top, to_bits, nan}
use lib.Ieee.Digits.{size-lt, size-le}
use lib.Ieee.Exact.{HasValue, units_val}
use lib.Ieee.Fits.{two, two-le_pos, down_pos, round_is}
use lib.Ieee.Nearest.{closest, closest_same, div_same}
use lib.Ieee.Scale.{overflow}
use Rattle.floats.proofs.Laws.Round.{pow_le_back, twice_pow}
use Rattle.floats.proofs.Laws.Nearest.{closest_le, closest_ge}

-- ---- how many digits a number has beyond p
size_gt : (n i : ℕ) → 2 ^ i ≤ n → i < size n
size_gt n i h = lt_of_not-le (λ (g : size n ≤ i). not-le_of_lt (lt_of_lt_of_le (size-lt n) (pow_mono g)) h)

pub excess : (p j n : ℕ) → 0 < p → n < 2 ^ (p + j) → (0 < j → 2 ^ (p - 1 + j) ≤ n) → size n - p ≡ j
excess p j n P hi lo = go (eq-zero-or-pos j) (size-le n (p + j) hi)
  where
    go : (j ≡ 0) ⊎ (0 < j) → size n ≤ p + j → size n - p ≡ j
    go (inl z) l = omega arith
    go (inr k) l = omega (arith, size_gt n (p - 1 + j) (lo k))

-- ---- the pattern of q * 2 ^ k smallest values
pub to_bits_of_value : (f : Format) (x : Float) (s : Bool) (a : ℕ) → HasValue x s a (2 ^ low f)
    → to_bits f x ≡ cond s (top f) 0 + ((size a - prec f) * hid f + a / 2 ^ (size a - prec f))
unfolding to_bits
to_bits_of_value f (fin t m e) s a h =
    rw (h.0, ap (λ (x : ℕ). x / down e) h.1 ∙ mul-div_cancel a (down_pos e))
    (add_assoc (cond s (top f) 0) ((size a - prec f) * hid f) (a / 2 ^ (size a - prec f)))
to_bits_of_value f nan s a h = elim h [ ]
to_bits_of_value f (inf _) s a h = elim h [ ]

pub digits_pattern : (p k q : ℕ) → 0 < p → q < 2 ^ p → (0 < k → 2 ^ (p - 1) ≤ q)
    → (size (q * 2 ^ k) - p) * 2 ^ (p - 1) + q * 2 ^ k / 2 ^ (size (q * 2 ^ k) - p) ≡ k * 2 ^ (p - 1) + q
digits_pattern p k q P hi lo =
    rw (excess p k (q * 2 ^ k) P (shl_lt p k hi) (λ (K : 0 < k). le_trans (le_of_eq (pow-add 2 (p - 1) k)) (mul-le-mul_right (2 ^ k) (lo K))))
    (ap (λ (x : ℕ). k * 2 ^ (p - 1) + x) (mul-div_cancel q (pow_pos k)))

-- the number that is kept can be 2 ^ prec itself: its digits are then those of 2 ^ (prec - 1), and the carry goes to the exponent's field
kept_pattern : (p k q : ℕ) → 0 < p → q ≤ 2 ^ p → (0 < k → 2 ^ (p - 1) ≤ q)
    → (size (q * 2 ^ k) - p) * 2 ^ (p - 1) + q * 2 ^ k / 2 ^ (size (q * 2 ^ k) - p) ≡ k * 2 ^ (p - 1) + q
kept_pattern p k q P hi lo = ⊎_elim carried (λ (l : q < 2 ^ p). digits_pattern p k q P l lo) (eq-or-lt_of_le hi)
  where
    one_more : (h : ℕ) → q ≡ 2 * h → suc k * h + h ≡ k * h + q
    one_more h e = rw suc-mul (omega arith)

    carried : q ≡ 2 ^ p → (size (q * 2 ^ k) - p) * 2 ^ (p - 1) + q * 2 ^ k / 2 ^ (size (q * 2 ^ k) - p) ≡ k * 2 ^ (p - 1) + q
    carried e =
        let h = 2 ^ (p - 1) in
        let shifted : q * 2 ^ k ≡ h * 2 ^ suc k = ap (λ (x : ℕ). x * 2 ^ k) (e ∙ twice_pow p P ∙ mul_comm 2 h) ∙ mul_assoc h 2 (2 ^ k) ∙ ap (λ (x : ℕ). h * x) (sym (pow-succ' 2 k)) in
        ap (λ (n : ℕ). (size n - p) * h + n / 2 ^ (size n - p)) shifted
        ∙ digits_pattern p (suc k) h P (pow-lt (omega arith)) (λ (K : 0 < suc k). le_refl h)
        ∙ one_more h (e ∙ twice_pow p P)

-- ---- from `overflow` on the result is an infinity
pub units_over : (f : Format) (s : Bool) (q k : ℕ) → overflow f ≤ q * 2 ^ k → units f s q k ≡ inf s
unfolding units
units_over f s q k h = rw (le-ltb (q * 2 ^ k) (overflow f) h)

last_field : (p e k : ℕ) → 2 ≤ p → e + p - 2 + suc e ≤ p + k → suc k < 2 * e + 1 → (e + p - 2 + suc e ≡ p + k) × (2 * e + 1 ≡ suc (suc k))
last_field p e k P l h = omega arith

two_more : (k h q : ℕ) → q ≡ 2 * h → suc (suc k) * h ≡ k * h + q
two_more k h q e = rw (suc-mul, suc-mul) (omega arith)

-- the largest number that can be kept, at the largest exponent, is the first that overflows, and its pattern is the infinity's
overflow_pattern : (f : Format) (q k : ℕ) → q ≤ 2 ^ prec f → suc k < ones f → overflow f ≤ q * 2 ^ k → ones f * hid f ≡ k * hid f + q
overflow_pattern f q k hi K h =
    let p = prec f in
    let reached : overflow f ≤ 2 ^ (p + k) = le_trans h (le_trans (mul-le-mul_right (2 ^ k) hi) (le_of_eq (sym (pow-add 2 p k)))) in
    let z = last_field p (emax f) k (two f) (pow_le_back (low f + suc (emax f)) (p + k) reached) K in
    let ge : 2 ^ p ≤ q = le_of_mul-le-mul_right (le_trans (le_of_eq (sym (pow-add 2 p k) ∙ ap (λ (x : ℕ). 2 ^ x) (sym z.0))) h) (pow_pos k) in
    ap (λ (x : ℕ). x * hid f) z.1 ∙ two_more k (hid f) q (le_antisymm hi ge ∙ twice_pow p (two-le_pos p (two f)))

to_bits_inf : (f : Format) (s : Bool) → to_bits f (inf s) ≡ cond s (top f) 0 + ones f * hid f
unfolding to_bits
to_bits_inf f s = refl

pub units_pattern : (f : Format) (s : Bool) (q k : ℕ) → q ≤ 2 ^ prec f → (0 < k → hid f ≤ q) → suc k < ones f
    → to_bits f (units f s q k) ≡ cond s (top f) 0 + (k * hid f + q)
units_pattern f s q k hi lo K = elim (dec_le (overflow f) (q * 2 ^ k)) [
  | yes h ↦ ap (to_bits f) (units_over f s q k h) ∙ to_bits_inf f s ∙ ap (λ (x : ℕ). cond s (top f) 0 + x) (overflow_pattern f q k hi K h)
  | no h ↦
      to_bits_of_value f (units f s q k) s (q * 2 ^ k) (units_val f s q k (lt_of_not-le h))
      ∙ ap (λ (x : ℕ). cond s (top f) 0 + x) (kept_pattern (prec f) k q (two-le_pos (prec f) (two f)) hi lo)
]

-- ---- a fraction that is m * 2 ^ j / u of the format's smallest value
module _ (f : Format) (s : Bool) (num den m u j : ℕ) (D : 0 < den) (U : 0 < u) (hi : m < 2 ^ prec f * u) (lo : 0 < j → hid f * u ≤ m)
    (e : num * 2 ^ low f * u ≡ m * 2 ^ j * den) where
  dropped : size (num * 2 ^ low f / den) - prec f ≡ j
  dropped =
      rw (div_same (num * 2 ^ low f) den (m * 2 ^ j) u D U e)
      (excess (prec f) j (m * 2 ^ j / u) (two-le_pos (prec f) (two f))
      ((div-lt_iff_lt-mul U).1 (lt_of_lt_of_le (mul-lt-mul_of_pos_right hi (pow_pos j)) (le_of_eq (scaled (prec f)))))
      (λ (J : 0 < j). (le-div_iff_mul-le U).1 (le_trans (le_of_eq (sym (scaled (prec f - 1)))) (mul-le-mul_right (2 ^ j) (lo J)))))
    where
      scaled : (p : ℕ) → 2 ^ p * u * 2 ^ j ≡ 2 ^ (p + j) * u
      scaled p = mul_right_comm (2 ^ p) u (2 ^ j) ∙ ap (λ (x : ℕ). x * u) (sym (pow-add 2 p j))

  pub round_units : round f s num den ≡ units f s (closest m u) j
  round_units =
      round_is f s num den
      ∙ ap (λ (k : ℕ). units f s (closest (num * 2 ^ low f) (den * 2 ^ k)) k) dropped
      ∙ ap (λ (q : ℕ). units f s q j)
      (closest_same (num * 2 ^ low f) (den * 2 ^ j) m u (mul-pos D (pow_pos j)) U (e ∙ mul_assoc m (2 ^ j) den ∙ ap (λ (x : ℕ). m * x) (mul_comm (2 ^ j) den)))

  pub round_pattern : suc j < ones f → to_bits f (round f s num den) ≡ cond s (top f) 0 + (j * hid f + closest m u)
  round_pattern J =
      ap (to_bits f) round_units
      ∙ units_pattern f s (closest m u) j (closest_le (2 ^ prec f) m u U hi) (λ (K : 0 < j). closest_ge (hid f) m u U (lo K)) J
