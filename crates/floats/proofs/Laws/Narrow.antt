-- What `narrow` makes of the pattern b of an `f64` x, in each of its three ranges. Assumes nothing.
use Rattle.std.proofs.Common.{◌≡◌, ℕ, ◌+◌, ◌-◌, ◌*◌, ◌/◌, ◌%◌, ◌^◌, ◌<◌, ◌≤◌, min, Bool, true, false, cond, not, T, leb, sym, refl, ap, ◌∙◌, subst, lt_of_lt_of_le, le-add_right, add_assoc, lt_irrefl, mul_assoc, mul-le-mul, add_comm, lt_of_not-le, zero-add, mul-one, mul_right_comm, arith, lit<, lit≤, leb→le, pow_pos, pow_mono, pow-add, shl_lt, w32, w64, Fits}
use native.Mathlib.Decide.{dec_le}
use lib.Dec.{nleb→lt}
use borrow.Author.Tests.{lt-leb}
use lib.Ieee.{Float, inf, is_nan, nan_bits, binary32, binary64, round, to_bits, of_bits, add}
use lib.Ieee.Bits.{of_bits-to_bits, is_false}
use lib.Ieee.Exact.{HasValue}
use lib.Ieee.Nearest.{closest}
use Rattle.floats.specs.Narrow.{convert}
use Rattle.floats.proofs.Laws.Fields.{of_bits_value, of_bits_infinite}
use Rattle.floats.proofs.Laws.Nearest.{closest_by_half, closest_add, closest_le, closest_ge}
use Rattle.floats.proofs.Laws.Pattern.{round_units, round_pattern, units_over}
use Rattle.floats.proofs.Laws.Fractions.{add_alike}
use Rattle.floats.proofs.Laws.Round.{convert_rounds, convert_inf, convert_in_format, round_number}
use Rattle.floats.proofs.Laws.Special.{up_to_infinity}

-- the exponent's field and the significand of a pattern
abbrev field : ℕ → ℕ
field b = b % 2 ^ 63 / 2 ^ 52

abbrev digits : ℕ → ℕ
digits b = min 1 (field b) * 2 ^ 52 + b % 2 ^ 52

-- its size in units of the smallest `f64`
abbrev amount : ℕ → ℕ
amount b = digits b * 2 ^ (field b - 1)

-- the weight that its sign has in the pattern of an `f32`
abbrev pub sign : ℕ → ℕ
sign b = cond (leb (2 ^ 63) b) (2 ^ 31) 0

powers : (g i l n j k : ℕ) → i + l + n ≡ j + k → g * 2 ^ i * 2 ^ l * 2 ^ n ≡ g * 2 ^ j * 2 ^ k
powers g i l n j k e =
    ap (λ (x : ℕ). x * 2 ^ n) (join i l) ∙ join (i + l) n ∙ ap (λ (x : ℕ). g * 2 ^ x) e ∙ sym (join j k)
  where
    join : (i l : ℕ) → g * 2 ^ i * 2 ^ l ≡ g * 2 ^ (i + l)
    join i l = mul_assoc g (2 ^ i) (2 ^ l) ∙ ap (λ (x : ℕ). g * x) (sym (pow-add 2 i l))

amount_small : (b : ℕ) → b % 2 ^ 63 < 897 * 2 ^ 52 → amount b < 2 ^ 23 * 2 ^ 925
amount_small b h = lt_of_lt_of_le (shl_lt 53 (field b - 1) (omega arith)) (pow_mono {j = 948} (omega arith))

module _ (x : Float) (b : ℕ) (is : of_bits binary64 b ≡ x) where
  rounds : b % 2 ^ 63 < 2047 * 2 ^ 52 → convert binary32 x ≡ round binary32 (leb (2 ^ 63) b) (amount b) (2 ^ 1074)
  rounds h =
      convert_rounds binary32 x (leb (2 ^ 63) b) (amount b) (2 ^ 1074) (pow_pos 1074)
      (subst (λ (y : Float). HasValue y (leb (2 ^ 63) b) (amount b) (2 ^ 1074)) is (of_bits_value binary64 b h))

  -- ---- from the smallest normal `f32` on
  same_fraction : 897 ≤ field b → amount b * 2 ^ 149 * 2 ^ 29 ≡ digits b * 2 ^ (field b - 897) * 2 ^ 1074
  same_fraction l = powers (digits b) (field b - 1) 149 29 (field b - 897) 1074 (omega arith)

  half_step : 897 ≤ field b → (b % 2 ^ 63 - 896 * 2 ^ 52 + (2 ^ 28 - 1) + (b % 2 ^ 63 - 896 * 2 ^ 52) / 2 ^ 29 % 2) / 2 ^ 29 ≡ (field b - 897) * 2 ^ 23 + closest (digits b) (2 ^ 29)
  half_step l =
      closest_by_half (b % 2 ^ 63 - 896 * 2 ^ 52) (2 ^ 28) (pow_pos 28)
      ∙ ap (λ (m : ℕ). closest m (2 ^ 29)) split
      ∙ closest_add ((field b - 897) * 2 ^ 23) (digits b) (2 ^ 29) (pow_pos 29) (omega arith)
    where
      split : b % 2 ^ 63 - 896 * 2 ^ 52 ≡ (field b - 897) * 2 ^ 23 * 2 ^ 29 + digits b
      split = omega arith

  pub normal_pattern : 897 * 2 ^ 52 ≤ b % 2 ^ 63 → b % 2 ^ 63 < 1151 * 2 ^ 52
      → to_bits binary32 (convert binary32 x) ≡ sign b + (b % 2 ^ 63 - 896 * 2 ^ 52 + (2 ^ 28 - 1) + (b % 2 ^ 63 - 896 * 2 ^ 52) / 2 ^ 29 % 2) / 2 ^ 29
  normal_pattern l h =
      let E : 897 ≤ field b = omega arith in
      ap (to_bits binary32) (rounds (omega arith))
      ∙ round_pattern binary32 (leb (2 ^ 63) b) (amount b) (2 ^ 1074) (digits b) (2 ^ 29) (field b - 897) (pow_pos 1074) (pow_pos 29) (omega arith) (λ _. omega arith) (same_fraction E) (omega arith)
      ∙ ap (λ (p : ℕ). sign b + p) (sym (half_step E))

  -- ---- what is too large for an `f32`
  overflows : 1151 * 2 ^ 52 ≤ b % 2 ^ 63 → b % 2 ^ 63 < 2047 * 2 ^ 52 → convert binary32 x ≡ inf (leb (2 ^ 63) b)
  overflows l h =
      rounds h
      ∙ round_units binary32 (leb (2 ^ 63) b) (amount b) (2 ^ 1074) (digits b) (2 ^ 29) (field b - 897) (pow_pos 1074) (pow_pos 29) (omega arith) (λ _. omega arith) (same_fraction (omega arith))
      ∙ units_over binary32 (leb (2 ^ 63) b) (closest (digits b) (2 ^ 29)) (field b - 897)
      (mul-le-mul (closest_ge (2 ^ 23) (digits b) (2 ^ 29) (pow_pos 29) (omega arith)) (pow_mono {i = 254} (omega arith)))

  infinite : 2047 * 2 ^ 52 ≤ b % 2 ^ 63 → is_nan x ≡ false → convert binary32 x ≡ inf (leb (2 ^ 63) b)
  infinite l n =
      ap (convert binary32) (sym is ∙ of_bits_infinite binary64 b (omega arith) (ap is_nan is ∙ n)) ∙ convert_inf binary32 (leb (2 ^ 63) b)

  pub large_pattern : 1151 * 2 ^ 52 ≤ b % 2 ^ 63 → is_nan x ≡ false → to_bits binary32 (convert binary32 x) ≡ sign b + 255 * 2 ^ 23
  unfolding to_bits
  large_pattern l n =
      let all : convert binary32 x ≡ inf (leb (2 ^ 63) b) = elim (dec_le (2047 * 2 ^ 52) (b % 2 ^ 63)) [ yes h ↦ infinite h n | no h ↦ overflows l (lt_of_not-le h) ] in
      ap (to_bits binary32) all

  -- ---- what is below the smallest normal `f32`: one formula, whatever the field
  small_pattern : b % 2 ^ 63 < 897 * 2 ^ 52 → to_bits binary32 (convert binary32 x) ≡ sign b + closest (amount b) (2 ^ 925)
  small_pattern h =
      ap (to_bits binary32) (rounds (omega arith))
      ∙ round_pattern binary32 (leb (2 ^ 63) b) (amount b) (2 ^ 1074) (amount b) (2 ^ 925) 0 (pow_pos 1074) (pow_pos 925)
      (lt_of_lt_of_le (amount_small b h) (lit≤ tt))
      (λ z. absurd (lt_irrefl 0 z))
      (ap (λ (a : ℕ). a * 2 ^ 149 * 2 ^ 925) (sym (mul-one (amount b))) ∙ powers (amount b) 0 149 925 0 1074 refl)
      (lit< tt)
      ∙ ap (λ (p : ℕ). sign b + p) (zero-add (closest (amount b) (2 ^ 925)))

-- ---- that formula by an addition: in a sum with 2 ^ -97 the last digit of an `f64` is worth as much as the smallest `f32`
align_value : HasValue (of_bits binary64 (926 * 2 ^ 52)) false (2 ^ 977) (2 ^ 1074)
unfolding of_bits
align_value = (refl, refl)

size_value : (b : ℕ) → b % 2 ^ 63 < 897 * 2 ^ 52 → HasValue (of_bits binary64 (b % 2 ^ 63)) false (amount b) (2 ^ 1074)
size_value b h =
    let twice : b % 2 ^ 63 % 2 ^ 63 ≡ b % 2 ^ 63 = omega arith in
    let shorter : b % 2 ^ 63 % 2 ^ 52 ≡ b % 2 ^ 52 = omega arith in
    rw (twice, shorter, lt-leb (2 ^ 63) (b % 2 ^ 63) (omega arith)) at (of_bits_value binary64 (b % 2 ^ 63) (omega arith))

abbrev pub sum : ℕ → Float
sum b = add binary64 (of_bits binary64 (b % 2 ^ 63)) (of_bits binary64 (926 * 2 ^ 52))

below_double : (c a : ℕ) → a < c → c + a < 2 * c
below_double c a h = omega arith

module _ (b : ℕ) (h : b % 2 ^ 63 < 897 * 2 ^ 52) where
  sum_rounds : sum b ≡ round binary64 false (amount b + 2 ^ 977) (2 ^ 1074)
  sum_rounds = add_alike binary64 (of_bits binary64 (b % 2 ^ 63)) (of_bits binary64 (926 * 2 ^ 52)) false (amount b) (2 ^ 977) (2 ^ 1074) (pow_pos 1074) (size_value b h) align_value

  sum_pattern : to_bits binary64 (sum b) ≡ 926 * 2 ^ 52 + closest (amount b) (2 ^ 925)
  sum_pattern =
      ap (to_bits binary64) sum_rounds
      ∙ round_pattern binary64 false (amount b + 2 ^ 977) (2 ^ 1074) (2 ^ 52 * 2 ^ 925 + amount b) (2 ^ 925) 925 (pow_pos 1074) (pow_pos 925)
      (below_double (2 ^ 977) (amount b) (lt_of_lt_of_le (amount_small b h) (lit≤ tt)))
      (λ _. le-add_right (2 ^ 977) (amount b))
      (swap (amount b) (2 ^ 977) (2 ^ 1074) (2 ^ 925))
      (lit< tt)
      ∙ zero-add (925 * 2 ^ 52 + closest (2 ^ 52 * 2 ^ 925 + amount b) (2 ^ 925))
      ∙ ap (λ (q : ℕ). 925 * 2 ^ 52 + q) (closest_add (2 ^ 52) (amount b) (2 ^ 925) (pow_pos 925) refl)
      ∙ sym (add_assoc (925 * 2 ^ 52) (2 ^ 52) (closest (amount b) (2 ^ 925)))
    where
      swap : (a c l u : ℕ) → (a + c) * l * u ≡ (c + a) * u * l
      swap a c l u = rw (add_comm a c) (mul_right_comm (c + a) l u)

  pub sum_number : is_nan (sum b) ≡ false
  sum_number =
      ap is_nan sum_rounds
      ∙ is_false (is_nan (round binary64 false (amount b + 2 ^ 977) (2 ^ 1074))) (round_number binary64 false (amount b + 2 ^ 977) (2 ^ 1074))

  pub sum_range : (926 * 2 ^ 52 ≤ to_bits binary64 (sum b)) × (to_bits binary64 (sum b) ≤ 926 * 2 ^ 52 + 2 ^ 23)
  sum_range =
      within (closest (amount b) (2 ^ 925)) (to_bits binary64 (sum b)) sum_pattern (closest_le (2 ^ 23) (amount b) (2 ^ 925) (pow_pos 925) (amount_small b h))
    where
      within : (q n : ℕ) → n ≡ 926 * 2 ^ 52 + q → q ≤ 2 ^ 23 → (926 * 2 ^ 52 ≤ n) × (n ≤ 926 * 2 ^ 52 + 2 ^ 23)
      within q n e l = omega arith

  pub small_by_sum : (x : Float) → of_bits binary64 b ≡ x → to_bits binary32 (convert binary32 x) ≡ sign b + (to_bits binary64 (sum b) - 926 * 2 ^ 52)
  small_by_sum x is = small_pattern x b is h ∙ ap (λ (p : ℕ). sign b + p) (rest (closest (amount b) (2 ^ 925)) (to_bits binary64 (sum b)) sum_pattern)
    where
      rest : (q n : ℕ) → n ≡ 926 * 2 ^ 52 + q → q ≡ n - 926 * 2 ^ 52
      rest q n e = omega arith

-- ---- a pattern as the code puts it together, of the sign's bit and p: it is within 64 and 32 bits, and no NaN's
module _ (b p : ℕ) (B : b < 2 ^ 64) (P : p ≤ 255 * 2 ^ 23) where
  pub made_word : Fits w64 (b / 2 ^ 63 * 2 ^ 31 + p)
  made_word = omega arith

  pub made_pattern : Fits w32 (b / 2 ^ 63 * 2 ^ 31 + p)
  made_pattern = omega arith

  pub made_number : T (not (nan_bits binary32 (b / 2 ^ 63 * 2 ^ 31 + p)))
  made_number = rw (up_to_infinity binary32 (b / 2 ^ 63 * 2 ^ 31 + p) (omega arith)) tt

sign_weight : (b : ℕ) → b < 2 ^ 64 → sign b ≡ b / 2 ^ 63 * 2 ^ 31
sign_weight b B = go (leb (2 ^ 63) b) (leb→le (2 ^ 63) b) (nleb→lt (2 ^ 63) b)
  where
    go : (t : Bool) → (T t → 2 ^ 63 ≤ b) → (T (not t) → b < 2 ^ 63) → cond t (2 ^ 31) 0 ≡ b / 2 ^ 63 * 2 ^ 31
    go true l g = omega (arith, l tt)
    go false l g = omega (arith, g tt)

-- it stands for the converted value whose pattern it is
pub made_for : (x : Float) (b p : ℕ) → b < 2 ^ 64 → to_bits binary32 (convert binary32 x) ≡ sign b + p
    → of_bits binary32 (b / 2 ^ 63 * 2 ^ 31 + p) ≡ convert binary32 x
made_for x b p B e =
    ap (of_bits binary32) (sym (e ∙ ap (λ (w : ℕ). w + p) (sign_weight b B))) ∙ of_bits-to_bits binary32 (convert binary32 x) (convert_in_format binary32 x)
