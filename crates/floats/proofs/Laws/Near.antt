-- How near a rounded fraction is: in the normal range it is off by one part in 2 ^ prec of itself at most. Assumes nothing.
use Rattle.std.proofs.Common.{◌≡◌, ℕ, ◌+◌, ◌-◌, ◌*◌, ◌/◌, ◌%◌, ◌^◌, ◌<◌, ◌≤◌, false, T, ap, subst, le_of_suc-le-suc, mul-le-mul_right, mod-lt, mul-le-mul_left, mul-pos, div-add-mod', le-div_iff_mul-le, le_of_mul-le-mul_right, arith, pow_pos, pow-add}
use Prim.Native.Nat.{Ordering}
use lib.Ieee.{Format, prec, low, size, nearest, round}
use lib.Ieee.Exact.{HasValue}
use lib.Ieee.Digits.{size_reaches}
use lib.Ieee.Fits.{two, two-le_pos}
use lib.Ieee.Nearest.{closest}
use lib.Ieee.Positive.{num, den, positive, positive_of_value, value→cross}
use lib.Ieee.Scale.{finite, grid, round_val, round_under, normal_of_fraction}
use Rattle.floats.proofs.Laws.Nearest.{compared, closest_ge}
use Rattle.floats.proofs.Laws.Round.{twice_pow}

-- x is y but for one part in t of y at most
abbrev pub Near : ℕ → ℕ → ℕ → Type 0
Near t x y = (t * x ≤ t * y + y) × (t * y ≤ t * x + y)

-- ---- the nearest whole number to a / b is half a step off at most
abbrev HalfOff : ℕ → ℕ → ℕ → Type 0
HalfOff q a b = (2 * (q * b) ≤ 2 * a + b) × (2 * a ≤ 2 * (q * b) + b)

tie_half_off : (q z r b : ℕ) → z < 2 → r * 2 ≡ b → HalfOff (q + z) (q * b + r) b
tie_half_off q z r b h e = omega (arith, mul-le-mul_right b (le_of_suc-le-suc h))

closest_half_off : (a b : ℕ) → 0 < b → HalfOff (closest a b) a b
closest_half_off a b B =
    let q = a / b in
    let r = a % b in
    let less : r < b = mod-lt a B in
    subst (λ (x : ℕ). HalfOff (closest a b) x b) (div-add-mod' a b)
    (compared (λ (o : Ordering). HalfOff (nearest q o) (q * b + r) b) (r * 2) b
    (λ l. omega arith)
    (λ e. tie_half_off q (q % 2) r b (omega arith) e)
    (λ g. omega arith))

half_off_near : (t q u n : ℕ) → HalfOff q n u → t * u ≤ 2 * n → Near t (q * u) n
half_off_near t q u n h k = omega (arith, mul-le-mul_left t h.0, mul-le-mul_left t h.1)

-- ---- the step to which a fraction n / c with at least p digits is rounded, where p are kept
small_step : (p n c : ℕ) → 2 ≤ p → 0 < c → p ≤ size (n / c) → 2 ^ p * (c * 2 ^ (size (n / c) - p)) ≤ 2 * n
small_step p n c P C h =
    let z = size (n / c) in
    rw (twice_pow p (two-le_pos p P))
    (parts (2 ^ (p - 1)) (2 ^ (z - p)) c n (rw (pow-add 2 (p - 1) (z - p)) at ((le-div_iff_mul-le C).0 (size_reaches (n / c) (p - 1 + (z - p)) (counted z p P h)))))
  where
    counted : (z p : ℕ) → 2 ≤ p → p ≤ z → p - 1 + (z - p) < z
    counted z p P h = omega arith

    parts : (x y c n : ℕ) → x * y * c ≤ n → 2 * x * (c * y) ≤ 2 * n
    parts x y c n h = omega arith

-- ---- a fraction a / c in the normal range, rounded to a finite value
module _ (f : Format) (a c : ℕ) (C : 0 < c) (normal : 2 ^ (prec f - 1) * c ≤ a * 2 ^ low f) (under : T (finite (round f false a c))) where
  abbrev units : ℕ
  units = a * 2 ^ low f

  abbrev dropped : ℕ
  dropped = size (units / c) - prec f

  abbrev step : ℕ
  step = c * 2 ^ dropped

  step_pos : 0 < step
  step_pos = mul-pos C (pow_pos dropped)

  step_small : 2 ^ prec f * step ≤ 2 * units
  step_small = small_step (prec f) units c (two f) C (normal_of_fraction f a c C normal)

  value : HasValue (round f false a c) false (grid f a c) (2 ^ low f)
  value = round_val f a c (round_under f a c under)

  pub round_near : Near (2 ^ prec f) (num (round f false a c) * c) (a * den (round f false a c))
  round_near =
      let x = round f false a c in
      as_fraction (2 ^ prec f) (num x) (den x) a c (grid f a c) (2 ^ low f) (pow_pos (low f)) (value→cross x (grid f a c) (2 ^ low f) value)
      (subst (λ (y : ℕ). Near (2 ^ prec f) y units) (swapped (closest units step) c (2 ^ dropped)) (half_off_near (2 ^ prec f) (closest units step) step units (closest_half_off units step step_pos) step_small))
    where
      swapped : (q c w : ℕ) → q * (c * w) ≡ q * w * c
      swapped q c w = omega arith

      as_fraction : (t x e a c g l : ℕ) → 0 < l → x * l ≡ g * e → Near t (g * c) (a * l) → Near t (x * c) (a * e)
      as_fraction t x e a c g l L v h =
          let w = ap (λ (z : ℕ). t * c * z) v in (
            le_of_mul-le-mul_right {k = l} (omega (arith, mul-le-mul_right e h.0)) L,
            le_of_mul-le-mul_right {k = l} (omega (arith, mul-le-mul_right e h.1)) L,
          )

  pub round_positive : T (positive (round f false a c))
  round_positive =
      positive_of_value (round f false a c) (grid f a c) (2 ^ low f) value
      (mul-pos (closest_ge 1 units step step_pos (one_step (2 ^ (prec f - 1)) step units (pow_pos (prec f - 1)) (rw (twice_pow (prec f) (two-le_pos (prec f) (two f))) at step_small))) (pow_pos dropped))
    where
      one_step : (t u n : ℕ) → 0 < t → 2 * t * u ≤ 2 * n → 1 * u ≤ n
      one_step t u n some h = omega (arith, mul-le-mul_right u some)
