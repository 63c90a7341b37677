-- A sum rounds to a narrower format: where the last digit of x in the format f is worth as much as the last digit of x + m in the format g, m added
-- and taken off again in g leaves x rounded to f. Assumes nothing.
use Rattle.std.proofs.Common.{◌≡◌, ℕ, suc, ◌+◌, ◌-◌, ◌*◌, ◌%◌, ◌^◌, ◌<◌, ◌≤◌, Bool, false, T, sym, refl, ap, ◌∙◌, subst, le_trans, le_of_eq, le-add_right, lt_of_le_of_lt, mul-le-mul_right, mul_assoc, mul_comm, add-mul, add_comm, mul-pos, mul_right_comm, arith, lit<, lit≤, pow_pos, pow-add}
use lib.Dec.{not_T}
use lib.Pow.{pow-lt}
use lib.Ieee.{Float, Format, binary32, binary64, of_bits, le, lt, eq, prec, emax, low, round, add, sub, hid, fits}
use lib.Ieee.Exact.{HasValue, units_val}
use lib.Ieee.Bits.{is_false}
use lib.Ieee.Fits.{sub-fits, fits_widens}
use lib.Ieee.Nearest.{closest}
use lib.Ieee.Positive.{num, den, den_pos}
use Rattle.floats.specs.Ops.{f64}
use Rattle.floats.specs.Compare.{is_negative}
use Rattle.floats.specs.Narrow.{convert}
use Rattle.floats.proofs.Laws.Order.{float_le_trans, -0, lt→le, finite_between, negative_below}
use Rattle.floats.proofs.Laws.Nearest.{closest_add, closest_le}
use Rattle.floats.proofs.Laws.Round.{own_fraction, fractions_of_le, fractions_of_lt, value_same, value_unique, convert_rounds, convert_in_format}
use Rattle.floats.proofs.Laws.Fractions.{add_alike}
use Rattle.floats.proofs.Laws.Grid.{sub_exact}
use Rattle.floats.proofs.Laws.Pattern.{round_units}

-- a fraction whose last digit in the format is worth 2 ^ -t
module _ (f : Format) (t j : ℕ) (parts : low f ≡ t + j) (bounded : prec f + j < low f + suc (emax f)) where
  split : 2 ^ low f ≡ 2 ^ t * 2 ^ j
  split = ap (λ (k : ℕ). 2 ^ k) parts ∙ pow-add 2 t j

  round_at : (s : Bool) (num den m u : ℕ) → 0 < den → 0 < u → m < 2 ^ prec f * u → (0 < j → hid f * u ≤ m) → num * 2 ^ t * u ≡ m * den
      → HasValue (round f s num den) s (closest m u) (2 ^ t)
  round_at s num den m u D U hi lo e =
      let q = closest m u in
      value_same (round f s num den) s (q * 2 ^ j) (2 ^ low f) q (2 ^ t) (pow_pos (low f))
      (mul_assoc q (2 ^ j) (2 ^ t) ∙ ap (λ (z : ℕ). q * z) (mul_comm (2 ^ j) (2 ^ t) ∙ sym split))
      (subst (λ (y : Float). HasValue y s (q * 2 ^ j) (2 ^ low f)) (sym (round_units f s num den m u j D U hi lo units_equal))
      (units_val f s q j
      (lt_of_le_of_lt (mul-le-mul_right (2 ^ j) (closest_le (2 ^ prec f) m u U hi)) (lt_of_le_of_lt (le_of_eq (sym (pow-add 2 (prec f) j))) (pow-lt bounded)))))
    where
      regroup : (a b c d : ℕ) → a * (b * c) * d ≡ a * b * d * c
      regroup a b c d = ap (λ (z : ℕ). z * d) (sym (mul_assoc a b c)) ∙ mul_right_comm (a * b) c d

      units_equal : num * 2 ^ low f * u ≡ m * 2 ^ j * den
      units_equal = ap (λ (z : ℕ). num * z * u) split ∙ regroup num (2 ^ t) (2 ^ j) u ∙ ap (λ (z : ℕ). z * 2 ^ j) e ∙ mul_right_comm m den (2 ^ j)

module _ (f g : Format) (t j i w : ℕ) (parts_f : low f ≡ t + j) (parts_g : low g ≡ t + i)
    (bounded_f : prec f + j < low f + suc (emax f)) (bounded_g : prec g + i < low g + suc (emax g))
    (wider : (v : Float) → T (fits f v) → T (fits g v)) (even : w % 2 ≡ 0) (long : hid g ≤ w) (room : w + 2 ^ prec f ≤ 2 ^ prec g) where
  pub sum_rounds : (x m : Float) (a c : ℕ) → 0 < c → HasValue x false a c → HasValue m false w (2 ^ t) → hid f * c ≤ a * 2 ^ t → a * 2 ^ t < 2 ^ prec f * c
      → sub g (add g x m) m ≡ convert f x
  sum_rounds x m a c C v v' lo hi =
      value_unique g (sub g (add g x m) m) (convert f x) false n (2 ^ t) (pow_pos t) (sub-fits g (add g x m) m) (wider (convert f x) (convert_in_format f x))
      (subst (λ (k : ℕ). HasValue (sub g (add g x m) m) false k (2 ^ t)) (taken_off w n)
      (sub_exact g (add g x m) m false (w + n) w t (le_trans (le-add_right t i) (le_of_eq (sym parts_g))) (le-add_right w n)
      (fits_there w n (2 ^ prec f) (2 ^ prec g) (closest_le (2 ^ prec f) k c C hi) room) total v'))
      (rw (convert_rounds f x false a c C v) (round_at f t j parts_f bounded_f false a c k c C C hi (λ (J : 0 < j). lo) refl))
    where
      k : ℕ
      k = a * 2 ^ t

      n : ℕ
      n = closest k c

      taken_off : (b q : ℕ) → b + q - b ≡ q
      taken_off b q = omega arith

      fits_there : (b q y z : ℕ) → q ≤ y → b + y ≤ z → b + q - b ≤ z
      fits_there b q y z l l' = omega arith

      in_parts : HasValue x false k (c * 2 ^ t)
      in_parts = value_same x false a c k (c * 2 ^ t) C (ap (λ (z : ℕ). a * z) (mul_comm c (2 ^ t)) ∙ sym (mul_assoc a (2 ^ t) c)) v

      m_in_parts : HasValue m false (w * c) (c * 2 ^ t)
      m_in_parts = value_same m false w (2 ^ t) (w * c) (c * 2 ^ t) (pow_pos t) (sym (mul_assoc w c (2 ^ t))) v'

      below : k + w * c < 2 ^ prec g * c
      below = omega (arith, mul-le-mul_right c room, add-mul w (2 ^ prec f) c)

      above : hid g * c ≤ k + w * c
      above = omega (arith, mul-le-mul_right c long)

      total : HasValue (add g x m) false (w + n) (2 ^ t)
      total =
          rw (add_alike g x m false k (w * c) (c * 2 ^ t) (mul-pos C (pow_pos t)) in_parts m_in_parts)
          (subst (λ (q : ℕ). HasValue (round g false (k + w * c) (c * 2 ^ t)) false q (2 ^ t)) (ap (λ (z : ℕ). closest z c) (add_comm k (w * c)) ∙ closest_add w k c C even)
          (round_at g t i parts_g bounded_g false (k + w * c) (c * 2 ^ t) (k + w * c) c (mul-pos C (pow_pos t)) C below (λ (I : 0 < i). above)
          (mul_assoc (k + w * c) (2 ^ t) c ∙ ap (λ (z : ℕ). (k + w * c) * z) (mul_comm (2 ^ t) c))))

-- ---- from 1/2 to 1 the last digit of an `f32` is worth 2 ^ -24, and so is that of an `f64` about 1.5 * 2 ^ 28
abbrev pub align : Float
align = f64 0x41B8_0000_0000_0000

align_value : HasValue align false 6755399441055744 (2 ^ 24)
unfolding of_bits
align_value = (refl, refl)

abbrev pub half : Float
half = f64 0x3FE0_0000_0000_0000

abbrev pub one : Float
one = f64 0x3FF0_0000_0000_0000

above_zero : (x : Float) → T (le half x) → is_negative x ≡ false
unfolding of_bits lt eq le
above_zero x h = is_false (is_negative x) (not_T (is_negative x) (λ s. float_le_trans half x -0 h (negative_below x s)))

module _ (x : Float) (least : T (le half x)) (most : T (lt x one)) where
  its_value : HasValue x false (num x) (den x)
  unfolding of_bits
  its_value =
      subst (λ (s : Bool). HasValue x s (num x) (den x)) (above_zero x least) (own_fraction x (finite_between half x one tt tt least (lt→le x one most)))

  at_least_half : den x ≤ 2 * num x
  unfolding of_bits
  at_least_half = omega (arith, fractions_of_le half x false 1 2 false (num x) (den x) (refl, refl) its_value least)

  below_one : num x < den x
  unfolding of_bits
  below_one = omega (arith, fractions_of_lt x one false (num x) (den x) false 1 1 (den_pos x) (lit< tt) its_value (refl, refl) most)

  pub half_to_one : sub binary64 (add binary64 x align) align ≡ convert binary32 x
  half_to_one =
      sum_rounds binary32 binary64 24 125 1050 6755399441055744 refl refl (lit< tt) (lit< tt) fits_widens refl (lit≤ tt) (lit≤ tt) x align (num x) (den x) (den_pos x) its_value align_value
      (scaled_least (num x) (den x) at_least_half)
      (scaled_most (num x) (den x) below_one)
    where
      scaled_least : (a c : ℕ) → c ≤ 2 * a → 2 ^ 23 * c ≤ a * 2 ^ 24
      scaled_least a c h = omega arith

      scaled_most : (a c : ℕ) → a < c → a * 2 ^ 24 < 2 ^ 24 * c
      scaled_most a c h = omega arith
