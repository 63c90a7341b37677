-- A root against a limit m from 2 ^ -k to 2 ^ k, told by squares alone: the root of s is at most m where s is at most m * m (`root_within`),
-- and above m where s is at least the square of 2 * m (`root_beyond`). In any format with an exponent above 2 * k. Assumes nothing.
use Rattle.std.proofs.Common.{◌+◌, pow-suc, lt_of_le_of_lt, sym, ap, ◌≡◌, ℕ, suc, ◌*◌, ◌^◌, ◌<◌, ◌≤◌, Bool, true, false, not, T, pos, negsuc, refl, ◌∙◌, subst, ⊎_elim, le_trans, le_of_eq, zero-lt-suc, mul-lt-mul_of_pos_right, mul-pos, one-mul, mul-one, arith, T_not, pow_pos}
use lib.Dec.{not_T}
use lib.Pow.{pow-lt}
use lib.Ieee.{Float, fin, Format, low, emax, mul, add, fits, le, lt, inf, nan}
use lib.Ieee.Bits.{is_true, is_false}
use lib.Ieee.Fits.{mul-fits}
use lib.Ieee.Exact.{HasValue}
use lib.Ieee.Positive.{num, den, den_pos, positive, positive-finite, own_value, value_pos}
use lib.Ieee.Scale.{finite}
use Rattle.floats.specs.Compare.{is_negative}
use Rattle.floats.specs.Sqrt.{sqrt}
use Rattle.floats.proofs.Laws.Order
use Rattle.floats.proofs.Laws.Order.{+0}
use Rattle.floats.proofs.Laws.Round.{fits→holds, value_sign, le_of_fractions, lt_of_fractions}
use Rattle.floats.proofs.Laws.Grid.{mul_power_exact}
use Rattle.floats.proofs.Laws.Sum.{add_numbers, add_nonneg}
use Rattle.floats.proofs.Laws.Product.{unlike_false, float_mul_comm, mul_numbers, square_nonneg}
use Rattle.floats.proofs.Laws.Sqrt.{sqrt_mono, sqrt_nonneg}
use Rattle.floats.proofs.Laws.Sqrt.Square.{lowest, highest, lowest_value, highest_value, InRange, range_positive, den_below, num_below, sqrt_square}

abbrev pub two : Float
two = fin false 1 (pos 1)

-- ---- what is at least zero is not below it
not_below : (x : Float) → T (le +0 x) → T (not (lt x +0))
not_below x h = not_T (lt x +0) (λ l. Order.lt_excludes x +0 l h)

-- a sum of two squares is not below zero, though it can be a NaN
pub squares_not_below : (f : Format) (x y : Float) → T (not (lt (add f (mul f x x) (mul f y y)) +0))
squares_not_below f x y =
    let s = add f (mul f x x) (mul f y y) in
    not_T (lt s +0)
    (λ l.
    let n = add_numbers f (mul f x x) (mul f y y) (Order.lt_numbers s +0 l).0 in
    Order.lt_excludes s +0 l (add_nonneg f (mul f x x) (mul f y y) (square_nonneg f x (mul_numbers f x x n.0).0) (square_nonneg f y (mul_numbers f y y n.1).0)))

-- ---- the root of s against m
module _ (f : Format) (k : ℕ) (room : k + k < emax f) (m : Float) (fit : T (fits f m)) (within : InRange k m) where
  nonneg : T (le +0 (mul f m m))
  nonneg = square_nonneg f m (Order.le_numbers (lowest k) m within.at_least).1

  module _ (s : Float) where
    pub root_at_most : T (not (lt s +0)) → T (le s (mul f m m)) → T (le (sqrt f s) m)
    root_at_most n h = subst (λ (z : Float). T (le (sqrt f s) z)) (sqrt_square f k room m fit within) (sqrt_mono f s (mul f m m) n (not_below (mul f m m) nonneg) h)

    pub root_at_least : T (le (mul f m m) s) → T (le m (sqrt f s))
    root_at_least h =
        subst (λ (z : Float). T (le z (sqrt f s))) (sqrt_square f k room m fit within)
        (sqrt_mono f (mul f m m) s (not_below (mul f m m) nonneg) (not_below s (Order.float_le_trans +0 (mul f m m) s nonneg h)) h)

    pub root_finite : T (not (lt s +0)) → T (le s (mul f m m)) → T (finite (sqrt f s))
    root_finite n h =
        let l : T (le +0 s) = ⊎_elim (λ l. l) (λ l. absurd (T_not (lt s +0) n l)) (Order.le_or_lt +0 s (Order.finite→number +0 tt) (Order.le_numbers s (mul f m m) h).0) in
        Order.finite_between +0 (sqrt f s) m tt (positive-finite m (range_positive k m within)) (sqrt_nonneg f s l) (root_at_most n h)

-- ---- twice the limit is exact, and above it
den_upto : (f : Format) (x : Float) → T (fits f x) → T (finite x) → den x ≤ 2 ^ low f
den_upto f (fin s m (pos k)) t p = pow_pos (low f)
den_upto f (fin s m (negsuc k)) t p = le_trans (fits→holds f s m (negsuc k) t).lowest (le_of_eq (one-mul (2 ^ low f)))
den_upto f nan t p = elim p [ ]
den_upto f (inf _) t p = elim p [ ]

module _ (f : Format) (k : ℕ) (room : suc k + suc k < emax f) (m : Float) (fit : T (fits f m)) (within : InRange k m) where
  abbrev double : Float
  double = mul f two m

  m_positive : T (positive m)
  m_positive = range_positive k m within

  double_value : HasValue double false (num m * 2) (den m * 1)
  double_value =
      let sign = unlike_false (is_negative m) ∙ value_sign m false (num m) (den m) (own_value m m_positive) in
      rw (float_mul_comm f two m)
      (subst (λ (t : Bool). HasValue (mul f m two) t (num m * 2) (den m * 1)) sign
      (mul_power_exact f m two false 1 0 fit (positive-finite m m_positive) (refl, refl)
      (no_lower (den m) (2 ^ low f) (den_upto f m fit (positive-finite m m_positive)))
      (no_overflow (2 ^ k) (2 ^ suc (emax f)) (num m) (den m) (num_below k m within) under (den_pos m))))
    where
      no_lower : (d l : ℕ) → d ≤ l → d * 1 ≤ l * 2
      no_lower d l h = omega arith

      under : 2 ^ k * 2 < 2 ^ suc (emax f)
      under = lt_of_le_of_lt (le_of_eq (sym (pow-suc 2 k))) (pow-lt (omega arith))

      no_overflow : (k e n d : ℕ) → n ≤ k * d → k * 2 < e → 0 < d → n * 2 < e * (d * 1)
      no_overflow k e n d h j D = omega (arith, mul-lt-mul_of_pos_right j D)

  lt_double : T (lt m double)
  lt_double =
      let D = den_pos m in
      let N = value_pos m (num m) (den m) m_positive D (own_value m m_positive) in
      lt_of_fractions m double false (num m) (den m) false (num m * 2) (den m * 1) D (rw (mul-one (den m)) D) (own_value m m_positive) double_value
      (omega (arith, mul-pos N D))

  double_within : InRange (suc k) double
  double_within =
      let D : 0 < den m * 1 = rw (mul-one (den m)) (den_pos m) in
      let e = pow-suc 2 k in
      record {
        at_least = le_of_fractions (lowest (suc k)) double false 1 (2 ^ suc k) false (num m * 2) (den m * 1) (pow_pos (suc k)) D (lowest_value (suc k)) double_value
            (omega (arith, den_below k m within, ap (λ (y : ℕ). num m * y) e));
        at_most = le_of_fractions double (highest (suc k)) false (num m * 2) (den m * 1) false (2 ^ suc k) 1 D (zero-lt-suc 0) double_value (highest_value (suc k))
            (omega (arith, num_below k m within, ap (λ (y : ℕ). y * den m) e));
      }

  pub root_above : (s : Float) → T (le (mul f double double) s) → T (lt m (sqrt f s))
  root_above s h = Order.lt_le_trans m double (sqrt f s) lt_double (root_at_least f (suc k) room double (mul-fits f two m) double_within s h)

-- ---- as tests
pub root_within : (f : Format) (k : ℕ) (m s : Float) → k + k < emax f → T (fits f m) → InRange k m → T (not (lt s +0)) → T (le s (mul f m m))
    → (le (sqrt f s) m ≡ true) × (lt m (sqrt f s) ≡ false) × (finite (sqrt f s) ≡ true)
root_within f k m s room fit within n h =
    let l = root_at_most f k room m fit within s n h in (
      is_true (le (sqrt f s) m) l,
      is_false (lt m (sqrt f s)) (not_T (lt m (sqrt f s)) (λ g. Order.lt_excludes m (sqrt f s) g l)),
      is_true (finite (sqrt f s)) (root_finite f k room m fit within s n h),
    )

pub root_beyond : (f : Format) (k : ℕ) (m s : Float) → suc k + suc k < emax f → T (fits f m) → InRange k m → T (le (mul f (mul f two m) (mul f two m)) s)
    → (le (sqrt f s) m ≡ false) × (lt m (sqrt f s) ≡ true)
root_beyond f k m s room fit within h =
    let l = root_above f k room m fit within s h in (
      is_false (le (sqrt f s) m) (not_T (le (sqrt f s) m) (λ g. Order.lt_excludes m (sqrt f s) l g)),
      is_true (lt m (sqrt f s)) l,
    )
