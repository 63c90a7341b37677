-- The root of a square, both rounded, is the number squared, where the square neither overflows nor falls below the normal range (`root_of_square`), as from 2 ^ -k to 2 ^ k for a
-- k below half of the format's largest exponent (`sqrt_square`), and so at binary32 from 2 ^ -60 to 2 ^ 61 (`sqrt_square_32`). The square is off by less than the way to the square of the midpoint with the next value. Assumes nothing.
use Rattle.std.proofs.Common.{zero, negsuc, pow_mono, ◌≡◌, ℕ, suc, ◌+◌, ◌-◌, ◌*◌, ◌^◌, ◌<◌, ◌≤◌, Bool, true, false, cond, T, pos, sym, refl, ap, ◌∙◌, ⊎_elim, le_trans, le_of_eq, le_refl, le_of_suc-le-suc, lt_of_le_of_lt, le_of_lt, mul-le-mul_right, zero-lt-suc, mul_assoc, lt-suc_self, mul-le-mul, lt_of_mul-lt-mul_right, eq-or-lt_of_le, mul-le-mul_left, mul-lt-mul_of_pos_right, mul-pos, one-mul, lt_of_not-le, mul-one, mul_right_comm, not-le_of_lt, le_of_mul-le-mul_right, add-one, arith, lit<, pow_pos, pow-add}
use native.Mathlib.Nat.{mul-mul-mul_comm}
use lib.Pow.{pow-lt}
use lib.Ieee.{Float, fin, Format, binary32, binary64, prec, emax, low, up, down, hid, round, neg, mul, fits, le, lt, of_bits, inf, nan}
use lib.Ieee.Exact.{HasValue}
use lib.Ieee.Fits.{two, two-le_pos, round-fits}
use lib.Ieee.Positive.{num, den, den_pos, positive, positive-finite, own_value, between, value→cross, le→cross, values_of_le, positive_of_value, mul_at}
use lib.Ieee.Scale.{finite}
use Rattle.floats.specs.Compare.{abs, is_negative}
use Rattle.floats.specs.Sqrt.{sqrt}
use Rattle.floats.specs.Root.{sum, IsNearest}
use Rattle.floats.proofs.Laws.Order
use Rattle.floats.proofs.Laws.Round.{mul_power, round_held, round_finite, fractions_of_lt}
use Rattle.floats.proofs.Laws.Near.{Near, round_near, round_positive}
use Rattle.floats.proofs.Laws.Product.{neg_square}
use Rattle.floats.proofs.Laws.Sqrt.WholeRoot.{square_is}
use Rattle.floats.proofs.Laws.Sqrt.Values.{Full, in_full, value_of, le_antisymm_positive}
use Rattle.floats.proofs.Laws.Sqrt.Leading.{next_value}
use Rattle.floats.proofs.Laws.Sqrt.Rounding.{twice_pow}
use Rattle.floats.proofs.Laws.Sqrt.Special.{sqrt_fits}
use Rattle.floats.proofs.Laws.Sqrt.Nearest.{total, nearest, root_positive}

-- ---- a square and its neighbours, in steps of its root

-- one part in t of M * M is less than the way to (M + 1/2)²
room_above : (t M : ℕ) → M ≤ t → 4 * ((t + 1) * (M * M)) ≤ t * ((2 * M + 1) * (2 * M + 1))
room_above t M h = omega (arith, mul-le-mul_right M h)

-- and than the way to (M - 1/2)², where t is not much more than M
room_below : (t c : ℕ) → suc c < t → t ≤ 4 * suc c → t * ((2 * c + 1) * (2 * c + 1)) + 4 * (suc c * suc c) ≤ 4 * (t * (suc c * suc c))
room_below t c h k = omega (arith, mul-le-mul_right (suc c) h)

-- a / l is M steps of w / l, and z / e is near its square. s / l is the sum of a / l and another value, a step off or more.
-- Then half that sum, the midpoint, is on the far side of the root of z / e.
module _ (t M w l a s z e : ℕ) (some : 0 < t) (L : 0 < l) (is : a * l ≡ M * w) where
  in_steps : a * a * e * (l * l) ≡ M * M * (w * w * e)
  in_steps =
      mul_right_comm (a * a) e (l * l)
      ∙ ap (λ (y : ℕ). y * e) (mul-mul-mul_comm a a l l ∙ ap (λ (y : ℕ). y * y) is ∙ sym (mul-mul-mul_comm M M w w))
      ∙ mul_assoc (M * M) (w * w) e

  sum_in_steps : s * s * e * (l * l) ≡ s * l * (s * l) * e
  sum_in_steps = mul_right_comm (s * s) e (l * l) ∙ ap (λ (y : ℕ). y * e) (mul-mul-mul_comm s s l l)

  far_in_steps : (y : ℕ) → y * w * (y * w) * e ≡ y * y * (w * w * e)
  far_in_steps y = ap (λ (x : ℕ). x * e) (mul-mul-mul_comm y w y w) ∙ mul_assoc (y * y) (w * w) e

  upper : M ≤ t → t * z ≤ t * (a * a * e) + a * a * e → (2 * M + 1) * w ≤ s * l → 4 * z ≤ s * s * e
  upper few near far =
      let q = w * w * e in
      let u = l * l in
      let n : t * z * u ≤ (t * (a * a * e) + a * a * e) * u = mul-le-mul_right u near in
      let r : 4 * ((t + 1) * (M * M)) * q ≤ t * ((2 * M + 1) * (2 * M + 1)) * q = mul-le-mul_right q (room_above t M few) in
      let d : (2 * M + 1) * (2 * M + 1) * q ≤ s * s * e * u = rw (sum_in_steps, ← far_in_steps (2 * M + 1)) (mul-le-mul_right e (mul-le-mul far far)) in
      le_of_mul-le-mul_right {k = t * u} (joined t z u (a * a * e) (M * M) q ((2 * M + 1) * (2 * M + 1)) (s * s * e) in_steps n r d) (mul-pos some (mul-pos L L))
    where
      joined : (t z u a m q y s : ℕ) → a * u ≡ m * q → t * z * u ≤ (t * a + a) * u → 4 * ((t + 1) * m) * q ≤ t * y * q → y * q ≤ s * u → 4 * z * (t * u) ≤ s * (t * u)
      joined t z u a m q y s i n r d = omega (arith, mul-le-mul_left t d, ap (λ (x : ℕ). t * x) i)

  lower : (c : ℕ) → M ≡ suc c → M < t → t ≤ 4 * M → t * (a * a * e) ≤ t * z + a * a * e → s * l ≤ (2 * c + 1) * w → s * s * e ≤ 4 * z
  lower c one_more few full near far =
      let q = w * w * e in
      let u = l * l in
      let n : t * (a * a * e) * u ≤ (t * z + a * a * e) * u = mul-le-mul_right u near in
      let r : (t * ((2 * c + 1) * (2 * c + 1)) + 4 * (M * M)) * q ≤ 4 * (t * (M * M)) * q = mul-le-mul_right q (rw one_more (room_below t c (rw one_more at few) (rw one_more at full))) in
      let d : s * s * e * u ≤ (2 * c + 1) * (2 * c + 1) * q = rw (sum_in_steps, ← far_in_steps (2 * c + 1)) (mul-le-mul_right e (mul-le-mul far far)) in
      le_of_mul-le-mul_right {k = t * u} (joined t z u (a * a * e) (M * M) q ((2 * c + 1) * (2 * c + 1)) (s * s * e) in_steps n r d) (mul-pos some (mul-pos L L))
    where
      joined : (t z u a m q y s : ℕ) → a * u ≡ m * q → t * a * u ≤ (t * z + a) * u → (t * y + 4 * m) * q ≤ 4 * (t * m) * q → s * u ≤ y * q → s * (t * u) ≤ 4 * z * (t * u)
      joined t z u a m q y s i n r d = omega (arith, mul-le-mul_left t d, ap (λ (x : ℕ). t * x) i)

-- ---- a value n / d of M * k units of 1 / l, and another, y / b, of q units: their sum over d * b
module _ (M k d n b y q l : ℕ) (of_m : n * l ≡ M * k * d) (of_r : y * l ≡ q * b) where
  own_steps : n * b * l ≡ M * (k * d * b)
  own_steps = mul_right_comm n b l ∙ ap (λ (x : ℕ). x * b) of_m ∙ regroup M k d b
    where
      regroup : (M k d b : ℕ) → M * k * d * b ≡ M * (k * d * b)
      regroup M k d b = omega arith

  other_steps : y * d * l ≡ q * (b * d)
  other_steps = mul_right_comm y d l ∙ ap (λ (x : ℕ). x * d) of_r ∙ mul_assoc q b d

  sum_upto : 0 < l → q ≤ M * k → y * d + n * b ≤ 2 * (n * b)
  sum_upto L h =
      let less : y * d ≤ n * b = le_of_mul-le-mul_right {k = l} (omega (arith, own_steps, other_steps, mul-le-mul_right (b * d) h)) L in
      omega arith

  sum_above : (M + 1) * k ≤ q → (2 * M + 1) * (k * d * b) ≤ (y * d + n * b) * l
  sum_above h = omega (arith, own_steps, other_steps, mul-le-mul_right (b * d) h)

  sum_below : (c : ℕ) → M ≡ suc c → q ≤ c * k → (y * d + n * b) * l ≤ (2 * c + 1) * (k * d * b)
  sum_below c e h = omega (arith, own_steps, other_steps, mul-le-mul_right (b * d) h, ap (λ (x : ℕ). x * (k * d * b)) e)

-- x / e is near n * n / (d * d), which is n * b * (n * b) over the square of the sum's denominator
scaled_near : (t x d b n e : ℕ) → Near t (x * (d * d)) (n * n * e) → Near t (x * (d * b) * (d * b)) (n * b * (n * b) * e)
scaled_near t x d b n e h = omega (arith, mul-le-mul_right (b * b) h.0, mul-le-mul_right (b * b) h.1)

-- and where it is that square
scaled_exact : (x d b n e s : ℕ) → x * (d * d) ≡ n * n * e → s ≤ 2 * (n * b) → s * s * e ≤ 4 * (x * (d * b) * (d * b))
scaled_exact x d b n e s h k = omega (arith, mul-le-mul_right e (mul-le-mul k k), ap (λ (y : ℕ). y * (b * b)) h)

-- ---- from fractions to values

positive_sum : (y z : Float) → T (positive y) → T (positive z) → sum y z ≡ num z * den y + num y * den z
unfolding is_negative
positive_sum (fin false m e) (fin false n d) p q = total (n * up d * down e) (m * up e * down d) (down d) (down e)
positive_sum nan z p q = elim p [ ]
positive_sum (inf _) z p q = elim p [ ]
positive_sum (fin true m e) z p q = elim p [ ]
positive_sum (fin false m e) nan p q = elim q [ ]
positive_sum (fin false m e) (inf _) p q = elim q [ ]
positive_sum (fin false m e) (fin true n d) p q = elim q [ ]

-- a positive value of f is M * 2 ^ k units of 2 ^ -(low + prec), with all of f's digits in M
module _ (f : Format) where
  abbrev unit : ℕ
  unit = 2 ^ (low f + prec f)

  lt_in_steps : (u v : Float) (A : Full f u) (B : Full f v) → T (positive u) → T (positive v) → T (lt u v) → A.digits * 2 ^ A.place < B.digits * 2 ^ B.place
  lt_in_steps u v A B p q h =
      let l = fractions_of_lt u v false (A.digits * 2 ^ A.place) unit false (B.digits * 2 ^ B.place) unit (pow_pos (low f + prec f)) (pow_pos (low f + prec f))
      (value_of u (A.digits * 2 ^ A.place) unit p A.equals) (value_of v (B.digits * 2 ^ B.place) unit q B.equals) h in
      lt_of_mul-lt-mul_right unit (omega arith)

  -- x is near m * m, and exactly that where m is a power of two; r is another value
  module _ (m x r : Float) (A : Full f m) (B : Full f r) (p : T (positive m)) (q : T (positive r)) (near : Near (2 ^ prec f) (num x * (den m * den m)) (num m * num m * den x))
      (exact : hid f ≡ A.digits → num x * (den m * den m) ≡ num m * num m * den x) where
    abbrev both : ℕ
    both = num r * den m + num m * den r

    abbrev square : ℕ
    square = num x * (den m * den r) * (den m * den r)

    abbrev step : ℕ
    step = 2 ^ A.place * den m * den r

    abbrev other : ℕ
    other = B.digits * 2 ^ B.place

    own : num m * den r * unit ≡ A.digits * step
    own = own_steps A.digits (2 ^ A.place) (den m) (num m) (den r) (num r) other (unit) A.equals B.equals

    scaled : Near (2 ^ prec f) square (num m * den r * (num m * den r) * den x)
    scaled = scaled_near (2 ^ prec f) (num x) (den m) (den r) (num m) (den x) near

    far_above : T (lt m r) → 4 * square ≤ both * both * den x
    far_above h =
        let next = next_value (prec f) A.digits A.place B.digits B.place (two f) A.full B.few (lt_in_steps m r A B p q h) in
        upper (2 ^ prec f) A.digits step (unit) (num m * den r) both square (den x) (pow_pos (prec f)) (pow_pos (low f + prec f)) own (le_of_lt A.few)
        scaled.0
        (sum_above A.digits (2 ^ A.place) (den m) (num m) (den r) (num r) other (unit) A.equals B.equals next)

    power_below : hid f ≡ A.digits → other < A.digits * 2 ^ A.place → both * both * den x ≤ 4 * square
    power_below e l = scaled_exact (num x) (den m) (den r) (num m) (den x) both (exact e) (sum_upto A.digits (2 ^ A.place) (den m) (num m) (den r) (num r) other (unit) A.equals B.equals (pow_pos (low f + prec f)) (le_of_lt l))

    step_below : (c : ℕ) → A.digits ≡ suc c → hid f ≤ c → other < A.digits * 2 ^ A.place → both * both * den x ≤ 4 * square
    step_below c e full l =
        let upto : other ≤ c * 2 ^ A.place = le_of_suc-le-suc (lt_of_not-le (λ (h : c * 2 ^ A.place < other). not-le_of_lt l (le_trans (le_of_eq (ap (λ (y : ℕ). y * 2 ^ A.place) (e ∙ sym (add-one c)))) (next_value (prec f) c A.place B.digits B.place (two f) full B.few h)))) in
        lower (2 ^ prec f) A.digits step (unit) (num m * den r) both square (den x) (pow_pos (prec f)) (pow_pos (low f + prec f)) own c e A.few (omega (arith, twice_pow (prec f) (two f)))
        scaled.1
        (sum_below A.digits (2 ^ A.place) (den m) (num m) (den r) (num r) other (unit) A.equals B.equals c e upto)

    far_below : T (lt r m) → both * both * den x ≤ 4 * square
    far_below h =
        let l = lt_in_steps r m B A q p h in
        ⊎_elim (λ e. power_below e l) (λ k. step_below (A.digits - 1) (omega arith) (omega arith) l) (eq-or-lt_of_le A.full)

    -- so m is r, where r is the nearest value to the root of x
    module _ (m_fits : T (fits f m)) (r_fits : T (fits f r)) (N : IsNearest f x r) where
      sum_squared : sum m r ^ 2 * den x ≡ both * both * den x
      sum_squared = ap (λ (y : ℕ). y * den x) (ap (λ (y : ℕ). y ^ 2) (positive_sum m r p q) ∙ square_is both)

      four_squares : 4 * num x * (den m * den r) ^ 2 ≡ 4 * square
      four_squares = ap (λ (y : ℕ). 4 * num x * y) (square_is (den m * den r)) ∙ regroup (num x) (den m * den r)
        where
          regroup : (x d : ℕ) → 4 * x * (d * d) ≡ 4 * (x * d * d)
          regroup x d = omega arith

      not_above : T (lt m r) → ⊥
      not_above h = not-le_of_lt (rw (sum_squared, four_squares) at (N.below m m_fits (positive-finite m p) h)) (far_above h)

      not_below : T (lt r m) → ⊥
      not_below h = not-le_of_lt (rw (sum_squared, four_squares) at (N.above m m_fits (positive-finite m p) h)) (far_below h)

      same : r ≡ m
      same =
          let i = Order.finite→number m (positive-finite m p) in
          let j = Order.finite→number r (positive-finite r q) in
          le_antisymm_positive f r m r_fits m_fits q p
          (⊎_elim (λ h. h) (λ h. absurd (not_above h)) (Order.le_or_lt r m j i))
          (⊎_elim (λ h. h) (λ h. absurd (not_below h)) (Order.le_or_lt m r i j))

-- ---- the square

-- 2 ^ emax, the largest power of two that a format holds
abbrev top_power : Format → Float
top_power f = fin false 1 (pos (emax f))

top_power_fits : (f : Format) → T (fits f (top_power f))
unfolding fits
top_power_fits binary32 = tt
top_power_fits binary64 = tt

-- n / d is y / l: what is known of its square, by y and l
module _ (y l n d : ℕ) (D : 0 < d) (is : n * l ≡ y * d) where
  same_square : n * n * (l * l) ≡ y * y * (d * d)
  same_square = mul-mul-mul_comm n n l l ∙ ap (λ (x : ℕ). x * x) is ∙ sym (mul-mul-mul_comm y y d d)

  square_at_least : (t w : ℕ) → 0 < t → t * (d * d) ≤ n * n * w → l * l ≤ y * y * w
  square_at_least t w some h =
      le_of_mul-le-mul_right {k = d * d} (omega (arith, mul-le-mul_right (d * d * (l * l)) some, mul-le-mul_right (l * l) h, ap (λ (x : ℕ). x * w) same_square)) (mul-pos D D)

  square_at_most : (t : ℕ) → n * n ≤ t * (d * d) → y * y ≤ t * (l * l)
  square_at_most t h = le_of_mul-le-mul_right {k = d * d} (omega (arith, mul-le-mul_right (l * l) h, same_square)) (mul-pos D D)

module _ (f : Format) (m : Float) (p : T (positive m)) (normal : hid f * (den m * den m) ≤ num m * num m * 2 ^ low f) (under : num m * num m ≤ 2 ^ emax f * (den m * den m)) where
  abbrev x : Float
  x = round f false (num m * num m) (den m * den m)

  den_square : 0 < den m * den m
  den_square = mul-pos (den_pos m) (den_pos m)

  square_finite : T (finite x)
  square_finite = round_finite f false (num m * num m) (den m * den m) (top_power f) false (2 ^ emax f) 1 den_square (zero-lt-suc 0) (top_power_fits f) (refl, omega arith) (le_trans (le_of_eq (mul-one (num m * num m))) under)

  square_positive : T (positive x)
  square_positive = round_positive f (num m * num m) (den m * den m) den_square normal square_finite

  square_near : Near (2 ^ prec f) (num x * (den m * den m)) (num m * num m * den x)
  square_near = round_near f (num m * num m) (den m * den m) den_square normal square_finite

  -- the square of a power of two is exact
  square_exact : (k l : ℕ) → num m * 2 ^ l ≡ 2 ^ k * den m → num x * (den m * den m) ≡ num m * num m * den x
  square_exact k l e =
      let u = 2 ^ k * 2 ^ k in
      let w = 2 ^ l * 2 ^ l in
      value→cross x (num m * num m) (den m * den m)
      (round_held f false 1 u w 1 (num m * num m) (den m * den m) (mul_power (2 ^ k) (2 ^ k) (k, refl) (k, refl)) (mul_power (2 ^ l) (2 ^ l) (l, refl) (l, refl))
      (record {
        digits = pow-lt (two-le_pos (prec f) (two f));
        lowest = square_at_least (2 ^ k) (2 ^ l) (num m) (den m) (den_pos m) e (hid f) (2 ^ low f) (pow_pos (prec f - 1)) normal;
        under = lt_of_le_of_lt (le_trans (le_of_eq (one-mul u)) (square_at_most (2 ^ k) (2 ^ l) (num m) (den m) (den_pos m) e (2 ^ emax f) under))
            (mul-lt-mul_of_pos_right (pow-lt (lt-suc_self (emax f))) (mul-pos (pow_pos l) (pow_pos l)));
      })
      (le_refl 1) den_square (same_square (2 ^ k) (2 ^ l) (num m) (den m) (den_pos m) e ∙ ap (λ (y : ℕ). y * (den m * den m)) (sym (one-mul u))))

  pub root_of_square : T (fits f m) → sqrt f (mul f m m) ≡ m
  root_of_square fit =
      let x_Fits = round-fits f false (num m * num m) (den m * den m) in
      let r_fits = sqrt_fits f x x_Fits in
      let q = root_positive f x x_Fits square_positive in
      let A = in_full f m fit p in
      let B = in_full f (sqrt f x) r_fits q in
      ap (sqrt f) (mul_at f m m (num m) (den m) (num m) (den m) p p (den_pos m) (den_pos m) (own_value m p) (own_value m p))
      ∙ same f m x (sqrt f x) A B p q square_near
      (λ e. square_exact (prec f - 1 + A.place) (low f + prec f) (A.equals ∙ ap (λ (y : ℕ). y * den m) (ap (λ (y : ℕ). y * 2 ^ A.place) (sym e) ∙ sym (pow-add 2 (prec f - 1) A.place))))
      fit r_fits (nearest f x x_Fits square_positive)

-- ---- from 2 ^ -k to 2 ^ k, where 2 ^ (2 * k) is no more than the half of what the format holds

abbrev pub lowest : ℕ → Float
lowest zero = fin false 1 (pos 0)
lowest (suc k) = fin false 1 (negsuc k)

abbrev pub highest : ℕ → Float
highest k = fin false 1 (pos k)

pub lowest_value : (k : ℕ) → HasValue (lowest k) false 1 (2 ^ k)
lowest_value zero = (refl, refl)
lowest_value (suc k) = (refl, refl)

pub highest_value : (k : ℕ) → HasValue (highest k) false (2 ^ k) 1
highest_value k = (refl, ap (λ (x : ℕ). x * 1) (one-mul (2 ^ k)))

-- n / d is at least 1 / k, and at most k
normal_square : (t k w n d : ℕ) → d ≤ n * k → t * (k * k) ≤ w → t * (d * d) ≤ n * n * w
normal_square t k w n d h j = le_trans (mul-le-mul_left t (mul-le-mul h h)) (le_trans (le_of_eq (regroup t n k)) (mul-le-mul_left (n * n) j))
  where
    regroup : (t n k : ℕ) → t * (n * k * (n * k)) ≡ n * n * (t * (k * k))
    regroup t n k = omega arith

small_square : (k e n d : ℕ) → n ≤ k * d → k * k ≤ e → n * n ≤ e * (d * d)
small_square k e n d h j = le_trans (mul-le-mul h h) (le_trans (le_of_eq (mul-mul-mul_comm k d k d)) (mul-le-mul_right (d * d) j))

-- m is in that range
pub record InRange (k : ℕ) (m : Float) : Type 0 where
  pub at_least : T (le (lowest k) m)
  pub at_most : T (le m (highest k))

module _ (k : ℕ) (m : Float) (within : InRange k m) where
  lowest_positive : T (positive (lowest k))
  lowest_positive = positive_of_value (lowest k) 1 (2 ^ k) (lowest_value k) (zero-lt-suc 0)

  pub range_positive : T (positive m)
  range_positive = between (lowest k) m (highest k) lowest_positive tt within.at_least within.at_most

  pub den_below : den m ≤ num m * 2 ^ k
  den_below =
      rw (one-mul (den m)) at (values_of_le (lowest k) m 1 (2 ^ k) (num m) (den m) lowest_positive range_positive (lowest_value k) (own_value m range_positive) within.at_least)

  pub num_below : num m ≤ 2 ^ k * den m
  num_below = omega (arith, le→cross m (highest k) range_positive tt within.at_most)

module _ (f : Format) (k : ℕ) (room : k + k < emax f) where
  pub sqrt_square : (m : Float) → T (fits f m) → InRange k m → sqrt f (mul f m m) ≡ m
  sqrt_square m fit within =
      root_of_square f m (range_positive k m within)
      (normal_square (hid f) (2 ^ k) (2 ^ low f) (num m) (den m) (den_below k m within) fine)
      (small_square (2 ^ k) (2 ^ emax f) (num m) (den m) (num_below k m within) (le_trans (le_of_eq (sym (pow-add 2 k k))) (pow_mono (le_of_lt room))))
      fit
    where
      reach : (p e : ℕ) → 2 ≤ p → k + k < e → p - 1 + (k + k) ≤ e + p - 2
      reach p e P h = omega arith

      fine : hid f * (2 ^ k * 2 ^ k) ≤ 2 ^ low f
      fine =
          le_trans (le_of_eq (ap (λ (x : ℕ). hid f * x) (sym (pow-add 2 k k)) ∙ sym (pow-add 2 (prec f - 1) (k + k)))) (pow_mono (reach (prec f) (emax f) (two f) room))

  -- with the sign of the number squared left off
  square_of_size : (x : Float) → mul f x x ≡ mul f (abs x) (abs x)
  square_of_size x = go (is_negative x) (Order.abs_is x)
    where
      go : (s : Bool) → abs x ≡ cond s (neg x) x → mul f x x ≡ mul f (abs x) (abs x)
      go true e = sym (ap (λ (y : Float). mul f y y) e ∙ neg_square f x)
      go false e = ap (λ (y : Float). mul f y y) (sym e)

  pub sqrt_square_size : (x : Float) → T (fits f x) → InRange k (abs x) → sqrt f (mul f x x) ≡ abs x
  sqrt_square_size x fit within = ap (sqrt f) (square_of_size x) ∙ sqrt_square (abs x) (Order.abs_fits f x fit) within

-- ---- at binary32, from 2 ^ -60 to 2 ^ 60, and twice that

abbrev pub lowest_32 : Float
lowest_32 = of_bits binary32 0x2180_0000

abbrev pub highest_32 : Float
highest_32 = of_bits binary32 0x5D80_0000

abbrev pub twice_highest : Float
twice_highest = of_bits binary32 0x5E00_0000

pub range_ends : (lowest_32 ≡ lowest 60) × (highest_32 ≡ highest 60) × (twice_highest ≡ highest 61)
unfolding of_bits
range_ends = (refl, refl, refl)

in_range_32 : (m : Float) → T (le lowest_32 m) → T (le m twice_highest) → InRange 61 m
unfolding of_bits le
in_range_32 m h k = record { at_least = Order.float_le_trans (lowest 61) lowest_32 m tt h; at_most = k }

pub positive_in_range : (m : Float) → T (le lowest_32 m) → T (le m twice_highest) → T (positive m)
positive_in_range m h k = range_positive 61 m (in_range_32 m h k)

pub sqrt_square_32 : (m : Float) → T (fits binary32 m) → T (le lowest_32 m) → T (le m twice_highest) → sqrt binary32 (mul binary32 m m) ≡ m
sqrt_square_32 m fit h k = sqrt_square binary32 61 (lit< tt) m fit (in_range_32 m h k)

pub sqrt_square_size_32 : (x : Float) → T (fits binary32 x) → T (le lowest_32 (abs x)) → T (le (abs x) twice_highest) → sqrt binary32 (mul binary32 x x) ≡ abs x
sqrt_square_size_32 x fit h k = sqrt_square_size binary32 61 (lit< tt) x fit (in_range_32 (abs x) h k)
