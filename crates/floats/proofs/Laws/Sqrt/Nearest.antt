-- The root of a positive value of a format is the format's nearest value to √x: the bounds on the root in units, brought to fractions. Assumes nothing.
use Rattle.std.proofs.Common.{⊎_elim, arith, ◌≡◌, ℕ, ◌+◌, ◌-◌, ◌*◌, ◌/◌, ◌^◌, ◌<◌, true, false, T, sym, ap, ◌∙◌, ap₂, subst₂, true≢false, le_trans, lt_trans, le_of_eq, lt_of_lt_of_le, le-add_right, lt_of_le_of_lt, lt_irrefl, mul-le-mul_right, mul_assoc, mul_comm, add-mul, add_comm, lt_of_mul-lt-mul_right, mul-lt-mul_of_pos_right, mul-pos, zero-mul, mul_right_comm, mul_left_comm, sub-le, ltb→lt, pow_pos}
use native.Mathlib.Nat.{pow-le-pow_left}
use lib.Ieee.{Float, fin, Format, prec, low, up, down, fits, lt, le, inf, nan}
use lib.Ieee.Fits.{two, down_pos}
use lib.Ieee.Exact.{HasValue}
use lib.Ieee.Scale.{finite}
use lib.Ieee.Positive.{num, den, den_pos, positive, positive-finite, positive_of_value, first_pos, between}
use Rattle.floats.specs.Compare.{is_negative}
use Rattle.floats.specs.Sqrt.{sqrt}
use Rattle.floats.specs.Root.{over, under, sum, MidpointBelow, MidpointAbove, IsNearest}
use Rattle.floats.proofs.Laws.Order.{le_or_lt, finite→number}
use Rattle.floats.proofs.Laws.Sqrt.WholeRoot.{square_is}
use Rattle.floats.proofs.Laws.Sqrt.Values.{in_units, le_antisymm_positive}
use Rattle.floats.proofs.Laws.Sqrt.Leading.{Measured, measured, midpoint_below, midpoint_above}

-- From units to fractions. L is the number of units in 1: s / D is t units, and n / d is X units.
module _ (s t D n d X L : ℕ) (in_units_of_s : s * L ≡ t * D) (in_units_of_n : n * L ≡ X * d) where
  squared_left : s ^ 2 * d * (L * (L * L)) ≡ t * t * (D * D * d * L)
  squared_left =
      ap (λ (x : ℕ). x * d * (L * (L * L))) (square_is s)
      ∙ apart s d L
      ∙ ap (λ (x : ℕ). x * x * (d * L)) in_units_of_s
      ∙ together t D (d * L)
      ∙ ap (λ (x : ℕ). t * t * x) (sym (mul_assoc (D * D) d L))
    where
      apart : (s d L : ℕ) → s * s * d * (L * (L * L)) ≡ s * L * (s * L) * (d * L)
      apart s d L = simp (mul_assoc, mul_comm, mul_left_comm)

      together : (t D e : ℕ) → t * D * (t * D) * e ≡ t * t * (D * D * e)
      together t D e = simp (mul_assoc, mul_comm, mul_left_comm)

  squared_right : 4 * n * D ^ 2 * (L * (L * L)) ≡ 4 * (X * L) * (D * D * d * L)
  squared_right =
      ap (λ (x : ℕ). 4 * n * x * (L * (L * L))) (square_is D)
      ∙ apart n D L
      ∙ ap (λ (x : ℕ). 4 * (x * (D * D * (L * L)))) in_units_of_n
      ∙ together X d D L
    where
      apart : (n D L : ℕ) → 4 * n * (D * D) * (L * (L * L)) ≡ 4 * (n * L * (D * D * (L * L)))
      apart n D L = simp (mul_assoc, mul_comm, mul_left_comm)

      together : (X d D L : ℕ) → 4 * (X * d * (D * D * (L * L))) ≡ 4 * (X * L) * (D * D * d * L)
      together X d D L = simp (mul_assoc, mul_comm, mul_left_comm)

  factor_pos : 0 < D → 0 < d → 0 < L → 0 < D * D * d * L
  factor_pos P Q R = mul-pos (mul-pos (mul-pos P P) Q) R

  fraction_below : 0 < D → 0 < d → 0 < L → t * t < 4 * (X * L) → s ^ 2 * d < 4 * n * D ^ 2
  fraction_below P Q R h =
      lt_of_mul-lt-mul_right (L * (L * L))
      (lt_of_le_of_lt (le_of_eq squared_left) (lt_of_lt_of_le (mul-lt-mul_of_pos_right h (factor_pos P Q R)) (le_of_eq (sym squared_right))))

  fraction_above : 0 < D → 0 < d → 0 < L → 4 * (X * L) < t * t → 4 * n * D ^ 2 < s ^ 2 * d
  fraction_above P Q R h =
      lt_of_mul-lt-mul_right (L * (L * L))
      (lt_of_le_of_lt (le_of_eq squared_right) (lt_of_lt_of_le (mul-lt-mul_of_pos_right h (factor_pos P Q R)) (le_of_eq (sym squared_left))))

-- a / b is Y units, and c / e is Q units
module _ (a b Y c e Q L : ℕ) (in_units_of_a : a * L ≡ Y * b) (in_units_of_c : c * L ≡ Q * e) where
  cross_a : a * e * L ≡ Y * (b * e)
  cross_a = mul_right_comm a e L ∙ ap (λ (x : ℕ). x * e) in_units_of_a ∙ mul_assoc Y b e

  cross_c : c * b * L ≡ Q * (b * e)
  cross_c = mul_right_comm c b L ∙ ap (λ (x : ℕ). x * b) in_units_of_c ∙ mul_assoc Q e b ∙ ap (λ (x : ℕ). Q * x) (mul_comm e b)

  sum_in_units : (c * b + a * e) * L ≡ (Q + Y) * (b * e)
  sum_in_units = add-mul (c * b) (a * e) L ∙ ap₂ (λ (x y : ℕ). x + y) cross_c cross_a ∙ sym (add-mul Q Y (b * e))

  lt_in_units : 0 < L → a * e < c * b → Y < Q
  lt_in_units R h = lt_of_mul-lt-mul_right (b * e) (lt_of_le_of_lt (le_of_eq (sym cross_a)) (lt_of_lt_of_le (mul-lt-mul_of_pos_right h R) (le_of_eq cross_c)))

  gt_in_units : 0 < L → c * b < a * e → Q < Y
  gt_in_units R h = lt_of_mul-lt-mul_right (b * e) (lt_of_le_of_lt (le_of_eq (sym cross_c)) (lt_of_lt_of_le (mul-lt-mul_of_pos_right h R) (le_of_eq cross_a)))

-- a sum by the signs: both above zero, and one below
pub total : (a b u v : ℕ) → a + b - (0 * v + 0 * u) ≡ a + b
total a b u v = omega arith

difference : (a b u v : ℕ) → a + 0 * u - (0 * v + b) ≡ a - b
difference a b u v = omega arith

module _ (f : Format) (x : Float) (M : Measured f x) where
  root : ℕ
  root = (M.first.h + 1) / 2 * 2 ^ M.first.k

  -- another value a / b that is not negative, and the root c / e
  below_root : (a b c e m j : ℕ) → 0 < b → 0 < e → m < 2 ^ prec f → a * 2 ^ low f ≡ m * 2 ^ j * b → c * 2 ^ low f ≡ root * e → a * e < c * b
      → (c * b + a * e) ^ 2 * den x < 4 * num x * (b * e) ^ 2
  unfolding root
  below_root a b c e m j B E few A C l =
      let Y = m * 2 ^ j in
      let L = 2 ^ low f in
      fraction_below (c * b + a * e) (root + Y) (b * e) (num x) (den x) (M.own.digits * 2 ^ M.own.place) L (sum_in_units a b Y c e root L A C) M.own.equals
      (mul-pos B E) (den_pos x) (pow_pos (low f))
      (midpoint_below (prec f) M.first.h M.first.k (M.own.digits * 2 ^ M.own.place * L) (two f) M.first.full m j few M.first.at_least M.first.strict
      (lt_in_units a b Y c e root L A C (pow_pos (low f)) l))

  above_root : (a b c e m j : ℕ) → 0 < b → 0 < e → m < 2 ^ prec f → a * 2 ^ low f ≡ m * 2 ^ j * b → c * 2 ^ low f ≡ root * e → c * b < a * e
      → 4 * num x * (b * e) ^ 2 < (c * b + a * e) ^ 2 * den x
  unfolding root
  above_root a b c e m j B E few A C l =
      let Y = m * 2 ^ j in
      let L = 2 ^ low f in
      fraction_above (c * b + a * e) (root + Y) (b * e) (num x) (den x) (M.own.digits * 2 ^ M.own.place) L (sum_in_units a b Y c e root L A C) M.own.equals
      (mul-pos B E) (den_pos x) (pow_pos (low f))
      (midpoint_above (prec f) M.first.h M.first.k (M.own.digits * 2 ^ M.own.place * L) (two f) M.first.full m j few M.first.less
      (gt_in_units a b Y c e root L A C (pow_pos (low f)) l))

  -- a negative value is further off than 0
  negative_below : (a b c e : ℕ) → 0 < b → 0 < e → c * 2 ^ low f ≡ root * e → (c * b - a * e) ^ 2 * den x < 4 * num x * (b * e) ^ 2
  unfolding root
  negative_below a b c e B E C =
      let c_pos : 0 < c = first_pos c (2 ^ low f) (lt_of_lt_of_le (mul-pos M.root_pos E) (le_of_eq (sym C))) in
      let L = 2 ^ low f in
      lt_of_le_of_lt (mul-le-mul_right (den x) (pow-le-pow_left (le_trans (sub-le (c * b) (a * e)) (le-add_right (c * b) (0 * e))) 2))
      (below_root 0 b c e 0 0 B E (pow_pos (prec f)) (zero-mul L ∙ sym (zero-mul b)) C (lt_of_le_of_lt (le_of_eq (zero-mul e)) (mul-pos c_pos B)))

  below_at : (z : Float) → HasValue z false root (2 ^ low f) → (y : Float) → T (fits f y) → T (finite y) → T (lt y z) → MidpointBelow y z x
  unfolding lt is_negative
  below_at (fin true m e) v y fit t l = absurd (true≢false v.0)
  below_at (fin false m e) v (fin true n d) fit t l =
      rw (difference (m * up e * down d) (n * up d * down e) (down e) (down d)) (negative_below (n * up d) (down d) (m * up e) (down e) (down_pos d) (down_pos e) v.1)
  below_at (fin false m e) v (fin false n d) fit t l =
      let u = in_units f (fin false n d) fit tt in
      rw (total (m * up e * down d) (n * up d * down e) (down e) (down d))
      (below_root (n * up d) (down d) (m * up e) (down e) u.digits u.place (down_pos d) (down_pos e) u.few u.equals v.1 (ltb→lt (n * up d * down e) (m * up e * down d) l))
  below_at nan v y fit t l = elim v [ ]
  below_at (inf _) v y fit t l = elim v [ ]
  below_at (fin false m e) v nan fit t l = elim t [ ]
  below_at (fin false m e) v (inf _) fit t l = elim t [ ]

  above_at : (z : Float) → HasValue z false root (2 ^ low f) → (y : Float) → T (fits f y) → T (finite y) → T (lt z y) → MidpointAbove y z x
  unfolding lt is_negative
  above_at (fin true m e) v y fit t l = absurd (true≢false v.0)
  above_at (fin false m e) v (fin true n d) fit t l = absurd l
  above_at (fin false m e) v (fin false n d) fit t l =
      let u = in_units f (fin false n d) fit tt in
      rw (total (m * up e * down d) (n * up d * down e) (down e) (down d))
      (above_root (n * up d) (down d) (m * up e) (down e) u.digits u.place (down_pos d) (down_pos e) u.few u.equals v.1 (ltb→lt (m * up e * down d) (n * up d * down e) l))
  above_at nan v y fit t l = elim v [ ]
  above_at (inf _) v y fit t l = elim v [ ]
  above_at (fin false m e) v nan fit t l = elim t [ ]
  above_at (fin false m e) v (inf _) fit t l = elim t [ ]

pub nearest : (f : Format) (x : Float) → T (fits f x) → T (positive x) → IsNearest f x (sqrt f x)
unfolding root
nearest f x fit p = let M = measured f x fit p in record { below = below_at f x M (sqrt f x) M.value; above = above_at f x M (sqrt f x) M.value }

pub root_positive : (f : Format) (x : Float) → T (fits f x) → T (positive x) → T (positive (sqrt f x))
unfolding root
root_positive f x fit p = let M = measured f x fit p in positive_of_value (sqrt f x) (root f x M) (2 ^ low f) M.value M.root_pos

-- ---- two values are not both nearest: their midpoint would lie on both sides of √x
sum_swaps : (y z : Float) → sum y z ≡ sum z y
sum_swaps y z = ap₂ (λ (a b : ℕ). a - b) (add_comm (over z * den y) (over y * den z)) (add_comm (under z * den y) (under y * den z))

module _ (f : Format) (x y z : Float) (y_fits : T (fits f y)) (z_fits : T (fits f z)) (y_finite : T (finite y)) (z_finite : T (finite z))
    (Y : IsNearest f x y) (Z : IsNearest f x z) where
  not_both : T (lt y z) → ⊥
  not_both l =
      lt_irrefl (4 * num x * (den y * den z) ^ 2)
      (lt_trans
      (subst₂ (λ (d s : ℕ). 4 * num x * d ^ 2 < s ^ 2 * den x) (mul_comm (den z) (den y)) (sum_swaps z y) (Y.above z z_fits z_finite l))
      (Z.below y y_fits y_finite l))

  not_above : T (le z y)
  not_above = ⊎_elim (λ h. h) (λ h. absurd (not_both h)) (le_or_lt z y (finite→number z z_finite) (finite→number y y_finite))

pub nearest_unique : (f : Format) (x y z : Float) → T (fits f y) → T (fits f z) → T (finite y) → T (positive z) → IsNearest f x y → IsNearest f x z → y ≡ z
nearest_unique f x y z y_fits z_fits y_finite z_pos Y Z =
    let z_finite = positive-finite z z_pos in
    let h = not_above f x y z y_fits z_fits y_finite z_finite Y Z in
    let k = not_above f x z y z_fits y_fits z_finite y_finite Z Y in
    le_antisymm_positive f y z y_fits z_fits (between z y z z_pos z_pos h k) z_pos k h
