-- The order of floats of any format, by `le`, `lt` and `eq`: over the values that are no NaN it is total, and equal values that a format holds
-- differ at most in a zero's sign. What `neg` and `abs` do to it, and where the infinities lie. Assumes nothing.
use Rattle.std.proofs.Common.{◌≡◌, ℕ, zero, suc, ◌+◌, ◌-◌, ◌*◌, ◌/◌, ◌^◌, ◌<◌, ◌≤◌, Bool, true, false, cond, not, ◌&&◌, ◌||◌, T, eqb, ltb, ◌⊎◌, ◌↔◌, ℤ, pos, sym, refl, ap, ◌∙◌, subst, inl, inr, ⊎_elim, le_of_eq, le_of_suc-le-suc, mul-le-mul_right, mul_assoc, mul_comm, add-mul, add_comm, eq-or-lt_of_le, lt_of_not-le, mul_right_comm, le_of_mul-le-mul_right, mul_left_comm, arith, eqb→eq, ltb→lt, lt→ltb, T_not}
use mathlib.Core.Bool.{beq, not-not}
use lib.Dec.{not_T}
use lib.Ieee.{Float, nan, inf, fin, Format, prec, low, up, down, size, below, level, lt, le, eq, neg, fits, is_nan, hid, top, to_bits, of_bits}
use lib.Ieee.Fits.{and_i, and_l, and_r, eq→eqb, down_pos}
use lib.Ieee.Nearest.{div_same}
use lib.Ieee.Bits.{of_bits-to_bits}
use lib.Ieee.Scale.{finite}
use lib.Ieee.Positive.{num, den, den_pos}
use Rattle.floats.specs.Compare.{abs, is_negative}

-- ---- tests

or_l : (a b : Bool) → T a → T (a || b)
or_l true b t = tt
or_l false b t = elim t [ ]

or_r : (a b : Bool) → T b → T (a || b)
or_r true b t = tt
or_r false b t = t

or_split : (a b : Bool) → T (a || b) → T a ⊎ T b
or_split true b t = inl tt
or_split false b t = inr t

-- one test is the other's negation
opposite : (a b : Bool) → (T a → T b → ⊥) → ((T a → ⊥) → T b) → a ≡ not b
opposite true true n y = absurd (n tt tt)
opposite true false n y = refl
opposite false true n y = refl
opposite false false n y = absurd (y (λ t. t))

pub same_test : (a b : Bool) → (T a → T b) → (T b → T a) → a ≡ b
same_test true true h k = refl
same_test true false h k = absurd (h tt)
same_test false true h k = absurd (k tt)
same_test false false h k = refl

-- ---- a signed number: what it has above zero, and what it has below

abbrev pub over : Bool → ℕ → ℕ
over s a = cond s 0 a

abbrev pub under : Bool → ℕ → ℕ
under s a = cond s a 0

-- ±a / d against ±b / e: both sides of the comparison, multiplied by d * e, with what is below zero on the other side
abbrev pub lesser : Bool → ℕ → ℕ → Bool → ℕ → ℕ → ℕ
lesser s a d t b e = over s a * e + under t b * d

abbrev pub greater : Bool → ℕ → ℕ → Bool → ℕ → ℕ → ℕ
greater s a d t b e = over t b * d + under s a * e

below_is : (s t : Bool) (a d b e : ℕ) → T (below s (a * e) t (b * d)) ↔ lesser s a d t b e < greater s a d t b e
below_is false false a d b e = (λ h. omega (arith, ltb→lt), λ h. omega (arith, lt→ltb))
below_is false true a d b e = (λ h. absurd h, λ h. omega arith)
below_is true false a d b e = (λ h. omega (arith, ltb→lt), λ h. omega (arith, lt→ltb))
below_is true true a d b e = (λ h. omega (arith, ltb→lt), λ h. omega (arith, lt→ltb))

-- of the same sign, and of opposite signs
alike : (a b : ℕ) → T (eqb a b && true) ↔ a ≡ b
alike a b = (λ h. eqb→eq a b (and_l (eqb a b) true h), λ h. and_i (eqb a b) true (eq→eqb h) tt)

zeros : (a b : ℕ) → T (eqb a b && eqb a 0) ↔ a + b ≡ 0
zeros a b = (
  λ h. omega (arith, eqb→eq a b (and_l (eqb a b) (eqb a 0) h), eqb→eq a 0 (and_r (eqb a b) (eqb a 0) h)),
  λ h. and_i (eqb a b) (eqb a 0) (eq→eqb {a = a} {b = b} (omega arith)) (eq→eqb {a = a} {b = 0} (omega arith)),
)

level_is : (s t : Bool) (a d b e : ℕ) → T (level s (a * e) t (b * d)) ↔ lesser s a d t b e ≡ greater s a d t b e
level_is false false a d b e = (λ h. omega (arith, (alike (a * e) (b * d)).0 h), λ h. (alike (a * e) (b * d)).1 (omega arith))
level_is false true a d b e = (λ h. omega (arith, (zeros (a * e) (b * d)).0 h), λ h. (zeros (a * e) (b * d)).1 (omega arith))
level_is true false a d b e = (λ h. omega (arith, (zeros (a * e) (b * d)).0 h), λ h. (zeros (a * e) (b * d)).1 (omega arith))
level_is true true a d b e = (λ h. omega (arith, (alike (a * e) (b * d)).0 h), λ h. (alike (a * e) (b * d)).1 (omega arith))

-- ---- numbers: all values but `nan`

abbrev pub number : Float → Bool
number x = not (is_nan x)

pub nan_or_number : (x : Float) → (x ≡ nan) ⊎ T (number x)
unfolding is_nan
nan_or_number nan = inl refl
nan_or_number (inf s) = inr tt
nan_or_number (fin s m e) = inr tt

pub finite→number : (x : Float) → T (finite x) → T (number x)
unfolding is_nan
finite→number (fin s m e) p = tt
finite→number nan p = elim p [ ]
finite→number (inf _) p = elim p [ ]

-- where a NaN stands, no comparison holds
pub nan_left : (x : Float) → (lt nan x ≡ false) × (eq nan x ≡ false) × (le nan x ≡ false)
unfolding le
nan_left x = (refl, refl, refl)

pub nan_right : (x : Float) → (lt x nan ≡ false) × (eq x nan ≡ false) × (le x nan ≡ false)
unfolding le
nan_right nan = (refl, refl, refl)
nan_right (inf s) = (refl, refl, refl)
nan_right (fin s m e) = (refl, refl, refl)

pub le_numbers : (x y : Float) → T (le x y) → T (number x) × T (number y)
le_numbers x y h = (
  ⊎_elim (λ e. absurd (subst T (nan_left y).2 (subst (λ (z : Float). T (le z y)) e h))) (λ p. p) (nan_or_number x),
  ⊎_elim (λ e. absurd (subst T (nan_right x).2 (subst (λ (z : Float). T (le x z)) e h))) (λ p. p) (nan_or_number y),
)

-- `le` is `lt` or `eq`
le_split : (x y : Float) → T (le x y) → T (lt x y) ⊎ T (eq x y)
unfolding le
le_split x y h = or_split (lt x y) (eq x y) h

pub lt→le : (x y : Float) → T (lt x y) → T (le x y)
unfolding le
lt→le x y h = or_l (lt x y) (eq x y) h

pub eq→le : (x y : Float) → T (eq x y) → T (le x y)
unfolding le
eq→le x y h = or_r (lt x y) (eq x y) h

pub lt_numbers : (x y : Float) → T (lt x y) → T (number x) × T (number y)
lt_numbers x y h = le_numbers x y (lt→le x y h)

pub eq_numbers : (x y : Float) → T (eq x y) → T (number x) × T (number y)
eq_numbers x y h = le_numbers x y (eq→le x y h)

-- ---- finite values, by their fractions

-- the two sides of the comparison of x with y
abbrev pub left : Float → Float → ℕ
left x y = lesser (is_negative x) (num x) (den x) (is_negative y) (num y) (den y)

abbrev pub right : Float → Float → ℕ
right x y = greater (is_negative x) (num x) (den x) (is_negative y) (num y) (den y)

pub fraction_order : (x y : Float) → T (finite x) → T (finite y) → (T (lt x y) ↔ left x y < right x y) × (T (eq x y) ↔ left x y ≡ right x y)
unfolding lt eq is_negative
fraction_order (fin s m e) (fin t n d) p q = (below_is s t (m * up e) (down e) (n * up d) (down d), level_is s t (m * up e) (down e) (n * up d) (down d))
fraction_order nan y p q = elim p [ ]
fraction_order (inf _) y p q = elim p [ ]
fraction_order (fin s m e) nan p q = elim q [ ]
fraction_order (fin s m e) (inf _) p q = elim q [ ]

pub le_iff : (x y : Float) → T (finite x) → T (finite y) → T (le x y) ↔ left x y ≤ right x y
le_iff x y p q =
    let o = fraction_order x y p q in (
      λ h. ⊎_elim (λ l. omega (arith, o.0.0 l)) (λ l. omega (arith, o.1.0 l)) (le_split x y h),
      λ h. ⊎_elim (λ l. eq→le x y (o.1.1 l)) (λ l. lt→le x y (o.0.1 l)) (eq-or-lt_of_le h),
    )

-- ---- the infinities are the extremes

pub inf_least : (x : Float) → T (number x) → T (le (inf true) x)
unfolding le is_nan
inf_least (inf true) p = tt
inf_least (inf false) p = tt
inf_least (fin s m e) p = tt
inf_least nan p = elim p [ ]

pub inf_greatest : (x : Float) → T (number x) → T (le x (inf false))
unfolding le is_nan
inf_greatest (inf true) p = tt
inf_greatest (inf false) p = tt
inf_greatest (fin s m e) p = tt
inf_greatest nan p = elim p [ ]

pub least_only : (x : Float) → T (le x (inf true)) → x ≡ inf true
unfolding le
least_only (inf true) h = refl
least_only nan h = elim h [ ]
least_only (inf false) h = elim h [ ]
least_only (fin _ _ _) h = elim h [ ]

pub greatest_only : (x : Float) → T (le (inf false) x) → x ≡ inf false
unfolding le
greatest_only (inf false) h = refl
greatest_only nan h = elim h [ ]
greatest_only (inf true) h = elim h [ ]
greatest_only (fin _ _ _) h = elim h [ ]

pub lt_inf : (x : Float) → T (finite x) → T (lt x (inf false)) × T (lt (inf true) x)
unfolding lt
lt_inf (fin s m e) p = (tt, tt)
lt_inf nan p = elim p [ ]
lt_inf (inf _) p = elim p [ ]

-- ---- the order is total

finite_lt_not_le : (x y : Float) → T (finite x) → T (finite y) → lt x y ≡ not (le y x)
finite_lt_not_le x y p q =
    opposite (lt x y) (le y x) (λ h k. omega (arith, (fraction_order x y p q).0.0 h, (le_iff y x q p).0 k))
    (λ h. (le_iff y x q p).1 (le_of_suc-le-suc (lt_of_not-le (λ g. h ((fraction_order x y p q).0.1 g)))))

pub lt_not_le : (x y : Float) → T (number x) → T (number y) → lt x y ≡ not (le y x)
unfolding le is_nan
lt_not_le (inf true) (inf true) p q = refl
lt_not_le (inf true) (inf false) p q = refl
lt_not_le (inf false) (inf true) p q = refl
lt_not_le (inf false) (inf false) p q = refl
lt_not_le (inf true) (fin t n d) p q = refl
lt_not_le (inf false) (fin t n d) p q = refl
lt_not_le (fin s m e) (inf true) p q = refl
lt_not_le (fin s m e) (inf false) p q = refl
lt_not_le (fin s m e) (fin t n d) p q = finite_lt_not_le (fin s m e) (fin t n d) tt tt
lt_not_le nan y p q = elim p [ ]
lt_not_le (inf false) nan p q = elim q [ ]
lt_not_le (inf true) nan p q = elim q [ ]
lt_not_le (fin s m e) nan p q = elim q [ ]

pub le_not_lt : (x y : Float) → T (number x) → T (number y) → le x y ≡ not (lt y x)
le_not_lt x y p q = sym (not-not (le x y)) ∙ ap not (sym (lt_not_le y x q p))

pub lt_excludes : (x y : Float) → T (lt x y) → T (le y x) → ⊥
lt_excludes x y h = T_not (le y x) (subst T (lt_not_le x y (lt_numbers x y h).0 (lt_numbers x y h).1) h)

pub lt_by : (x y : Float) → T (number x) → T (number y) → (T (le y x) → ⊥) → T (lt x y)
lt_by x y p q h = subst T (sym (lt_not_le x y p q)) (not_T (le y x) h)

pub le_or_lt : (x y : Float) → T (number x) → T (number y) → T (le x y) ⊎ T (lt y x)
le_or_lt x y p q = go (le x y) (lt_by y x q p)
  where
    go : (b : Bool) → ((T b → ⊥) → T (lt y x)) → T b ⊎ T (lt y x)
    go true h = inl tt
    go false h = inr (h (λ t. t))

pub float_le_refl : (x : Float) → T (number x) → T (le x x)
float_le_refl x p = ⊎_elim (λ h. h) (lt→le x x) (le_or_lt x x p p)

-- ---- the order is transitive

-- (a - a') / p ≤ (b - b') / q ≤ (c - c') / r
through : (a a' p b b' q c c' r : ℕ) → 0 < q → a * q + b' * p ≤ b * p + a' * q → b * r + c' * q ≤ c * q + b' * r → a * r + c' * p ≤ c * p + a' * r
through a a' p b b' q c c' r Q h k =
    let h' = simp (add-mul, mul_assoc, mul_comm, mul_left_comm) at (mul-le-mul_right r h) in
    let k' = simp (add-mul, mul_assoc, mul_comm, mul_left_comm) at (mul-le-mul_right p k) in
    le_of_mul-le-mul_right {k = q} (simp (add-mul, mul_assoc, mul_comm, mul_left_comm) (omega arith)) Q

finite_trans : (x y z : Float) → T (finite x) → T (finite y) → T (finite z) → T (le x y) → T (le y z) → T (le x z)
finite_trans x y z p q r h k = (le_iff x z p r).1 (through _ _ (den x) _ _ (den y) _ _ (den z) (den_pos y) ((le_iff x y p q).0 h) ((le_iff y z q r).0 k))

pub float_le_trans : (x y z : Float) → T (le x y) → T (le y z) → T (le x z)
unfolding le
float_le_trans (inf true) y z h k = inf_least z (le_numbers y z k).1
float_le_trans (inf false) y z h k = subst (λ (w : Float). T (le w z)) (greatest_only y h) k
float_le_trans (fin s m e) (inf false) z h k = subst (λ (w : Float). T (le (fin s m e) w)) (sym (greatest_only z k)) h
float_le_trans (fin s m e) (fin t n d) (inf false) h k = tt
float_le_trans (fin s m e) (fin t n d) (fin u l c) h k = finite_trans (fin s m e) (fin t n d) (fin u l c) tt tt tt h k
float_le_trans nan y z h k = elim h [ ]
float_le_trans (fin s m e) nan z h k = elim h [ ]
float_le_trans (fin s m e) (inf true) z h k = elim h [ ]
float_le_trans (fin s m e) (fin t n d) nan h k = elim k [ ]
float_le_trans (fin s m e) (fin t n d) (inf true) h k = elim k [ ]

pub lt_le_trans : (x y z : Float) → T (lt x y) → T (le y z) → T (lt x z)
lt_le_trans x y z h k = lt_by x z (lt_numbers x y h).0 (le_numbers y z k).1 (λ g. lt_excludes x y h (float_le_trans y z x k g))

pub le_lt_trans : (x y z : Float) → T (le x y) → T (lt y z) → T (lt x z)
le_lt_trans x y z h k = lt_by x z (le_numbers x y h).0 (lt_numbers y z k).1 (λ g. lt_excludes y z k (float_le_trans z x y g h))

pub lt_trans : (x y z : Float) → T (lt x y) → T (lt y z) → T (lt x z)
lt_trans x y z h k = lt_le_trans x y z h (lt→le y z k)

pub lt_irrefl : (x : Float) → T (lt x x) → ⊥
lt_irrefl x h = lt_excludes x x h (lt→le x x h)

pub lt_asym : (x y : Float) → T (lt x y) → T (lt y x) → ⊥
lt_asym x y h k = lt_excludes x y h (lt→le y x k)

-- ---- equal values

pub float_le_antisymm : (x y : Float) → T (le x y) → T (le y x) → T (eq x y)
float_le_antisymm x y h k = ⊎_elim (λ l. absurd (lt_excludes x y l k)) (λ l. l) (le_split x y h)

same_sign : (s t : Bool) → T (beq s t) → s ≡ t
same_sign true true h = refl
same_sign false false h = refl
same_sign false true h = elim h [ ]
same_sign true false h = elim h [ ]

pub eq→ge : (x y : Float) → T (eq x y) → T (le y x)
unfolding eq
eq→ge (inf s) (inf t) h = subst (λ (u : Bool). T (le (inf u) (inf s))) (same_sign s t h) (float_le_refl (inf s) (unfold is_nan in tt))
eq→ge (fin s m e) (fin t n d) h = (le_iff (fin t n d) (fin s m e) tt tt).1 (le_of_eq (sym ((fraction_order (fin s m e) (fin t n d) tt tt).1.0 h)))
eq→ge nan y h = elim h [ ]
eq→ge (inf s) nan h = elim h [ ]
eq→ge (inf s) (fin t n d) h = elim h [ ]
eq→ge (fin s m e) nan h = elim h [ ]
eq→ge (fin s m e) (inf t) h = elim h [ ]

pub eq_refl : (x : Float) → T (number x) → T (eq x x)
eq_refl x p = float_le_antisymm x x (float_le_refl x p) (float_le_refl x p)

pub eq_sym : (x y : Float) → T (eq x y) → T (eq y x)
eq_sym x y h = float_le_antisymm y x (eq→ge x y h) (eq→le x y h)

pub eq_trans : (x y z : Float) → T (eq x y) → T (eq y z) → T (eq x z)
eq_trans x y z h k = float_le_antisymm x z (float_le_trans x y z (eq→le x y h) (eq→le y z k)) (float_le_trans z y x (eq→ge y z k) (eq→ge x y h))

-- a comparison does not tell equal values apart
pub le_respects_eq : (x x' y y' : Float) → T (eq x x') → T (eq y y') → le x y ≡ le x' y'
le_respects_eq x x' y y' h k =
    same_test (le x y) (le x' y')
    (λ l. float_le_trans x' x y' (eq→ge x x' h) (float_le_trans x y y' l (eq→le y y' k)))
    (λ l. float_le_trans x x' y (eq→le x x' h) (float_le_trans x' y' y l (eq→ge y y' k)))

pub lt_respects_eq : (x x' y y' : Float) → T (eq x x') → T (eq y y') → lt x y ≡ lt x' y'
lt_respects_eq x x' y y' h k =
    lt_not_le x y (eq_numbers x x' h).0 (eq_numbers y y' k).0
    ∙ ap not (le_respects_eq y y' x x' k h)
    ∙ sym (lt_not_le x' y' (eq_numbers x x' h).1 (eq_numbers y y' k).1)

-- ---- zero, and signs

abbrev pub +0 : Float
+0 = fin false 0 (pos 0)

abbrev pub -0 : Float
-0 = fin true 0 (pos 0)

pub zeros_equal : T (eq -0 +0)
unfolding eq
zeros_equal = tt

pub negative_below : (x : Float) → T (is_negative x) → T (le x -0)
unfolding le is_negative
negative_below (inf true) s = tt
negative_below (fin true m e) s = (le_iff (fin true m e) -0 tt tt).1 (omega arith)
negative_below nan s = elim s [ ]
negative_below (inf false) s = elim s [ ]
negative_below (fin false m e) s = elim s [ ]

pub positive_above : (x : Float) → T (number x) → T (not (is_negative x)) → T (le +0 x)
unfolding le is_negative is_nan
positive_above (inf false) p s = tt
positive_above (fin false m e) p s = (le_iff +0 (fin false m e) tt tt).1 (omega arith)
positive_above nan p s = elim p [ ]
positive_above (inf true) p s = elim s [ ]
positive_above (fin true m e) p s = elim s [ ]

-- ---- equal values that a format holds are the same data, but for a zero's sign

eq_sizes : (s : Bool) (m : ℕ) (e : ℤ) (t : Bool) (n : ℕ) (d : ℤ) → T (eq (fin s m e) (fin t n d)) → m * up e * down d ≡ n * up d * down e
unfolding eq
eq_sizes s m e t n d h =
    eqb→eq (m * up e * down d) (n * up d * down e) (and_l (eqb (m * up e * down d) (n * up d * down e)) (beq s t || eqb (m * up e * down d) 0) h)

same_bits : (f : Format) (s t : Bool) (m : ℕ) (e : ℤ) (n : ℕ) (d : ℤ) → s ≡ t → m * up e * down d ≡ n * up d * down e
    → to_bits f (fin s m e) ≡ to_bits f (fin t n d)
unfolding to_bits
same_bits f s t m e n d p h =
    ap (λ (u : Bool). to_bits f (fin u m e)) p
    ∙ ap (λ (w : ℕ). cond t (top f) 0 + (size w - prec f) * hid f + w / 2 ^ (size w - prec f))
    (div_same (m * up e * 2 ^ low f) (down e) (n * up d * 2 ^ low f) (down d) (down_pos e) (down_pos d)
    (mul_right_comm (m * up e) (2 ^ low f) (down d) ∙ ap (λ (w : ℕ). w * 2 ^ low f) h ∙ mul_right_comm (n * up d) (down e) (2 ^ low f)))

pub eq→same : (f : Format) (x y : Float) → T (fits f x) → T (fits f y) → T (eq x y) → is_negative x ≡ is_negative y → x ≡ y
unfolding is_negative eq
eq→same f (inf s) (inf t) p q h e = ap inf e
eq→same f (fin s m c) (fin t n d) p q h e =
    sym (of_bits-to_bits f (fin s m c) p) ∙ ap (of_bits f) (same_bits f s t m c n d e (eq_sizes s m c t n d h)) ∙ of_bits-to_bits f (fin t n d) q
eq→same f nan y p q h e = elim h [ ]
eq→same f (inf s) nan p q h e = elim h [ ]
eq→same f (inf s) (fin t n d) p q h e = elim h [ ]
eq→same f (fin s m c) nan p q h e = elim h [ ]
eq→same f (fin s m c) (inf t) p q h e = elim h [ ]

pub eq→same_nonzero : (f : Format) (x y : Float) → T (fits f x) → T (fits f y) → T (eq x y) → T (not (eq x +0)) → x ≡ y
eq→same_nonzero f x y p q h z =
    eq→same f x y p q h
    (go (is_negative x) (is_negative y) (negative_below x) (negative_below y) (positive_above x (eq_numbers x y h).0) (positive_above y (eq_numbers x y h).1))
  where
    no_zero : T (le x +0) → T (le +0 x) → ⊥
    no_zero a b = T_not (eq x +0) z (float_le_antisymm x +0 a b)

    go : (s t : Bool) → (T s → T (le x -0)) → (T t → T (le y -0)) → (T (not s) → T (le +0 x)) → (T (not t) → T (le +0 y)) → s ≡ t
    go true true a b c d = refl
    go true false a b c d = absurd (no_zero (float_le_trans x -0 +0 (a tt) (eq→le -0 +0 zeros_equal)) (float_le_trans +0 y x (d tt) (eq→ge x y h)))
    go false true a b c d = absurd (no_zero (float_le_trans x y +0 (eq→le x y h) (float_le_trans y -0 +0 (b tt) (eq→le -0 +0 zeros_equal))) (c tt))
    go false false a b c d = refl

-- ---- `neg` turns the order round

pub neg_neg : (x : Float) → neg (neg x) ≡ x
unfolding neg
neg_neg nan = refl
neg_neg (inf s) = ap inf (not-not s)
neg_neg (fin s m e) = ap (λ (t : Bool). fin t m e) (not-not s)

pub neg_nan : (x : Float) → is_nan (neg x) ≡ is_nan x
unfolding neg is_nan
neg_nan nan = refl
neg_nan (inf s) = refl
neg_nan (fin s m e) = refl

pub neg_number : (x : Float) → number (neg x) ≡ number x
neg_number x = ap not (neg_nan x)

pub neg_finite : (x : Float) → finite (neg x) ≡ finite x
unfolding neg
neg_finite nan = refl
neg_finite (inf s) = refl
neg_finite (fin s m e) = refl

below_neg : (s t : Bool) (a b : ℕ) → below (not s) a (not t) b ≡ below t b s a
below_neg false false a b = refl
below_neg false true a b = ap (ltb 0) (add_comm a b)
below_neg true false a b = refl
below_neg true true a b = refl

pub lt_neg : (x y : Float) → lt (neg x) (neg y) ≡ lt y x
unfolding lt neg
lt_neg nan y = sym (nan_right y).0
lt_neg (inf s) nan = refl
lt_neg (inf true) (inf true) = refl
lt_neg (inf true) (inf false) = refl
lt_neg (inf false) (inf true) = refl
lt_neg (inf false) (inf false) = refl
lt_neg (inf s) (fin t n d) = refl
lt_neg (fin s m e) nan = refl
lt_neg (fin s m e) (inf t) = not-not t
lt_neg (fin s m e) (fin t n d) = below_neg s t (m * up e * down d) (n * up d * down e)

pub neg_lt : (x y : Float) → T (lt x y) → T (lt (neg y) (neg x))
neg_lt x y h = subst T (sym (lt_neg y x)) h

pub neg_le : (x y : Float) → T (le x y) → T (le (neg y) (neg x))
neg_le x y h =
    let p = (le_numbers x y h).0 in
    let q = (le_numbers x y h).1 in
    subst T (le_not_lt x y p q ∙ ap not (sym (lt_neg x y)) ∙ sym (le_not_lt (neg y) (neg x) (subst T (sym (neg_number y)) q) (subst T (sym (neg_number x)) p))) h

pub neg_eq : (x y : Float) → T (eq x y) → T (eq (neg x) (neg y))
neg_eq x y h = float_le_antisymm (neg x) (neg y) (neg_le y x (eq→ge x y h)) (neg_le x y (eq→le x y h))

pub le_neg : (x y : Float) → le (neg x) (neg y) ≡ le y x
le_neg x y = same_test (le (neg x) (neg y)) (le y x) (λ h. rw (neg_neg, neg_neg) at (neg_le (neg x) (neg y) h)) (neg_le y x)

-- ---- the size

pub abs_finite : (x : Float) → finite (abs x) ≡ finite x
unfolding abs
abs_finite nan = refl
abs_finite (inf s) = refl
abs_finite (fin s m e) = refl

pub abs_number : (x : Float) → number (abs x) ≡ number x
unfolding abs is_nan
abs_number nan = refl
abs_number (inf s) = refl
abs_number (fin s m e) = refl

pub abs_fits : (f : Format) (x : Float) → T (fits f x) → T (fits f (abs x))
unfolding abs fits
abs_fits f nan h = tt
abs_fits f (inf s) h = tt
abs_fits f (fin s zero e) h = h
abs_fits f (fin s (suc m) e) h = h

pub abs_neg : (x : Float) → abs (neg x) ≡ abs x
unfolding abs neg
abs_neg nan = refl
abs_neg (inf s) = refl
abs_neg (fin s m e) = refl

-- the size is x or -x
pub abs_is : (x : Float) → abs x ≡ cond (is_negative x) (neg x) x
unfolding abs neg is_negative
abs_is nan = refl
abs_is (inf true) = refl
abs_is (inf false) = refl
abs_is (fin true m e) = refl
abs_is (fin false m e) = refl

pub abs_positive : (x : Float) → is_negative (abs x) ≡ false
unfolding abs is_negative
abs_positive nan = refl
abs_positive (inf s) = refl
abs_positive (fin s m e) = refl

pub abs_above_zero : (x : Float) → T (number x) → T (le +0 (abs x))
abs_above_zero x p = positive_above (abs x) (subst T (sym (abs_number x)) p) (subst (λ (s : Bool). T (not s)) (sym (abs_positive x)) tt)

pub le_abs : (x : Float) → T (number x) → T (le x (abs x))
le_abs x p = go (is_negative x) (negative_below x) (abs_is x)
  where
    go : (s : Bool) → (T s → T (le x -0)) → abs x ≡ cond s (neg x) x → T (le x (abs x))
    go true h e = float_le_trans x -0 (abs x) (h tt) (float_le_trans -0 +0 (abs x) (eq→le -0 +0 zeros_equal) (abs_above_zero x p))
    go false h e = subst (λ (y : Float). T (le x y)) (sym e) (float_le_refl x p)

pub neg_le_abs : (x : Float) → T (number x) → T (le (neg x) (abs x))
neg_le_abs x p = rw abs_neg at (le_abs (neg x) (subst T (sym (neg_number x)) p))

pub abs_le : (x b : Float) → T (le (abs x) b) ↔ T (le (neg b) x) × T (le x b)
abs_le x b = (split, λ h. join (is_negative x) (abs_is x) h.0 h.1)
  where
    split : T (le (abs x) b) → T (le (neg b) x) × T (le x b)
    split h =
        let p : T (number x) = subst T (abs_number x) (le_numbers (abs x) b h).0 in
        (rw neg_neg at (neg_le (neg x) b (float_le_trans (neg x) (abs x) b (neg_le_abs x p) h)), float_le_trans x (abs x) b (le_abs x p) h)

    join : (s : Bool) → abs x ≡ cond s (neg x) x → T (le (neg b) x) → T (le x b) → T (le (abs x) b)
    join true e h k = rw (e, ← neg_neg b) (neg_le (neg b) x h)
    join false e h k = rw e k

-- ---- what lies between finite values is finite

pub finite_between : (a x b : Float) → T (finite a) → T (finite b) → T (le a x) → T (le x b) → T (finite x)
finite_between a nan b p q h k = absurd (subst T (nan_left b).2 k)
finite_between a (inf true) b p q h k = subst (λ (y : Float). T (finite y)) (least_only a h) p
finite_between a (inf false) b p q h k = subst (λ (y : Float). T (finite y)) (greatest_only b k) q
finite_between a (fin s m e) b p q h k = tt

pub finite_of_abs : (x b : Float) → T (finite b) → T (le (abs x) b) → T (finite x)
finite_of_abs x b q h = finite_between (neg b) x b (subst T (sym (neg_finite b)) q) q ((abs_le x b).0 h).0 ((abs_le x b).0 h).1
