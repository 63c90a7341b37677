-- Sums and differences of any format: when they are numbers, that they keep the order and a bound on the size, and what a zero does. Assumes nothing.
use Rattle.std.proofs.Common.{◌≡◌, ℕ, suc, ◌+◌, ◌-◌, ◌*◌, ◌^◌, ◌<◌, ◌≤◌, Bool, true, false, cond, not, ◌&&◌, ◌||◌, T, ltb, pos, sym, refl, ap, ◌∙◌, subst, ap₂, ⊎_elim, zero-le, le_of_eq, add-zero as +-zero, le_of_lt, mul-le-mul_right, zero-lt-suc, mul_assoc, suc-mul, mul_comm, add-mul, add_comm as +_comm, lt_of_mul-lt-mul_right, mul-lt-mul_of_pos_right, mul-pos, zero-add, zero-mul, mul-one, mul_left_comm, arith, ltb→lt, nltb→le, pow_pos, ltb-false, ltb-true, le-ltb}
use mathlib.Core.Bool.{and_comm, and-not_self, or-true, or-false}
use lib.Pow.{pow-lt}
use lib.Ieee.{Float, nan, inf, fin, Format, prec, emax, low, up, down, unlike, round, neg, sum, add, sub, le, lt, eq, fits, is_nan}
use lib.Ieee.Fits.{two, two-le_pos, neg-fits, add-fits, down_pos}
use lib.Ieee.Exact.{HasValue, round_exact}
use lib.Ieee.Bits.{is_false}
use lib.Ieee.Scale.{finite}
use lib.Ieee.Positive.{num, den, den_pos}
use Rattle.floats.specs.Compare.{abs, is_negative}
use Rattle.floats.proofs.Laws.Order.{over, under, number, finite→number, +0, -0, zeros_equal, fraction_order, le_iff, le_numbers, same_test, nan_right, lt_numbers, lt_excludes, le_or_lt, lt_le_trans, lt_respects_eq, float_le_refl, float_le_trans, float_le_antisymm, eq_numbers, eq_refl, eq_sym, eq→le, eq→ge, eq→same_nonzero, inf_least, inf_greatest, greatest_only, neg_nan, neg_number, neg_finite, lt_neg, neg_neg, neg_le, abs_neg, abs_above_zero, abs_le, finite_of_abs}
use Rattle.floats.proofs.Laws.Round.{own_fraction, lt_of_fractions, up_power, down_power, mul_power, power_multiple, fits→holds, round_number, round_neg, round_keeps_order, round_of_value, zero_fits, round_zero}

-- ---- a sum as one rounded fraction

-- how far p and n lie apart
abbrev pub distance : ℕ → ℕ → ℕ
distance p n = p - n + (n - p)

-- (p - n) / c, rounded; z says whether a zero is negative
abbrev difference : Format → Bool → ℕ → ℕ → ℕ → Float
difference f z p n c = round f (ltb p n || z) (distance p n) c

rounded : (f : Format) (s z : Bool) (w p n c : ℕ) → s ≡ (ltb p n || z) → w ≡ distance p n → round f s w c ≡ difference f z p n c
rounded f s z w p n c e h = ap₂ (λ (t : Bool) (v : ℕ). round f t v c) e h

sum_is : (f : Format) (s : Bool) (a : ℕ) (t : Bool) (b c : ℕ) → sum f s a t b c ≡ difference f (s && t) (over s a + over t b) (under s a + under t b) c
unfolding sum
sum_is f false a false b c = rounded f false false (a + b) (a + b) 0 c (rw (le-ltb (a + b) 0 zero-le)) (omega arith)
sum_is f false a true b c = go (ltb a b) refl
  where
    go : (t : Bool) → ltb a b ≡ t → cond t (round f true (b - a) c) (round f false (a - b) c) ≡ difference f false (a + 0) (0 + b) c
    go true h = rounded f true false (b - a) (a + 0) (0 + b) c (rw (+-zero, zero-add, h)) (omega (arith, ltb-true a b h))
    go false h = rounded f false false (a - b) (a + 0) (0 + b) c (rw (+-zero, zero-add, h)) (omega (arith, ltb-false a b h))
sum_is f true a false b c = go (ltb a b) refl
  where
    go : (t : Bool) → ltb a b ≡ t → cond t (round f false (b - a) c) (round f (ltb b a) (a - b) c) ≡ difference f false (0 + b) (a + 0) c
    go true h = rounded f false false (b - a) (0 + b) (a + 0) c (rw (+-zero, zero-add, le-ltb b a (le_of_lt (ltb-true a b h)))) (omega (arith, ltb-true a b h))
    go false h = rounded f (ltb b a) false (a - b) (0 + b) (a + 0) c (rw (+-zero, zero-add, or-false)) (omega (arith, ltb-false a b h))
sum_is f true a true b c = rounded f true true (a + b) (0 + 0) (a + b) c (rw or-true) (omega arith)

over_mul : (s : Bool) (a d : ℕ) → over s (a * d) ≡ over s a * d
over_mul true a d = sym (zero-mul d)
over_mul false a d = refl

under_mul : (s : Bool) (a d : ℕ) → under s (a * d) ≡ under s a * d
under_mul true a d = refl
under_mul false a d = sym (zero-mul d)

-- what x + y has above zero and what it has below, times den x * den y
abbrev pub above : Float → Float → ℕ
above x y = over (is_negative x) (num x) * den y + over (is_negative y) (num y) * den x

abbrev pub beneath : Float → Float → ℕ
beneath x y = under (is_negative x) (num x) * den y + under (is_negative y) (num y) * den x

-- so x + y as a sign and a size, the size times den x * den y
abbrev pub sum_sign : Float → Float → Bool
sum_sign x y = ltb (above x y) (beneath x y) || (is_negative x && is_negative y)

abbrev pub sum_size : Float → Float → ℕ
sum_size x y = distance (above x y) (beneath x y)

pub add_is : (f : Format) (x y : Float) → T (finite x) → T (finite y) → add f x y ≡ round f (sum_sign x y) (sum_size x y) (den x * den y)
unfolding add is_negative
add_is f (fin s m e) (fin t n d) p q = simp (sum_is, over_mul, under_mul)
add_is f nan y p q = elim p [ ]
add_is f (inf _) y p q = elim p [ ]
add_is f (fin s m e) nan p q = elim q [ ]
add_is f (fin s m e) (inf _) p q = elim q [ ]

signed : (u : Bool) (p n : ℕ) → (T u → p ≤ n) → (T (not u) → n ≤ p) → over u (distance p n) + n ≡ under u (distance p n) + p
signed true p n h k = omega (arith, h tt)
signed false p n h k = omega (arith, k tt)

-- two negative numbers have nothing above zero
both_negative : (s t : Bool) (a b d e : ℕ) → T (s && t) → over s a * d + over t b * e ≤ under s a * d + under t b * e
both_negative true true a b d e h = omega arith
both_negative false t a b d e h = elim h [ ]
both_negative true false a b d e h = elim h [ ]

pub sum_parts : (x y : Float) → over (sum_sign x y) (sum_size x y) + beneath x y ≡ under (sum_sign x y) (sum_size x y) + above x y
sum_parts x y =
    signed (sum_sign x y) (above x y) (beneath x y)
    (not_above (ltb (above x y) (beneath x y)) (is_negative x && is_negative y) (ltb→lt (above x y) (beneath x y)) (both_negative (is_negative x) (is_negative y) (num x) (num y) (den y) (den x)))
    (λ t. nltb→le (above x y) (beneath x y) (not_first (ltb (above x y) (beneath x y)) (is_negative x && is_negative y) t))
  where
    not_above : (b z : Bool) → (T b → above x y < beneath x y) → (T z → above x y ≤ beneath x y) → T (b || z) → above x y ≤ beneath x y
    not_above true z h k t = le_of_lt (h tt)
    not_above false z h k t = k t

    not_first : (b z : Bool) → T (not (b || z)) → T (not b)
    not_first false z t = tt
    not_first true z t = elim t [ ]

-- ---- when a sum is a number

-- infinities of opposite signs
abbrev pub opposed : Float → Float → Bool
opposed nan y = false
opposed (inf s) nan = false
opposed (inf s) (inf t) = unlike s t
opposed (inf s) (fin t n d) = false
opposed (fin s m e) y = false

pub add_finite_number : (f : Format) (x y : Float) → T (finite x) → T (finite y) → T (number (add f x y))
add_finite_number f x y p q = rw (add_is f x y p q) (round_number f _ _ _)

pub add_nan : (f : Format) (x y : Float) → is_nan (add f x y) ≡ (is_nan x || is_nan y || opposed x y)
unfolding add is_nan
add_nan f nan y = refl
add_nan f (inf s) nan = refl
add_nan f (inf true) (inf true) = refl
add_nan f (inf true) (inf false) = refl
add_nan f (inf false) (inf true) = refl
add_nan f (inf false) (inf false) = refl
add_nan f (inf s) (fin t n d) = refl
add_nan f (fin s m e) nan = refl
add_nan f (fin s m e) (inf t) = refl
add_nan f (fin s m e) (fin t n d) = is_false (is_nan (add f (fin s m e) (fin t n d))) (add_finite_number f (fin s m e) (fin t n d) tt tt)

pub sub_nan : (f : Format) (x y : Float) → is_nan (sub f x y) ≡ (is_nan x || is_nan y || opposed x (neg y))
unfolding sub
sub_nan f x y = add_nan f x (neg y) ∙ ap (λ (b : Bool). is_nan x || b || opposed x (neg y)) (neg_nan y)

pub add_number : (f : Format) (x y : Float) → T (finite x) → T (number y) → T (number (add f x y))
unfolding add is_nan
add_number f (fin s m e) (inf t) p q = tt
add_number f (fin s m e) (fin t n d) p q = add_finite_number f (fin s m e) (fin t n d) tt tt
add_number f nan y p q = elim p [ ]
add_number f (inf _) y p q = elim p [ ]
add_number f (fin s m e) nan p q = elim q [ ]

pub sub_number : (f : Format) (x y : Float) → T (finite x) → T (number y) → T (number (sub f x y))
unfolding sub
sub_number f x y p q = add_number f x (neg y) p (subst T (sym (neg_number y)) q)

pub add_number_of : (f : Format) (x y : Float) → T (number x) → T (number y) → T (not (opposed x y)) → T (number (add f x y))
add_number_of f x y p q r = rw (add_nan f x y, is_false (is_nan x) p, is_false (is_nan y) q) r

pub add_numbers : (f : Format) (x y : Float) → T (number (add f x y)) → T (number x) × T (number y)
unfolding add is_nan
add_numbers f (inf s) (inf t) p = (tt, tt)
add_numbers f (inf s) (fin t n d) p = (tt, tt)
add_numbers f (fin s m e) (inf t) p = (tt, tt)
add_numbers f (fin s m e) (fin t n d) p = (tt, tt)
add_numbers f nan y p = elim p [ ]
add_numbers f (inf s) nan p = elim p [ ]
add_numbers f (fin s m e) nan p = elim p [ ]

pub sub_numbers : (f : Format) (x y : Float) → T (number (sub f x y)) → T (number x) × T (number y)
unfolding sub
sub_numbers f x y p = ((add_numbers f x (neg y) p).0, subst T (neg_number y) (add_numbers f x (neg y) p).1)

add_inf : (f : Format) (s : Bool) (y : Float) → T (number (add f (inf s) y)) → add f (inf s) y ≡ inf s
unfolding add is_nan
add_inf f true (inf true) p = refl
add_inf f false (inf false) p = refl
add_inf f s (fin t n d) p = refl
add_inf f s nan p = elim p [ ]
add_inf f false (inf true) p = elim p [ ]
add_inf f true (inf false) p = elim p [ ]

-- ---- the order of the summands does not matter

finite_comm : (f : Format) (x y : Float) → T (finite x) → T (finite y) → add f x y ≡ add f y x
finite_comm f x y p q =
    rw (
      add_is f x y p q,
      add_is f y x q p,
      and_comm (is_negative x) (is_negative y),
      +_comm (over (is_negative x) (num x) * den y),
      +_comm (under (is_negative x) (num x) * den y),
      mul_comm (den x) (den y),
    )

pub float_add_comm : (f : Format) (x y : Float) → add f x y ≡ add f y x
unfolding add
float_add_comm f nan nan = refl
float_add_comm f nan (inf t) = refl
float_add_comm f nan (fin t n d) = refl
float_add_comm f (inf s) nan = refl
float_add_comm f (inf true) (inf true) = refl
float_add_comm f (inf true) (inf false) = refl
float_add_comm f (inf false) (inf true) = refl
float_add_comm f (inf false) (inf false) = refl
float_add_comm f (inf s) (fin t n d) = refl
float_add_comm f (fin s m e) nan = refl
float_add_comm f (fin s m e) (inf t) = refl
float_add_comm f (fin s m e) (fin t n d) = finite_comm f (fin s m e) (fin t n d) tt tt

-- so it is enough that the second is finite
pub number_add : (f : Format) (x y : Float) → T (number x) → T (finite y) → T (number (add f x y))
number_add f x y p q = rw (float_add_comm f x y) (add_number f y x q p)

pub number_sub : (f : Format) (x y : Float) → T (number x) → T (finite y) → T (number (sub f x y))
unfolding sub
number_sub f x y p q = number_add f x (neg y) p (subst T (sym (neg_finite y)) q)

-- ---- a sum against a rounded fraction: they are in the order of the fraction and the exact sum

times : (o n u p d : ℕ) → o + n ≡ u + p → o * d + n * d ≡ u * d + p * d
times o n u p d h = sym (add-mul o n d) ∙ ap (λ (x : ℕ). x * d) h ∙ add-mul u p d

sum_times : (x y : Float) (d : ℕ) → over (sum_sign x y) (sum_size x y) * d + beneath x y * d ≡ under (sum_sign x y) (sum_size x y) * d + above x y * d
sum_times x y d = times (over (sum_sign x y) (sum_size x y)) (beneath x y) (under (sum_sign x y) (sum_size x y)) (above x y) d (sum_parts x y)

module _ (f : Format) (x y : Float) (p : T (finite x)) (q : T (finite y)) (t : Bool) (a l : ℕ) (L : 0 < l) where
  pub add_at_least : over t a * (den x * den y) + beneath x y * l ≤ above x y * l + under t a * (den x * den y) → T (le (round f t a l) (add f x y))
  add_at_least h =
      rw (add_is f x y p q) (round_keeps_order f t a l (sum_sign x y) (sum_size x y) (den x * den y) L (mul-pos (den_pos x) (den_pos y)) (omega (arith, sum_times x y l)))

  pub add_at_most : above x y * l + under t a * (den x * den y) ≤ over t a * (den x * den y) + beneath x y * l → T (le (add f x y) (round f t a l))
  add_at_most h =
      rw (add_is f x y p q) (round_keeps_order f (sum_sign x y) (sum_size x y) (den x * den y) t a l (mul-pos (den_pos x) (den_pos y)) L (omega (arith, sum_times x y l)))

-- ---- a sum grows with each summand

-- the fractions of x + y and x' + y', from those of x and x', and of y and y'
combine : (p n d p' n' d' q m e q' m' e' : ℕ) → p * d' + n' * d ≤ p' * d + n * d' → q * e' + m' * e ≤ q' * e + m * e'
    → (p * e + q * d) * (d' * e') + (n' * e' + m' * d') * (d * e) ≤ (p' * e' + q' * d') * (d * e) + (n * e + m * d) * (d' * e')
combine p n d p' n' d' q m e q' m' e' h k =
    let h' = simp (add-mul, mul_assoc, mul_comm, mul_left_comm) at (mul-le-mul_right (e * e') h) in
    let k' = simp (add-mul, mul_assoc, mul_comm, mul_left_comm) at (mul-le-mul_right (d * d') k) in
    simp (add-mul, mul_assoc, mul_comm, mul_left_comm) (omega arith)

pub add_mono_finite : (f : Format) (x x' y y' : Float) → T (finite x) → T (finite x') → T (finite y) → T (finite y') → T (le x x') → T (le y y')
    → T (le (add f x y) (add f x' y'))
add_mono_finite f x x' y y' p p' q q' h k =
    let sum_order = combine _ _ (den x) _ _ (den x') _ _ (den y) _ _ (den y') ((le_iff x x' p p').0 h) ((le_iff y y' q q').0 k) in
    rw (add_is f x y p q)
    (add_at_least f x' y' p' q' (sum_sign x y) (sum_size x y) (den x * den y) (mul-pos (den_pos x) (den_pos y)) (omega (arith, sum_times x y (den x' * den y'))))

add_infinite : (f : Format) (s : Bool) (x y : Float) → x ≡ inf s → T (number (add f x y)) → add f x y ≡ inf s
add_infinite f s x y e p = rw e (add_inf f s y (rw e at p))

infinite_add : (f : Format) (s : Bool) (x y : Float) → y ≡ inf s → T (number (add f x y)) → add f x y ≡ inf s
infinite_add f s x y e p = float_add_comm f x y ∙ add_infinite f s y x e (rw (float_add_comm f x y) at p)

pub add_mono : (f : Format) (x x' y y' : Float) → T (le x x') → T (le y y') → T (number (add f x y)) → T (number (add f x' y'))
    → T (le (add f x y) (add f x' y'))
unfolding le
add_mono f (inf true) x' y y' h k p q = rw (add_inf f true y p) (inf_least (add f x' y') q)
add_mono f (inf false) x' y y' h k p q = rw (add_infinite f false x' y' (greatest_only x' h) q) (inf_greatest (add f (inf false) y) p)
add_mono f (fin s m e) (inf false) y y' h k p q = rw (add_inf f false y' q) (inf_greatest (add f (fin s m e) y) p)
add_mono f (fin s m e) (fin s' m' e') (inf true) y' h k p q = rw (infinite_add f true (fin s m e) (inf true) refl p) (inf_least (add f (fin s' m' e') y') q)
add_mono f (fin s m e) (fin s' m' e') (inf false) y' h k p q =
    rw (infinite_add f false (fin s' m' e') y' (greatest_only y' k) q) (inf_greatest (add f (fin s m e) (inf false)) p)
add_mono f (fin s m e) (fin s' m' e') (fin t n d) (inf false) h k p q =
    rw (infinite_add f false (fin s' m' e') (inf false) refl q) (inf_greatest (add f (fin s m e) (fin t n d)) p)
add_mono f (fin s m e) (fin s' m' e') (fin t n d) (fin t' n' d') h k p q =
    add_mono_finite f (fin s m e) (fin s' m' e') (fin t n d) (fin t' n' d') tt tt tt tt h k
add_mono f nan x' y y' h k p q = elim h [ ]
add_mono f (fin s m e) nan y y' h k p q = elim h [ ]
add_mono f (fin s m e) (inf true) y y' h k p q = elim h [ ]
add_mono f (fin s m e) (fin s' m' e') nan y' h k p q = elim k [ ]
add_mono f (fin s m e) (fin s' m' e') (fin t n d) nan h k p q = elim k [ ]
add_mono f (fin s m e) (fin s' m' e') (fin t n d) (inf true) h k p q = elim k [ ]

-- a difference grows with the first and shrinks as the second grows
pub sub_mono : (f : Format) (x x' y y' : Float) → T (le x x') → T (le y' y) → T (number (sub f x y)) → T (number (sub f x' y'))
    → T (le (sub f x y) (sub f x' y'))
unfolding sub
sub_mono f x x' y y' h k p q = add_mono f x x' (neg y) (neg y') h (neg_le y' y k) p q

-- ---- the negative of a sum is the sum of the negatives, but for a zero's sign

flip : (s : Bool) (a : ℕ) → (over (not s) a ≡ under s a) × (under (not s) a ≡ over s a)
flip true a = (refl, refl)
flip false a = (refl, refl)

finite_neg : (f : Format) (x y : Float) → T (finite x) → T (finite y) → T (eq (neg (add f x y)) (add f (neg x) (neg y)))
unfolding neg is_negative
finite_neg f (fin s m e) (fin t n d) p q =
    let x = fin s m e in
    let y = fin t n d in
    let c = den x * den y in
    let C = mul-pos (den_pos x) (den_pos y) in
    let x' = fin (not s) m e in
    let y' = fin (not t) n d in
    let u = sum_sign x y in
    let w = sum_size x y in
    let level : above x' y' * c + under (not u) w * c ≡ over (not u) w * c + beneath x' y' * c =
    rw ((flip s (m * up e)).0, (flip s (m * up e)).1, (flip t (n * up d)).0, (flip t (n * up d)).1, (flip u w).0, (flip u w).1) (omega (arith, sum_times x y c)) in
    subst (λ (v : Float). T (eq v (add f x' y'))) (round_neg f u w c ∙ ap neg (sym (add_is f x y tt tt)))
    (float_le_antisymm (round f (not u) w c) (add f x' y') (add_at_least f x' y' tt tt (not u) w c C (omega arith)) (add_at_most f x' y' tt tt (not u) w c C (omega arith)))
finite_neg f nan y p q = elim p [ ]
finite_neg f (inf _) y p q = elim p [ ]
finite_neg f (fin s m e) nan p q = elim q [ ]
finite_neg f (fin s m e) (inf _) p q = elim q [ ]

pub neg_add : (f : Format) (x y : Float) → T (number (add f x y)) → T (eq (neg (add f x y)) (add f (neg x) (neg y)))
unfolding add neg eq is_nan
neg_add f (inf true) (inf true) p = tt
neg_add f (inf false) (inf false) p = tt
neg_add f (inf s) (fin t n d) p = eq_refl (inf (not s)) tt
neg_add f (fin s m e) (inf t) p = eq_refl (inf (not t)) tt
neg_add f (fin s m e) (fin t n d) p = finite_neg f (fin s m e) (fin t n d) tt tt
neg_add f nan y p = elim p [ ]
neg_add f (inf s) nan p = elim p [ ]
neg_add f (inf false) (inf true) p = elim p [ ]
neg_add f (inf true) (inf false) p = elim p [ ]
neg_add f (fin s m e) nan p = elim p [ ]

pub neg_sub : (f : Format) (x y : Float) → T (number (sub f x y)) → T (eq (neg (sub f x y)) (sub f y x))
unfolding sub
neg_sub f x y p = rw (float_add_comm f y (neg x), ← neg_neg y) (rw neg_neg (neg_add f x (neg y) p))

-- ---- a sum whose exact value the format holds is that value

pub add_eq_value : (f : Format) (x y v : Float) → T (finite x) → T (finite y) → T (finite v) → T (fits f v)
    → above x y * den v + under (is_negative v) (num v) * (den x * den y) ≡ over (is_negative v) (num v) * (den x * den y) + beneath x y * den v
    → T (eq (add f x y) v)
add_eq_value f x y v p q r t h =
    let v' = round f (is_negative v) (num v) (den v) in
    subst (λ (z : Float). T (eq (add f x y) z)) (round_of_value f v (is_negative v) (num v) (den v) (den_pos v) t (own_fraction v r))
    (float_le_antisymm (add f x y) v'
    (add_at_most f x y p q (is_negative v) (num v) (den v) (den_pos v) (omega arith))
    (add_at_least f x y p q (is_negative v) (num v) (den v) (den_pos v) (omega arith)))

-- ---- a zero

none : (s : Bool) → over s 0 ≡ 0
none true = refl
none false = refl

finite_add_zero : (f : Format) (s : Bool) (x : Float) → T (finite x) → T (fits f x) → T (eq (add f x (fin s 0 (pos 0))) x)
unfolding is_negative
finite_add_zero f s x p t = add_eq_value f x (fin s 0 (pos 0)) x p tt p t (rw (none s) (simp (mul-one, zero-mul, +-zero)))

-- a zero added changes nothing but a zero's sign
pub add_zero_eq : (f : Format) (s : Bool) (x : Float) → T (number x) → T (fits f x) → T (eq (add f x (fin s 0 (pos 0))) x)
unfolding add is_nan
add_zero_eq f s (inf u) p t = eq_refl (inf u) tt
add_zero_eq f s (fin u m e) p t = finite_add_zero f s (fin u m e) tt t
add_zero_eq f s nan p t = elim p [ ]

pub add-zero : (f : Format) (s : Bool) (x : Float) → T (fits f x) → T (not (eq x +0)) → add f x (fin s 0 (pos 0)) ≡ x
unfolding add
add-zero f s nan t h = refl
add-zero f s (inf u) t h = refl
add-zero f s (fin u m e) t h =
    let x = fin u m e in
    let y = add f x (fin s 0 (pos 0)) in
    sym (eq→same_nonzero f x y t (add-fits f x (fin s 0 (pos 0))) (eq_sym y x (finite_add_zero f s x tt t)) h)

pub add_zeros : (f : Format) (s t : Bool) → add f (fin s 0 (pos 0)) (fin t 0 (pos 0)) ≡ fin (s && t) 0 (pos 0)
unfolding is_negative
add_zeros f s t = add_is f (fin s 0 (pos 0)) (fin t 0 (pos 0)) tt tt ∙ rw (none s, none t) (round_zero f (s && t) 1 (zero-lt-suc 0))

-- ---- equal values

difference_zero : (f : Format) (p n c : ℕ) → 0 < c → p ≡ n → difference f false p n c ≡ +0
difference_zero f p n c C e = sym (rounded f false false 0 p n c (rw (le-ltb p n (le_of_eq (sym e)))) (omega arith)) ∙ round_zero f false c C

pub sub_self : (f : Format) (x : Float) → T (finite x) → sub f x x ≡ +0
unfolding sub neg is_negative
sub_self f (fin s m e) p =
    add_is f (fin s m e) (fin (not s) m e) tt tt
    ∙ rw ((flip s (m * up e)).0, (flip s (m * up e)).1, and-not_self s)
    (difference_zero f _ _ (down e * down e) (mul-pos (down_pos e) (down_pos e)) (+_comm (over s (m * up e) * down e) (under s (m * up e) * down e)))
sub_self f nan p = elim p [ ]
sub_self f (inf _) p = elim p [ ]

pub sub_equal : (f : Format) (x y : Float) → T (finite x) → T (eq x y) → T (eq (sub f x y) +0)
unfolding sub neg is_negative eq
sub_equal f (fin s m e) (fin t n d) p h =
    add_eq_value f (fin s m e) (fin (not t) n d) +0 tt tt tt (zero_fits f false)
    (rw ((flip t (n * up d)).0, (flip t (n * up d)).1) (omega (arith, (fraction_order (fin s m e) (fin t n d) tt tt).1.0 h)))
sub_equal f nan y p h = elim p [ ]
sub_equal f (inf _) y p h = elim p [ ]
sub_equal f (fin s m e) nan p h = elim h [ ]
sub_equal f (fin s m e) (inf _) p h = elim h [ ]

-- ---- the sign of a sum and of a difference

pub add_nonneg_number : (f : Format) (x y : Float) → T (le +0 x) → T (le +0 y) → T (number (add f x y))
unfolding le add is_nan
add_nonneg_number f (inf false) (inf false) h k = tt
add_nonneg_number f (inf false) (fin t n d) h k = tt
add_nonneg_number f (fin s m e) y h k = add_number f (fin s m e) y tt (le_numbers +0 y k).1
add_nonneg_number f nan y h k = elim h [ ]
add_nonneg_number f (inf false) nan h k = elim k [ ]
add_nonneg_number f (inf false) (inf true) h k = elim k [ ]
add_nonneg_number f (inf true) y h k = elim h [ ]

pub add_nonneg : (f : Format) (x y : Float) → T (le +0 x) → T (le +0 y) → T (le +0 (add f x y))
add_nonneg f x y h k = rw (add_zeros f false false) at (add_mono f +0 x +0 y h k (add_finite_number f +0 +0 tt tt) (add_nonneg_number f x y h k))

pub le_add : (f : Format) (x y : Float) → T (fits f x) → T (le +0 y) → T (number (add f x y)) → T (le x (add f x y))
le_add f x y t h n =
    let p = (add_numbers f x y n).0 in
    let e = add_zero_eq f false x p t in
    float_le_trans x (add f x +0) (add f x y) (eq→ge (add f x +0) x e) (add_mono f x x +0 y (float_le_refl x p) h (eq_numbers (add f x +0) x e).0 n)

pub add_le : (f : Format) (x y : Float) → T (fits f x) → T (le y +0) → T (number (add f x y)) → T (le (add f x y) x)
add_le f x y t h n =
    let p = (add_numbers f x y n).0 in
    let e = add_zero_eq f false x p t in
    float_le_trans (add f x y) (add f x +0) x (add_mono f x x y +0 (float_le_refl x p) h n (eq_numbers (add f x +0) x e).0) (eq→le (add f x +0) x e)

pub neg_nonneg : (x : Float) → T (le +0 x) → T (le (neg x) +0)
unfolding neg
neg_nonneg x h = float_le_trans (neg x) -0 +0 (neg_le +0 x h) (eq→le -0 +0 zeros_equal)

pub sub_le : (f : Format) (x y : Float) → T (fits f x) → T (le +0 y) → T (number (sub f x y)) → T (le (sub f x y) x)
unfolding sub
sub_le f x y t h n = add_le f x (neg y) t (neg_nonneg y h) n

pub sub_nonneg : (f : Format) (x y : Float) → T (le y x) → T (number (sub f x y)) → T (le +0 (sub f x y))
unfolding le sub neg is_nan add
sub_nonneg f x (inf true) h n = rw (infinite_add f false x (inf false) refl n) (inf_greatest +0 tt)
sub_nonneg f x (inf false) h n = absurd (rw (greatest_only x h) at n)
sub_nonneg f x (fin t m e) h n =
    let y = fin t m e in
    subst (λ (z : Float). T (le z (sub f x y))) (sub_self f y tt) (sub_mono f y x y y h (float_le_refl y tt) (add_finite_number f y (neg y) tt tt) n)
sub_nonneg f x nan h n = elim h [ ]

pub sub_nonpos : (f : Format) (x y : Float) → T (le x y) → T (number (sub f x y)) → T (le (sub f x y) +0)
sub_nonpos f x y h n =
    let e = neg_sub f x y n in
    rw neg_neg at (neg_nonneg (neg (sub f x y)) (float_le_trans +0 (sub f y x) (neg (sub f x y)) (sub_nonneg f y x h (eq_numbers (neg (sub f x y)) (sub f y x) e).1) (eq→ge (neg (sub f x y)) (sub f y x) e)))

-- ---- a difference of two values of the format has the sign that the order says, since it is not less than the smallest value of the format

-- x is a whole number of the format's smallest values
whole_units : (f : Format) (x : Float) → T (finite x) → T (fits f x) → (k : ℕ) × (num x * 2 ^ low f ≡ k * den x)
whole_units f (fin s m e) p t =
    let u = power_multiple (up e * 2 ^ low f) (down e) (mul_power (up e) (2 ^ low f) (up_power e) (low f, refl)) (down_power e) (fits→holds f s m e t).lowest in
    (m * 2 ^ u.0, mul_assoc m (up e) (2 ^ low f) ∙ ap (λ (k : ℕ). m * k) u.1 ∙ sym (mul_assoc m (2 ^ u.0) (down e)))
whole_units f nan p t = elim p [ ]
whole_units f (inf _) p t = elim p [ ]

over_units : (s : Bool) (a l k d : ℕ) → a * l ≡ k * d → (over s a * l ≡ over s k * d) × (under s a * l ≡ under s k * d)
over_units true a l k d h = (omega arith, h)
over_units false a l k d h = (h, omega arith)

sum_units : (a d k b e j l : ℕ) → a * l ≡ k * d → b * l ≡ j * e → (a * e + b * d) * l ≡ (k + j) * (d * e)
sum_units a d k b e j l h i =
    let h' = simp (mul_assoc, mul_comm, mul_left_comm) at (ap (λ (x : ℕ). x * e) h) in
    let i' = simp (mul_assoc, mul_comm, mul_left_comm) at (ap (λ (x : ℕ). x * d) i) in
    simp (add-mul, mul_assoc, mul_comm, mul_left_comm) (omega arith)

-- whole numbers k and j of c with j * c < k * c are one c apart at least
one_apart : (p n k j c l : ℕ) → 0 < l → p * l ≡ k * c → n * l ≡ j * c → n < p → c + n * l ≤ p * l
one_apart p n k j c l L h i g =
    let a : j * c < k * c = omega (arith, mul-lt-mul_of_pos_right g L) in
    omega (arith, suc-mul j c, mul-le-mul_right c (lt_of_mul-lt-mul_right c a))

abbrev smallest : Format → Float
smallest f = round f false 1 (2 ^ low f)

smallest_pos : (f : Format) → T (lt +0 (smallest f))
smallest_pos f =
    let v : HasValue (smallest f) false 1 (2 ^ low f) =
    round_exact f false 1 (2 ^ low f) 1 0 (pow_pos (low f)) (pow-lt (two-le_pos (prec f) (two f))) (pow-lt {i = 0} {j = low f + suc (emax f)} (omega arith)) refl in
    lt_of_fractions +0 (smallest f) false 0 1 false 1 (2 ^ low f) (zero-lt-suc 0) (pow_pos (low f)) (refl, refl) v (omega arith)

finite_pos : (f : Format) (x y : Float) → T (finite x) → T (finite y) → T (fits f x) → T (fits f y) → beneath x y < above x y → T (lt +0 (add f x y))
finite_pos f x y p q t r h =
    let l = 2 ^ low f in
    let i = whole_units f x p t in
    let j = whole_units f y q r in
    let i' = over_units (is_negative x) (num x) l i.0 (den x) i.1 in
    let j' = over_units (is_negative y) (num y) l j.0 (den y) j.1 in
    let apart =
    one_apart (above x y) (beneath x y) _ _ (den x * den y) l (pow_pos (low f)) (sum_units _ (den x) _ _ (den y) _ l i'.0 j'.0)
    (sum_units _ (den x) _ _ (den y) _ l i'.1 j'.1) h in
    lt_le_trans +0 (smallest f) (add f x y) (smallest_pos f) (add_at_least f x y p q false 1 l (pow_pos (low f)) (omega arith))

pub sub_pos : (f : Format) (x y : Float) → T (fits f x) → T (fits f y) → T (lt y x) → T (lt +0 (sub f x y))
unfolding lt sub neg add is_negative
sub_pos f nan y t r h = absurd (subst T (nan_right y).0 h)
sub_pos f (inf true) y t r h = absurd (lt_excludes y (inf true) h (inf_least y (lt_numbers y (inf true) h).0))
sub_pos f (inf false) (inf true) t r h = tt
sub_pos f (inf false) (fin u n d) t r h = tt
sub_pos f (fin s m e) (inf true) t r h = tt
sub_pos f (fin s m e) (fin u n d) t r h =
    finite_pos f (fin s m e) (fin (not u) n d) tt tt t (neg-fits f (fin u n d) r)
    (rw ((flip u (n * up d)).0, (flip u (n * up d)).1) (omega (arith, (fraction_order (fin u n d) (fin s m e) tt tt).0.0 h)))
sub_pos f (inf false) nan t r h = elim h [ ]
sub_pos f (inf false) (inf false) t r h = elim h [ ]
sub_pos f (fin s m e) nan t r h = elim h [ ]
sub_pos f (fin s m e) (inf false) t r h = elim h [ ]

pub sub_above_zero : (f : Format) (x y : Float) → T (fits f x) → T (fits f y) → T (number (sub f x y)) → lt +0 (sub f x y) ≡ lt y x
sub_above_zero f x y t r n =
    let p = sub_numbers f x y n in
    same_test (lt +0 (sub f x y)) (lt y x)
    (λ h. ⊎_elim (λ l. absurd (lt_excludes +0 (sub f x y) h (sub_nonpos f x y l n))) (λ l. l) (le_or_lt x y p.0 p.1))
    (sub_pos f x y t r)

pub sub_below_zero : (f : Format) (x y : Float) → T (fits f x) → T (fits f y) → T (number (sub f x y)) → lt (sub f x y) +0 ≡ lt x y
unfolding neg
sub_below_zero f x y t r n =
    let e = neg_sub f x y n in
    sym (lt_neg +0 (sub f x y)) ∙ lt_respects_eq -0 +0 (neg (sub f x y)) (sub f y x) zeros_equal e ∙ sub_above_zero f y x r t (eq_numbers (neg (sub f x y)) (sub f y x) e).1

-- ---- the size of a sum

pub add_size : (f : Format) (x y a b : Float) → T (le (abs x) a) → T (le (abs y) b) → T (number (add f x y)) → T (le (abs (add f x y)) (add f a b))
add_size f x y a b h k n =
    let bound : (z c : Float) → T (number z) → T (le (abs z) c) → T (le +0 c) = λ z c p l. float_le_trans +0 (abs z) c (abs_above_zero z p) l in
    let m = add_nonneg_number f a b (bound x a (add_numbers f x y n).0 h) (bound y b (add_numbers f x y n).1 k) in
    let e = neg_add f a b m in
    (abs_le (add f x y) (add f a b)).1 (
      float_le_trans (neg (add f a b)) (add f (neg a) (neg b)) (add f x y) (eq→le (neg (add f a b)) (add f (neg a) (neg b)) e)
          (add_mono f (neg a) x (neg b) y ((abs_le x a).0 h).0 ((abs_le y b).0 k).0 (eq_numbers (neg (add f a b)) (add f (neg a) (neg b)) e).1 n),
      add_mono f x a y b ((abs_le x a).0 h).1 ((abs_le y b).0 k).1 n m,
    )

pub sub_size : (f : Format) (x y a b : Float) → T (le (abs x) a) → T (le (abs y) b) → T (number (sub f x y)) → T (le (abs (sub f x y)) (add f a b))
unfolding sub
sub_size f x y a b h k n = add_size f x (neg y) a b h (rw (abs_neg y) k) n

pub finite_parts : (f : Format) (x y : Float) → T (finite (add f x y)) → T (finite x) × T (finite y)
unfolding add
finite_parts f (inf s) y p = absurd (rw (add_inf f s y (finite→number (add f (inf s) y) p)) at p)
finite_parts f (fin s m e) (fin t n d) p = (tt, tt)
finite_parts f nan y p = elim p [ ]
finite_parts f (fin s m e) nan p = elim p [ ]
finite_parts f (fin s m e) (inf _) p = elim p [ ]

pub add_finite : (f : Format) (x y a b : Float) → T (le (abs x) a) → T (le (abs y) b) → T (finite (add f a b)) → T (finite (add f x y))
add_finite f x y a b h k p =
    let q = finite_parts f a b p in
    finite_of_abs (add f x y) (add f a b) p (add_size f x y a b h k (add_finite_number f x y (finite_of_abs x a q.0 h) (finite_of_abs y b q.1 k)))

pub sub_finite : (f : Format) (x y a b : Float) → T (le (abs x) a) → T (le (abs y) b) → T (finite (add f a b)) → T (finite (sub f x y))
unfolding sub
sub_finite f x y a b h k p = add_finite f x (neg y) a b h (rw (abs_neg y) k) p
