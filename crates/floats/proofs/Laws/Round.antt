-- What rounding keeps: a value of the format, every bound that is one, the order, and the sign. The same for `convert`, which rounds once.
-- Assumes nothing.
use Rattle.std.proofs.Common.{◌≡◌, ℕ, zero, suc, ◌+◌, ◌-◌, ◌*◌, ◌/◌, ◌%◌, ◌^◌, ◌<◌, ◌≤◌, Bool, true, false, cond, not, ◌&&◌, T, eqb, ltb, leb, ℤ, pos, negsuc, sym, refl, ap, ◌∙◌, subst, ⊎_elim, le_trans, le_of_eq, le_refl, lt_of_lt_of_le, le_of_suc-le-suc, lt_of_le_of_lt, mul-le-mul_right, mul_assoc, mul_comm, eq-zero-or-pos, le_antisymm, lt_of_mul-lt-mul_right, mul-lt-mul_of_pos_right, mul-pos, lt_of_not-le, zero-mul, mul_right_comm, not-le_of_lt, le-mul_of_pos_right, arith, eqb→eq, ltb→lt, leb→le, T_not, pow_pos, pow-add}
use native.Mathlib.Nat.{eq_of_mul-eq-mul_right}
use lib.Dec.{not_T}
use lib.Pow.{pow-lt}
use lib.Ieee.{Float, nan, inf, fin, Format, prec, emax, low, up, down, size, odd, units, round, neg, le, lt, eq, fits, is_nan}
use lib.Ieee.Bits.{is_true}
use lib.Ieee.Digits.{back}
use lib.Ieee.Exact.{HasValue, round_exact}
use lib.Ieee.Fits.{up_pos, down_pos, and_l, and_r, round_is, round-fits, nan-fits, inf-fits, neg-fits}
use lib.Ieee.Nearest.{closest}
use lib.Ieee.Order.{transfer, round_mono}
use lib.Ieee.Positive.{num, den}
use lib.Ieee.Scale.{round_same, finite}
use Rattle.floats.specs.Compare.{abs, is_negative}
use Rattle.floats.specs.Narrow.{convert}
use Rattle.floats.proofs.Laws.Order
use Rattle.floats.proofs.Laws.Order.{lesser, greater, number, +0, -0, nan_left, le_numbers, le_iff, fraction_order, lt_not_le, eq→same, eq→le, zeros_equal, negative_below, positive_above, inf_least, inf_greatest, abs_is, neg_le, neg_finite, finite_between}

-- ---- the order, by any fractions that two values equal

-- ±a / b ≤ ±c / d
abbrev pub AtMost : Bool → ℕ → ℕ → Bool → ℕ → ℕ → Type 0
AtMost s a b t c d = lesser s a b t c d ≤ greater s a b t c d

pub no_size : (a b c d : ℕ) → 0 < b → 0 < d → a * d + c * b ≤ 0 → (a ≡ 0) × (c ≡ 0)
no_size a b c d B D h =
    let p : a * d ≡ 0 * d = omega (arith, zero-mul d) in
    let q : c * b ≡ 0 * b = omega (arith, zero-mul b) in
    (eq_of_mul-eq-mul_right d D a 0 p, eq_of_mul-eq-mul_right b B c 0 q)

zero_size : (x u a b : ℕ) → 0 < b → x * b ≡ a * u → a ≡ 0 → x ≡ 0
zero_size x u a b B p z = eq_of_mul-eq-mul_right b B x 0 (p ∙ ap (λ (k : ℕ). k * u) z ∙ zero-mul u ∙ sym (zero-mul b))

-- two fractions that equal a third one are equal
same_fraction : (x u y v a c : ℕ) → 0 < c → x * c ≡ a * u → y * c ≡ a * v → x * v ≡ y * u
same_fraction x u y v a c C p q =
    le_antisymm (transfer x y u v a a c c C C p q (le_refl (a * c))) (transfer y x v u a a c c C C q p (le_refl (a * c)))

-- x / u is a / b, and y / v is c / d
pub at_most_same : (s t : Bool) (x u y v a b c d : ℕ) → 0 < b → 0 < d → x * b ≡ a * u → y * d ≡ c * v → AtMost s a b t c d → AtMost s x u t y v
at_most_same false false x u y v a b c d B D p q h = let k = transfer x y u v a c b d B D p q (omega arith) in omega arith
at_most_same false true x u y v a b c d B D p q h =
    let z = no_size a b c d B D (omega arith) in
    rw (zero_size x u a b B p z.0, zero_size y v c d D q z.1) (omega arith)
at_most_same true false x u y v a b c d B D p q h = omega arith
at_most_same true true x u y v a b c d B D p q h = let k = transfer y x v u c a d b D B q p (omega arith) in omega arith

pub le_of_fractions : (x y : Float) (s : Bool) (a b : ℕ) (t : Bool) (c d : ℕ) → 0 < b → 0 < d → HasValue x s a b → HasValue y t c d → AtMost s a b t c d
    → T (le x y)
unfolding is_negative
le_of_fractions (fin s' m e) (fin t' n g) s a b t c d B D v w h =
    (le_iff (fin s' m e) (fin t' n g) tt tt).1
    (rw (v.0, w.0) (at_most_same s t (m * up e) (down e) (n * up g) (down g) a b c d B D v.1 w.1 h))
le_of_fractions nan y s a b t c d B D v w h = elim v [ ]
le_of_fractions (inf _) y s a b t c d B D v w h = elim v [ ]
le_of_fractions (fin s' m e) nan s a b t c d B D v w h = elim w [ ]
le_of_fractions (fin s' m e) (inf _) s a b t c d B D v w h = elim w [ ]

pub fractions_of_le : (x y : Float) (s : Bool) (a b : ℕ) (t : Bool) (c d : ℕ) → HasValue x s a b → HasValue y t c d → T (le x y) → AtMost s a b t c d
unfolding is_negative
fractions_of_le (fin s' m e) (fin t' n g) s a b t c d v w h =
    at_most_same s t a b c d (m * up e) (down e) (n * up g) (down g) (down_pos e) (down_pos g) (sym v.1) (sym w.1)
    (rw (v.0, w.0) at ((le_iff (fin s' m e) (fin t' n g) tt tt).0 h))
fractions_of_le nan y s a b t c d v w h = elim v [ ]
fractions_of_le (inf _) y s a b t c d v w h = elim v [ ]
fractions_of_le (fin s' m e) nan s a b t c d v w h = elim w [ ]
fractions_of_le (fin s' m e) (inf _) s a b t c d v w h = elim w [ ]

pub value_finite : (x : Float) (s : Bool) (a c : ℕ) → HasValue x s a c → T (finite x)
value_finite (fin t m e) s a c h = tt
value_finite nan s a c h = elim h [ ]
value_finite (inf _) s a c h = elim h [ ]

pub own_fraction : (x : Float) → T (finite x) → HasValue x (is_negative x) (num x) (den x)
unfolding is_negative
own_fraction (fin t m e) h = (refl, refl)
own_fraction nan h = elim h [ ]
own_fraction (inf _) h = elim h [ ]

pub value_sign : (x : Float) (s : Bool) (a c : ℕ) → HasValue x s a c → is_negative x ≡ s
unfolding is_negative
value_sign (fin t m e) s a c h = h.0
value_sign nan s a c h = elim h [ ]
value_sign (inf _) s a c h = elim h [ ]

pub value_number : (x : Float) (s : Bool) (a c : ℕ) → HasValue x s a c → T (number x)
value_number x s a c h = Order.finite→number x (value_finite x s a c h)

pub value_neg : (x : Float) (s : Bool) (a c : ℕ) → HasValue x s a c → HasValue (neg x) (not s) a c
unfolding neg
value_neg (fin t m e) s a c h = (ap not h.0, h.1)
value_neg nan s a c h = elim h [ ]
value_neg (inf _) s a c h = elim h [ ]

pub value_abs : (x : Float) (s : Bool) (a c : ℕ) → HasValue x s a c → HasValue (abs x) false a c
unfolding abs
value_abs (fin t m e) s a c h = (refl, h.1)
value_abs nan s a c h = elim h [ ]
value_abs (inf _) s a c h = elim h [ ]

-- from one fraction to another of the same size
pub value_same : (x : Float) (s : Bool) (a b c d : ℕ) → 0 < b → a * d ≡ c * b → HasValue x s a b → HasValue x s c d
value_same (fin t m e) s a b c d B h v = (v.0, same_fraction (m * up e) (down e) c d a b B v.1 (sym h))
value_same nan s a b c d B h v = elim v [ ]
value_same (inf _) s a b c d B h v = elim v [ ]

-- the strict order
abbrev pub Less : Bool → ℕ → ℕ → Bool → ℕ → ℕ → Type 0
Less s a b t c d = lesser s a b t c d < greater s a b t c d

pub lt_of_fractions : (x y : Float) (s : Bool) (a b : ℕ) (t : Bool) (c d : ℕ) → 0 < b → 0 < d → HasValue x s a b → HasValue y t c d → Less s a b t c d
    → T (lt x y)
lt_of_fractions x y s a b t c d B D v w h =
    subst T (sym (lt_not_le x y (value_number x s a b v) (value_number y t c d w)))
    (not_T (le y x) (λ k. not-le_of_lt h (fractions_of_le y x t c d s a b w v k)))

pub fractions_of_lt : (x y : Float) (s : Bool) (a b : ℕ) (t : Bool) (c d : ℕ) → 0 < b → 0 < d → HasValue x s a b → HasValue y t c d → T (lt x y)
    → Less s a b t c d
fractions_of_lt x y s a b t c d B D v w h = lt_of_not-le (λ (k : AtMost t c d s a b). Order.lt_excludes x y h (le_of_fractions y x t c d s a b D B w v k))

-- a value of size 0 equals zero
zero_of_size : (x : Float) (s : Bool) (c : ℕ) → 0 < c → HasValue x s 0 c → T (eq x +0)
unfolding is_negative
zero_of_size (fin t m e) s c C v = (fraction_order (fin t m e) +0 tt tt).1.1 (go t (m * up e) (down e) (zero_size (m * up e) (down e) 0 c C v.1 refl))
  where
    go : (t : Bool) (n d : ℕ) → n ≡ 0 → lesser t n d false 0 1 ≡ greater t n d false 0 1
    go true n d z = omega arith
    go false n d z = omega arith
zero_of_size nan s c C v = elim v [ ]
zero_of_size (inf _) s c C v = elim v [ ]

pub nonzero_size : (x : Float) (s : Bool) (a c : ℕ) → 0 < c → HasValue x s a c → T (not (eq x +0)) → 0 < a
nonzero_size x s a c C v h = ⊎_elim (λ (z : a ≡ 0). absurd (T_not (eq x +0) h (zero_of_size x s c C (rw z at v)))) (λ p. p) (eq-zero-or-pos a)

-- a number with its sign is written in one way
pub value_unique : (f : Format) (x y : Float) (s : Bool) (a c : ℕ) → 0 < c → T (fits f x) → T (fits f y) → HasValue x s a c → HasValue y s a c → x ≡ y
value_unique f x y s a c C p q v w =
    eq→same f x y p q
    (Order.float_le_antisymm x y (le_of_fractions x y s a c s a c C C v w (le_refl (lesser s a c s a c))) (le_of_fractions y x s a c s a c C C w v (le_refl (lesser s a c s a c))))
    (value_sign x s a c v ∙ sym (value_sign y s a c w))

-- ---- powers of two

abbrev pub Power : ℕ → Type 0
Power n = (i : ℕ) × (n ≡ 2 ^ i)

pub up_power : (e : ℤ) → Power (up e)
up_power (pos k) = (k, refl)
up_power (negsuc k) = (0, refl)

pub down_power : (e : ℤ) → Power (down e)
down_power (pos k) = (0, refl)
down_power (negsuc k) = (suc k, refl)

pub mul_power : (u v : ℕ) → Power u → Power v → Power (u * v)
mul_power u v p q = (p.0 + q.0, ap (λ (z : ℕ). z * v) p.1 ∙ ap (λ (z : ℕ). 2 ^ p.0 * z) q.1 ∙ sym (pow-add 2 p.0 q.0))

pub power_pos : (u : ℕ) → Power u → 0 < u
power_pos u p = subst (λ (z : ℕ). 0 < z) (sym p.1) (pow_pos p.0)

pub pow_le_back : (i j : ℕ) → 2 ^ i ≤ 2 ^ j → i ≤ j
pow_le_back i j h = le_of_suc-le-suc (lt_of_not-le (λ (g : suc j ≤ i). not-le_of_lt (pow-lt g) h))

-- 2 ^ p is twice 2 ^ (p - 1)
pub twice_pow : (p : ℕ) → 0 < p → 2 ^ p ≡ 2 * 2 ^ (p - 1)
twice_pow p h = ap (λ (k : ℕ). 2 ^ k) (one_more p h) ∙ pow-add 2 1 (p - 1)
  where
    one_more : (p : ℕ) → 0 < p → p ≡ 1 + (p - 1)
    one_more p h = omega arith

-- of two powers of two the larger is a multiple of the smaller
pub power_multiple : (u v : ℕ) → Power u → Power v → v ≤ u → (j : ℕ) × (u ≡ 2 ^ j * v)
power_multiple u v p q h =
    let k_le : q.0 ≤ p.0 = pow_le_back q.0 p.0 (subst (λ (z : ℕ). z ≤ 2 ^ p.0) q.1 (subst (λ (z : ℕ). v ≤ z) p.1 h)) in
    (p.0 - q.0, p.1 ∙ ap (λ (z : ℕ). 2 ^ z) (sym (back p.0 q.0 k_le)) ∙ pow-add 2 (p.0 - q.0) q.0 ∙ ap (λ (z : ℕ). 2 ^ (p.0 - q.0) * z) (sym q.1))

-- ---- what a format holds exactly

-- the format holds m * u / v, for powers of two u and v: it has few digits, none of them too low, and it does not overflow
pub record Holds (f : Format) (m u v : ℕ) : Type 0 where
  pub digits : m < 2 ^ prec f
  pub lowest : v ≤ u * 2 ^ low f
  pub under : m * u < 2 ^ suc (emax f) * v

pub in_units : (f : Format) (m u v : ℕ) → Power u → Power v → Holds f m u v → (j : ℕ) × (u * 2 ^ low f ≡ 2 ^ j * v) × (m * 2 ^ j < 2 ^ (low f + suc (emax f)))
in_units f m u v p q t =
    let l = 2 ^ low f in
    let k = power_multiple (u * l) v (mul_power u l p (low f, refl)) q t.lowest in
    let is : m * u * l ≡ m * 2 ^ k.0 * v = mul_assoc m u l ∙ ap (λ (z : ℕ). m * z) k.1 ∙ sym (mul_assoc m (2 ^ k.0) v) in (
      k.0,
      k.1,
      lt_of_mul-lt-mul_right v
          (subst (λ (z : ℕ). z < 2 ^ (low f + suc (emax f)) * v) is
          (lt_of_lt_of_le (mul-lt-mul_of_pos_right t.under (pow_pos (low f)))
          (le_of_eq (mul_right_comm (2 ^ suc (emax f)) v l ∙ ap (λ (z : ℕ). z * v) (mul_comm (2 ^ suc (emax f)) l ∙ sym (pow-add 2 (low f) (suc (emax f)))))))),
    )

-- where m * u / v is held, so is q * u / v for every q up to m: a fraction a / c of that value is not changed
pub round_held : (f : Format) (s : Bool) (m u v q a c : ℕ) → Power u → Power v → Holds f m u v → q ≤ m → 0 < c → a * v ≡ q * u * c
    → HasValue (round f s a c) s a c
round_held f s m u v q a c p r t h C e =
    let k = in_units f m u v p r t in
    let l = 2 ^ low f in
    let w = 2 ^ k.0 in
    let is : a * l * v ≡ q * w * c * v = mul_right_comm a l v ∙ ap (λ (z : ℕ). z * l) e ∙ mul_right_comm (q * u) c l ∙ ap (λ (z : ℕ). z * c) (mul_assoc q u l ∙ ap (λ (z : ℕ). q * z) k.1 ∙ sym (mul_assoc q w v)) ∙ mul_right_comm (q * w) v c in
    round_exact f s a c q k.0 C (lt_of_le_of_lt h t.digits) (lt_of_le_of_lt (mul-le-mul_right w h) k.2) (eq_of_mul-eq-mul_right v (power_pos v r) (a * l) (q * w * c) is)

flat : (u d l : ℕ) → 0 < u → u * d ≡ 1 → 0 < l → d ≤ l
flat u d l U h L = le_trans (le-mul_of_pos_right d U) (le_trans (le_of_eq (mul_comm d u ∙ h)) L)

pub le_times : (v u l : ℕ) → 0 < u → v ≤ l → v ≤ u * l
le_times v u l U h = le_trans h (le_trans (le-mul_of_pos_right l U) (le_of_eq (mul_comm l u)))

pub fits→holds : (f : Format) (s : Bool) (m : ℕ) (e : ℤ) → T (fits f (fin s m e)) → Holds f m (up e) (down e)
unfolding fits
fits→holds f s zero e t = record {
  digits = pow_pos (prec f);
  lowest = le_times (down e) (up e) (2 ^ low f) (up_pos e) (flat (up e) (down e) (2 ^ low f) (up_pos e) (eqb→eq (up e * down e) 1 t) (pow_pos (low f)));
  under = subst (λ (z : ℕ). z < 2 ^ suc (emax f) * down e) (sym (zero-mul (up e))) (mul-pos (pow_pos (suc (emax f))) (down_pos e));
}
fits→holds f s (suc m) e t =
    let a : Bool = eqb (suc m % 2) 1 in
    let b : Bool = ltb (suc m) (2 ^ prec f) in
    let c : Bool = leb (down e) (2 ^ low f) in
    let d : Bool = ltb (suc m * up e) (2 ^ suc (emax f) * down e) in
    record {
      digits = ltb→lt (suc m) (2 ^ prec f) (and_r a b (and_l (a && b) c (and_l (a && b && c) d t)));
      lowest = le_times (down e) (up e) (2 ^ low f) (up_pos e) (leb→le (down e) (2 ^ low f) (and_r (a && b) c (and_l (a && b && c) d t)));
      under = ltb→lt (suc m * up e) (2 ^ suc (emax f) * down e) (and_r (a && b && c) d t);
    }

-- ---- a value of the format is not changed

pub round_of_fin : (f : Format) (s : Bool) (m : ℕ) (e : ℤ) → T (fits f (fin s m e)) → round f s (m * up e) (down e) ≡ fin s m e
round_of_fin f s m e t =
    value_unique f (round f s (m * up e) (down e)) (fin s m e) s (m * up e) (down e) (down_pos e) (round-fits f s (m * up e) (down e)) t
    (round_held f s m (up e) (down e) m (m * up e) (down e) (up_power e) (down_power e) (fits→holds f s m e t) (le_refl m) (down_pos e) refl) (refl, refl)

pub round_of_value : (f : Format) (x : Float) (s : Bool) (a c : ℕ) → 0 < c → T (fits f x) → HasValue x s a c → round f s a c ≡ x
round_of_value f (fin t m e) s a c C p v =
    subst (λ (z : Bool). round f z a c ≡ fin t m e) v.0
    (round_same f t a c (m * up e) (down e) C (down_pos e) (sym v.1) ∙ round_of_fin f t m e p)
round_of_value f nan s a c C p v = elim v [ ]
round_of_value f (inf _) s a c C p v = elim v [ ]

pub zero_fits : (f : Format) (s : Bool) → T (fits f (fin s 0 (pos 0)))
unfolding fits
zero_fits f s = tt

pub round_zero : (f : Format) (s : Bool) (c : ℕ) → 0 < c → round f s 0 c ≡ fin s 0 (pos 0)
round_zero f s c C = round_of_value f (fin s 0 (pos 0)) s 0 c C (zero_fits f s) (refl, zero-mul c)

-- ---- the sign

-- x is a number, finite or not, with the sign s
abbrev Signed : Float → Bool → Type 0
Signed x s = T (number x) × (is_negative x ≡ s)

odd_signed : (d : ℕ) (s : Bool) (q k l : ℕ) → Signed (odd d s q k l) s
unfolding odd is_nan is_negative
odd_signed d s zero k l = (tt, refl)
odd_signed d s (suc q) k l = (tt, refl)

units_signed : (f : Format) (s : Bool) (q k : ℕ) → Signed (units f s q k) s
unfolding units
units_signed f s q k = go (ltb (q * 2 ^ k) (2 ^ (low f + suc (emax f))))
  where
    go : (b : Bool) → Signed (cond b (odd (suc (prec f)) s q k (low f)) (inf s)) s
    go true = odd_signed (suc (prec f)) s q k (low f)
    go false = unfold is_nan is_negative in (tt, refl)

round_signed : (f : Format) (s : Bool) (a c : ℕ) → Signed (round f s a c) s
round_signed f s a c =
    let k = size (a * 2 ^ low f / c) - prec f in
    subst (λ (x : Float). Signed x s) (sym (round_is f s a c)) (units_signed f s (closest (a * 2 ^ low f) (c * 2 ^ k)) k)

pub round_number : (f : Format) (s : Bool) (a c : ℕ) → T (number (round f s a c))
round_number f s a c = (round_signed f s a c).0

pub round_sign : (f : Format) (s : Bool) (a c : ℕ) → is_negative (round f s a c) ≡ s
round_sign f s a c = (round_signed f s a c).1

pub round_nonneg : (f : Format) (a c : ℕ) → T (le +0 (round f false a c))
round_nonneg f a c = positive_above (round f false a c) (round_number f false a c) (rw (round_sign f false a c) tt)

pub round_nonpos : (f : Format) (a c : ℕ) → T (le (round f true a c) -0)
round_nonpos f a c = negative_below (round f true a c) (rw (round_sign f true a c) tt)

-- a negative sign is below the other
pub le_of_signs : (x y : Float) → T (number y) → is_negative x ≡ true → is_negative y ≡ false → T (le x y)
le_of_signs x y p s t = Order.float_le_trans x -0 y (negative_below x (rw s tt)) (Order.float_le_trans -0 +0 y (eq→le -0 +0 zeros_equal) (positive_above y p (rw t tt)))

-- with the other sign the result is the negative one
odd_neg : (d : ℕ) (s : Bool) (q k l : ℕ) → odd d (not s) q k l ≡ neg (odd d s q k l)
unfolding odd neg
odd_neg d s zero k l = refl
odd_neg d s (suc q) k l = refl

units_neg : (f : Format) (s : Bool) (q k : ℕ) → units f (not s) q k ≡ neg (units f s q k)
unfolding units neg
units_neg f s q k = go (ltb (q * 2 ^ k) (2 ^ (low f + suc (emax f))))
  where
    go : (b : Bool) → cond b (odd (suc (prec f)) (not s) q k (low f)) (inf (not s)) ≡ neg (cond b (odd (suc (prec f)) s q k (low f)) (inf s))
    go true = odd_neg (suc (prec f)) s q k (low f)
    go false = refl

pub round_neg : (f : Format) (s : Bool) (a c : ℕ) → round f (not s) a c ≡ neg (round f s a c)
round_neg f s a c =
    let k = size (a * 2 ^ low f / c) - prec f in
    round_is f (not s) a c ∙ units_neg f s (closest (a * 2 ^ low f) (c * 2 ^ k)) k ∙ ap neg (sym (round_is f s a c))

pub round_abs : (f : Format) (s : Bool) (a c : ℕ) → abs (round f s a c) ≡ round f false a c
round_abs f s a c = abs_is (round f s a c) ∙ ap (λ (z : Bool). cond z (neg (round f s a c)) (round f s a c)) (round_sign f s a c) ∙ unsigned s
  where
    unsigned : (s : Bool) → cond s (neg (round f s a c)) (round f s a c) ≡ round f false a c
    unsigned true = sym (round_neg f true a c)
    unsigned false = refl

-- ---- rounding keeps the order

pub round_keeps_order : (f : Format) (s : Bool) (a b : ℕ) (t : Bool) (c d : ℕ) → 0 < b → 0 < d → AtMost s a b t c d → T (le (round f s a b) (round f t c d))
round_keeps_order f false a b false c d B D h = round_mono f a b c d B D (omega arith)
round_keeps_order f false a b true c d B D h =
    let z = no_size a b c d B D (omega arith) in
    rw (z.0, z.1, round_zero f false b B, round_zero f true d D) (Order.eq→ge -0 +0 zeros_equal)
round_keeps_order f true a b false c d B D h =
    le_of_signs (round f true a b) (round f false c d) (round_number f false c d) (round_sign f true a b) (round_sign f false c d)
round_keeps_order f true a b true c d B D h =
    rw (round_neg f false a b, round_neg f false c d) (neg_le (round f false c d) (round f false a b) (round_mono f c d a b D B (omega arith)))

-- A value of the format that bounds a fraction bounds its rounded value.
pub round_at_most : (f : Format) (s : Bool) (a b : ℕ) (v : Float) (t : Bool) (c d : ℕ) → 0 < b → 0 < d → T (fits f v) → HasValue v t c d → AtMost s a b t c d
    → T (le (round f s a b) v)
round_at_most f s a b v t c d B D p h k =
    subst (λ (z : Float). T (le (round f s a b) z)) (round_of_value f v t c d D p h) (round_keeps_order f s a b t c d B D k)

pub round_at_least : (f : Format) (s : Bool) (a b : ℕ) (v : Float) (t : Bool) (c d : ℕ) → 0 < b → 0 < d → T (fits f v) → HasValue v t c d → AtMost t c d s a b
    → T (le v (round f s a b))
round_at_least f s a b v t c d B D p h k =
    subst (λ (z : Float). T (le z (round f s a b))) (round_of_value f v t c d D p h) (round_keeps_order f t c d s a b D B k)

-- the same for fractions without a sign
pub round_below : (f : Format) (a b : ℕ) (v : Float) (c d : ℕ) → 0 < b → 0 < d → T (fits f v) → HasValue v false c d → a * d ≤ c * b
    → T (le (round f false a b) v)
round_below f a b v c d B D p h k = round_at_most f false a b v false c d B D p h (omega arith)

pub round_above : (f : Format) (a b : ℕ) (v : Float) (c d : ℕ) → 0 < b → 0 < d → T (fits f v) → HasValue v false c d → c * b ≤ a * d
    → T (le v (round f false a b))
round_above f a b v c d B D p h k = round_at_least f false a b v false c d B D p h (omega arith)

-- A fraction no larger than a finite value of the format rounds to a finite value.
pub finite_any_sign : (f : Format) (s : Bool) (a b : ℕ) → finite (round f s a b) ≡ finite (round f false a b)
finite_any_sign f false a b = refl
finite_any_sign f true a b = ap finite (round_neg f false a b) ∙ neg_finite (round f false a b)

pub round_finite : (f : Format) (s : Bool) (a b : ℕ) (v : Float) (t : Bool) (c d : ℕ) → 0 < b → 0 < d → T (fits f v) → HasValue v t c d → a * d ≤ c * b
    → T (finite (round f s a b))
round_finite f s a b v t c d B D p h k =
    let fv : T (finite (round f t c d)) = rw (round_of_value f v t c d D p h) (value_finite v t c d h) in
    rw (finite_any_sign f s a b)
    (finite_between +0 (round f false a b) (round f false c d) tt (rw (finite_any_sign f t c d) at fv) (round_nonneg f a b) (round_mono f a b c d B D k))

-- ---- `convert`

pub convert_nan : (f : Format) → convert f nan ≡ nan
unfolding convert
convert_nan f = refl

pub convert_inf : (f : Format) (s : Bool) → convert f (inf s) ≡ inf s
unfolding convert
convert_inf f s = refl

pub convert_rounds : (f : Format) (x : Float) (s : Bool) (a c : ℕ) → 0 < c → HasValue x s a c → convert f x ≡ round f s a c
unfolding convert
convert_rounds f (fin t m e) s a c C h =
    ap (λ (z : Bool). round f z (m * up e) (down e)) h.0 ∙ round_same f s (m * up e) (down e) a c (down_pos e) C h.1
convert_rounds f nan s a c C h = elim h [ ]
convert_rounds f (inf _) s a c C h = elim h [ ]

pub convert_fits : (f : Format) (x : Float) → T (fits f x) → convert f x ≡ x
convert_fits f nan p = convert_nan f
convert_fits f (inf s) p = convert_inf f s
convert_fits f (fin s m e) p = convert_rounds f (fin s m e) s (m * up e) (down e) (down_pos e) (refl, refl) ∙ round_of_fin f s m e p

pub convert_in_format : (f : Format) (x : Float) → T (fits f (convert f x))
unfolding convert
convert_in_format f nan = nan-fits f
convert_in_format f (inf s) = inf-fits f s
convert_in_format f (fin s m e) = round-fits f s (m * up e) (down e)

pub convert_number : (f : Format) (x : Float) → number (convert f x) ≡ number x
unfolding convert
convert_number f nan = refl
convert_number f (inf s) = refl
convert_number f (fin s m e) = unfold is_nan in is_true (number (round f s (m * up e) (down e))) (round_number f s (m * up e) (down e))

pub convert_sign : (f : Format) (x : Float) → is_negative (convert f x) ≡ is_negative x
unfolding convert is_negative
convert_sign f nan = refl
convert_sign f (inf s) = refl
convert_sign f (fin s m e) = round_sign f s (m * up e) (down e)

pub convert_neg : (f : Format) (x : Float) → convert f (neg x) ≡ neg (convert f x)
unfolding convert neg
convert_neg f nan = refl
convert_neg f (inf s) = refl
convert_neg f (fin s m e) = round_neg f s (m * up e) (down e)

pub convert_mono : (f : Format) (x y : Float) → T (le x y) → T (le (convert f x) (convert f y))
unfolding convert
convert_mono f nan y h = absurd (subst T (nan_left y).2 h)
convert_mono f (inf true) y h = inf_least (convert f y) (subst T (sym (convert_number f y)) (le_numbers (inf true) y h).1)
convert_mono f (inf false) nan h = h
convert_mono f (inf false) (inf t) h = h
convert_mono f (inf false) (fin t n d) h = absurd (unfold le in h)
convert_mono f (fin s m e) nan h = absurd (unfold le in h)
convert_mono f (fin s m e) (inf true) h = absurd (unfold le in h)
convert_mono f (fin s m e) (inf false) h = inf_greatest (round f s (m * up e) (down e)) (round_number f s (m * up e) (down e))
convert_mono f (fin s m e) (fin t n d) h =
    round_keeps_order f s (m * up e) (down e) t (n * up d) (down d) (down_pos e) (down_pos d)
    (fractions_of_le (fin s m e) (fin t n d) s (m * up e) (down e) t (n * up d) (down d) (refl, refl) (refl, refl) h)

-- a value of the format that bounds x bounds what x is converted to
pub convert_at_most : (f : Format) (x v : Float) → T (fits f v) → T (le x v) → T (le (convert f x) v)
convert_at_most f x v p h = rw (convert_fits f v p) at (convert_mono f x v h)

pub convert_at_least : (f : Format) (x v : Float) → T (fits f v) → T (le v x) → T (le v (convert f x))
convert_at_least f x v p h = rw (convert_fits f v p) at (convert_mono f v x h)

pub convert_size : (f : Format) (x v : Float) → T (fits f v) → T (le (abs x) v) → T (le (abs (convert f x)) v)
convert_size f x v p h =
    let r = (Order.abs_le x v).0 h in
    (Order.abs_le (convert f x) v).1 (convert_at_least f x (neg v) (neg-fits f v p) r.0, convert_at_most f x v p r.1)

pub convert_finite : (f : Format) (x v : Float) → T (fits f v) → T (finite v) → T (le (abs x) v) → T (finite (convert f x))
convert_finite f x v p q h = Order.finite_of_abs (convert f x) v q (convert_size f x v p h)
