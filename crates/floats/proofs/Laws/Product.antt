-- Products and quotients of any format: when they are numbers, their sign, and that their size grows with the factors and shrinks as the divisor grows.
-- So they keep bounds and the order. Assumes nothing.
use Rattle.std.proofs.Common.{◌≡◌, ℕ, zero, suc, ◌*◌, ◌<◌, ◌≤◌, Bool, true, false, cond, not, ◌&&◌, ◌||◌, T, eqb, ◌⊎◌, ℤ, pos, sym, refl, ap, ◌∙◌, subst, ap₂, inl, inr, ⊎_elim, le_trans, le_of_eq, lt_of_lt_of_le, zero-lt-suc, mul_assoc, mul_comm as times_comm, mul-le-mul, mul-pos, zero-mul, mul-one as times_one, mul_left_comm, arith, eqb→eq, T_not}
use native.Mathlib.Nat.{eq_of_mul-eq-mul_right, mul-mul-mul_comm}
use mathlib.Core.Bool.{beq}
use lib.Dec.{not_T}
use lib.Ieee.{Float, nan, inf, fin, Format, binary32, binary64, up, down, unlike, round, neg, mul, div, le, lt, eq, fits, is_nan}
use lib.Ieee.Bits.{is_false}
use lib.Ieee.Exact.{HasValue}
use lib.Ieee.Fits.{up_pos, down_pos, and_l}
use lib.Ieee.Order.{round_mono}
use lib.Ieee.Scale.{finite}
use lib.Ieee.Positive.{num, den, den_pos, first_pos}
use Rattle.floats.specs.Compare.{abs, is_negative}
use Rattle.floats.proofs.Laws.Order
use Rattle.floats.proofs.Laws.Order.{number, +0, -0}
use Rattle.floats.proofs.Laws.Round.{round_number, round_sign, round_neg, round_abs, round_zero, le_of_signs, round_of_value, nonzero_size, own_fraction, fractions_of_le, value_abs}
use Rattle.floats.proofs.Laws.Fractions.{mul_rounds, div_rounds, div_fin}

-- ---- signs

unlike_comm : (s t : Bool) → unlike s t ≡ unlike t s
unlike_comm true true = refl
unlike_comm true false = refl
unlike_comm false true = refl
unlike_comm false false = refl

unlike_not : (s t : Bool) → unlike (not s) t ≡ not (unlike s t)
unlike_not true true = refl
unlike_not true false = refl
unlike_not false true = refl
unlike_not false false = refl

pub unlike_self : (s : Bool) → unlike s s ≡ false
unlike_self true = refl
unlike_self false = refl

pub unlike_false : (s : Bool) → unlike s false ≡ s
unlike_false true = refl
unlike_false false = refl

-- ---- the order of the factors does not matter

pub float_mul_comm : (f : Format) (x y : Float) → mul f x y ≡ mul f y x
unfolding mul
float_mul_comm f nan nan = refl
float_mul_comm f nan (inf t) = refl
float_mul_comm f nan (fin t n d) = refl
float_mul_comm f (inf s) nan = refl
float_mul_comm f (inf s) (inf t) = ap inf (unlike_comm s t)
float_mul_comm f (inf s) (fin t n d) = ap (λ (b : Bool). cond (eqb n 0) nan (inf b)) (unlike_comm s t)
float_mul_comm f (fin s m e) nan = refl
float_mul_comm f (fin s m e) (inf t) = ap (λ (b : Bool). cond (eqb m 0) nan (inf b)) (unlike_comm s t)
float_mul_comm f (fin s m e) (fin t n d) =
    ap (λ (b : Bool). round f b (m * up e * (n * up d)) (down e * down d)) (unlike_comm s t)
    ∙ ap₂ (λ (a c : ℕ). round f (unlike t s) a c) (times_comm (m * up e) (n * up d)) (times_comm (down e) (down d))

-- ---- when a product or a quotient is a number

-- an infinity and a zero
abbrev pub void_product : Float → Float → Bool
void_product nan y = false
void_product (inf s) nan = false
void_product (inf s) (inf t) = false
void_product (inf s) (fin t n d) = eqb n 0
void_product (fin s m e) nan = false
void_product (fin s m e) (inf t) = eqb m 0
void_product (fin s m e) (fin t n d) = false

-- two infinities, or two zeros
abbrev pub void_quotient : Float → Float → Bool
void_quotient nan y = false
void_quotient (inf s) nan = false
void_quotient (inf s) (inf t) = true
void_quotient (inf s) (fin t n d) = false
void_quotient (fin s m e) nan = false
void_quotient (fin s m e) (inf t) = false
void_quotient (fin s m e) (fin t n d) = eqb n 0 && eqb m 0

nan_test : (b : Bool) (x : Float) → is_nan x ≡ false → is_nan (cond b nan x) ≡ b
unfolding is_nan
nan_test true x e = refl
nan_test false x e = e

round_no_nan : (f : Format) (s : Bool) (a c : ℕ) → is_nan (round f s a c) ≡ false
round_no_nan f s a c = is_false (is_nan (round f s a c)) (round_number f s a c)

pub mul_nan : (f : Format) (x y : Float) → is_nan (mul f x y) ≡ (is_nan x || is_nan y || void_product x y)
unfolding mul is_nan
mul_nan f nan y = refl
mul_nan f (inf s) nan = refl
mul_nan f (inf s) (inf t) = refl
mul_nan f (inf s) (fin t n d) = nan_test (eqb n 0) (inf (unlike s t)) refl
mul_nan f (fin s m e) nan = refl
mul_nan f (fin s m e) (inf t) = nan_test (eqb m 0) (inf (unlike s t)) refl
mul_nan f (fin s m e) (fin t n d) = round_no_nan f (unlike s t) (m * up e * (n * up d)) (down e * down d)

pub div_nan : (f : Format) (x y : Float) → is_nan (div f x y) ≡ (is_nan x || is_nan y || void_quotient x y)
unfolding div is_nan
div_nan f nan y = refl
div_nan f (inf s) nan = refl
div_nan f (inf s) (inf t) = refl
div_nan f (inf s) (fin t n d) = refl
div_nan f (fin s m e) nan = refl
div_nan f (fin s m e) (inf t) = refl
div_nan f (fin s m e) (fin t n d) = go (eqb n 0)
  where
    go : (b : Bool) → is_nan (cond b (cond (eqb m 0) nan (inf (unlike s t))) (round f (unlike s t) (m * up e * down d) (n * up d * down e))) ≡ (b && eqb m 0)
    go true = nan_test (eqb m 0) (inf (unlike s t)) refl
    go false = round_no_nan f (unlike s t) (m * up e * down d) (n * up d * down e)

or_numbers : (a b c : Bool) → T (not (a || b || c)) → T (not a) × T (not b)
or_numbers false false c h = (tt, tt)
or_numbers false true c h = elim h [ ]
or_numbers true b c h = elim h [ ]

pub mul_numbers : (f : Format) (x y : Float) → T (number (mul f x y)) → T (number x) × T (number y)
mul_numbers f x y p = or_numbers (is_nan x) (is_nan y) (void_product x y) (rw (mul_nan f x y) at p)

pub div_numbers : (f : Format) (x y : Float) → T (number (div f x y)) → T (number x) × T (number y)
div_numbers f x y p = or_numbers (is_nan x) (is_nan y) (void_quotient x y) (rw (div_nan f x y) at p)

pub mul_number : (f : Format) (x y : Float) → T (finite x) → T (finite y) → T (number (mul f x y))
mul_number f (fin s m e) (fin t n d) p q = rw (mul_nan f (fin s m e) (fin t n d)) (unfold is_nan in tt)
mul_number f nan y p q = elim p [ ]
mul_number f (inf _) y p q = elim p [ ]
mul_number f (fin s m e) nan p q = elim q [ ]
mul_number f (fin s m e) (inf _) p q = elim q [ ]

pub div_number : (f : Format) (x y : Float) → T (finite x) → T (number y) → T (not (eq y +0)) → T (number (div f x y))
div_number f (fin s m e) nan p q z = absurd (unfold is_nan in q)
div_number f (fin s m e) (inf t) p q z = unfold div is_nan in tt
div_number f (fin s m e) (fin t n d) p q z =
    rw (div_fin f s m e t n d (first_pos n (up d) (nonzero_size (fin t n d) t (n * up d) (down d) (down_pos d) (refl, refl) z)))
    (round_number f (unlike s t) (m * up e * down d) (n * up d * down e))
div_number f nan y p q z = elim p [ ]
div_number f (inf _) y p q z = elim p [ ]

-- ---- signs

inf_sign : (b s : Bool) → T (number (cond b nan (inf s))) → is_negative (cond b nan (inf s)) ≡ s
unfolding is_nan is_negative
inf_sign false s p = refl
inf_sign true s p = elim p [ ]

pub mul_sign : (f : Format) (x y : Float) → T (number (mul f x y)) → is_negative (mul f x y) ≡ unlike (is_negative x) (is_negative y)
unfolding mul is_nan is_negative
mul_sign f (inf s) (inf t) p = refl
mul_sign f (inf s) (fin t n d) p = inf_sign (eqb n 0) (unlike s t) p
mul_sign f (fin s m e) (inf t) p = inf_sign (eqb m 0) (unlike s t) p
mul_sign f (fin s m e) (fin t n d) p = round_sign f (unlike s t) (m * up e * (n * up d)) (down e * down d)
mul_sign f nan y p = elim p [ ]
mul_sign f (inf s) nan p = elim p [ ]
mul_sign f (fin s m e) nan p = elim p [ ]

pub div_sign : (f : Format) (x y : Float) → T (number (div f x y)) → is_negative (div f x y) ≡ unlike (is_negative x) (is_negative y)
unfolding div is_nan is_negative
div_sign f (inf s) (fin t n d) p = refl
div_sign f (fin s m e) (inf t) p = refl
div_sign f (fin s m e) (fin t n d) p = go (eqb n 0) p
  where
    go : (b : Bool) → T (number (cond b (cond (eqb m 0) nan (inf (unlike s t))) (round f (unlike s t) (m * up e * down d) (n * up d * down e))))
        → is_negative (cond b (cond (eqb m 0) nan (inf (unlike s t))) (round f (unlike s t) (m * up e * down d) (n * up d * down e))) ≡ unlike s t
    go true p = inf_sign (eqb m 0) (unlike s t) p
    go false p = round_sign f (unlike s t) (m * up e * down d) (n * up d * down e)
div_sign f nan y p = elim p [ ]
div_sign f (inf s) nan p = elim p [ ]
div_sign f (inf s) (inf t) p = elim p [ ]
div_sign f (fin s m e) nan p = elim p [ ]

neg_if : (b s : Bool) → cond b nan (inf (not s)) ≡ neg (cond b nan (inf s))
unfolding neg
neg_if true s = refl
neg_if false s = refl

pub mul_neg : (f : Format) (x y : Float) → mul f (neg x) y ≡ neg (mul f x y)
unfolding mul neg
mul_neg f nan y = refl
mul_neg f (inf s) nan = refl
mul_neg f (inf s) (inf t) = ap inf (unlike_not s t)
mul_neg f (inf s) (fin t n d) = ap (λ (b : Bool). cond (eqb n 0) nan (inf b)) (unlike_not s t) ∙ neg_if (eqb n 0) (unlike s t)
mul_neg f (fin s m e) nan = refl
mul_neg f (fin s m e) (inf t) = ap (λ (b : Bool). cond (eqb m 0) nan (inf b)) (unlike_not s t) ∙ neg_if (eqb m 0) (unlike s t)
mul_neg f (fin s m e) (fin t n d) =
    ap (λ (b : Bool). round f b (m * up e * (n * up d)) (down e * down d)) (unlike_not s t)
    ∙ round_neg f (unlike s t) (m * up e * (n * up d)) (down e * down d)

pub mul_neg_right : (f : Format) (x y : Float) → mul f x (neg y) ≡ neg (mul f x y)
mul_neg_right f x y = float_mul_comm f x (neg y) ∙ mul_neg f y x ∙ ap neg (float_mul_comm f y x)

-- a number and its opposite have one square
pub neg_square : (f : Format) (x : Float) → mul f (neg x) (neg x) ≡ mul f x x
neg_square f x = mul_neg f x (neg x) ∙ ap neg (mul_neg_right f x x) ∙ Order.neg_neg (mul f x x)

pub div_neg : (f : Format) (x y : Float) → div f (neg x) y ≡ neg (div f x y)
unfolding div neg
div_neg f nan y = refl
div_neg f (inf s) nan = refl
div_neg f (inf s) (inf t) = refl
div_neg f (inf s) (fin t n d) = ap inf (unlike_not s t)
div_neg f (fin s m e) nan = refl
div_neg f (fin s m e) (inf t) = ap (λ (b : Bool). fin b 0 (pos 0)) (unlike_not s t)
div_neg f (fin s m e) (fin t n d) =
    ap (λ (u : Bool). cond (eqb n 0) (cond (eqb m 0) nan (inf u)) (round f u (m * up e * down d) (n * up d * down e))) (unlike_not s t) ∙ go (eqb n 0)
  where
    go : (b : Bool) → cond b (cond (eqb m 0) nan (inf (not (unlike s t)))) (round f (not (unlike s t)) (m * up e * down d) (n * up d * down e))
        ≡ neg (cond b (cond (eqb m 0) nan (inf (unlike s t))) (round f (unlike s t) (m * up e * down d) (n * up d * down e)))
    go true = neg_if (eqb m 0) (unlike s t)
    go false = round_neg f (unlike s t) (m * up e * down d) (n * up d * down e)

-- ---- zeros

zero_is : (s : Bool) → T (eq (fin s 0 (pos 0)) +0)
unfolding eq
zero_is true = tt
zero_is false = tt

zero_value : (x : Float) → T (eq x +0) → HasValue x (is_negative x) 0 1
unfolding eq is_negative
zero_value (fin s m e) h = (refl, eqb→eq (m * up e * 1) (0 * down e) (and_l (eqb (m * up e * 1) (0 * down e)) (beq s false || eqb (m * up e * 1) 0) h))
zero_value nan h = elim h [ ]
zero_value (inf _) h = elim h [ ]

pub zero_digits : (s : Bool) (m : ℕ) (e : ℤ) → T (eq (fin s m e) +0) → m ≡ 0
zero_digits s m e h =
    eq_of_mul-eq-mul_right (up e) (up_pos e) m 0 (sym (times_one (m * up e)) ∙ (zero_value (fin s m e) h).1 ∙ zero-mul (down e) ∙ sym (zero-mul (up e)))

round_of_zero : (f : Format) (s : Bool) (a c : ℕ) → 0 < c → a ≡ 0 → T (eq (round f s a c) +0)
round_of_zero f s a c C z = rw (z, round_zero f s c C) (zero_is s)

pub no_digits : (m u v : ℕ) → m ≡ 0 → m * u * v ≡ 0
no_digits m u v z = ap (λ (k : ℕ). k * u * v) z ∙ ap (λ (k : ℕ). k * v) (zero-mul u) ∙ zero-mul v

pub mul_zero : (f : Format) (x y : Float) → T (eq x +0) → T (number (mul f x y)) → T (eq (mul f x y) +0)
unfolding mul is_nan eq
mul_zero f (fin s m e) (inf t) h p = absurd (rw (zero_digits s m e h) at p)
mul_zero f (fin s m e) (fin t n d) h p = round_of_zero f (unlike s t) (m * up e * (n * up d)) (down e * down d) (mul-pos (down_pos e) (down_pos d)) (no_digits m (up e) (n * up d) (zero_digits s m e h))
mul_zero f nan y h p = elim h [ ]
mul_zero f (inf _) y h p = elim h [ ]
mul_zero f (fin s m e) nan h p = elim p [ ]

pub mul_zero_right : (f : Format) (x y : Float) → T (eq y +0) → T (number (mul f x y)) → T (eq (mul f x y) +0)
mul_zero_right f x y h p = rw (float_mul_comm f x y) (mul_zero f y x h (rw (float_mul_comm f x y) at p))

pub div_zero : (f : Format) (x y : Float) → T (eq x +0) → T (number (div f x y)) → T (eq (div f x y) +0)
unfolding div is_nan eq
div_zero f (fin s m e) (inf t) h p = zero_is (unlike s t)
div_zero f (fin s m e) (fin t zero d) h p = absurd (rw (zero_digits s m e h) at p)
div_zero f (fin s m e) (fin t (suc n) d) h p =
    rw (div_fin f s m e t (suc n) d (zero-lt-suc n))
    (round_of_zero f (unlike s t) (m * up e * down d) (suc n * up d * down e) (mul-pos (mul-pos (zero-lt-suc n) (up_pos d)) (down_pos e)) (no_digits m (up e) (down d) (zero_digits s m e h)))
div_zero f nan y h p = elim h [ ]
div_zero f (inf _) y h p = elim h [ ]
div_zero f (fin s m e) nan h p = elim p [ ]

-- ---- sizes

inf_if : (b s : Bool) → T (number (cond b nan (inf s))) → abs (cond b nan (inf s)) ≡ inf false
unfolding is_nan abs
inf_if false s p = refl
inf_if true s p = elim p [ ]

mul_inf : (f : Format) (s : Bool) (y : Float) → T (number (mul f (inf s) y)) → abs (mul f (inf s) y) ≡ inf false
unfolding mul is_nan abs
mul_inf f s (inf t) p = refl
mul_inf f s (fin t n d) p = inf_if (eqb n 0) (unlike s t) p
mul_inf f s nan p = elim p [ ]

size_order : (x y : Float) → T (finite x) → T (finite y) → T (le (abs x) (abs y)) → num x * den y ≤ num y * den x
size_order x y p q h =
    let l = fractions_of_le (abs x) (abs y) false (num x) (den x) false (num y) (den y) (value_abs x (is_negative x) (num x) (den x) (own_fraction x p)) (value_abs y (is_negative y) (num y) (den y) (own_fraction y q)) h in
    omega arith

own_size : (x : Float) → T (number x) → T (le (abs x) (abs x))
own_size x p = Order.float_le_refl (abs x) (subst T (sym (Order.abs_number x)) p)

under_inf : (x : Float) → T (number x) → T (le (abs x) (inf false))
under_inf x p = Order.inf_greatest (abs x) (subst T (sym (Order.abs_number x)) p)

mul_size_is : (f : Format) (x y : Float) → T (finite x) → T (finite y) → abs (mul f x y) ≡ round f false (num x * num y) (den x * den y)
mul_size_is f x y p q =
    ap abs (mul_rounds f x y (is_negative x) (num x) (den x) (is_negative y) (num y) (den y) (den_pos x) (den_pos y) (own_fraction x p) (own_fraction y q))
    ∙ round_abs f (unlike (is_negative x) (is_negative y)) (num x * num y) (den x * den y)

-- The size of a product grows with the sizes of the factors.
pub mul_sizes : (f : Format) (x x' y y' : Float) → T (le (abs x) (abs x')) → T (le (abs y) (abs y')) → T (number (mul f x y)) → T (number (mul f x' y'))
    → T (le (abs (mul f x y)) (abs (mul f x' y')))
mul_sizes f x nan y y' h k p q = absurd (subst T (Order.nan_right (abs x)).2 (unfold abs in h))
mul_sizes f x (inf s) y y' h k p q = rw (mul_inf f s y' q) (under_inf (mul f x y) p)
mul_sizes f x (fin s m e) y nan h k p q = absurd (subst T (Order.nan_right (abs y)).2 (unfold abs in k))
mul_sizes f x (fin s m e) y (inf t) h k p q =
    rw (float_mul_comm f (fin s m e) (inf t), mul_inf f t (fin s m e) (rw float_mul_comm q)) (under_inf (mul f x y) p)
mul_sizes f x (fin s m e) y (fin t n d) h k p q =
    let X = fin s m e in
    let Y = fin t n d in
    let a = Order.finite_of_abs x (abs X) (unfold abs in tt) h in
    let b = Order.finite_of_abs y (abs Y) (unfold abs in tt) k in
    rw (mul_size_is f x y a b, mul_size_is f X Y tt tt)
    (round_mono f (num x * num y) (den x * den y) (num X * num Y) (den X * den Y) (mul-pos (den_pos x) (den_pos y)) (mul-pos (den_pos X) (den_pos Y))
    (le_trans (le_of_eq (mul-mul-mul_comm (num x) (num y) (den X) (den Y)))
    (le_trans (mul-le-mul (size_order x X a tt h) (size_order y Y b tt k)) (le_of_eq (mul-mul-mul_comm (num X) (den x) (num Y) (den y))))))

div_inf : (f : Format) (s : Bool) (y : Float) → T (number (div f (inf s) y)) → abs (div f (inf s) y) ≡ inf false
unfolding div is_nan abs
div_inf f s (fin t n d) p = refl
div_inf f s nan p = elim p [ ]
div_inf f s (inf _) p = elim p [ ]

div_by_zero : (f : Format) (s : Bool) (m : ℕ) (e : ℤ) (t : Bool) (d : ℤ) → T (number (div f (fin s m e) (fin t 0 d)))
    → abs (div f (fin s m e) (fin t 0 d)) ≡ inf false
unfolding div
div_by_zero f s m e t d p = inf_if (eqb m 0) (unlike s t) p

div_by_inf : (f : Format) (x : Float) (t : Bool) → T (finite x) → abs (div f x (inf t)) ≡ +0
unfolding div abs
div_by_inf f (fin s m e) t p = refl
div_by_inf f nan t p = elim p [ ]
div_by_inf f (inf _) t p = elim p [ ]

div_size_is : (f : Format) (x y : Float) → T (finite x) → T (finite y) → 0 < num y → abs (div f x y) ≡ round f false (num x * den y) (num y * den x)
div_size_is f x y p q h =
    ap abs (div_rounds f x y (is_negative x) (num x) (den x) (is_negative y) (num y) (den y) (den_pos x) (den_pos y) h (own_fraction x p) (own_fraction y q))
    ∙ round_abs f (unlike (is_negative x) (is_negative y)) (num x * den y) (num y * den x)

-- x / dx ≤ z / dz and w / dw ≤ y / dy, so (x / dx) / (y / dy) ≤ (z / dz) / (w / dw)
cross : (x dx y dy z dz w dw : ℕ) → x * dz ≤ z * dx → w * dy ≤ y * dw → x * dy * (w * dz) ≤ z * dw * (y * dx)
cross x dx y dy z dz w dw h k = simp (mul_assoc, times_comm, mul_left_comm) (simp (mul_assoc, times_comm, mul_left_comm) at (mul-le-mul h k))

-- The size of a quotient grows with the size of the dividend, and shrinks as that of the divisor grows.
pub div_sizes : (f : Format) (x x' y y' : Float) → T (le (abs x) (abs x')) → T (le (abs y') (abs y)) → T (number (div f x y)) → T (number (div f x' y'))
    → T (le (abs (div f x y)) (abs (div f x' y')))
div_sizes f x nan y y' h k p q = absurd (subst T (Order.nan_right (abs x)).2 (unfold abs in h))
div_sizes f x (inf s) y y' h k p q = rw (div_inf f s y' q) (under_inf (div f x y) p)
div_sizes f x (fin s m e) y nan h k p q = absurd (subst T (Order.nan_left (abs y)).2 (unfold abs in k))
div_sizes f x (fin s m e) nan (inf t) h k p q = absurd (subst T (Order.nan_right (abs (inf t))).2 (unfold abs in k))
div_sizes f x (fin s m e) (inf u) (inf t) h k p q = rw (div_by_inf f x u (Order.finite_of_abs x (abs (fin s m e)) (unfold abs in tt) h), div_by_inf f (fin s m e) t tt) (Order.float_le_refl +0 (Order.finite→number +0 tt))
div_sizes f x (fin s m e) (fin u i c) (inf t) h k p q = absurd (unfold le abs in k)
div_sizes f x (fin s m e) y (fin t zero d) h k p q = rw (div_by_zero f s m e t d q) (under_inf (div f x y) p)
div_sizes f x (fin s m e) nan (fin t (suc n) d) h k p q = absurd (unfold le abs in k)
div_sizes f x (fin s m e) (inf u) (fin t (suc n) d) h k p q =
    rw (div_by_inf f x u (Order.finite_of_abs x (abs (fin s m e)) (unfold abs in tt) h)) (Order.abs_above_zero (div f (fin s m e) (fin t (suc n) d)) q)
div_sizes f x (fin s m e) (fin u i c) (fin t (suc n) d) h k p q =
    let X = fin s m e in
    let y = fin u i c in
    let Y = fin t (suc n) d in
    let a = Order.finite_of_abs x (abs X) (unfold abs in tt) h in
    let N : 0 < num Y = mul-pos (zero-lt-suc n) (up_pos d) in
    let r = size_order Y y tt tt k in
    let M : 0 < num y = first_pos (num y) (den Y) (lt_of_lt_of_le (mul-pos N (den_pos y)) r) in
    rw (div_size_is f x y a tt M, div_size_is f X Y tt tt N)
    (round_mono f (num x * den y) (num y * den x) (num X * den Y) (num Y * den X) (mul-pos M (den_pos x)) (mul-pos N (den_pos X))
    (cross (num x) (den x) (num y) (den y) (num X) (den X) (num Y) (den Y) (size_order x X a tt h) r))

-- ---- from sizes to the order

positive_abs : (x : Float) → is_negative x ≡ false → abs x ≡ x
positive_abs x e = Order.abs_is x ∙ ap (λ (s : Bool). cond s (neg x) x) e

negative_abs : (x : Float) → is_negative x ≡ true → abs x ≡ neg x
negative_abs x e = Order.abs_is x ∙ ap (λ (s : Bool). cond s (neg x) x) e

positive_above : (x : Float) → T (number x) → is_negative x ≡ false → T (le +0 x)
positive_above x p e = Order.positive_above x p (rw e tt)

negative_below : (x : Float) → is_negative x ≡ true → T (le x +0)
negative_below x e = Order.float_le_trans x -0 +0 (Order.negative_below x (rw e tt)) (Order.eq→le -0 +0 Order.zeros_equal)

-- what is at least zero has the positive sign, or it is a zero
positive_or_zero : (x : Float) → T (le +0 x) → (is_negative x ≡ false) ⊎ T (eq x +0)
positive_or_zero x h = go (is_negative x) refl
  where
    go : (s : Bool) → is_negative x ≡ s → (is_negative x ≡ false) ⊎ T (eq x +0)
    go true e = inr (Order.float_le_antisymm x +0 (negative_below x e) h)
    go false e = inl e

neg_number : (x : Float) → T (number x) → T (number (neg x))
neg_number x p = subst T (sym (Order.neg_number x)) p

nonneg_neg : (x : Float) → T (le x +0) → T (le +0 (neg x))
unfolding neg
nonneg_neg x h = Order.float_le_trans +0 -0 (neg x) (Order.eq→ge -0 +0 Order.zeros_equal) (Order.neg_le x +0 h)

nonpos_neg : (x : Float) → T (le +0 (neg x)) → T (le x +0)
unfolding neg
nonpos_neg x h = Order.float_le_trans x -0 +0 (rw Order.neg_neg at (Order.neg_le +0 (neg x) h)) (Order.eq→le -0 +0 Order.zeros_equal)

-- a zero has no size
abs_zero : (x : Float) → T (eq x +0) → T (le (abs x) +0)
unfolding neg
abs_zero x h = (Order.abs_le x +0).1 (Order.float_le_trans -0 +0 x (Order.eq→le -0 +0 Order.zeros_equal) (Order.eq→ge x +0 h), Order.eq→le x +0 h)

zero_of_abs : (x : Float) → T (le (abs x) +0) → T (eq x +0)
unfolding neg
zero_of_abs x h =
    let r = (Order.abs_le x +0).0 h in
    Order.float_le_antisymm x +0 r.1 (Order.float_le_trans +0 -0 x (Order.eq→ge -0 +0 Order.zeros_equal) r.0)

pub abs_nonzero : (x : Float) → T (lt +0 (abs x)) → T (not (eq x +0))
abs_nonzero x h = not_T (eq x +0) (λ z. Order.lt_excludes +0 (abs x) h (abs_zero x z))

pub nonzero_abs : (x : Float) → T (number x) → T (not (eq x +0)) → T (lt +0 (abs x))
nonzero_abs x p z = Order.lt_by +0 (abs x) (Order.finite→number +0 tt) (subst T (sym (Order.abs_number x)) p) (λ h. T_not (eq x +0) z (zero_of_abs x h))

-- what is at least zero is its own size
abs_nonneg : (x : Float) → T (le +0 x) → T (le (abs x) x)
unfolding neg
abs_nonneg x h = (Order.abs_le x x).1 (Order.float_le_trans (neg x) -0 x (Order.neg_le +0 x h) (Order.float_le_trans -0 +0 x (Order.eq→le -0 +0 Order.zeros_equal) h), Order.float_le_refl x (Order.le_numbers +0 x h).1)

zeros_le : (x y : Float) → T (eq x +0) → T (eq y +0) → T (le x y)
zeros_le x y p q = Order.eq→le x y (Order.eq_trans x +0 y p (Order.eq_sym y +0 q))

-- A function that keeps the sign, takes a zero to a zero and keeps the order of sizes keeps the order, where its values are numbers.
module _ (g : Float → Float) (sign : (x : Float) → T (number (g x)) → is_negative (g x) ≡ is_negative x) (to_zero : (x : Float) → T (eq x +0) → T (number (g x)) → T (eq (g x) +0))
    (sizes : (x y : Float) → T (le (abs x) (abs y)) → T (number (g x)) → T (number (g y)) → T (le (abs (g x)) (abs (g y)))) where
  mono_of_sizes : (x y : Float) → T (le x y) → T (number (g x)) → T (number (g y)) → T (le (g x) (g y))
  mono_of_sizes x y h p q = go (is_negative x) (is_negative y) refl refl
    where
      go : (s t : Bool) → is_negative x ≡ s → is_negative y ≡ t → T (le (g x) (g y))
      go false false a b =
          rw (positive_abs (g x) (sign x p ∙ a), positive_abs (g y) (sign y q ∙ b)) at (sizes x y (rw (positive_abs x a, positive_abs y b) h) p q)
      go true true a b =
          let k : T (le (abs y) (abs x)) = rw (negative_abs x a, negative_abs y b) (Order.neg_le x y h) in
          subst T (Order.le_neg (g y) (g x)) (rw (negative_abs (g x) (sign x p ∙ a), negative_abs (g y) (sign y q ∙ b)) at (sizes y x k q p))
      go true false a b = le_of_signs (g x) (g y) q (sign x p ∙ a) (sign y q ∙ b)
      go false true a b =
          let n = Order.le_numbers x y h in
          let l = positive_above x n.0 a in
          let r = negative_below y b in
          zeros_le (g x) (g y) (to_zero x (Order.float_le_antisymm x +0 (Order.float_le_trans x y +0 h r) l) p) (to_zero y (Order.float_le_antisymm y +0 r (Order.float_le_trans +0 x y l h)) q)

-- ---- products and quotients of values that are at least zero

pub mul_nonneg : (f : Format) (x y : Float) → T (le +0 x) → T (le +0 y) → T (number (mul f x y)) → T (le +0 (mul f x y))
mul_nonneg f x y h k p = ⊎_elim (λ e. ⊎_elim (λ e'. both e e') (λ z. Order.eq→ge (mul f x y) +0 (mul_zero_right f x y z p)) (positive_or_zero y k)) (λ z. Order.eq→ge (mul f x y) +0 (mul_zero f x y z p)) (positive_or_zero x h)
  where
    both : is_negative x ≡ false → is_negative y ≡ false → T (le +0 (mul f x y))
    both e e' = positive_above (mul f x y) p (mul_sign f x y p ∙ ap₂ unlike e e')

pub mul_nonpos : (f : Format) (x y : Float) → T (le x +0) → T (le +0 y) → T (number (mul f x y)) → T (le (mul f x y) +0)
mul_nonpos f x y h k p = nonpos_neg (mul f x y) (rw (mul_neg f x y) at (mul_nonneg f (neg x) y (nonneg_neg x h) k (rw (mul_neg f x y) (neg_number (mul f x y) p))))

pub square_number : (f : Format) (x : Float) → T (number x) → T (number (mul f x x))
unfolding mul is_nan
square_number f (inf s) p = tt
square_number f (fin s m e) p = mul_number f (fin s m e) (fin s m e) tt tt
square_number f nan p = elim p [ ]

pub square_nonneg : (f : Format) (x : Float) → T (number x) → T (le +0 (mul f x x))
square_nonneg f x p = let q = square_number f x p in positive_above (mul f x x) q (mul_sign f x x q ∙ unlike_self (is_negative x))

pub above_sign : (x : Float) → T (lt +0 x) → is_negative x ≡ false
above_sign x h = go (is_negative x) refl
  where
    go : (s : Bool) → is_negative x ≡ s → is_negative x ≡ false
    go true e = absurd (Order.lt_excludes +0 x h (negative_below x e))
    go false e = e

pub div_nonneg : (f : Format) (x y : Float) → T (le +0 x) → T (lt +0 y) → T (number (div f x y)) → T (le +0 (div f x y))
div_nonneg f x y h k p = ⊎_elim (λ e. positive_above (div f x y) p (div_sign f x y p ∙ ap₂ unlike e (above_sign y k))) (λ z. Order.eq→ge (div f x y) +0 (div_zero f x y z p)) (positive_or_zero x h)

pub div_nonpos : (f : Format) (x y : Float) → T (le x +0) → T (lt +0 y) → T (number (div f x y)) → T (le (div f x y) +0)
div_nonpos f x y h k p = nonpos_neg (div f x y) (rw (div_neg f x y) at (div_nonneg f (neg x) y (nonneg_neg x h) k (rw (div_neg f x y) (neg_number (div f x y) p))))

-- ---- products keep the order

pub mul_mono : (f : Format) (x y c : Float) → T (le +0 c) → T (le x y) → T (number (mul f x c)) → T (number (mul f y c)) → T (le (mul f x c) (mul f y c))
mul_mono f x y c h k p q = ⊎_elim positive zero (positive_or_zero c h)
  where
    positive : is_negative c ≡ false → T (le (mul f x c) (mul f y c))
    positive e =
        mono_of_sizes (λ (x : Float). mul f x c) (λ x p. mul_sign f x c p ∙ ap (unlike (is_negative x)) e ∙ unlike_false (is_negative x)) (λ x z p. mul_zero f x c z p)
        (λ x y l p q. mul_sizes f x y c c l (own_size c (Order.le_numbers +0 c h).1) p q) x y k p q

    zero : T (eq c +0) → T (le (mul f x c) (mul f y c))
    zero e = zeros_le (mul f x c) (mul f y c) (mul_zero_right f x c e p) (mul_zero_right f y c e q)

-- a factor that is not positive turns the order round
pub mul_anti : (f : Format) (x y c : Float) → T (le c +0) → T (le x y) → T (number (mul f x c)) → T (number (mul f y c)) → T (le (mul f y c) (mul f x c))
mul_anti f x y c h k p q =
    subst T (Order.le_neg (mul f x c) (mul f y c))
    (rw (mul_neg_right f x c, mul_neg_right f y c) at (mul_mono f x y (neg c) (nonneg_neg c h) k (rw (mul_neg_right f x c) (neg_number (mul f x c) p)) (rw (mul_neg_right f y c) (neg_number (mul f y c) q))))

-- ---- quotients

pub div_mono : (f : Format) (x y c : Float) → T (lt +0 c) → T (le x y) → T (number (div f x c)) → T (number (div f y c)) → T (le (div f x c) (div f y c))
div_mono f x y c h k p q =
    mono_of_sizes (λ (x : Float). div f x c) (λ x p. div_sign f x c p ∙ ap (unlike (is_negative x)) (above_sign c h) ∙ unlike_false (is_negative x)) (λ x z p. div_zero f x c z p)
    (λ x y l p q. div_sizes f x y c c l (own_size c (Order.lt_numbers +0 c h).1) p q) x y k p q

-- ---- one

abbrev pub +1 : Float
+1 = fin false 1 (pos 0)

pub one_fits : (f : Format) → T (fits f +1)
unfolding fits
one_fits binary32 = tt
one_fits binary64 = tt

pub mul-one : (f : Format) (x : Float) → T (fits f x) → mul f x +1 ≡ x
unfolding mul
mul-one f nan p = refl
mul-one f (inf s) p = ap inf (unlike_false s)
mul-one f (fin s m e) p =
    round_of_value f (fin s m e) (unlike s false) (m * up e * 1) (down e * 1) (mul-pos (down_pos e) (zero-lt-suc 0)) p (sym (unlike_false s), omega arith)

pub div_one : (f : Format) (x : Float) → T (fits f x) → div f x +1 ≡ x
unfolding div
div_one f nan p = refl
div_one f (inf s) p = ap inf (unlike_false s)
div_one f (fin s m e) p =
    round_of_value f (fin s m e) (unlike s false) (m * up e * 1) (1 * down e) (mul-pos (zero-lt-suc 0) (down_pos e)) p (sym (unlike_false s), omega arith)

pub div_self : (f : Format) (x : Float) → T (finite x) → T (not (eq x +0)) → div f x x ≡ +1
div_self f x p z =
    let s = is_negative x in
    let a = num x in
    let c = den x in
    let v = own_fraction x p in
    let A = nonzero_size x s a c (den_pos x) v z in
    div_rounds f x x s a c s a c (den_pos x) (den_pos x) A v v
    ∙ round_of_value f +1 (unlike s s) (a * c) (a * c) (mul-pos A (den_pos x)) (one_fits f) (sym (unlike_self s), omega arith)

-- ---- bounds

in_size : (x a : Float) → T (le (abs x) a) → T (le (abs x) (abs a))
in_size x a h = Order.float_le_trans (abs x) a (abs a) h (Order.le_abs a (Order.le_numbers (abs x) a h).1)

bound_nonneg : (x a : Float) → T (le (abs x) a) → T (le +0 a)
bound_nonneg x a h = Order.float_le_trans +0 (abs x) a (Order.abs_above_zero x (subst T (Order.abs_number x) (Order.le_numbers (abs x) a h).0)) h

-- A bound for each factor gives one for the product.
pub mul_size : (f : Format) (x y a b : Float) → T (le (abs x) a) → T (le (abs y) b) → T (number (mul f x y)) → T (number (mul f a b))
    → T (le (abs (mul f x y)) (mul f a b))
mul_size f x y a b h k p q =
    Order.float_le_trans (abs (mul f x y)) (abs (mul f a b)) (mul f a b) (mul_sizes f x a y b (in_size x a h) (in_size y b k) p q) (abs_nonneg (mul f a b) (mul_nonneg f a b (bound_nonneg x a h) (bound_nonneg y b k) q))

-- so does one for the dividend, and a divisor that is not small
pub div_size : (f : Format) (x y a b : Float) → T (le (abs x) a) → T (lt +0 b) → T (le b (abs y)) → T (number (div f x y)) → T (number (div f a b))
    → T (le (abs (div f x y)) (div f a b))
div_size f x y a b h l k p q =
    Order.float_le_trans (abs (div f x y)) (abs (div f a b)) (div f a b) (div_sizes f x a y b (in_size x a h) (rw (positive_abs b (above_sign b l)) k) p q) (abs_nonneg (div f a b) (div_nonneg f a b (bound_nonneg x a h) l q))

-- so a product grows with both factors, and a quotient with its dividend and as its divisor shrinks, where all of them are at least zero
pub mul_mono_both : (f : Format) (x x' y y' : Float) → T (le +0 x) → T (le x x') → T (le +0 y) → T (le y y') → T (number (mul f x y))
    → T (number (mul f x' y')) → T (le (mul f x y) (mul f x' y'))
mul_mono_both f x x' y y' X h Y k p q =
    Order.float_le_trans (mul f x y) (abs (mul f x y)) (mul f x' y') (Order.le_abs (mul f x y) p)
    (mul_size f x y x' y' (Order.float_le_trans (abs x) x x' (abs_nonneg x X) h) (Order.float_le_trans (abs y) y y' (abs_nonneg y Y) k) p q)

pub div_mono_both : (f : Format) (x x' y y' : Float) → T (le +0 x) → T (le x x') → T (lt +0 y') → T (le y' y) → T (number (div f x y))
    → T (number (div f x' y')) → T (le (div f x y) (div f x' y'))
div_mono_both f x x' y y' X h Y k p q =
    Order.float_le_trans (div f x y) (abs (div f x y)) (div f x' y') (Order.le_abs (div f x y) p)
    (div_size f x y x' y' (Order.float_le_trans (abs x) x x' (abs_nonneg x X) h) Y (Order.float_le_trans y' y (abs y) k (Order.le_abs y (Order.le_numbers y' y k).1)) p q)

pub div_anti : (f : Format) (x c d : Float) → T (le +0 x) → T (lt +0 c) → T (le c d) → T (number (div f x c)) → T (number (div f x d))
    → T (le (div f x d) (div f x c))
div_anti f x c d h k l p q = div_mono_both f x x d c h (Order.float_le_refl x (Order.le_numbers +0 x h).1) k l q p

no_inf : (b s : Bool) → T (finite (cond b nan (inf s))) → ⊥
no_inf true s h = h
no_inf false s h = h

pub finite_factors : (f : Format) (x y : Float) → T (finite (mul f x y)) → T (finite x) × T (finite y)
unfolding mul
finite_factors f (inf s) (fin t n d) h = absurd (no_inf (eqb n 0) (unlike s t) h)
finite_factors f (fin s m e) (inf t) h = absurd (no_inf (eqb m 0) (unlike s t) h)
finite_factors f (fin s m e) (fin t n d) h = (tt, tt)
finite_factors f nan y h = elim h [ ]
finite_factors f (inf s) nan h = elim h [ ]
finite_factors f (inf s) (inf t) h = elim h [ ]
finite_factors f (fin s m e) nan h = elim h [ ]

pub finite_dividend : (f : Format) (x y : Float) → T (finite (div f x y)) → T (finite x)
unfolding div
finite_dividend f nan y h = h
finite_dividend f (inf s) nan h = h
finite_dividend f (inf s) (inf t) h = h
finite_dividend f (inf s) (fin t n d) h = h
finite_dividend f (fin s m e) y h = tt

-- where a bound of the product is finite the product is, and so with quotients
pub mul_finite : (f : Format) (x y a b : Float) → T (le (abs x) a) → T (le (abs y) b) → T (finite (mul f a b)) → T (finite (mul f x y))
mul_finite f x y a b h k p =
    let r = finite_factors f a b p in
    Order.finite_of_abs (mul f x y) (mul f a b) p
    (mul_size f x y a b h k (mul_number f x y (Order.finite_of_abs x a r.0 h) (Order.finite_of_abs y b r.1 k)) (Order.finite→number (mul f a b) p))

pub div_finite : (f : Format) (x y a b : Float) → T (le (abs x) a) → T (lt +0 b) → T (le b (abs y)) → T (finite (div f a b)) → T (finite (div f x y))
div_finite f x y a b h l k p =
    Order.finite_of_abs (div f x y) (div f a b) p
    (div_size f x y a b h l k (div_number f x y (Order.finite_of_abs x a (finite_dividend f a b p) h) (subst T (Order.abs_number y) (Order.le_numbers b (abs y) k).1) (abs_nonzero y (Order.lt_le_trans +0 b (abs y) l k))) (Order.finite→number (div f a b) p))

-- A quotient by what is no smaller is at most 1.
zero_over_zero : (f : Format) (x y : Float) → T (eq x +0) → T (eq y +0) → T (number (div f x y)) → ⊥
unfolding eq div is_nan
zero_over_zero f (fin s m e) (fin t n d) h k p = rw (zero_digits s m e h, zero_digits t n d k) at p
zero_over_zero f nan y h k p = elim h [ ]
zero_over_zero f (inf _) y h k p = elim h [ ]
zero_over_zero f (fin s m e) nan h k p = elim k [ ]
zero_over_zero f (fin s m e) (inf _) h k p = elim k [ ]

pub div_at_most_one : (f : Format) (x y : Float) → T (le (abs x) (abs y)) → T (number (div f x y)) → T (le (abs (div f x y)) +1)
div_at_most_one f x nan h p = absurd (subst T (Order.nan_right (abs x)).2 (unfold abs in h))
div_at_most_one f nan (inf t) h p = absurd (unfold div is_nan in p)
div_at_most_one f (inf s) (inf t) h p = absurd (unfold div is_nan in p)
div_at_most_one f (fin s m e) (inf t) h p = unfold div abs le in tt
div_at_most_one f x (fin t n d) h p =
    let y = fin t n d in
    let z : T (not (eq y +0)) = not_T (eq y +0) (λ z. zero_over_zero f x y (zero_of_abs x (Order.float_le_trans (abs x) (abs y) +0 h (abs_zero y z))) z p) in
    let q = (div_numbers f x y p).1 in
    unfold abs in (rw (div_self f y tt z) at (div_sizes f x y y y h (own_size y q) p (div_number f y y tt q z)))

pub div_in_unit : (f : Format) (x y : Float) → T (le +0 x) → T (le x y) → T (lt +0 y) → T (number (div f x y)) → T (le +0 (div f x y)) × T (le (div f x y) +1)
div_in_unit f x y h k l p = (
  div_nonneg f x y h l p,
  Order.float_le_trans (div f x y) (abs (div f x y)) +1 (Order.le_abs (div f x y) p)
      (div_at_most_one f x y (Order.float_le_trans (abs x) x (abs y) (abs_nonneg x h) (Order.float_le_trans x y (abs y) k (Order.le_abs y (div_numbers f x y p).1))) p),
)

-- A factor of at most 1 in size, or a divisor of at least 1, makes nothing larger.
pub mul_shrinks : (f : Format) (x c : Float) → T (fits f x) → T (le (abs c) +1) → T (number (mul f x c)) → T (le (abs (mul f x c)) (abs x))
mul_shrinks f x c t h p =
    let q = (mul_numbers f x c p).0 in
    rw (mul-one f x t) at (mul_sizes f x x c +1 (own_size x q) (unfold abs in h) p (rw (mul-one f x t) q))

pub div_shrinks : (f : Format) (x c : Float) → T (fits f x) → T (le +1 (abs c)) → T (number (div f x c)) → T (le (abs (div f x c)) (abs x))
div_shrinks f x c t h p =
    let q = (div_numbers f x c p).0 in
    rw (div_one f x t) at (div_sizes f x x c +1 (own_size x q) (unfold abs in h) p (rw (div_one f x t) q))
