-- An operation on finite values is one rounding of a fraction, and any fractions that the operands equal give it. Assumes nothing.
use Rattle.std.proofs.Common.{◌≡◌, ℕ, ◌+◌, ◌-◌, ◌*◌, ◌/◌, ◌%◌, ◌<◌, ◌≤◌, Bool, true, false, cond, not, ◌&&◌, eqb, ltb, ℤ, sym, refl, ap, ◌∙◌, subst, ap₂, subst₂, lt_irrefl, mul-le-mul_right, mul_assoc, mul_comm, add-mul, lt_of_mul-lt-mul_right, mul-lt-mul_of_pos_right, mul-pos, mul_right_comm, le_of_mul-le-mul_right, ltb-false, ltb-true, le-ltb, lt-ltb, ne_eqb}
use native.Mathlib.Nat.{mul-mul-mul_comm, mul-sub, mod_def, mul-div-mul_left}
use mathlib.Core.Bool.{beq}
use lib.Ieee.{Float, nan, inf, fin, Format, up, down, unlike, round, neg, sum, add, sub, mul, div, rem}
use lib.Ieee.Exact.{HasValue}
use lib.Ieee.Fits.{up_pos, down_pos}
use lib.Ieee.Positive.{first_pos}
use lib.Ieee.Scale.{round_same}

-- ---- sums

sum_shape : (f : Format) (s : Bool) (a : ℕ) (t : Bool) (b c : ℕ)
    → sum f s a t b c ≡ cond (beq s t) (round f s (a + b) c) (cond (ltb a b) (round f t (b - a) c) (round f (s && ltb b a) (a - b) c))
unfolding sum
sum_shape f s a t b c = refl

-- x / d is a / c, and y / d is b / c
module _ (a b c x y d : ℕ) (C : 0 < c) (D : 0 < d) (p : x * c ≡ a * d) (q : y * c ≡ b * d) where
  test_same : ltb x y ≡ ltb a b
  test_same = go (ltb a b) refl
    where
      go : (t : Bool) → ltb a b ≡ t → ltb x y ≡ t
      go true h = lt-ltb x y (lt_of_mul-lt-mul_right c (subst₂ (λ (z w : ℕ). z < w) (sym p) (sym q) (mul-lt-mul_of_pos_right (ltb-true a b h) D)))
      go false h = le-ltb x y (le_of_mul-le-mul_right (subst₂ (λ (z w : ℕ). z ≤ w) (sym q) (sym p) (mul-le-mul_right d (ltb-false a b h))) C)

  plus_same : (x + y) * c ≡ (a + b) * d
  plus_same = add-mul x y c ∙ ap₂ (λ (z w : ℕ). z + w) p q ∙ sym (add-mul a b d)

  minus_same : (x - y) * c ≡ (a - b) * d
  minus_same =
      mul_comm (x - y) c
      ∙ mul-sub c x y
      ∙ ap₂ (λ (z w : ℕ). z - w) (mul_comm c x ∙ p ∙ mul_comm a d) (mul_comm c y ∙ q ∙ mul_comm b d)
      ∙ sym (mul-sub d a b)
      ∙ mul_comm d (a - b)

sum_same : (f : Format) (s : Bool) (a : ℕ) (t : Bool) (b c x y d : ℕ) → 0 < c → 0 < d → x * c ≡ a * d → y * c ≡ b * d → sum f s x t y d ≡ sum f s a t b c
sum_same f s a t b c x y d C D p q =
    rw (
      sum_shape f s x t y d,
      sum_shape f s a t b c,
      test_same a b c x y d C D p q,
      test_same b a c y x d C D q p,
      round_same f s (x + y) d (a + b) c D C (plus_same a b c x y d C D p q),
      round_same f t (y - x) d (b - a) c D C (minus_same b a c y x d C D q p),
      round_same f (s && ltb b a) (x - y) d (a - b) c D C (minus_same a b c x y d C D p q),
    )

add_fin : (f : Format) (s : Bool) (m : ℕ) (e : ℤ) (t : Bool) (n : ℕ) (d : ℤ)
    → add f (fin s m e) (fin t n d) ≡ sum f s (m * up e * down d) t (n * up d * down e) (down e * down d)
unfolding add
add_fin f s m e t n d = refl

-- over a common denominator, from the value's own
pub common : (x u v a c : ℕ) → x * c ≡ a * u → x * v * c ≡ a * (u * v)
common x u v a c p = mul_right_comm x v c ∙ ap (λ (z : ℕ). z * v) p ∙ mul_assoc a u v

pub common_swapped : (x u v a c : ℕ) → x * c ≡ a * u → x * v * c ≡ a * (v * u)
common_swapped x u v a c p = common x u v a c p ∙ ap (λ (z : ℕ). a * z) (mul_comm u v)

pub add_sum : (f : Format) (x y : Float) (s : Bool) (a : ℕ) (t : Bool) (b c : ℕ) → 0 < c → HasValue x s a c → HasValue y t b c → add f x y ≡ sum f s a t b c
add_sum f (fin s' m e) (fin t' n d) s a t b c C v w =
    add_fin f s' m e t' n d
    ∙ ap₂ (λ (z w : Bool). sum f z (m * up e * down d) w (n * up d * down e) (down e * down d)) v.0 w.0
    ∙ sum_same f s a t b c (m * up e * down d) (n * up d * down e) (down e * down d) C (mul-pos (down_pos e) (down_pos d))
    (common (m * up e) (down e) (down d) a c v.1) (common_swapped (n * up d) (down d) (down e) b c w.1)
add_sum f nan y s a t b c C v w = elim v [ ]
add_sum f (inf _) y s a t b c C v w = elim v [ ]
add_sum f (fin s' m e) nan s a t b c C v w = elim w [ ]
add_sum f (fin s' m e) (inf _) s a t b c C v w = elim w [ ]

-- The sign and the size of ±a ± b: sizes of like signs are added, and of opposite signs the larger has the sign of the difference. Opposite numbers give +0.
abbrev pub total_sign : Bool → ℕ → Bool → ℕ → Bool
total_sign s a t b = cond (beq s t) s (cond (ltb a b) t (s && ltb b a))

abbrev pub total_size : Bool → ℕ → Bool → ℕ → ℕ
total_size s a t b = cond (beq s t) (a + b) (cond (ltb a b) (b - a) (a - b))

pub add_rounds : (f : Format) (x y : Float) (s : Bool) (a : ℕ) (t : Bool) (b c : ℕ) → 0 < c → HasValue x s a c → HasValue y t b c
    → add f x y ≡ round f (total_sign s a t b) (total_size s a t b) c
add_rounds f x y s a t b c C v w = add_sum f x y s a t b c C v w ∙ sum_shape f s a t b c ∙ go (beq s t) (ltb a b)
  where
    go : (p q : Bool) → cond p (round f s (a + b) c) (cond q (round f t (b - a) c) (round f (s && ltb b a) (a - b) c))
        ≡ round f (cond p s (cond q t (s && ltb b a))) (cond p (a + b) (cond q (b - a) (a - b))) c
    go true q = refl
    go false true = refl
    go false false = refl

pub add_alike : (f : Format) (x y : Float) (s : Bool) (a b c : ℕ) → 0 < c → HasValue x s a c → HasValue y s b c → add f x y ≡ round f s (a + b) c
add_alike f x y s a b c C v w = add_rounds f x y s a s b c C v w ∙ same s
  where
    same : (s : Bool) → round f (total_sign s a s b) (total_size s a s b) c ≡ round f s (a + b) c
    same true = refl
    same false = refl

pub add_opposite : (f : Format) (x y : Float) (s : Bool) (a b c : ℕ) → 0 < c → b ≤ a → HasValue x s a c → HasValue y (not s) b c
    → add f x y ≡ round f (s && ltb b a) (a - b) c
add_opposite f x y s a b c C h v w = add_rounds f x y s a (not s) b c C v w ∙ go s (le-ltb a b h)
  where
    go : (s : Bool) → ltb a b ≡ false → round f (total_sign s a (not s) b) (total_size s a (not s) b) c ≡ round f (s && ltb b a) (a - b) c
    go true e = rw e
    go false e = rw e

pub sub_neg : (f : Format) (x y : Float) → sub f x y ≡ add f x (neg y)
unfolding sub
sub_neg f x y = refl

-- ---- products

mul_fin : (f : Format) (s : Bool) (m : ℕ) (e : ℤ) (t : Bool) (n : ℕ) (d : ℤ)
    → mul f (fin s m e) (fin t n d) ≡ round f (unlike s t) (m * up e * (n * up d)) (down e * down d)
unfolding mul
mul_fin f s m e t n d = refl

-- x / u is a / c and y / v is b / d, so their products are equal
times : (x u a c y v b d : ℕ) → x * c ≡ a * u → y * d ≡ b * v → x * y * (c * d) ≡ a * b * (u * v)
times x u a c y v b d p q = mul-mul-mul_comm x y c d ∙ ap₂ (λ (z w : ℕ). z * w) p q ∙ mul-mul-mul_comm a u b v

pub mul_rounds : (f : Format) (x y : Float) (s : Bool) (a c : ℕ) (t : Bool) (b d : ℕ) → 0 < c → 0 < d → HasValue x s a c → HasValue y t b d
    → mul f x y ≡ round f (unlike s t) (a * b) (c * d)
mul_rounds f (fin s' m e) (fin t' n k) s a c t b d C D v w =
    mul_fin f s' m e t' n k
    ∙ ap₂ (λ (z w : Bool). round f (unlike z w) (m * up e * (n * up k)) (down e * down k)) v.0 w.0
    ∙ round_same f (unlike s t) (m * up e * (n * up k)) (down e * down k) (a * b) (c * d) (mul-pos (down_pos e) (down_pos k)) (mul-pos C D)
    (times (m * up e) (down e) a c (n * up k) (down k) b d v.1 w.1)
mul_rounds f nan y s a c t b d C D v w = elim v [ ]
mul_rounds f (inf _) y s a c t b d C D v w = elim v [ ]
mul_rounds f (fin s' m e) nan s a c t b d C D v w = elim w [ ]
mul_rounds f (fin s' m e) (inf _) s a c t b d C D v w = elim w [ ]

-- ---- quotients and remainders, by a divisor that is not zero

-- the digits of a value above zero are not zero
pub digits_pos : (n : ℕ) (k : ℤ) (b d : ℕ) → 0 < b → n * up k * d ≡ b * down k → 0 < n
digits_pos n k b d B p = first_pos n (up k) (first_pos (n * up k) d (subst (λ (z : ℕ). 0 < z) (sym p) (mul-pos B (down_pos k))))

not_zero : (n : ℕ) → 0 < n → eqb n 0 ≡ false
not_zero n h = ne_eqb n 0 (λ e. lt_irrefl 0 (subst (λ (z : ℕ). 0 < z) e h))

pub div_fin : (f : Format) (s : Bool) (m : ℕ) (e : ℤ) (t : Bool) (n : ℕ) (d : ℤ) → 0 < n
    → div f (fin s m e) (fin t n d) ≡ round f (unlike s t) (m * up e * down d) (n * up d * down e)
unfolding div
div_fin f s m e t n d h =
    ap (λ (z : Bool). cond z (cond (eqb m 0) nan (inf (unlike s t))) (round f (unlike s t) (m * up e * down d) (n * up d * down e))) (not_zero n h)

pub div_rounds : (f : Format) (x y : Float) (s : Bool) (a c : ℕ) (t : Bool) (b d : ℕ) → 0 < c → 0 < d → 0 < b → HasValue x s a c → HasValue y t b d
    → div f x y ≡ round f (unlike s t) (a * d) (b * c)
div_rounds f (fin s' m e) (fin t' n k) s a c t b d C D B v w =
    let N = digits_pos n k b d B w.1 in
    div_fin f s' m e t' n k N
    ∙ ap₂ (λ (z w : Bool). round f (unlike z w) (m * up e * down k) (n * up k * down e)) v.0 w.0
    ∙ round_same f (unlike s t) (m * up e * down k) (n * up k * down e) (a * d) (b * c) (mul-pos (mul-pos N (up_pos k)) (down_pos e)) (mul-pos B C)
    (ap (λ (z : ℕ). m * up e * down k * z) (mul_comm b c) ∙ times (m * up e) (down e) a c (down k) (n * up k) d b v.1 (mul_comm (down k) b ∙ sym w.1 ∙ mul_comm (n * up k) d) ∙ ap (λ (z : ℕ). a * d * z) (mul_comm (down e) (n * up k)))
div_rounds f nan y s a c t b d C D B v w = elim v [ ]
div_rounds f (inf _) y s a c t b d C D B v w = elim v [ ]
div_rounds f (fin s' m e) nan s a c t b d C D B v w = elim w [ ]
div_rounds f (fin s' m e) (inf _) s a c t b d C D B v w = elim w [ ]

pub mod_scale : (k a b : ℕ) → 0 < k → k * a % (k * b) ≡ k * (a % b)
mod_scale k a b K =
    mod_def (k * a) (k * b)
    ∙ ap (λ (z : ℕ). k * a - k * b * z) (mul-div-mul_left a b K)
    ∙ ap (λ (z : ℕ). k * a - z) (mul_assoc k b (a / b))
    ∙ sym (mul-sub k a (b * (a / b)))
    ∙ ap (λ (z : ℕ). k * z) (sym (mod_def a b))

-- x / d is a / c, and y / d is b / c, so their remainders are equal
pub mod_same : (a b c x y d : ℕ) → 0 < c → 0 < d → x * c ≡ a * d → y * c ≡ b * d → x % y * c ≡ a % b * d
mod_same a b c x y d C D p q =
    mul_comm (x % y) c
    ∙ sym (mod_scale c x y C)
    ∙ ap₂ (λ (z w : ℕ). z % w) (mul_comm c x ∙ p ∙ mul_comm a d) (mul_comm c y ∙ q ∙ mul_comm b d)
    ∙ mod_scale d a b D
    ∙ mul_comm d (a % b)

rem_fin : (f : Format) (s : Bool) (m : ℕ) (e : ℤ) (t : Bool) (n : ℕ) (d : ℤ) → 0 < n
    → rem f (fin s m e) (fin t n d) ≡ round f s (m * up e * down d % (n * up d * down e)) (down e * down d)
unfolding rem
rem_fin f s m e t n d h = ap (λ (z : Bool). cond z nan (round f s (m * up e * down d % (n * up d * down e)) (down e * down d))) (not_zero n h)

-- by any fractions over one denominator
pub rem_rounds : (f : Format) (x y : Float) (s : Bool) (a : ℕ) (t : Bool) (b c : ℕ) → 0 < c → 0 < b → HasValue x s a c → HasValue y t b c
    → rem f x y ≡ round f s (a % b) c
rem_rounds f (fin s' m e) (fin t' n d) s a t b c C B v w =
    let D = mul-pos (down_pos e) (down_pos d) in
    rem_fin f s' m e t' n d (digits_pos n d b c B w.1)
    ∙ ap (λ (z : Bool). round f z (m * up e * down d % (n * up d * down e)) (down e * down d)) v.0
    ∙ round_same f s (m * up e * down d % (n * up d * down e)) (down e * down d) (a % b) c D C
    (mod_same a b c (m * up e * down d) (n * up d * down e) (down e * down d) C D (common (m * up e) (down e) (down d) a c v.1) (common_swapped (n * up d) (down d) (down e) b c w.1))
rem_rounds f nan y s a t b c C B v w = elim v [ ]
rem_rounds f (inf _) y s a t b c C B v w = elim v [ ]
rem_rounds f (fin s' m e) nan s a t b c C B v w = elim w [ ]
rem_rounds f (fin s' m e) (inf _) s a t b c C B v w = elim w [ ]
