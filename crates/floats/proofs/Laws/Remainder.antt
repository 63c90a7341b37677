-- A value that lies between the divisor and its opposite is its own remainder. Assumes nothing.
use Rattle.std.proofs.Common.{◌≡◌, ℕ, ◌*◌, ◌<◌, Bool, true, false, not, T, sym, refl, ap, ◌∙◌, mod-eq_of_lt, mul_assoc, mul-pos, mul_right_comm, arith}
use lib.Ieee.{Float, inf, fin, Format, round, neg, rem, lt, le, fits, nan}
use lib.Ieee.Exact.{HasValue}
use lib.Ieee.Positive.{num, den, den_pos, first_pos}
use lib.Ieee.Scale.{finite}
use Rattle.floats.specs.Compare.{abs, is_negative}
use Rattle.floats.proofs.Laws.Order.{+0, -0, zeros_equal, eq→le, eq→ge, float_le_trans, lt_le_trans, lt_trans, neg_le, neg_lt, neg_neg}
use Rattle.floats.proofs.Laws.Round.{Less, fractions_of_lt, own_fraction, value_abs, value_neg, value_same, round_of_value}
use Rattle.floats.proofs.Laws.Fractions.{rem_rounds}

-- ---- by fractions: a value below the divisor in size

wider : (x : Float) (c : ℕ) → T (finite x) → HasValue x (is_negative x) (num x * c) (den x * c)
wider x c q =
    value_same x (is_negative x) (num x) (den x) (num x * c) (den x * c) (den_pos x) (sym (mul_assoc (num x) (den x) c) ∙ mul_right_comm (num x) (den x) c) (own_fraction x q)

pub rem_of_smaller : (f : Format) (x y : Float) (t : Bool) (b c : ℕ) → T (fits f x) → T (finite x) → 0 < c → 0 < b → HasValue y t b c → num x * c < b * den x
    → rem f x y ≡ x
rem_of_smaller f x y t b c p q C B v h =
    let D = mul-pos (den_pos x) C in
    let s = is_negative x in
    rem_rounds f x y s (num x * c) t (b * den x) (den x * c) D (mul-pos B (den_pos x)) (wider x c q)
    (value_same y t b c (b * den x) (den x * c) C (sym (mul_assoc b (den x) c)) v)
    ∙ ap (λ (z : ℕ). round f s z (den x * c)) (mod-eq_of_lt h)
    ∙ round_of_value f x s (num x * c) (den x * c) D p (wider x c q)

-- ---- by the sizes

smaller_size : (f : Format) (x y : Float) → T (finite x) → T (finite y) → T (fits f x) → T (lt (abs x) (abs y)) → rem f x y ≡ x
smaller_size f x y q r p h =
    let v = own_fraction x q in
    let w = own_fraction y r in
    let l = fractions_of_lt (abs x) (abs y) false (num x) (den x) false (num y) (den y) (den_pos x) (den_pos y)
    (value_abs x (is_negative x) (num x) (den x) v) (value_abs y (is_negative y) (num y) (den y) w) h in
    rem_of_smaller f x y (is_negative y) (num y) (den y) p q (den_pos y) (first_pos (num y) (den x) (omega arith)) w (omega arith)

pub rem_of_smaller_size : (f : Format) (x y : Float) → T (fits f x) → T (lt (abs x) (abs y)) → rem f x y ≡ x
unfolding lt abs rem
rem_of_smaller_size f (fin s m e) (inf t) p h = refl
rem_of_smaller_size f (fin s m e) (fin t n d) p h = smaller_size f (fin s m e) (fin t n d) tt tt p h
rem_of_smaller_size f nan y p h = elim h [ ]
rem_of_smaller_size f (inf s) nan p h = elim h [ ]
rem_of_smaller_size f (inf s) (inf t) p h = elim h [ ]
rem_of_smaller_size f (inf s) (fin t n d) p h = elim h [ ]
rem_of_smaller_size f (fin s m e) nan p h = elim h [ ]

-- ---- by the order

-- where ±a / c lies between ±b / d and its opposite, a / c is below b / d
smaller : (s : Bool) (a c : ℕ) (t : Bool) (b d : ℕ) → Less (not t) b d s a c → Less s a c t b d → a * d < b * c
smaller true a c true b d h k = omega arith
smaller true a c false b d h k = omega arith
smaller false a c true b d h k = omega arith
smaller false a c false b d h k = omega arith

finite_rem_inside : (f : Format) (x y : Float) → T (finite x) → T (finite y) → T (fits f x) → T (lt (neg y) x) → T (lt x y) → rem f x y ≡ x
finite_rem_inside f x y q r p h k =
    let s = is_negative x in
    let t = is_negative y in
    let v = own_fraction x q in
    let w = own_fraction y r in
    let a = fractions_of_lt (neg y) x (not t) (num y) (den y) s (num x) (den x) (den_pos y) (den_pos x) (value_neg y t (num y) (den y) w) v h in
    let b = fractions_of_lt x y s (num x) (den x) t (num y) (den y) (den_pos x) (den_pos y) v w k in
    let l = smaller s (num x) (den x) t (num y) (den y) a b in
    rem_of_smaller f x y t (num y) (den y) p q (den_pos y) (first_pos (num y) (den x) (omega arith)) w l

pub rem_inside : (f : Format) (x y : Float) → T (fits f x) → T (lt (neg y) x) → T (lt x y) → rem f x y ≡ x
unfolding lt neg rem
rem_inside f (inf true) (inf true) p h k = absurd h
rem_inside f (inf false) (inf t) p h k = absurd k
rem_inside f (fin s m e) (inf t) p h k = refl
rem_inside f (fin s m e) (fin t n d) p h k = finite_rem_inside f (fin s m e) (fin t n d) tt tt p h k
rem_inside f nan y p h k = elim k [ ]
rem_inside f (inf false) nan p h k = elim h [ ]
rem_inside f (inf false) (fin t n d) p h k = elim k [ ]
rem_inside f (inf true) nan p h k = elim h [ ]
rem_inside f (inf true) (inf false) p h k = elim h [ ]
rem_inside f (inf true) (fin t n d) p h k = elim h [ ]
rem_inside f (fin s m e) nan p h k = elim h [ ]

-- ---- on each side of zero one of the two bounds gives the other

pub above_opposite : (x y : Float) → T (le +0 x) → T (lt x y) → T (lt (neg y) x)
unfolding neg
above_opposite x y h k =
    lt_le_trans (neg y) (neg x) x (neg_lt x y k) (float_le_trans (neg x) -0 x (neg_le +0 x h) (float_le_trans -0 +0 x (eq→le -0 +0 zeros_equal) h))

pub below_divisor : (x y : Float) → T (lt x +0) → T (lt (neg y) x) → T (lt x y)
unfolding neg
below_divisor x y h k =
    lt_trans x -0 y (lt_le_trans x +0 -0 h (eq→ge -0 +0 zeros_equal)) (rw neg_neg at (neg_lt (neg y) +0 (lt_trans (neg y) x +0 k h)))
