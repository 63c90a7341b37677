-- Equality number by number: what holds a NaN equals nothing, and what holds none equals itself. Assumes nothing.
use mathlib.Core.Path.{◌≡◌, refl, subst}
use mathlib.Core.Bool.{Bool, true, false, ◌&&◌}
use lib.Dec.{T}
use lib.Ieee.{Float, eq}
use lib.Ieee.Fits.{and_i}
use Rattle.floats.proofs.Laws.Order.{number, same_test, eq_numbers, eq_refl}
use Rattle.math.specs.declared.vectors.Vec2.{Vec2}
use Rattle.wind.specs.declared.estimate.Matrix2.{Matrix2}
use Rattle.heading.specs.Equality.{same_vector, same_matrix}

-- ---- tests

-- what entails a test that fails is a test that fails
pub fails_with : (a b : Bool) → (T a → T b) → b ≡ false → a ≡ false
fails_with true b h e = absurd (subst T e (h tt))
fails_with false b h e = refl

pub and_entails : (a b c d : Bool) → (T a → T c) → (T b → T d) → T (a && b) → T (c && d)
and_entails true b c d h k t = and_i c d (h tt) (k t)
and_entails false b c d h k t = absurd t

-- ---- floats

pub equals_itself : (x : Float) → eq x x ≡ number x
equals_itself x = same_test (eq x x) (number x) (λ h. (eq_numbers x x h).0) (eq_refl x)

equal_number : (x y : Float) → T (eq x y) → T (number y)
equal_number x y h = (eq_numbers x y h).1

-- ---- vectors and matrices

-- no number of it is a NaN
abbrev pub vector_numbers : Vec2 → Bool
vector_numbers v = number v.x && number v.y

abbrev pub matrix_numbers : Matrix2 → Bool
matrix_numbers p = number p.m00 && number p.m01 && number p.m10 && number p.m11

pub vector_same_itself : (v : Vec2) → same_vector v v ≡ vector_numbers v
unfolding same_vector
vector_same_itself v = rw (equals_itself v.x, equals_itself v.y)

pub matrix_same_itself : (p : Matrix2) → same_matrix p p ≡ matrix_numbers p
unfolding same_matrix
matrix_same_itself p = rw (equals_itself p.m00, equals_itself p.m01, equals_itself p.m10, equals_itself p.m11)

pub same_vector_numbers : (v w : Vec2) → T (same_vector v w) → T (vector_numbers w)
unfolding same_vector
same_vector_numbers v w =
    and_entails (eq v.x w.x) (eq v.y w.y) (number w.x) (number w.y) (equal_number v.x w.x) (equal_number v.y w.y)

pub same_matrix_numbers : (p q : Matrix2) → T (same_matrix p q) → T (matrix_numbers q)
unfolding same_matrix
same_matrix_numbers p q =
    let row = and_entails (eq p.m00 q.m00) (eq p.m01 q.m01) (number q.m00) (number q.m01) (equal_number p.m00 q.m00) (equal_number p.m01 q.m01) in
    let three =
    and_entails (eq p.m00 q.m00 && eq p.m01 q.m01) (eq p.m10 q.m10) (number q.m00 && number q.m01) (number q.m10) row
    (equal_number p.m10 q.m10) in
    and_entails (eq p.m00 q.m00 && eq p.m01 q.m01 && eq p.m10 q.m10) (eq p.m11 q.m11)
    (number q.m00 && number q.m01 && number q.m10) (number q.m11) three (equal_number p.m11 q.m11)

pub nan_vector_differs : (v w : Vec2) → vector_numbers w ≡ false → same_vector v w ≡ false
nan_vector_differs v w = fails_with (same_vector v w) (vector_numbers w) (same_vector_numbers v w)
