-- What a correctly rounded square root is, in any format: that of IEEE 754, rounded to the nearest value. How a root is worked out is no part of it.
-- That `sqrt` of Sqrt.antt is one is `root_is_correct` of proofs/Laws/Sqrt.antt. Assumes nothing.
use Rattle.std.specs.Prelude.{◌≡◌, ℕ, ◌+◌, ◌-◌, ◌*◌, ◌^◌, ◌<◌, false, cond, pos, T, Float}
use Rattle.std.specs.Float.{nan, inf, fin, Format}
use Rattle.std.specs.Float.Ieee.{fits, lt, eq}
use Rattle.std.specs.Float.Ieee.Scale.{finite}
use Rattle.std.specs.Float.Ieee.Positive.{num, den}
use Rattle.floats.specs.Compare.{is_negative}

-- +0, which -0 equals too.
abbrev pub zero : Float
zero = fin false 0 (pos 0)

-- The size of a finite y is the fraction num y / den y. It counts above zero or below.
abbrev pub over : Float → ℕ
over y = cond (is_negative y) 0 (num y)

abbrev pub under : Float → ℕ
under y = cond (is_negative y) (num y) 0

-- y + z is this number over den y * den z. A sum below zero counts as 0.
abbrev pub sum : Float → Float → ℕ
sum y z = over z * den y + over y * den z - (under z * den y + under y * den z)

-- Of two numbers y and z the nearer one to √x is that on √x's side of their midpoint. The midpoint is below √x where (y + z)² is below 4 x.
abbrev pub MidpointBelow : Float → Float → Float → Type 0
MidpointBelow y z x = sum y z ^ 2 * den x < 4 * num x * (den y * den z) ^ 2

-- The midpoint is above √x.
abbrev pub MidpointAbove : Float → Float → Float → Type 0
MidpointAbove y z x = 4 * num x * (den y * den z) ^ 2 < sum y z ^ 2 * den x

-- Every other number of the format f is further from √x than z is: none is nearer, and none is as near, so √x is at no tie.
pub record IsNearest (f : Format) (x z : Float) : Type 0 where
  pub below : (y : Float) → T (fits f y) → T (finite y) → T (lt y z) → MidpointBelow y z x
  pub above : (y : Float) → T (fits f y) → T (finite y) → T (lt z y) → MidpointAbove y z x

-- z is √x rounded to the format f: a finite value of the format, above zero, nearest to √x, and the only one that is.
pub record RoundedRoot (f : Format) (x z : Float) : Type 0 where
  pub of_format : T (fits f z)
  pub bounded : T (finite z)
  pub above_zero : T (lt zero z)
  pub nearest : IsNearest f x z
  pub only : (y : Float) → T (fits f y) → T (finite y) → IsNearest f x y → y ≡ z

-- `root` is the square root of the format f.
pub record CorrectRoot (f : Format) (root : Float → Float) : Type 0 where
  pub of_nan : root nan ≡ nan
  -- A zero is its own root, with its sign.
  pub of_zero : (x : Float) → T (eq x zero) → root x ≡ x
  -- Nothing below zero has a root: no number, and not -infinity.
  pub below_zero : (x : Float) → T (lt x zero) → root x ≡ nan
  pub of_infinity : root (inf false) ≡ inf false
  pub above_zero : (x : Float) → T (fits f x) → T (finite x) → T (lt zero x) → RoundedRoot f x (root x)
