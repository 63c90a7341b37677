-- Both components of a vector at once, and that a length is not negative. Assumes nothing.
use lib.Dec.{T}
use lib.Ieee.{Float, binary32, of_bits, le}
use lib.Ieee.Fits.{and_l, and_r}
use lib.Ieee.Scale.{finite}
use Rattle.floats.specs.Ops.{◌⊗◌}
use Rattle.floats.proofs.Laws.Order.{number, finite→number}
use Rattle.floats.proofs.Laws.Sum.{add_nonneg}
use Rattle.floats.proofs.Laws.Product.{square_nonneg}
use Rattle.floats.proofs.Laws.Sqrt.{sqrt_nonneg}
use Rattle.math.specs.Math.{zero, all_finite}
use Rattle.math.specs.Vectors.{dot, norm}
use Rattle.math.specs.declared.vectors.Vec2.{Vec2}

abbrev pub Each : (Float → Type 0) → Vec2 → Type 0
Each P v = P v.x × P v.y

abbrev pub Numbers : Vec2 → Type 0
Numbers = Each (λ (x : Float). T (number x))

abbrev pub Finite : Vec2 → Type 0
Finite = Each (λ (x : Float). T (finite x))

pub all_finite→each : (v : Vec2) → T (all_finite v) → Finite v
unfolding all_finite
all_finite→each v h = (and_l (finite v.x) (finite v.y) h, and_r (finite v.x) (finite v.y) h)

pub finite→numbers : (v : Vec2) → Finite v → Numbers v
finite→numbers v p = (finite→number v.x p.0, finite→number v.y p.1)

pub norm_nonneg : (v : Vec2) → Numbers v → T (le zero (norm v))
unfolding of_bits
norm_nonneg v n =
    sqrt_nonneg binary32 (dot v v)
    (add_nonneg binary32 (v.x ⊗ v.x) (v.y ⊗ v.y) (square_nonneg binary32 v.x n.0) (square_nonneg binary32 v.y n.1))
