-- A vector's length against a limit, told by their squares where the limit has a plain square, and the length of a vector along an axis. Assumes nothing.
use Rattle.std.proofs.Common.{lit<}
use mathlib.Core.Path.{◌≡◌, sym, ap, ◌∙◌, subst}
use mathlib.Core.Bool.{true, false, not}
use lib.Dec.{T, not_T}
use Rattle.std.proofs.lemmas.Float.{T_from_true, T_from_false}
use lib.Ieee.{Float, binary32, mul, le, lt, eq, fits, of_bits}
use lib.Ieee.Bits.{is_false}
use lib.Ieee.Fits.{and_l, and_r, mul-fits}
use Rattle.floats.specs.Compare.{abs}
use Rattle.floats.specs.Ops.{f32, ◌⊕◌, ◌⊗◌}
use Rattle.floats.specs.Sqrt.{sqrt}
use Rattle.floats.proofs.Laws.Order.{float_le_trans, eq→le}
use Rattle.floats.proofs.Laws.Sum.{add-zero}
use Rattle.floats.proofs.Laws.Sqrt.{sqrt_zero}
use Rattle.floats.proofs.Laws.Sqrt.Square.{lowest, highest, InRange, sqrt_square_size}
use Rattle.floats.proofs.Laws.Sqrt.Limit.{squares_not_below, root_within, root_beyond}
use Rattle.math.specs.declared.vectors.Vec2.{Vec2}
use Rattle.math.specs.Vectors.{dot}
use Rattle.math.specs.Math.{zero, two}
use Rattle.math.specs.Inner.{has_plain_square, RootWithin, RootBeyond}

pub square_not_below : (v : Vec2) → lt (dot v v) zero ≡ false
unfolding of_bits
square_not_below v = is_false (lt (dot v v) zero) (squares_not_below binary32 v.x v.y)

-- ---- a limit with a plain square is in the range of the laws on roots, from 2 ^ -60 to 2 ^ 60
pub plain_in_range : (limit : Float) → has_plain_square limit ≡ true → InRange 60 limit
unfolding has_plain_square of_bits le lt eq
plain_in_range limit plain =
    let both = T_from_true (has_plain_square limit) plain in
    record {
      at_least = float_le_trans (lowest 60) (f32 0x33D6_BF95) limit tt (and_l (le (f32 0x33D6_BF95) limit) (le limit (f32 0x4B18_9680)) both);
      at_most = float_le_trans limit (f32 0x4B18_9680) (highest 60) (and_r (le (f32 0x33D6_BF95) limit) (le limit (f32 0x4B18_9680)) both) tt;
    }

module _ (limit : Float) (plain : has_plain_square limit ≡ true) where
  pub above_lowest : T (le (lowest 60) limit)
  above_lowest = (plain_in_range limit plain).at_least

  pub below_highest : T (le limit (highest 60))
  below_highest = (plain_in_range limit plain).at_most

-- ---- what the squares tell
module _ (square limit : Float) (fit : fits binary32 limit ≡ true) (plain : has_plain_square limit ≡ true) where
  pub told_within : lt square zero ≡ false → le square (limit ⊗ limit) ≡ true → RootWithin square limit
  unfolding of_bits
  told_within n h =
      let r = root_within binary32 60 limit square (lit< tt) (T_from_true (fits binary32 limit) fit) (plain_in_range limit plain) (T_from_false (lt square zero) n) (T_from_true (le square (limit ⊗ limit)) h) in
      record { at_most = r.0; not_above = r.1; bounded = r.2 }

  pub told_beyond : le (two ⊗ limit ⊗ (two ⊗ limit)) square ≡ true → RootBeyond square limit
  unfolding of_bits
  told_beyond h =
      let r = root_beyond binary32 60 limit square (lit< tt) (T_from_true (fits binary32 limit) fit) (plain_in_range limit plain) (T_from_true (le (two ⊗ limit ⊗ (two ⊗ limit)) square) h) in
      record { not_within = r.0; above = r.1 }

-- ---- the length along an axis is the component's size
module _ (a : Float) (fit : fits binary32 a ≡ true) (plain : has_plain_square (abs a) ≡ true) where
  root_is_size : sqrt binary32 (a ⊗ a) ≡ abs a
  unfolding of_bits le lt eq
  root_is_size = sqrt_square_size binary32 60 (lit< tt) a (T_from_true (fits binary32 a) fit) (plain_in_range (abs a) plain)

  square_not_zero : T (not (eq (a ⊗ a) zero))
  unfolding of_bits le lt eq
  square_not_zero =
      not_T (eq (a ⊗ a) zero)
      (λ z.
      let same : a ⊗ a ≡ abs a = sym (sqrt_zero binary32 (a ⊗ a) z) ∙ root_is_size in
      float_le_trans (lowest 60) (abs a) zero (plain_in_range (abs a) plain).at_least (subst (λ (y : Float). T (le y zero)) same (eq→le (a ⊗ a) zero z)))

  pub length_along : sqrt binary32 (a ⊗ a ⊕ zero ⊗ zero) ≡ abs a
  unfolding mul of_bits
  length_along = ap (sqrt binary32) (add-zero binary32 false (a ⊗ a) (mul-fits binary32 a a) square_not_zero) ∙ root_is_size
