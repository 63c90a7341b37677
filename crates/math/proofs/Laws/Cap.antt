-- A capped vector of finite length stays as it is, or has both components multiplied by limit / length, which is between 0 and 1. One of no finite length,
-- as with a NaN or an infinity in it, becomes zero. Assumes nothing.
use mathlib.Core.Path.{◌≡◌, sym, subst}
use mathlib.Core.Bool.{true, false, not}
use lib.Dec.{T, T_not, not_T}
use lib.Ieee.{Float, nan, inf, fin, Format, binary32, neg, add, mul, lt, le, fits, of_bits}
use lib.Ieee.Bits.{is_true, is_false}
use lib.Ieee.Fits.{and_i}
use lib.Ieee.Scale.{finite}
use Rattle.floats.specs.Compare.{abs}
use Rattle.floats.specs.Ops.{◌⊕◌, ◌⊗◌, ◌⊘◌}
use Rattle.floats.specs.Sqrt.{sqrt}
use Rattle.floats.proofs.Laws.Order.{finite→number, lt→le, lt_excludes, float_le_trans, le_lt_trans, finite_between, abs_le, abs_finite, finite_of_abs}
use Rattle.floats.proofs.Laws.Product.{div_number, div_in_unit, mul_number, mul_shrinks, finite_factors}
use Rattle.floats.proofs.Laws.Sum.{finite_parts}
use Rattle.math.specs.declared.vectors.Vec2.{Vec2}
use Rattle.math.specs.Vectors.{zeros, times, norm}
use Rattle.math.specs.Math.{zero, one, cap_magnitude, all_finite}
use Rattle.math.proofs.Laws.Cases.{by_test}
use Rattle.math.proofs.Laws.Limits.{positive_not_zero}

-- ---- the three cases

pub cap_of_no_length : (v : Vec2) (limit : Float) → T (not (finite (norm v))) → cap_magnitude v limit ≡ zeros
unfolding cap_magnitude
cap_of_no_length v limit h = rw (is_false (finite (norm v)) h)

pub cap_keeps : (v : Vec2) (limit : Float) → T (finite (norm v)) → T (not (lt limit (norm v))) → cap_magnitude v limit ≡ v
unfolding cap_magnitude
cap_keeps v limit f h = rw (is_true (finite (norm v)) f, is_false (lt limit (norm v)) h)

pub cap_shortens : (v : Vec2) (limit : Float) → T (finite (norm v)) → T (lt limit (norm v)) → cap_magnitude v limit ≡ times v (limit ⊘ norm v)
unfolding cap_magnitude
cap_shortens v limit f h = rw (is_true (finite (norm v)) f, is_true (lt limit (norm v)) h)

-- ---- a NaN or an infinity in it, and the zero vector

finite_of_root : (f : Format) (x : Float) → T (finite (sqrt f x)) → T (finite x)
unfolding sqrt
finite_of_root f nan h = h
finite_of_root f (inf true) h = h
finite_of_root f (inf false) h = h
finite_of_root f (fin s m e) h = tt

pub finite_length : (v : Vec2) → T (finite (norm v)) → T (finite v.x) × T (finite v.y)
finite_length v h =
    let p = finite_parts binary32 (v.x ⊗ v.x) (v.y ⊗ v.y) (finite_of_root binary32 (v.x ⊗ v.x ⊕ v.y ⊗ v.y) h) in
    ((finite_factors binary32 v.x v.x p.0).0, (finite_factors binary32 v.y v.y p.1).0)

pub cap_of_not_finite : (v : Vec2) (limit : Float) → T (not (all_finite v)) → cap_magnitude v limit ≡ zeros
unfolding all_finite
cap_of_not_finite v limit h =
    cap_of_no_length v limit
    (not_T (finite (norm v)) (λ f. T_not (all_finite v) h (and_i (finite v.x) (finite v.y) (finite_length v f).0 (finite_length v f).1)))

pub cap_of_zero : (limit : Float) → T (le zero limit) → cap_magnitude zeros limit ≡ zeros
unfolding sqrt add mul of_bits
cap_of_zero limit h = cap_keeps zeros limit tt (not_T (lt limit zero) (λ l. lt_excludes limit zero l h))

-- ---- the factor

module _ (v : Vec2) (limit : Float) (f : T (finite (norm v))) (p : T (le zero limit)) (l : T (lt limit (norm v))) where
  pub factor_in_unit : T (le zero (limit ⊘ norm v)) × T (le (limit ⊘ norm v) one)
  unfolding of_bits
  factor_in_unit =
      let n = norm v in
      let h = le_lt_trans zero limit n p l in
      div_in_unit binary32 limit n p (lt→le limit n l) h
      (div_number binary32 limit n (finite_between zero limit n tt f p (lt→le limit n l)) (finite→number n f) (positive_not_zero n h))

  factor_finite : T (finite (limit ⊘ norm v))
  unfolding of_bits
  factor_finite = finite_between zero (limit ⊘ norm v) one tt tt factor_in_unit.0 factor_in_unit.1

  -- so a component does not grow
  pub component_shrinks : (x : Float) → T (fits binary32 x) → T (finite x) → T (le (abs (x ⊗ (limit ⊘ norm v))) (abs x))
  unfolding le neg of_bits
  component_shrinks x t q =
      let k = limit ⊘ norm v in
      mul_shrinks binary32 x k t ((abs_le k one).1 (float_le_trans (neg one) zero k tt factor_in_unit.0, factor_in_unit.1))
      (mul_number binary32 x k q factor_finite)

  component_finite : (x : Float) → T (fits binary32 x) → T (finite x) → T (finite (x ⊗ (limit ⊘ norm v)))
  component_finite x t q = finite_of_abs (x ⊗ (limit ⊘ norm v)) (abs x) (subst T (sym (abs_finite x)) q) (component_shrinks x t q)

pub cap_finite : (v : Vec2) (limit : Float) → T (fits binary32 v.x) → T (fits binary32 v.y) → T (le zero limit) → T (all_finite (cap_magnitude v limit))
unfolding all_finite of_bits
cap_finite v limit p q h = by_test (finite (norm v)) (λ f. by_test (lt limit (norm v)) (shortened f) (kept f)) (λ f. rw (cap_of_no_length v limit f) tt)
  where
    k : Float
    k = limit ⊘ norm v

    shortened : T (finite (norm v)) → T (lt limit (norm v)) → T (all_finite (cap_magnitude v limit))
    shortened f l =
        let finite_part = component_finite v limit f h l in
        let c = finite_length v f in
        rw (cap_shortens v limit f l) (and_i (finite (v.x ⊗ k)) (finite (v.y ⊗ k)) (finite_part v.x p c.0) (finite_part v.y q c.1))

    kept : T (finite (norm v)) → T (not (lt limit (norm v))) → T (all_finite (cap_magnitude v limit))
    kept f l = let c = finite_length v f in rw (cap_keeps v limit f l) (and_i (finite v.x) (finite v.y) c.0 c.1)
