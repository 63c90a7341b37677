-- The tilt boost is between 0 and 2. The sink guard is off unless the craft sinks past a positive limit, and then raises the thrust to within [0, 1].
-- Assumes nothing.
use Rattle.std.specs.Prelude.{None, Some}
use mathlib.Core.Path.{◌≡◌, sym, subst, ◌∙◌}
use mathlib.Core.Bool.{Bool, true, false, not, ◌&&◌, cond}
use Prim.Native.Nat.{ℕ}
use native.Mathlib.Omega.{arith}
use lib.Dec.{T, T_not, not_T}
use lib.Ieee.{Float, binary32, neg, sub, div, lt, eq, le, fits, is_nan, of_bits}
use lib.Ieee.Bits.{is_true, is_false}
use lib.Ieee.Fits.{and_i, and_l, and_r, neg-fits}
use lib.Ieee.Scale.{finite}
use Rattle.floats.specs.Ops.{◌⊕◌, ◌⊖◌, ◌⊗◌, ◌⊘◌}
use Rattle.floats.specs.MinMax.{max, clamp}
use Rattle.floats.proofs.Laws.Order.{finite→number, lt_numbers, same_test, float_le_trans, lt_le_trans, finite_between, neg_finite}
use Rattle.floats.proofs.Laws.MinMax.{max_ge_right, max_keeps, clamp_at_least, clamp_at_most}
use Rattle.floats.proofs.Laws.Product.{div_number, div_nonneg, div_mono, div_anti, finite_factors}
use Rattle.floats.proofs.Laws.Sum.{sub_pos, sub_above_zero, finite_parts}
use Rattle.math.specs.declared.vectors.Quaternion.{Quaternion}
use Rattle.math.specs.Math.{zero, tenth, half, one, two, tilt_cosine, tilt_boost, guard_sink, saturate_throttle}
use Rattle.math.proofs.Laws.Cases.{by_test}
use Rattle.math.proofs.Laws.Limits.{positive_not_zero, saturate_throttle_in_unit}

-- ---- the sink guard

-- the test of the source is the order of climb and -limit
pub excess_positive : (climb limit : Float) → T (fits binary32 climb) → T (fits binary32 limit) → lt zero (neg limit ⊖ climb) ≡ lt climb (neg limit)
unfolding of_bits
excess_positive climb limit p q =
    let r = neg-fits binary32 limit q in
    same_test (lt zero (neg limit ⊖ climb)) (lt climb (neg limit))
    (λ h. rw (sub_above_zero binary32 (neg limit) climb r p (lt_numbers zero (neg limit ⊖ climb) h).1) at h)
    (sub_pos binary32 (neg limit) climb r p)

-- what is raised, and by how much
pub guard_by_test : (thrust climb limit gain : Float) → T (fits binary32 climb) → T (fits binary32 limit)
    → guard_sink thrust climb limit gain
    ≡ cond (lt zero limit && lt climb (neg limit)) (Some (saturate_throttle (thrust ⊕ gain ⊗ (neg limit ⊖ climb)))) None
unfolding guard_sink
guard_by_test thrust climb limit gain p q = rw (excess_positive climb limit p q)

off_is_not_raised : (v : Float) → None ≡ Some v → ⊥
off_is_not_raised v p = let z : ◌≡◌ {A = ℕ} 0 1 = cc in omega arith

raised_by_test : (b : Bool) (u v : Float) → cond b (Some u) None ≡ Some v → T b × (u ≡ v)
raised_by_test true u v p = (tt, cc)
raised_by_test false u v p = absurd (off_is_not_raised v p)

pub guard_raises_past_limit : (thrust climb limit gain v : Float) → T (fits binary32 climb) → T (fits binary32 limit)
    → guard_sink thrust climb limit gain ≡ Some v → T (lt zero limit) × T (lt climb (neg limit)) × T (le zero v) × T (le v one)
guard_raises_past_limit thrust climb limit gain v p q e =
    let w = thrust ⊕ gain ⊗ (neg limit ⊖ climb) in
    let a = lt zero limit in
    let b = lt climb (neg limit) in
    let r = raised_by_test (a && b) (saturate_throttle w) v (sym (guard_by_test thrust climb limit gain p q) ∙ e) in
    let u = saturate_throttle_in_unit w in
    (and_l a b r.0, and_r a b r.0, rw (← r.1) u.0, rw (← r.1) u.1)

pub guard_off_at_limit : (thrust climb limit gain : Float) → T (fits binary32 climb) → T (fits binary32 limit)
    → T (not (lt zero limit && lt climb (neg limit))) → guard_sink thrust climb limit gain ≡ None
guard_off_at_limit thrust climb limit gain p q h = guard_by_test thrust climb limit gain p q ∙ rw (is_false (lt zero limit && lt climb (neg limit)) h)

-- ---- the tilt boost

pub boost_of_no_cosine : (q : Quaternion) → T (not (finite (tilt_cosine q))) → tilt_boost q ≡ one
unfolding tilt_boost
boost_of_no_cosine q h = rw (is_false (finite (tilt_cosine q)) h)

finite_cosine : (q : Quaternion) → T (finite (tilt_cosine q)) → T (finite q.i) × T (finite q.j)
unfolding tilt_cosine sub
finite_cosine q h =
    let s = q.i ⊗ q.i ⊕ q.j ⊗ q.j in
    let d = subst T (neg_finite (two ⊗ s)) (finite_parts binary32 one (neg (two ⊗ s)) h).1 in
    let p = finite_parts binary32 (q.i ⊗ q.i) (q.j ⊗ q.j) (finite_factors binary32 two s d).1 in
    ((finite_factors binary32 q.i q.i p.0).0, (finite_factors binary32 q.j q.j p.1).0)

-- so an attitude that is not finite counts as level, as far as it is read
pub boost_of_no_attitude : (q : Quaternion) → T (not (finite q.i && finite q.j)) → tilt_boost q ≡ one
boost_of_no_attitude q h =
    boost_of_no_cosine q
    (not_T (finite (tilt_cosine q)) (λ f. T_not (finite q.i && finite q.j) h (and_i (finite q.i) (finite q.j) (finite_cosine q f).0 (finite_cosine q f).1)))

quotient_range : (u m : Float) → T (le zero u) → T (le u one) → T (le half m) → T (finite m) → T (le zero (u ⊘ m)) × T (le (u ⊘ m) two)
unfolding le div is_nan of_bits
quotient_range u m a b h p =
    let pm : T (lt zero m) = lt_le_trans zero half m tt h in
    let nz = positive_not_zero m pm in
    let nm = finite→number m p in
    let nu = div_number binary32 u m (finite_between zero u one tt tt a b) nm nz in
    let no = div_number binary32 one m tt nm nz in (
      div_nonneg binary32 u m a pm nu,
      float_le_trans (u ⊘ m) (one ⊘ m) two (div_mono binary32 u one m pm b nu no) (div_anti binary32 one half m tt tt h tt no),
    )

-- so it is never a NaN
pub boost_range : (q : Quaternion) → T (le zero (tilt_boost q)) × T (le (tilt_boost q) two)
unfolding tilt_boost le eq is_nan of_bits
boost_range q = by_test (finite c) by_cosine without_cosine
  where
    c : Float
    c = tilt_cosine q

    without_cosine : T (not (finite c)) → T (le zero (tilt_boost q)) × T (le (tilt_boost q) two)
    without_cosine h = rw (boost_of_no_cosine q h) (tt, tt)

    by_cosine : T (finite c) → T (le zero (tilt_boost q)) × T (le (tilt_boost q) two)
    by_cosine h =
        let a = c ⊘ tenth in
        let n = div_number binary32 c tenth h tt tt in
        rw (is_true (finite c) h)
        (quotient_range (clamp a zero one) (max c half) (clamp_at_least a zero one tt n) (clamp_at_most a zero one tt n)
        (max_ge_right c half tt) (max_keeps (λ (z : Float). T (finite z)) c half h tt))
