-- Which states give no sample: those of a craft that is tilted too far or too fast along the thrust axis, and those whose velocity, acceleration or
-- attitude is not finite. Every other state gives one. Assumes nothing.
use Rattle.std.specs.Prelude.{None, Option, Some}
use Rattle.std.proofs.Common.{◌≡◌, Bool, true, false, cond, ◌&&◌, T, refl}
use lib.Ieee.{Float, binary32, neg, lt, sub}
use lib.Ieee.Fits.{and_l, and_r}
use lib.Ieee.Scale.{finite}
use Rattle.floats.specs.Ops.{◌⊕◌, ◌⊖◌, ◌⊗◌}
use Rattle.floats.specs.Compare.{abs}
use Rattle.floats.proofs.Laws.Order.{neg_finite}
use Rattle.floats.proofs.Laws.Sum.{finite_parts}
use Rattle.floats.proofs.Laws.Product.{finite_factors}
use Rattle.math.specs.Math.{gravity, all_finite, neu_to_ned}
use Rattle.math.specs.Vectors.{dot3}
use Rattle.math.specs.declared.vectors.Vec3.{Vec3}
use Rattle.math.specs.declared.vectors.Quaternion.{Quaternion}
use Rattle.wind.specs.declared.state.VehicleState.{VehicleState}
use Rattle.wind.specs.declared.sample.Sample.{Sample}
use Rattle.wind.specs.Sample.{min_tilt_cosine, rotation, body_axes, specific_force_ned, sample_finite, along, from_state}

pub either_way : {A : Type 0} (b : Bool) (x : A) → cond b x x ≡ x
either_way true x = refl
either_way false x = refl

-- ---- the three tests

-- the sample that a state would give
abbrev pub sample_of : VehicleState → Sample
sample_of state = along (body_axes state.attitude) state

module _ (state : VehicleState) (limit : Float) where
  pub skips_tilted : lt (body_axes state.attitude).z.z min_tilt_cosine ≡ true → from_state state limit ≡ None
  unfolding from_state
  skips_tilted e = rw e

  pub skips_fast : lt limit (abs (sample_of state).axial_mps) ≡ true → from_state state limit ≡ None
  unfolding from_state
  skips_fast e = rw e (either_way (lt (body_axes state.attitude).z.z min_tilt_cosine) None)

  pub skips_not_finite : sample_finite (sample_of state) ≡ false → from_state state limit ≡ None
  unfolding from_state
  skips_not_finite e =
      rw (e, either_way {A = Option Sample} (lt limit (abs (sample_of state).axial_mps)) None)
      (either_way (lt (body_axes state.attitude).z.z min_tilt_cosine) None)

  -- a sample that is taken is this one, and finite
  pub taken_is : (sample : Sample) → from_state state limit ≡ Some sample → (sample_of state ≡ sample) × T (sample_finite (sample_of state))
  unfolding from_state
  taken_is sample =
      go (lt (body_axes state.attitude).z.z min_tilt_cosine) (lt limit (abs (sample_of state).axial_mps)) (sample_finite (sample_of state)) refl
    where
      go : (b c d : Bool) → sample_finite (sample_of state) ≡ d → cond b None (cond c None (cond d (Some (sample_of state)) None)) ≡ Some sample
          → (sample_of state ≡ sample) × T (sample_finite (sample_of state))
      go true c d f e = cc
      go false true d f e = cc
      go false false false f e = cc
      go false false true f e = (cc, rw f tt)

-- ---- what is finite in a state that gives a sample

pub record FiniteVec3 (v : Vec3) : Type 0 where
  pub x : T (finite v.x)
  pub y : T (finite v.y)
  pub z : T (finite v.z)

pub record FiniteState (state : VehicleState) : Type 0 where
  pub velocity : FiniteVec3 state.velocity_mps
  pub acceleration : FiniteVec3 state.acceleration_mps2
  pub w : T (finite state.attitude.w)
  pub i : T (finite state.attitude.i)
  pub j : T (finite state.attitude.j)
  pub k : T (finite state.attitude.k)

sub_left_finite : (x y : Float) → T (finite (x ⊖ y)) → T (finite x)
unfolding sub
sub_left_finite x y h = (finite_parts binary32 x (neg y) h).0

dot3_finite : (v w : Vec3) → T (finite (dot3 v w)) → FiniteVec3 v × FiniteVec3 w
dot3_finite v w h =
    let sums = finite_parts binary32 (v.x ⊗ w.x ⊕ v.y ⊗ w.y) (v.z ⊗ w.z) h in
    let first = finite_parts binary32 (v.x ⊗ w.x) (v.y ⊗ w.y) sums.0 in
    let a = finite_factors binary32 v.x w.x first.0 in
    let b = finite_factors binary32 v.y w.y first.1 in
    let c = finite_factors binary32 v.z w.z sums.1 in
    (record { x = a.0; y = b.0; z = c.0 }, record { x = a.1; y = b.1; z = c.1 })

force_finite : (a : Vec3) → FiniteVec3 (specific_force_ned a) → FiniteVec3 a
unfolding specific_force_ned
force_finite a h = record { x = h.x; y = h.y; z = rw neg_finite at (sub_left_finite (neg a.z) gravity h.z) }

-- each square is in the first entry
attitude_finite : (q : Quaternion) → T (finite (body_axes q).x.x) → T (finite q.w) × T (finite q.i) × T (finite q.j) × T (finite q.k)
unfolding body_axes rotation sub
attitude_finite q h =
    let kk = finite_parts binary32 (q.w ⊗ q.w ⊕ q.i ⊗ q.i ⊖ q.j ⊗ q.j) (neg (q.k ⊗ q.k)) h in
    let jj = finite_parts binary32 (q.w ⊗ q.w ⊕ q.i ⊗ q.i) (neg (q.j ⊗ q.j)) kk.0 in
    let ii = finite_parts binary32 (q.w ⊗ q.w) (q.i ⊗ q.i) jj.0 in (
      (finite_factors binary32 q.w q.w ii.0).0,
      (finite_factors binary32 q.i q.i ii.1).0,
      (finite_factors binary32 q.j q.j (rw neg_finite at jj.1)).0,
      (finite_factors binary32 q.k q.k (rw neg_finite at kk.1)).0,
    )

sample_parts : (sample : Sample) → T (sample_finite sample) → T (finite sample.specific_force_mps2.x) × T (finite sample.ground_along_mps.x)
unfolding sample_finite all_finite
sample_parts sample h =
    let force = all_finite sample.specific_force_mps2 in
    let ground = all_finite sample.ground_along_mps in
    let x = all_finite sample.axis_x in
    let y = all_finite sample.axis_y in
    let both = and_l (force && ground) x (and_l (force && ground && x) y (and_l (force && ground && x && y) (finite sample.axial_mps) h)) in (
      and_l (finite sample.specific_force_mps2.x) (finite sample.specific_force_mps2.y) (and_l force ground both),
      and_l (finite sample.ground_along_mps.x) (finite sample.ground_along_mps.y) (and_r force ground both),
    )

pub taken_finite : (state : VehicleState) (limit : Float) (sample : Sample) → from_state state limit ≡ Some sample → FiniteState state
unfolding along
taken_finite state limit sample e =
    let parts = sample_parts (sample_of state) (taken_is state limit sample e).1 in
    let force = dot3_finite (body_axes state.attitude).x (specific_force_ned state.acceleration_mps2) parts.0 in
    let ground = dot3_finite (body_axes state.attitude).x (neu_to_ned state.velocity_mps) parts.1 in
    let q = attitude_finite state.attitude force.0.x in
    record {
      velocity = record { x = ground.1.x; y = ground.1.y; z = rw neg_finite at ground.1.z };
      acceleration = force_finite state.acceleration_mps2 force.1;
      w = q.0;
      i = q.1;
      j = q.2;
      k = q.3;
    }

-- ---- all reasons

pub data Unusable (state : VehicleState) (limit : Float) : Type 0 where
  tilted : lt (body_axes state.attitude).z.z min_tilt_cosine ≡ true → Unusable state limit
  fast : lt limit (abs (sample_of state).axial_mps) ≡ true → Unusable state limit
  sample_not_finite : sample_finite (sample_of state) ≡ false → Unusable state limit
  state_not_finite : (FiniteState state → ⊥) → Unusable state limit

pub unusable_skipped : (state : VehicleState) (limit : Float) → Unusable state limit → from_state state limit ≡ None
unusable_skipped state limit (tilted e) = skips_tilted state limit e
unusable_skipped state limit (fast e) = skips_fast state limit e
unusable_skipped state limit (sample_not_finite e) = skips_not_finite state limit e
unusable_skipped state limit (state_not_finite n) = go (from_state state limit) refl
  where
    go : (s : Option Sample) → from_state state limit ≡ s → s ≡ None
    go None e = refl
    go (Some sample) e = absurd (n (taken_finite state limit sample e))

-- and no other
pub usable_taken : (state : VehicleState) (limit : Float) → lt (body_axes state.attitude).z.z min_tilt_cosine ≡ false
    → lt limit (abs (sample_of state).axial_mps) ≡ false → sample_finite (sample_of state) ≡ true → from_state state limit ≡ Some (sample_of state)
unfolding from_state
usable_taken state limit t f e = rw (t, f, e)
