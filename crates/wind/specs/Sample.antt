-- What one call tells of the air, from `Sample` of wind.rs, with the rotation as document 01 writes its rows. Assumes nothing.
use Rattle.std.specs.Prelude.{ℕ, Bool, cond, ◌&&◌, List, [], ◌∷◌, slice_index_or, Float, None, Option, Some}
use Rattle.std.specs.Float.{nan}
use Rattle.std.specs.Float.Ieee.{neg, lt}
use Rattle.std.specs.Float.Ieee.Scale.{finite}
use Rattle.floats.specs.Ops.{f32, ◌⊕◌, ◌⊖◌, ◌⊗◌, ◌⊘◌}
use Rattle.floats.specs.Compare.{abs}
use Rattle.math.specs.Math.{zero, two, gravity, all_finite, neu_to_ned}
use Rattle.math.specs.Vectors.{zeros, plus, over, dot3}
use Rattle.math.specs.declared.vectors.Vec3.{Vec3}
use Rattle.math.specs.declared.vectors.Quaternion.{Quaternion}
use Rattle.wind.specs.declared.state.VehicleState.{VehicleState}
use Rattle.wind.specs.declared.sample.BodyAxes.{BodyAxes}
use Rattle.wind.specs.declared.sample.Sample.{Sample}

-- ---- the rotation

-- The rows. A square is one product, a mixed term the product times 2, and a row's sums go from left to right.
unfoldable pub rotation : Quaternion → List (List Float)
rotation q =
    let ww = q.w ⊗ q.w in
    let ii = q.i ⊗ q.i in
    let jj = q.j ⊗ q.j in
    let kk = q.k ⊗ q.k in
    let ij = q.i ⊗ q.j ⊗ two in
    let wk = q.w ⊗ q.k ⊗ two in
    let wj = q.w ⊗ q.j ⊗ two in
    let ik = q.i ⊗ q.k ⊗ two in
    let jk = q.j ⊗ q.k ⊗ two in
    let wi = q.w ⊗ q.i ⊗ two in
    ((ww ⊕ ii ⊖ jj ⊖ kk) ∷ (ij ⊖ wk) ∷ (wj ⊕ ik) ∷ [])
    ∷ ((wk ⊕ ij) ∷ (ww ⊖ ii ⊕ jj ⊖ kk) ∷ (jk ⊖ wi) ∷ [])
    ∷ ((ik ⊖ wj) ∷ (wi ⊕ jk) ∷ (ww ⊖ ii ⊖ jj ⊕ kk) ∷ [])
    ∷ []

abbrev pub entry : List (List Float) → ℕ → ℕ → Float
entry r row column = slice_index_or (slice_index_or r row []) column nan

-- a body axis, north, east and down
abbrev pub column : List (List Float) → ℕ → Vec3
column r at = record { x = entry r 0 at; y = entry r 1 at; z = entry r 2 at }

-- the columns of the rotation
unfoldable pub body_axes : Quaternion → BodyAxes
body_axes q = let r = rotation q in record { x = column r 0; y = column r 1; z = column r 2 }

-- ---- the sample

-- the cosine of 45°
abbrev pub min_tilt_cosine : Float
min_tilt_cosine = f32 0x3F35_04F3

-- the acceleration felt, without gravity, north, east and down
unfoldable pub specific_force_ned : Vec3 → Vec3
specific_force_ned a = record { x = a.x; y = a.y; z = neg a.z ⊖ gravity }

unfoldable pub sample_finite : Sample → Bool
sample_finite sample =
    all_finite sample.specific_force_mps2 && all_finite sample.ground_along_mps && all_finite sample.axis_x && all_finite sample.axis_y
    && finite sample.axial_mps

-- the sample of a craft with these body axes
unfoldable pub along : BodyAxes → VehicleState → Sample
along axes state =
    let force = specific_force_ned state.acceleration_mps2 in
    let velocity = neu_to_ned state.velocity_mps in
    record {
      specific_force_mps2 = record { x = dot3 axes.x force; y = dot3 axes.y force };
      ground_along_mps = record { x = dot3 axes.x velocity; y = dot3 axes.y velocity };
      axis_x = record { x = axes.x.x; y = axes.x.y };
      axis_y = record { x = axes.y.x; y = axes.y.y };
      axial_mps = dot3 axes.z velocity;
    }

-- ---- sums of samples

abbrev pub zero_sample : Sample
zero_sample = record { specific_force_mps2 = zeros; ground_along_mps = zeros; axis_x = zeros; axis_y = zeros; axial_mps = zero }

abbrev pub sample_sum : Sample → Sample → Sample
sample_sum a b =
    record {
      specific_force_mps2 = plus a.specific_force_mps2 b.specific_force_mps2;
      ground_along_mps = plus a.ground_along_mps b.ground_along_mps;
      axis_x = plus a.axis_x b.axis_x;
      axis_y = plus a.axis_y b.axis_y;
      axial_mps = a.axial_mps ⊕ b.axial_mps;
    }

abbrev pub sample_over : Sample → Float → Sample
sample_over sample n =
    record {
      specific_force_mps2 = over sample.specific_force_mps2 n;
      ground_along_mps = over sample.ground_along_mps n;
      axis_x = over sample.axis_x n;
      axis_y = over sample.axis_y n;
      axial_mps = sample.axial_mps ⊘ n;
    }

-- ---- when a state gives one

-- None where the craft is tilted past 45°, or faster along the thrust axis than the limit, or a number is not finite.
unfoldable pub from_state : VehicleState → Float → Option Sample
from_state state max_axial_speed =
    let axes = body_axes state.attitude in
    let sample = along axes state in
    cond (lt axes.z.z min_tilt_cosine) None
    (cond (lt max_axial_speed (abs sample.axial_mps)) None (cond (sample_finite sample) (Some sample) None))
