-- The wind estimate and its filter, from `WindEstimate` of wind.rs. Assumes nothing.
use Rattle.std.specs.Prelude.{cond, ◌&&◌, Float}
use Rattle.std.specs.Float.{binary32}
use Rattle.std.specs.Float.Ieee.{le}
use Rattle.std.specs.Float.Ieee.Scale.{finite}
use Rattle.floats.specs.Ops.{◌⊕◌, ◌⊖◌, ◌⊗◌}
use Rattle.floats.specs.MinMax.{max}
use Rattle.floats.specs.Sqrt.{sqrt}
use Rattle.math.specs.Math.{zero, half, one}
use Rattle.math.specs.Vectors.{zeros, plus, times, over, dot}
use Rattle.math.specs.declared.vectors.Vec2.{Vec2}
use Rattle.wind.specs.declared.drag.WindConfig.{WindConfig}
use Rattle.wind.specs.declared.estimate.Matrix2.{Matrix2}
use Rattle.wind.specs.declared.estimate.WindEstimate.{WindEstimate}

-- the identity times a number: off the diagonal 0 times it
unfoldable pub diagonal : Float → Matrix2
diagonal s = record { m00 = one ⊗ s; m01 = zero ⊗ s; m10 = zero ⊗ s; m11 = one ⊗ s }

-- no wind, with the configured deviation on both axes
unfoldable pub initial : WindConfig → WindEstimate
unfolding diagonal
initial config =
    record { velocity_mps = zeros; covariance_m2ps2 = diagonal (config.initial_sd_mps ⊗ config.initial_sd_mps) }

abbrev pub sum : Matrix2 → Matrix2 → Matrix2
sum a b = record { m00 = a.m00 ⊕ b.m00; m01 = a.m01 ⊕ b.m01; m10 = a.m10 ⊕ b.m10; m11 = a.m11 ⊕ b.m11 }

-- the covariance grows with the time elapsed
unfoldable pub predict : WindEstimate → Float → WindConfig → WindEstimate
unfolding diagonal
predict estimate elapsed config =
    let q = config.process_noise_mps_per_rt_s in
    record {
      velocity_mps = estimate.velocity_mps;
      covariance_m2ps2 = sum estimate.covariance_m2ps2 (diagonal (q ⊗ q ⊗ elapsed));
    }

-- the covariance times an axis
unfoldable pub covariance_along : Matrix2 → Vec2 → Vec2
covariance_along p axis = record { x = p.m00 ⊗ axis.x ⊕ p.m01 ⊗ axis.y; y = p.m10 ⊗ axis.x ⊕ p.m11 ⊗ axis.y }

-- the estimate after a measurement that is taken; the covariance is made symmetric again
unfoldable pub corrected : WindEstimate → Vec2 → Float → Float → WindEstimate
corrected estimate along innovation variance =
    let p = estimate.covariance_m2ps2 in
    let gain = over along variance in
    let off = half ⊗ (p.m01 ⊖ gain.x ⊗ along.y ⊕ (p.m10 ⊖ gain.y ⊗ along.x)) in
    record {
      velocity_mps = plus estimate.velocity_mps (times gain innovation);
      covariance_m2ps2 = record { m00 = p.m00 ⊖ gain.x ⊗ along.x; m01 = off; m10 = off; m11 = p.m11 ⊖ gain.y ⊗ along.y };
    }

-- One measurement of the wind along an axis. Outside the gate, or with a variance that is not finite, it changes nothing.
unfoldable pub correct : WindEstimate → Vec2 → Float → Float → Float → WindEstimate
correct estimate axis measured variance gate_sigma =
    let along = covariance_along estimate.covariance_m2ps2 axis in
    let innovation_variance = dot axis along ⊕ variance in
    let innovation = measured ⊖ dot axis estimate.velocity_mps in
    cond (le (innovation ⊗ innovation) (gate_sigma ⊗ gate_sigma ⊗ innovation_variance) && finite innovation_variance)
    (corrected estimate along innovation innovation_variance)
    estimate

-- the deviation along a direction
unfoldable pub sd_along : WindEstimate → Vec2 → Float
sd_along estimate direction =
    let p = estimate.covariance_m2ps2 in
    let x = direction.x ⊗ p.m00 ⊕ direction.y ⊗ p.m10 in
    let y = direction.x ⊗ p.m01 ⊕ direction.y ⊗ p.m11 in
    sqrt binary32 (max (x ⊗ direction.x ⊕ y ⊗ direction.y) zero)
