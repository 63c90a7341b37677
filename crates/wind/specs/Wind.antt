-- The wind estimator, from `WindEstimator` and `Window` of wind.rs. Assumes nothing.
use Rattle.std.specs.Prelude.{◌+◌, ◌%◌, ◌^◌, cond, Option, Some, None, pos, Float}
use Rattle.std.specs.Float.{binary32}
use Rattle.std.specs.Float.Ieee.{of_int, lt}
use Rattle.floats.specs.Ops.{f32, ◌⊕◌, ◌⊖◌, ◌⊗◌, ◌⊘◌}
use Rattle.floats.specs.MinMax.{max}
use Rattle.math.specs.Math.{zero}
use Rattle.math.specs.Vectors.{dot}
use Rattle.math.specs.declared.vectors.Vec2.{Vec2}
use Rattle.wind.specs.declared.state.VehicleState.{VehicleState}
use Rattle.wind.specs.declared.drag.WindConfig.{WindConfig}
use Rattle.wind.specs.declared.drag.AxisDrag.{AxisDrag}
use Rattle.wind.specs.declared.estimate.WindEstimate.{WindEstimate}
use Rattle.wind.specs.declared.sample.Sample.{Sample}
use Rattle.wind.specs.declared.window.Window.{Window}
use Rattle.wind.specs.declared.window.Measured.{Measured}
use Rattle.wind.specs.declared.window.WindEstimator.{WindEstimator}
use Rattle.wind.specs.Drag.{is_on, axis_drag, slope, air_velocity}
use Rattle.wind.specs.Estimate.{initial, predict, correct}
use Rattle.wind.specs.Sample.{zero_sample, sample_sum, sample_over, from_state}

-- ---- the window

-- 0.2 s
abbrev pub update_period : Float
update_period = f32 0x3E4C_CCCD

-- 0.001 per second
abbrev pub min_drag_slope : Float
min_drag_slope = f32 0x3A83_126F

unfoldable pub empty : Window
empty = record { elapsed_s = zero; ticks = 0; sums = zero_sample }

-- with one sample more; the count is a `u32`
unfoldable pub grown : Window → Float → Sample → Window
grown window dt sample =
    record { elapsed_s = window.elapsed_s ⊕ dt; ticks = (window.ticks + 1) % 2 ^ 32; sums = sample_sum window.sums sample }

-- the mean of the samples
unfoldable pub mean : Window → Sample
mean window = sample_over window.sums (of_int binary32 (pos window.ticks))

-- ---- a window that closes

-- the estimate so far, or the initial one
unfoldable pub filter_or : Option WindEstimate → WindConfig → WindEstimate
filter_or None config = initial config
filter_or (Some estimate) config = estimate

-- the noise of the wind along an axis: the force's over the drag's slope, the steeper of that at the predicted and that at the measured air velocity
unfoldable pub noise : Float → AxisDrag → Float → Float → Float → Float
noise force_noise drag predicted_air air axial =
    let steeper = max (slope drag predicted_air axial) (slope drag air axial) in
    force_noise ⊘ max steeper min_drag_slope

-- corrected by the air velocity that the force along an axis tells
unfoldable pub axis_corrected_by : Option Float → WindEstimate → WindConfig → AxisDrag → Vec2 → Measured → WindEstimate
axis_corrected_by None estimate config drag axis means = estimate
axis_corrected_by (Some air) estimate config drag axis means =
    let predicted_air = means.ground_mps ⊖ dot axis estimate.velocity_mps in
    let sd = noise config.force_noise_mps2 drag predicted_air air means.axial_mps in
    correct estimate axis (means.ground_mps ⊖ air) (sd ⊗ sd) config.gate_sigma

unfoldable pub axis_corrected : WindEstimate → WindConfig → AxisDrag → Vec2 → Measured → WindEstimate
unfolding axis_corrected_by
axis_corrected estimate config drag axis means =
    axis_corrected_by (air_velocity drag means.force_mps2 means.axial_mps) estimate config drag axis means

abbrev measured : Float → Float → Float → Measured
measured force ground_speed axial = record { force_mps2 = force; ground_mps = ground_speed; axial_mps = axial }

-- one axis after the other
unfoldable pub closed : Option WindEstimate → WindConfig → Window → WindEstimate
closed filter config window =
    let sample = mean window in
    let predicted = predict (filter_or filter config) window.elapsed_s config in
    let drag_x = axis_drag config.ballistic_kgpm2.x config.momentum_per_s.x in
    let drag_y = axis_drag config.ballistic_kgpm2.y config.momentum_per_s.y in
    let means_x = measured sample.specific_force_mps2.x sample.ground_along_mps.x sample.axial_mps in
    let means_y = measured sample.specific_force_mps2.y sample.ground_along_mps.y sample.axial_mps in
    let along_x = axis_corrected predicted config drag_x sample.axis_x means_x in
    axis_corrected along_x config drag_y sample.axis_y means_y

-- ---- the estimator

unfoldable pub fresh : WindEstimator
fresh = record { filter = None; window = empty }

-- With one sample more. The window closes once it is 0.2 s long.
unfoldable pub gathered : WindEstimator → Float → WindConfig → Sample → WindEstimator
gathered self dt config sample =
    let window = grown self.window dt sample in
    cond (lt window.elapsed_s update_period) (record { filter = self.filter; window = window })
    (record { filter = Some (closed self.filter config window); window = empty })

unfoldable pub taken : Option Sample → WindEstimator → Float → WindConfig → WindEstimator
taken None self dt config = self
taken (Some sample) self dt config = gathered self dt config sample

-- with no drag coefficient nothing changes
unfoldable pub update : WindEstimator → Float → WindConfig → VehicleState → WindEstimator
unfolding taken
update self dt config state = cond (is_on config) (taken (from_state state config.max_axial_speed_mps) self dt config) self
