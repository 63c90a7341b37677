-- How the port divides an update of the wind: what its inner functions give. An update is stated without any of it, and the laws of
-- proofs/Laws/Drag.antt tie the two. Of public contracts only that of `AxisDrag::air_velocity` names definitions of this file: `with_slope` adds the
-- slope to the source's air velocity, and `air_and_slope` is how the code gets both. Assumes nothing.
use Rattle.std.specs.Prelude.{cond, Option, Some, None, Float}
use Rattle.std.specs.Float.Ieee.{lt}
use Rattle.floats.specs.Ops.{◌⊘◌}
use Rattle.floats.specs.Compare.{abs}
use Rattle.floats.specs.MinMax.{max}
use Rattle.math.specs.Math.{zero}
use Rattle.wind.specs.declared.drag.AxisDrag.{AxisDrag}
use Rattle.wind.specs.declared.drag.AirVelocity.{AirVelocity}
use Rattle.wind.specs.declared.drag.Step.{Step}
use Rattle.wind.specs.Drag.{slope, still_air, newton_step, against}
use Rattle.wind.specs.Wind.{min_drag_slope}

-- ---- the slope at the air velocity, which the code hands on, and the definitions work out where they need it

-- three steps of Newton's method, and the slope at the speed that they give
unfoldable pub three_steps : AxisDrag → Float → Float → Float → Step
three_steps axis wanted axial speed =
    let refined : Float → Float = newton_step axis wanted axial in
    let third = refined (refined (refined speed)) in
    record { speed = third; slope_per_s = slope axis third axial }

abbrev pub along : Float → Float → AirVelocity
along air rise = record { along_mps = air; slope_per_s = rise }

-- the air velocity that a force tells, and the slope there
unfoldable pub air_and_slope : AxisDrag → Float → Float → Option AirVelocity
air_and_slope axis force axial =
    let first = newton_step axis (abs force) axial (still_air axis (abs force)) in
    let fourth = three_steps axis (abs force) axial first in
    let air = against force (abs force ⊘ axis.mu_per_s) in
    cond (lt zero axis.k_per_m) (Some (along (against force fourth.speed) fourth.slope_per_s))
    (cond (lt zero axis.mu_per_s) (Some (along air (slope axis air axial))) None)

-- an air velocity or none, with the slope there
unfoldable pub with_slope : AxisDrag → Float → Option Float → Option AirVelocity
with_slope axis axial None = None
with_slope axis axial (Some air) = Some (along air (slope axis air axial))

-- the noise of the wind along an axis, where `rise` is the slope at the measured air velocity
unfoldable pub noise_by_slope : Float → AxisDrag → Float → Float → Float → Float
noise_by_slope force_noise drag predicted_air rise axial = force_noise ⊘ max (max (slope drag predicted_air axial) rise) min_drag_slope
