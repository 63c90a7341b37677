-- The drag along an axis, from `WindConfig` and `AxisDrag` of wind.rs. Assumes nothing.
use Rattle.std.specs.Prelude.{Bool, cond, ◌||◌, List, get_or, Option, Some, None, Float}
use Rattle.std.specs.Float.{binary32, nan}
use Rattle.std.specs.Float.Ieee.{neg, lt}
use Rattle.floats.specs.Ops.{f32, ◌⊕◌, ◌⊖◌, ◌⊗◌, ◌⊘◌}
use Rattle.floats.specs.Compare.{abs, signum}
use Rattle.floats.specs.Sqrt.{sqrt}
use Rattle.math.specs.Math.{zero, half, two}
use Rattle.math.specs.declared.vectors.Vec2.{Vec2}
use Rattle.wind.specs.declared.drag.WindConfig.{WindConfig}
use Rattle.wind.specs.declared.drag.AxisDrag.{AxisDrag}

abbrev pub four : Float
four = f32 0x4080_0000

-- 1.225 kg/m³
abbrev pub air_density : Float
air_density = f32 0x3F9C_CCCD

-- the configuration of nine numbers in the order of its fields, counted from 0
abbrev pub config_of : List Float → WindConfig
config_of values =
    record {
      ballistic_kgpm2 = record { x = get_or values 0 nan; y = get_or values 1 nan };
      momentum_per_s = record { x = get_or values 2 nan; y = get_or values 3 nan };
      force_noise_mps2 = get_or values 4 nan;
      process_noise_mps_per_rt_s = get_or values 5 nan;
      initial_sd_mps = get_or values 6 nan;
      gate_sigma = get_or values 7 nan;
      max_axial_speed_mps = get_or values 8 nan;
    }

-- whether any axis has a drag coefficient
unfoldable pub is_on : WindConfig → Bool
is_on config =
    lt zero config.ballistic_kgpm2.x || lt zero config.ballistic_kgpm2.y || lt zero config.momentum_per_s.x
    || lt zero config.momentum_per_s.y

-- half the air's density over the ballistic figure, 0 for a figure that is not positive; and the momentum drag
unfoldable pub axis_drag : Float → Float → AxisDrag
axis_drag ballistic momentum =
    record { k_per_m = cond (lt zero ballistic) (half ⊗ air_density ⊘ ballistic) zero; mu_per_s = momentum }

abbrev pub airspeed : Float → Float → Float
airspeed air axial = sqrt binary32 (air ⊗ air ⊕ axial ⊗ axial)

-- the size of the drag's acceleration
unfoldable pub push : AxisDrag → Float → Float → Float
push axis air axial = (axis.k_per_m ⊗ airspeed air axial ⊕ axis.mu_per_s) ⊗ abs air

-- how it grows with the air velocity
unfoldable pub slope : AxisDrag → Float → Float → Float
slope axis air axial =
    let speed = airspeed air axial in
    cond (lt zero speed) (axis.k_per_m ⊗ (speed ⊕ air ⊗ air ⊘ speed)) zero ⊕ axis.mu_per_s

-- ---- the air velocity that a force tells

-- the speed with this push where there is no air along the thrust axis
unfoldable pub still_air : AxisDrag → Float → Float
still_air axis push =
    let k = axis.k_per_m in
    let mu = axis.mu_per_s in
    (sqrt binary32 (mu ⊗ mu ⊕ four ⊗ k ⊗ push) ⊖ mu) ⊘ (two ⊗ k)

-- one step of Newton's method towards the speed with the push `wanted`
unfoldable pub newton_step : AxisDrag → Float → Float → Float → Float
newton_step axis wanted axial speed =
    let excess = push axis speed axial ⊖ wanted in
    let rise = slope axis speed axial in
    cond (lt zero rise) (speed ⊖ excess ⊘ rise) speed

-- a speed with the sign against a force
unfoldable pub against : Float → Float → Float
against force speed = cond (lt zero force) (neg speed) speed

-- Four steps of Newton's method from still air, or with momentum drag alone its quotient; none with no drag.
unfoldable pub air_velocity : AxisDrag → Float → Float → Option Float
air_velocity axis force axial =
    let refined : Float → Float = newton_step axis (abs force) axial in
    cond (lt zero axis.k_per_m) (Some (against force (refined (refined (refined (refined (still_air axis (abs force))))))))
    (cond (lt zero axis.mu_per_s) (Some (against force (abs force ⊘ axis.mu_per_s))) None)

-- ---- the drag at an air velocity, level

unfoldable pub drag_along : AxisDrag → Float → Float
drag_along axis air = neg (push axis air zero) ⊗ signum air

unfoldable pub drag : WindConfig → Vec2 → Vec2
drag config air =
    record {
      x = drag_along (axis_drag config.ballistic_kgpm2.x config.momentum_per_s.x) air.x;
      y = drag_along (axis_drag config.ballistic_kgpm2.y config.momentum_per_s.y) air.y;
    }
