-- A call of lateral control with a velocity that is not finite asks for no acceleration, forgets the derivative, and leaves the integral and the
-- commanded velocity; every other call tracks. Assumes nothing.
use mathlib.Core.Path.{◌≡◌, refl}
use mathlib.Core.Bool.{Bool, not, ◌&&◌}
use lib.Dec.{T}
use lib.Ieee.{Float}
use lib.Ieee.Bits.{is_true, is_false}
use Rattle.math.specs.Math.{cap_magnitude, all_finite}
use Rattle.math.specs.Vectors.{zeros, minus}
use Rattle.math.specs.declared.vectors.Vec2.{Vec2}
use Rattle.controllers.specs.Derivative.{no_history}
use Rattle.lateral.specs.declared.LateralControllerConfig.{LateralControllerConfig}
use Rattle.lateral.specs.declared.LateralTarget.{LateralTarget}
use Rattle.lateral.specs.declared.LateralEstimate.{LateralEstimate}
use Rattle.lateral.specs.declared.LateralController.{LateralController}
use Rattle.lateral.specs.declared.Shaping.{Shaping}
use Rattle.lateral.specs.declared.LateralControl.{LateralControl}
use Rattle.lateral.specs.Lateral.{max_speed, desired_velocity, shape, tracked, neutral, control}

-- what `after` is, from the controller before it and what shaping gives in any call
pub record Neutral (before : LateralController) (shaping : Shaping) (after : LateralControl) : Type 0 where
  pub no_acceleration : after.accel_mps2 ≡ zeros
  pub derivative_forgotten : after.controller.derivative ≡ no_history
  pub integral_kept : after.controller.integrated_error ≡ before.integrated_error
  pub shaped_as_ever : after.controller.shaped_velocity_mps ≡ shaping.shaped_velocity_mps
  pub commanded_kept : after.controller.commanded_velocity_mps ≡ before.commanded_velocity_mps

module _ (self : LateralController) (config : LateralControllerConfig) (dt : Float) (target : LateralTarget) (estimate : LateralEstimate) where
  -- the desired velocity, capped and shaped
  abbrev pub shaping : Shaping
  shaping =
      shape self.shaped_velocity_mps config.max_accel_mps2 dt
      (cap_magnitude (desired_velocity config target estimate) (max_speed target.max_speed_mps)) estimate.velocity_mps

  abbrev pub velocity_error : Vec2
  velocity_error = minus shaping.commanded_mps estimate.velocity_mps

  abbrev pub finite_call : Bool
  finite_call = all_finite (desired_velocity config target estimate) && all_finite velocity_error

  pub finite_call_tracks : T finite_call → (limit : Vec2)
      → control self config dt target estimate limit ≡ tracked self config dt shaping velocity_error limit
  unfolding control
  finite_call_tracks t limit = rw (is_true finite_call t)

  pub not_finite_call_is_neutral : T (not finite_call) → (limit : Vec2) → Neutral self shaping (control self config dt target estimate limit)
  unfolding control neutral
  not_finite_call_is_neutral t limit =
      rw (is_false finite_call t) (record {
        no_acceleration = refl;
        derivative_forgotten = refl;
        integral_kept = refl;
        shaped_as_ever = refl;
        commanded_kept = refl;
      })
