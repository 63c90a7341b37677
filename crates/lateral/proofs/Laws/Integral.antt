-- The integral of lateral control is on each axis a number within its limit, from a fresh memory over any calls whose time steps are finite.
-- Assumes nothing.
use mathlib.Core.List.{List, foldl}
use lib.Dec.{T}
use lib.Ieee.{Float, binary32, lt}
use lib.Ieee.Fits.{and_r, add-fits}
use lib.Ieee.Scale.{finite}
use Rattle.floats.specs.Ops.{◌⊗◌}
use Rattle.floats.proofs.Laws.Sum.{add_number}
use Rattle.floats.proofs.Laws.Product.{mul_number}
use Rattle.math.specs.Math.{zero, cap_magnitude, all_finite, clamp_symmetric_each}
use Rattle.math.specs.Vectors.{plus, times, dot, norm}
use Rattle.math.specs.declared.vectors.Vec2.{Vec2}
use Rattle.math.proofs.Laws.Cap.{cap_finite}
use Rattle.controllers.specs.Checks.{check_limit}
use Rattle.math.proofs.Laws.Cases.{cond_holds}
use Rattle.math.proofs.Laws.Feed.{kept_by_calls}
use Rattle.controllers.proofs.Laws.Within.{Within, within→number, within→finite, zero_within, clamped_within}
use Rattle.lateral.specs.declared.LateralControllerConfig.{LateralControllerConfig}
use Rattle.lateral.specs.declared.LateralTarget.{LateralTarget}
use Rattle.lateral.specs.declared.LateralEstimate.{LateralEstimate}
use Rattle.lateral.specs.declared.LateralController.{LateralController}
use Rattle.lateral.specs.declared.Shaping.{Shaping}
use Rattle.lateral.specs.declared.LateralControl.{LateralControl}
use Rattle.lateral.specs.Lateral.{fresh, desired_velocity, hold_against_limit, tracked, neutral, control}
use Rattle.lateral.proofs.Laws.NotFinite.{shaping, velocity_error, finite_call}
use Rattle.lateral.proofs.Laws.Vectors.{Each, Numbers, Finite, all_finite→each, finite→numbers, norm_nonneg}

-- A call of the controller with a finite time step: an infinite time step times an error of 0 would be a NaN.
pub record Call : Type 0 where
  pub dt : Float
  pub target : LateralTarget
  pub estimate : LateralEstimate
  pub limit : Vec2
  pub finite_step : T (finite dt)

-- With a finite integral and a step of numbers, also an infinite one, the sum is of numbers. Where it is held, it is capped, and finite.
pub held_numbers : (integral step : Vec2) (i : Float) (limit : Vec2) → Finite integral → Numbers step → Numbers (hold_against_limit integral step i limit)
unfolding hold_against_limit
held_numbers integral step i limit p n =
    let next = plus integral step in
    let length = norm integral in
    cond_holds Numbers (lt zero (i ⊗ dot step limit))
    (λ _.
    finite→numbers (cap_magnitude next length)
    (all_finite→each (cap_magnitude next length)
    (cap_finite next length (add-fits binary32 integral.x step.x) (add-fits binary32 integral.y step.y) (norm_nonneg integral (finite→numbers integral p)))))
    (λ _. (add_number binary32 integral.x step.x p.0 n.0, add_number binary32 integral.y step.y p.1 n.1))

module _ (config : LateralControllerConfig) (allowed : T (check_limit config.max_integral)) where
  abbrev max_integral : Float
  max_integral = config.max_integral

  pub fresh_within : Each (Within max_integral) fresh.integrated_error
  unfolding fresh
  fresh_within = (zero_within max_integral allowed, zero_within max_integral allowed)

  each_clamped_within : (v : Vec2) → Numbers v → Each (Within max_integral) (clamp_symmetric_each v max_integral)
  unfolding clamp_symmetric_each
  each_clamped_within v n = (clamped_within max_integral allowed v.x n.0, clamped_within max_integral allowed v.y n.1)

  pub tracked_within : (self : LateralController) (dt : Float) (shaping : Shaping) (error limit : Vec2) → T (finite dt) → T (all_finite error)
      → Each (Within max_integral) self.integrated_error
      → Each (Within max_integral) (tracked self config dt shaping error limit).controller.integrated_error
  unfolding tracked
  tracked_within self dt s error limit d e w =
      let integral = self.integrated_error in
      let parts = all_finite→each error e in
      each_clamped_within (hold_against_limit integral (times error dt) config.velocity.i limit)
      (held_numbers integral (times error dt) config.velocity.i limit
      (within→finite max_integral allowed integral.x w.0, within→finite max_integral allowed integral.y w.1)
      (mul_number binary32 error.x dt parts.0 d, mul_number binary32 error.y dt parts.1 d))

  pub control_within : (self : LateralController) (dt : Float) (target : LateralTarget) (estimate : LateralEstimate) (limit : Vec2) → T (finite dt)
      → Each (Within max_integral) self.integrated_error
      → Each (Within max_integral) (control self config dt target estimate limit).controller.integrated_error
  unfolding control neutral
  control_within self dt target estimate limit d w =
      let error = velocity_error self config dt target estimate in
      cond_holds (λ (r : LateralControl). Each (Within max_integral) r.controller.integrated_error) (finite_call self config dt target estimate)
      {y = neutral self (shaping self config dt target estimate)}
      (λ t.
      tracked_within self dt (shaping self config dt target estimate) error limit d
      (and_r (all_finite (desired_velocity config target estimate)) (all_finite error) t) w)
      (λ _. w)

  abbrev pub called : LateralController → Call → LateralController
  called self call = (control self config call.dt call.target call.estimate call.limit).controller

  pub calls_within : (calls : List Call) → Each (Within max_integral) (foldl called fresh calls).integrated_error
  calls_within calls =
      kept_by_calls called (λ (self : LateralController). Each (Within max_integral) self.integrated_error)
      (λ self call. control_within self call.dt call.target call.estimate call.limit call.finite_step)
      fresh calls fresh_within

  pub integral_never_nan : (calls : List Call) → Numbers (foldl called fresh calls).integrated_error
  integral_never_nan calls =
      let integral = (foldl called fresh calls).integrated_error in
      let w = calls_within calls in
      (within→number max_integral integral.x w.0, within→number max_integral integral.y w.1)
