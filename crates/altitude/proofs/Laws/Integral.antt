-- The integral of altitude control goes on from the last call while the error is within the band, and from a fresh memory over any calls whose time steps
-- are finite it is a number within its limit. Assumes nothing.
use mathlib.Core.Path.{◌≡◌}
use mathlib.Core.List.{List, foldl}
use lib.Dec.{T}
use lib.Ieee.{Float, binary32, lt}
use lib.Ieee.Bits.{is_true}
use lib.Ieee.Fits.{and_l}
use lib.Ieee.Scale.{finite}
use Rattle.floats.specs.Ops.{◌⊕◌, ◌⊖◌, ◌⊗◌}
use Rattle.floats.specs.Compare.{abs}
use Rattle.floats.proofs.Laws.Order.{number}
use Rattle.floats.proofs.Laws.Product.{mul_number}
use Rattle.math.specs.Math.{clamp_symmetric}
use Rattle.controllers.specs.Checks.{check_limit}
use Rattle.altitude.specs.declared.AltitudeControllerConfig.{AltitudeControllerConfig}
use Rattle.altitude.specs.declared.AltitudeTarget.{AltitudeTarget}
use Rattle.altitude.specs.declared.AltitudeEstimate.{AltitudeEstimate}
use Rattle.altitude.specs.declared.AltitudeController.{AltitudeController}
use Rattle.altitude.specs.declared.AltitudeControl.{AltitudeControl}
use Rattle.altitude.specs.Altitude.{fresh, integrated, control}
use Rattle.math.proofs.Laws.Cases.{cond_holds}
use Rattle.math.proofs.Laws.Feed.{kept_by_calls}
use Rattle.altitude.proofs.Laws.NotFinite.{finite_errors}
use Rattle.controllers.proofs.Laws.Within.{Within, within→number, zero_within, clamped_within, sum_clamped_within}

pub integral_goes_on : (self : AltitudeController) (config : AltitudeControllerConfig) (dt : Float) (target : AltitudeTarget) (estimate : AltitudeEstimate)
    → T (finite_errors target estimate)
    → T (lt (abs (target.altitude_m ⊖ estimate.altitude_m)) config.integration_band_m)
    → (control self config dt target estimate).controller.integrated_error
    ≡ clamp_symmetric (self.integrated_error ⊕ (target.altitude_m ⊖ estimate.altitude_m) ⊗ dt) config.max_integral
unfolding control integrated
integral_goes_on self config dt target estimate finite_call near =
    rw (is_true (finite_errors target estimate) finite_call, is_true (lt (abs (target.altitude_m ⊖ estimate.altitude_m)) config.integration_band_m) near)

-- A call of the controller with a finite time step: an infinite time step times an error of 0 would be a NaN.
pub record Call : Type 0 where
  pub dt : Float
  pub target : AltitudeTarget
  pub estimate : AltitudeEstimate
  pub finite_step : T (finite dt)

module _ (config : AltitudeControllerConfig) (allowed : T (check_limit config.max_integral)) where
  abbrev max_integral : Float
  max_integral = config.max_integral

  pub fresh_within : Within max_integral fresh.integrated_error
  unfolding fresh
  fresh_within = zero_within max_integral allowed

  pub integrated_within : (dt error integral : Float) → T (finite dt) → T (finite error) → Within max_integral integral
      → Within max_integral (integrated config dt error integral)
  unfolding integrated
  integrated_within dt error integral d e w =
      cond_holds (λ (x : Float). Within max_integral (clamp_symmetric x max_integral)) (lt (abs error) config.integration_band_m)
      (λ _. sum_clamped_within max_integral allowed integral (error ⊗ dt) w (mul_number binary32 error dt e d))
      (λ _. clamped_within max_integral allowed integral (within→number max_integral integral w))

  pub control_within : (self : AltitudeController) (dt : Float) (target : AltitudeTarget) (estimate : AltitudeEstimate) → T (finite dt)
      → Within max_integral self.integrated_error → Within max_integral (control self config dt target estimate).controller.integrated_error
  unfolding control
  control_within self dt target estimate d w =
      let altitude_error = target.altitude_m ⊖ estimate.altitude_m in
      let velocity_error = target.velocity_mps ⊖ estimate.velocity_mps in
      cond_holds (λ (r : AltitudeControl). Within max_integral r.controller.integrated_error) (finite_errors target estimate)
      (λ t. integrated_within dt altitude_error self.integrated_error d (and_l (finite altitude_error) (finite velocity_error) t) w)
      (λ _. w)

  abbrev pub called : AltitudeController → Call → AltitudeController
  called self call = (control self config call.dt call.target call.estimate).controller

  pub calls_within : (calls : List Call) → Within max_integral (foldl called fresh calls).integrated_error
  calls_within calls =
      kept_by_calls called (λ (self : AltitudeController). Within max_integral self.integrated_error)
      (λ self call. control_within self call.dt call.target call.estimate call.finite_step)
      fresh calls fresh_within

  pub integral_never_nan : (calls : List Call) → T (number (foldl called fresh calls).integrated_error)
  integral_never_nan calls = within→number max_integral (foldl called fresh calls).integrated_error (calls_within calls)
