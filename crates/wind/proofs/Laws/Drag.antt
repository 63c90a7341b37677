-- The drag's slope is the same for an air velocity and its opposite, and the slope that the code hands on with an air velocity is the drag's slope there.
-- Assumes nothing.
use Rattle.std.proofs.Common.{◌≡◌, ℕ, zero, suc, ◌<◌, Bool, true, false, cond, refl, ap, sym, ◌∙◌}
use Rattle.std.specs.Prelude.{Option, Some, None}
use native.Mathlib.Omega.{arith}
use lib.Ieee.{Float, binary32, neg, lt}
use Rattle.floats.proofs.Laws.Product.{neg_square}
use Rattle.floats.specs.Ops.{◌⊘◌}
use Rattle.floats.specs.Compare.{abs}
use Rattle.math.specs.Math as math
use Rattle.wind.specs.declared.drag.AxisDrag.{AxisDrag}
use Rattle.wind.specs.declared.drag.AirVelocity.{AirVelocity}
use Rattle.wind.specs.Drag.{slope, still_air, newton_step, against, air_velocity}
use Rattle.wind.specs.Wind.{noise}
use Rattle.wind.specs.Inner.{along, three_steps, air_and_slope, with_slope, noise_by_slope}

-- ---- the slope is the same for an air velocity and its opposite

slope_neg : (axis : AxisDrag) (air axial : Float) → slope axis (neg air) axial ≡ slope axis air axial
unfolding slope
slope_neg axis air axial = rw (neg_square binary32 air)

pub slope_against : (axis : AxisDrag) (force speed axial : Float) → slope axis (against force speed) axial ≡ slope axis speed axial
unfolding against
slope_against axis force speed axial = go (lt math.zero force)
  where
    go : (b : Bool) → slope axis (cond b (neg speed) speed) axial ≡ slope axis speed axial
    go true = slope_neg axis speed axial
    go false = refl

-- ---- the steps of Newton's method

module _ (axis : AxisDrag) (wanted axial : Float) where
  -- the speed after n steps
  unfoldable pub stepped : ℕ → Float → Float
  stepped zero speed = speed
  stepped (suc n) speed = newton_step axis wanted axial (stepped n speed)

  -- a speed that a step leaves as it was is left so by any number of them
  pub stays : (n : ℕ) → n < 3 → (speed : Float) → stepped n speed ≡ stepped (suc n) speed → stepped 3 speed ≡ stepped n speed
  unfolding stepped
  stays zero few speed kept = sym (kept ∙ ap (stepped 1) kept ∙ ap (stepped 2) kept)
  stays (suc zero) few speed kept = sym (kept ∙ ap (stepped 1) kept)
  stays (suc (suc zero)) few speed kept = sym kept
  stays (suc (suc (suc n))) few speed kept = absurd (omega (arith, few))

-- ---- what is handed on

module _ (axis : AxisDrag) (force axial : Float) where
  pub slope_handed_on : air_and_slope axis force axial ≡ with_slope axis axial (air_velocity axis force axial)
  unfolding air_and_slope with_slope air_velocity three_steps
  slope_handed_on = go (lt math.zero axis.k_per_m) (lt math.zero axis.mu_per_s)
    where
      refined : Float → Float
      refined = newton_step axis (abs force) axial

      fourth : Float
      fourth = refined (refined (refined (refined (still_air axis (abs force)))))

      quotient : Float
      quotient = against force (abs force ⊘ axis.mu_per_s)

      go : (b c : Bool) → cond b (Some (along (against force fourth) (slope axis fourth axial))) (cond c (Some (along quotient (slope axis quotient axial))) None)
          ≡ with_slope axis axial (cond b (Some (against force fourth)) (cond c (Some quotient) None))
      go true c = rw (slope_against axis force fourth axial)
      go false true = refl
      go false false = refl

  pub steps_as_source : (air : Option AirVelocity) → air ≡ air_and_slope axis force axial → air ≡ with_slope axis axial (air_velocity axis force axial)
  steps_as_source air e = e ∙ slope_handed_on

  pub air_handed_on : (air rise : Float) → Some (along air rise) ≡ air_and_slope axis force axial
      → (air_velocity axis force axial ≡ Some air) × (rise ≡ slope axis air axial)
  unfolding with_slope
  air_handed_on air rise e = go (air_velocity axis force axial) (e ∙ slope_handed_on)
    where
      go : (o : Option Float) → Some (along air rise) ≡ with_slope axis axial o → (o ≡ Some air) × (rise ≡ slope axis air axial)
      go None e = absurd cc
      go (Some a) e =
          let same : along air rise ≡ along a (slope axis a axial) = cc in
          let number : air ≡ a = ap (λ (v : AirVelocity). v.along_mps) same in (
            ap Some (sym number),
            ap (λ (v : AirVelocity). v.slope_per_s) same ∙ ap (λ (z : Float). slope axis z axial) (sym number),
          )

  pub none_handed_on : None ≡ air_and_slope axis force axial → air_velocity axis force axial ≡ None
  unfolding with_slope
  none_handed_on e = go (air_velocity axis force axial) (e ∙ slope_handed_on)
    where
      go : (o : Option Float) → None ≡ with_slope axis axial o → o ≡ None
      go None e = refl
      go (Some a) e = absurd cc

pub noise_handed_on : (force_noise : Float) (drag : AxisDrag) (predicted_air air axial : Float)
    → noise_by_slope force_noise drag predicted_air (slope drag air axial) axial ≡ noise force_noise drag predicted_air air axial
unfolding noise noise_by_slope
noise_handed_on force_noise drag predicted_air air axial = refl
