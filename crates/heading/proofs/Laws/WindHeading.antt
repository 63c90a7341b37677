-- The wind heading: a fresh one has no side, the side once picked is kept, an estimate already weighed moves nothing, and one with a NaN in it is never
-- one already weighed. Assumes nothing.
use Rattle.std.specs.Prelude.{None, Option, Some}
use mathlib.Core.Path.{◌≡◌, refl}
use mathlib.Core.Bool.{Bool, true, false, ◌&&◌}
use lib.Ieee.{Float, lt}
use Rattle.math.specs.Math.{zero}
use Rattle.wind.specs.declared.estimate.WindEstimate.{WindEstimate}
use Rattle.math.proofs.Laws.Cases.{cond_holds}
use Rattle.heading.specs.declared.HeadingConfig.{HeadingConfig}
use Rattle.heading.specs.declared.wind_heading.WindHeading.{WindHeading}
use Rattle.heading.specs.declared.wind_heading.WindTurn.{WindTurn}
use Rattle.heading.specs.declared.wind_heading.Wingtip.{Wingtip}
use Rattle.heading.specs.Equality.{same_vector, same_matrix}
use Rattle.heading.specs.WindHeading.{fresh, same_estimate, weighed_already, picked_side, known, wingtip, weigh, target}
use Rattle.heading.proofs.Laws.Equality.{fails_with, and_entails, vector_numbers, matrix_numbers, vector_same_itself, matrix_same_itself}
use Rattle.heading.proofs.Laws.Equality.{same_vector_numbers, same_matrix_numbers}

-- ---- equal estimates

-- no number of it is a NaN
abbrev pub estimate_numbers : WindEstimate → Bool
estimate_numbers a = vector_numbers a.velocity_mps && matrix_numbers a.covariance_m2ps2

-- an estimate equals itself exactly where it holds no NaN
pub estimate_same_itself : (a : WindEstimate) → same_estimate a a ≡ estimate_numbers a
unfolding same_estimate
estimate_same_itself a = rw (vector_same_itself a.velocity_mps, matrix_same_itself a.covariance_m2ps2)

-- an estimate with a NaN in it equals none
pub nan_estimate_differs : (a b : WindEstimate) → estimate_numbers b ≡ false → same_estimate a b ≡ false
unfolding same_estimate
nan_estimate_differs a b =
    let v = a.velocity_mps in
    let w = b.velocity_mps in
    let p = a.covariance_m2ps2 in
    let q = b.covariance_m2ps2 in
    fails_with (same_vector v w && same_matrix p q) (estimate_numbers b)
    (and_entails (same_vector v w) (same_matrix p q) (vector_numbers w) (matrix_numbers q) (same_vector_numbers v w) (same_matrix_numbers p q))

pub nan_never_weighed_already : (weighed : Option WindEstimate) (present : WindEstimate) → estimate_numbers present ≡ false → weighed_already weighed present ≡ false
unfolding weighed_already
nan_never_weighed_already None present e = refl
nan_never_weighed_already (Some last) present e = nan_estimate_differs last present e

module _ (self : WindHeading) (config : HeadingConfig) (heading : Float) where
  abbrev on : Bool
  on = lt zero config.wind_heading_min_mps

  -- ---- an estimate already weighed

  -- with no estimate nothing moves
  pub no_estimate_moves_nothing : (target self config None heading).wind ≡ self
  unfolding target
  no_estimate_moves_nothing = cond_holds (λ (t : WindTurn). t.wind ≡ self) on (λ _. refl) (λ _. refl)

  module _ (present : WindEstimate) where
    -- what was weighed already counts as no estimate
    pub weighed_already_skipped : weighed_already self.weighed present ≡ true
        → target self config (Some present) heading ≡ target self config None heading
    unfolding target
    weighed_already_skipped e = rw e

    pub weighed_already_moves_nothing : weighed_already self.weighed present ≡ true → (target self config (Some present) heading).wind ≡ self
    weighed_already_moves_nothing e = rw (weighed_already_skipped e) no_estimate_moves_nothing

    -- while it is on, the answer is the target that is kept
    pub weighed_already_answers_kept : weighed_already self.weighed present ≡ true → on ≡ true
        → (target self config (Some present) heading).target_rad ≡ self.target_rad
    unfolding target
    weighed_already_answers_kept e o = rw (o, e)

    -- while it is on, an estimate with a NaN in it is weighed on every call
    pub nan_weighed_again : estimate_numbers present ≡ false → on ≡ true
        → target self config (Some present) heading ≡ weigh self config present heading
    unfolding target
    nan_weighed_again e o = rw (o, nan_never_weighed_already self.weighed present e)

-- an estimate of numbers is weighed once: the call after it moves nothing, whatever its configuration and heading
pub weighed_once : (self : WindHeading) (config next : HeadingConfig) (heading later : Float) (present : WindEstimate) → estimate_numbers present ≡ true
    → (target (weigh self config present heading).wind next (Some present) later).wind ≡ (weigh self config present heading).wind
unfolding weigh weighed_already
weighed_once self config next heading later present e =
    weighed_already_moves_nothing (weigh self config present heading).wind next later present (rw (estimate_same_itself present) e)

-- off without a positive least wind: nothing moves, and there is no heading
pub off_moves_nothing : (self : WindHeading) (config : HeadingConfig) (estimate : Option WindEstimate) (heading : Float) → lt zero config.wind_heading_min_mps ≡ false
    → target self config estimate heading ≡ record { wind = self; target_rad = None }
unfolding target
off_moves_nothing self config estimate heading e = rw e

-- ---- the side

pub fresh_unpicked : fresh.side ≡ None
unfolding fresh
fresh_unpicked = refl

module _ (s : Float) where
  wingtip_keeps_side : (side : Option Float) (config : HeadingConfig) (present : WindEstimate) (heading : Float) → side ≡ Some s
      → (wingtip side config present heading).side ≡ Some s
  unfolding wingtip picked_side
  wingtip_keeps_side side config present heading e = rw e (cond_holds (λ (t : Wingtip). t.side ≡ Some s) (known config present) (λ _. refl) (λ _. refl))

  pub target_keeps_side : (self : WindHeading) (config : HeadingConfig) (estimate : Option WindEstimate) (heading : Float) → self.side ≡ Some s
      → (target self config estimate heading).wind.side ≡ Some s
  unfolding target weigh
  target_keeps_side self config None heading e =
      cond_holds (λ (t : WindTurn). t.wind.side ≡ Some s) (lt zero config.wind_heading_min_mps) (λ _. e) (λ _. e)
  target_keeps_side self config (Some present) heading e =
      cond_holds (λ (t : WindTurn). t.wind.side ≡ Some s) (lt zero config.wind_heading_min_mps)
      (λ _.
      cond_holds (λ (t : WindTurn). t.wind.side ≡ Some s) (weighed_already self.weighed present) {y = weigh self config present heading} (λ _. e)
      (λ _. wingtip_keeps_side self.side config present heading e))
      (λ _. e)
