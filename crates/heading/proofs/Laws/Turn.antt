-- A turn from a finite heading goes at most the step to either side. A step that is negative or a NaN counts as 0. Assumes nothing.
use lib.Dec.{T}
use lib.Ieee.{Float, binary32, neg, sub, le}
use lib.Ieee.Scale.{finite}
use Rattle.floats.specs.Ops.{◌⊕◌, ◌⊖◌}
use Rattle.floats.proofs.Laws.Order.{number, finite→number, le_numbers, float_le_refl}
use Rattle.floats.proofs.Laws.Sum.{add_number, add_mono}
use Rattle.math.specs.Math.{limit_or_zero, clamp_symmetric, wrap_angle}
use Rattle.math.proofs.Laws.Limits.{clamp_symmetric_within}
use Rattle.heading.specs.LegHeading.{turned_toward}

pub turn_within_step : (from to step : Float) → T (finite from) → T (number (wrap_angle (to ⊖ from)))
    → T (le (from ⊖ limit_or_zero step) (turned_toward from to step)) × T (le (turned_toward from to step) (from ⊕ limit_or_zero step))
unfolding turned_toward sub
turn_within_step from to step p n =
    let l = limit_or_zero step in
    let turn = clamp_symmetric (wrap_angle (to ⊖ from)) step in
    let within = clamp_symmetric_within (wrap_angle (to ⊖ from)) step n in
    let stays = float_le_refl from (finite→number from p) in
    let turned = add_number binary32 from turn p (le_numbers (neg l) turn within.0).1 in (
      add_mono binary32 from from (neg l) turn stays within.0 (add_number binary32 from (neg l) p (le_numbers (neg l) turn within.0).0) turned,
      add_mono binary32 from from turn l stays within.1 turned (add_number binary32 from l p (le_numbers turn l within.1).1),
    )
