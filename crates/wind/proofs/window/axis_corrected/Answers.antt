-- `wind::window::axis_corrected` meets its contract: the slope that it is handed is the drag's at the air velocity. Assumes nothing.
use Rattle.wind.specs.Wind.{axis_corrected}
use Rattle.wind.proofs.Laws.Drag.{air_handed_on, noise_handed_on}
use Rattle.wind.proofs.window.axis_corrected.Goals as goal

pub returns : goal.returns
unfolding axis_corrected
returns c =
    let handed = air_handed_on _ _ _ c.in-Some.air.along_mps c.in-Some.air.slope_per_s c.in-Some.ensures.in_steps in
    rw (
      handed.0,
      c.correct.ensures,
      c.noise-noise_mps.ensures,
      handed.1,
      noise_handed_on,
      c.dot.ensures,
    )
