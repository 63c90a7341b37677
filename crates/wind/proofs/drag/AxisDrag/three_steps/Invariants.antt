-- `wind::drag::AxisDrag::three_steps` meets its contract: after i rounds the speed is that of i steps. Assumes nothing.
use Rattle.std.proofs.Common.{◌≡◌}
use Rattle.wind.proofs.Laws.Drag.{stepped}
use Rattle.wind.proofs.drag.AxisDrag.three_steps.Given as goal

abbrev pub invariant-loop : goal.invariant-loop
invariant-loop l = l.speed ≡ stepped l.fn.self l.fn.push l.fn.axial_mps l.counter l.fn.speed
