-- `copter::memory::VerticalMemory::land_descent` meets its contract, with no target and no finite altitude. Assumes nothing.
use lib.Ieee.{of_bits}
use Rattle.copter.specs.Descent.{land_descent, landed_from}
use Rattle.copter.proofs.memory.VerticalMemory.land_descent.Goals as goal

pub returns-in_default : goal.returns-in_default
unfolding land_descent landed_from of_bits
returns-in_default c = rw (← c.in_default.ensures, c.ramped_descent_mps.ensures)
