-- `buffers::Buffer::drop_front` meets its contract. Assumes nothing.
use Rattle.std.proofs.Common.{arith}
use Rattle.buffers.proofs.Laws.Held.{dropped}
use Rattle.buffers.proofs.Buffer.drop_front.Goals as goal

pub returns : goal.returns
returns g c =
    rw (← c.self.view_is, c.saturating_sub-self-inside.ensures, c.move_down.ensures) (dropped _ _ _ (omega (arith, c.self.invariant, c.self.told)))
