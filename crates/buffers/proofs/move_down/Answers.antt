-- `buffers::move_down` meets its contract. Assumes nothing.
use Rattle.std.proofs.Common.{refl, zero-add}
use borrow.Author.Tests.{le-leb, lt-leb}
use Rattle.buffers.specs.Buffers.{moved}
use Rattle.buffers.proofs.Laws.Moved.{unmoved}
use Rattle.buffers.proofs.move_down.Goals.{else-end-bytes-via-then-end-bytes+else-from-end, else-end-bytes-via-else-end-bytes}
use Rattle.buffers.proofs.move_down.Goals as goal

pub returns-then-from-end : goal.returns-then-from-end
unfolding moved
returns-then-from-end c = rw (le-leb _ _ c.if-end-bytes.true) (simp zero-add at c.copy_within.ensures.after)

pub returns-else-end-bytes : goal.returns-else-end-bytes
unfolding moved
returns-else-end-bytes c = elim c.else-end-bytes.branch [
  | else-end-bytes-via-then-end-bytes+else-from-end w ↦ unmoved _ _ _ w.if-from-end.false
  | else-end-bytes-via-else-end-bytes w ↦ rw (lt-leb _ _ w.if-end-bytes.false) refl
]
