-- `buffers::Buffer::try_read` meets its contract. Assumes nothing.
use Rattle.std.proofs.Common.{take, arith}
use Rattle.buffers.proofs.Laws.Held.{written}
use Rattle.buffers.proofs.Buffer.try_read.Goals as goal

pub returns-clause-reads : goal.returns-clause-reads
returns-clause-reads g c =
    let before = c.self.inside in
    let got = c.in_ok-got.got in
    let read = c.in_ok-got.ensures in
    (take got c.read.new.buf, (rw (← c.self.view_is) (written before.held got _ before.bytes c.read.new.buf (omega (arith, read.bound.0)) read.bound.0), read.bytes.0))
