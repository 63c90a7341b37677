-- `buffers::Buffer::run`: what is held is what the turns so far left.
use Rattle.buffers.specs.Turns.{Underway}
use Rattle.buffers.proofs.Buffer.run.Given as goal

abbrev pub invariant-loop : goal.invariant-loop
invariant-loop g l = Underway g.P.Program.turned l.fn.reading g.row.N (g.R.Read.remaining l.fn.reader) (g.W.Write.contents l.fn.writer) l.fn.program l.fn.self l.counter (g.R.Read.remaining l.reader) (g.W.Write.contents l.writer) l.program l.self
