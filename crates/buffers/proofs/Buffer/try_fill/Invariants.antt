-- `buffers::Buffer::try_fill`: what was read so far stands behind what was held, and each read brought a byte.
use Rattle.std.proofs.Common.{◌+◌, ◌≤◌, length}
use Rattle.buffers.specs.Buffers.{Reads}
use Rattle.buffers.proofs.Buffer.try_fill.Given as goal

abbrev pub invariant-loop : goal.invariant-loop
invariant-loop g l = record {
  reads : Reads (g.R.Read.remaining l.fn.reader) (g.R.Read.remaining l.reader) l.fn.self l.self;
  longer : length l.fn.self + l.counter ≤ length l.self;
}
