-- `replay::block::Replay::entries`: what is taken is there. The measure is the number of bytes left.
use Rattle.std.proofs.Common.{◌-◌, ◌≤◌, length}
use Rattle.replay.proofs.block.Replay.entries.Given as goal

abbrev pub invariant-loop-more : goal.invariant-loop-more
invariant-loop-more l = l.taken ≤ length l.bytes

abbrev pub decreases-loop-more : goal.decreases-loop-more
decreases-loop-more l = length l.bytes - l.taken
