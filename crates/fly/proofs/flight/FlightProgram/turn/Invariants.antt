-- `fly`'s turn: what its pieces so far wrote and left. The measure is the bytes left.
use Rattle.std.proofs.Common.{◌≡◌, ◌≤◌, ◌+◌, false, length, ◌-◌}
use Rattle.std.specs.Prelude.{min}
use Rattle.buffers.specs.Output.{most_counted}
use Rattle.fly.proofs.Turning.{SoFar}
use Rattle.fly.proofs.flight.FlightProgram.turn.Given as goal

abbrev pub invariant-loop-flown : goal.invariant-loop-flown
invariant-loop-flown g l = record {
  within : l.taken ≤ length l.held;
  going : l.self.complete ≡ false;
  room : length l.self.answers ≡ 65536;
  counted : l.self.taken ≡ min (l.fn.self.taken + l.taken) most_counted;
  so_far : SoFar l.fn.self.craft l.held l.last (g.W.Write.contents l.fn.writer) (g.W.Write.contents l.writer) l.taken l.self.craft;
}

abbrev pub decreases-loop-flown : goal.decreases-loop-flown
decreases-loop-flown g l = length l.held - l.taken
