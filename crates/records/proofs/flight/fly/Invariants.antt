-- `records::flight::fly`: the flight at the loop's head has come further from where it set out, and goes on; each round takes a byte at least.
use Rattle.std.proofs.Common.{◌≡◌, ◌-◌, false, length}
use Rattle.records.specs.Flight.{flown}
use Rattle.records.proofs.Underway.{Underway}
use Rattle.records.proofs.flight.fly.Given as goal

abbrev pub invariant-loop-at : goal.invariant-loop-at
invariant-loop-at l =
    record {
      going : l.at.ended ≡ false;
      under : Underway l.bytes l.last (flown l.initial.at l.initial.out) (flown l.at l.out);
    }

abbrev pub decreases-loop-at : goal.decreases-loop-at
decreases-loop-at l = length l.bytes - l.at.taken
