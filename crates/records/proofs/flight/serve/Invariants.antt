-- `records::flight::serve`: the flight at the loop's head has come further from where it set out, and goes on; each round takes a byte at least.
use Rattle.std.proofs.Common.{◌≡◌, ◌-◌, false, length}
use Rattle.records.specs.Inner.{craft_of}
use Rattle.records.proofs.Underway.{Underway, standing}
use Rattle.records.proofs.flight.serve.Given as goal

abbrev pub invariant-loop-in_flight : goal.invariant-loop-in_flight
invariant-loop-in_flight l =
    record {
      going : l.ended ≡ false;
      under : Underway l.bytes l.last (standing (craft_of l.config l.initial.memory) l.initial.taken l.initial.written false l.initial.out)
          (standing (craft_of l.config l.memory) l.taken l.written false l.out);
    }

abbrev pub decreases-loop-in_flight : goal.decreases-loop-in_flight
decreases-loop-in_flight l = length l.bytes - l.taken
