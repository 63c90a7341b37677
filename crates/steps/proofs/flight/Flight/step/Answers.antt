-- `steps::flight::Flight::step` meets its contract: it is the record's step, which takes no more bytes than there are. Assumes nothing.
use Rattle.std.proofs.Common.{ap}
use lib.Dec.{lit≤}
use Rattle.records.specs.Step.{Outcome}
use Rattle.records.proofs.Laws.Counts.{step_counted}
use Rattle.steps.specs.Turn.{after_outcome}
use Rattle.steps.proofs.flight.Flight.step.Goals as goal

pub returns : goal.returns
returns c =
    let same = c.record-handled.ensures in
    let taken = ap (λ (o : Outcome). o.taken) same in
    record {
      taken = taken;
      within = rw taken (step_counted _ _ _ (lit≤ tt)).within;
      after = rw c.flags_after-self.ensures (ap (λ (o : Outcome). after_outcome c.args.self.now.flags o) same);
    }
