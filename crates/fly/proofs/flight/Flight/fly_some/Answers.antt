-- `fly::flight::Flight::fly_some` meets its contract: what the records take is there, and their answers fit. Assumes nothing.
use Rattle.std.proofs.Common.{sym}
use lib.Seq.{length-take-le}
use Rattle.records.proofs.Laws.Flight.{flown_stands}
use Rattle.fly.proofs.flight.Flight.fly_some.Goals as goal

pub slice_bounds-write_all-end : goal.slice_bounds-write_all-end
slice_bounds-write_all-end g c =
    let here = c.args.self.now in
    sym (length-take-le _ _ (flown_stands c.fly_on-flown.result c.fly_on-flown.new.self.answers here.craft c.args.input.now c.args.last here.answers c.fly_on-flown.ensures.flown).1)

pub returns-clause-within : goal.returns-clause-within
returns-clause-within g c =
    let here = c.args.self.now in
    (flown_stands c.fly_on-flown.result c.fly_on-flown.new.self.answers here.craft c.args.input.now c.args.last here.answers c.fly_on-flown.ensures.flown).0
