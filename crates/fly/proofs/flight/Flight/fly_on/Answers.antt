-- `fly::flight::Flight::fly_on` meets its contract: what the records take is there. Assumes nothing.
use Rattle.records.proofs.Laws.Flight.{flown_stands}
use Rattle.fly.proofs.flight.Flight.fly_on.Goals as goal

pub slice_bounds-of-count : goal.slice_bounds-of-count
slice_bounds-of-count c =
    let here = c.args.self.now in
    (flown_stands c.fly-flown.result c.fly-flown.new.out here.craft c.args.input.now c.args.last here.answers c.fly-flown.ensures).0

pub slice_bounds-of-start : goal.slice_bounds-of-start
slice_bounds-of-start c = slice_bounds-of-count c
