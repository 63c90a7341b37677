-- `fly::flight::Flight::fly_all` meets its contract: its turns write the answers of the whole input. Assumes nothing.
use Rattle.std.proofs.Common.{List, [], Option, Some, None, ℕ}
use Rattle.std.specs.Prelude.{◌≡◌, true, IsSome}
use Rattle.buffers.specs.declared.launcher.Reading.TheVariants.{Once}
use Rattle.buffers.specs.Turns.{Turned}
use Rattle.fly.specs.declared.flight.Flight.{Flight}
use Rattle.fly.specs.Flight.{Flies, Answered}
use Rattle.fly.proofs.Whole.{whole}
use Rattle.fly.proofs.flight.Flight.fly_all.Goals as goal

answered : (input out : Option (List ℕ)) (first : Flight) (left out_now : Option (List ℕ)) (last : Flight) (got : Option ℕ)
    → Turned Flies Once 65536 input out first [] left out_now last got → IsSome got → last.complete ≡ true → Answered input out first.craft out_now
answered None out first left out_now last got turned = λ some complete. tt
answered (Some bytes) out first left out_now last got turned = whole first bytes out turned

pub returns : goal.returns
returns g c = answered _ _ c.args.self.now _ _ c.run.new.program _ (rw c.new.ensures at c.run.ensures)
