-- `fly`'s turn meets its contract: its pieces write the answers of what it takes. Assumes nothing.
use Rattle.std.proofs.Common.{◌≡◌, ◌≤◌, ◌+◌, refl, sym, ap, ◌∙◌, arith, subst, drop, length}
use Rattle.std.specs.Prelude.{min}
use lib.ListN.{length-drop}
use Rattle.fly.specs.declared.flight.Flight.{Flight}
use Rattle.buffers.specs.Output.{most_counted}
use Rattle.fly.proofs.Pieces.{rest_of}
use Rattle.fly.proofs.Turning.{SoFar, piece, piece_more, piece_ends, turn_over}
use Rattle.fly.proofs.flight.FlightProgram.turn.Goals as goal

pub returns-then-flown-clause-met : goal.returns-then-flown-clause-met
returns-then-flown-clause-met g c = λ complete.
    let here = c.loop-flown in
    let first = c.args.self.now in
    let held = c.args.held.now in
    let last = c.is_last-last.result in
    let r = c.in_ok-flown.flown in
    let new = c.fly_some.new.self in
    let flown = piece first here.self new held here.taken last r c.in_ok-flown.ensures.flown c.in_ok-flown.ensures.after here.invariant.counted in
    let (written, appended, answers) =
    piece_ends first.craft held last _ _ here.taken here.self.craft here.invariant.so_far _ r here.self.answers new.answers flown.same c.in_ok-flown.ensures.written
    c.if-flown.true in
    (written, appended, (λ more all. answers more (λ at_last. all (sym c.is_last-last.ensures ∙ at_last))))

pub returns-then-flown-eq0-clause-met : goal.returns-then-flown-eq0-clause-met
returns-then-flown-eq0-clause-met g c =
    let here = c.loop-flown in
    let last = c.is_last-last.result in
    let new = c.fly_some.new.self in
    let flown =
    piece c.args.self.now here.self new c.args.held.now here.taken last c.in_ok-flown.flown c.in_ok-flown.ensures.flown c.in_ok-flown.ensures.after
    here.invariant.counted in
    let none : here.taken + c.in_ok-flown.flown.taken ≡ here.taken = omega (arith, c.if-flown-eq0.true) in
    let counted : new.taken ≡ min (c.args.self.now.taken + here.taken) most_counted = flown.counted ∙ ap (λ n. min (c.args.self.now.taken + n) most_counted) none in
    let after_turn : Flight = record { craft = new.craft; answers = new.answers; taken = new.taken; ending = new.ending; complete = last } in
    rw c.then_some.ensures
    (turn_over c.args.self.now.craft c.args.held.now last _ _ here.taken here.self.craft here.invariant.so_far _ c.in_ok-flown.flown here.self.answers new.answers
    flown.same c.in_ok-flown.ensures.written c.args.self.now after_turn c.args.got refl flown.craft refl counted c.is_last-last.ensures
    (omega (arith, here.invariant.room)) c.if-flown.false c.if-flown-eq0.true)

pub loop-flown-preserved : goal.loop-flown-preserved
loop-flown-preserved g c =
    let here = c.loop-flown in
    let held = c.args.held.now in
    let r = c.in_ok-flown.flown in
    let new = c.fly_some.new.self in
    let flown =
    piece c.args.self.now here.self new held here.taken c.is_last-last.result r c.in_ok-flown.ensures.flown c.in_ok-flown.ensures.after here.invariant.counted in
    let within : r.taken ≤ length (drop here.taken held) = rw (rest_of held here.taken) at c.in_ok-flown.ensures.within in
    record {
      within = omega (arith, within, length-drop here.taken held, here.invariant.within);
      going = ap (λ (f : Flight). f.complete) c.in_ok-flown.ensures.after ∙ here.invariant.going;
      room = c.in_ok-flown.ensures.room;
      counted = flown.counted;
      so_far =
          subst (SoFar c.args.self.now.craft held c.is_last-last.result _ _ _) flown.craft
          (piece_more c.args.self.now.craft held c.is_last-last.result _ _ here.taken here.self.craft here.invariant.so_far _ r here.self.answers new.answers
          flown.same c.in_ok-flown.ensures.written c.if-flown.false);
    }
