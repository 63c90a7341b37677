-- `records::flight::begin` meets its contract: the flight one record further. Assumes nothing.
use Prim.Native.Nat.{ℕ, ◌+◌, ◌-◌}
use mathlib.Core.Path.{◌≡◌, refl, sym, ap, subst, ◌∙◌}
use mathlib.Core.Bool.{Bool, true}
use mathlib.Core.List.{List, ◌++◌}
use native.Mathlib.Omega.{arith}
use borrow.Rule.Slice.PartMut.{put_mid}
use lib.ListN.{length, take, drop}
use Rattle.records.specs.Answer.{answer_bytes}
use Rattle.records.specs.Flight.{Flight, ends_flight, onward, flown}
use Rattle.records.specs.Inner.{next, Stands}
use Rattle.records.proofs.Parts.{lent}
use Rattle.records.proofs.Laws.Flight.{ready_room, next_stands}
use Rattle.records.proofs.Underway.{standing, one_further}
use Rattle.records.proofs.flight.begin.Goals as goal
use Rattle.records.proofs.flight.begin.Goals.{After-start-turned}

-- ---- the flight after the record

abbrev free : After-start-turned → List ℕ
free c = take (length c.args.out.now - c.args.at.written) (drop c.args.at.written c.args.out.now)

abbrev after : After-start-turned → Bool → ℕ → List ℕ → Flight
after c ended put buffer =
    let at = c.args.at in
    let out = c.args.out.now in
    let turned = c.start-turned.result in
    standing turned.kept (at.taken + turned.taken) (at.written + put) ended (put_mid at.written (length out - at.written) out buffer)

further : (c : After-start-turned) (put : ℕ) (buffer : List ℕ) → put ≡ length (answer_bytes c.start-turned.result.answer)
    → buffer ≡ answer_bytes c.start-turned.result.answer ++ drop put (free c)
    → after c (ends_flight c.start-turned.result.answer) put buffer ≡ next c.args.bytes.now (flown c.args.at c.args.out.now)
unfolding onward
further c =
    let args = c.args in
    one_further args.bytes.now args.out.now args.at.craft args.at.taken args.at.written c.start-turned.result c.start-turned.ensures
    (ready_room true _ _ c.requires.not_waiting)

stands_after : (c : After-start-turned) →
    let answer = answer_bytes c.start-turned.result.answer in
    Stands c.args.bytes.now (length c.args.out.now)
    (after c (ends_flight c.start-turned.result.answer) (length answer) (answer ++ drop (length answer) (free c)))
stands_after c =
    let args = c.args in
    subst (Stands args.bytes.now (length args.out.now)) (sym (further c _ _ refl refl))
    (next_stands true args.bytes.now (length args.out.now) (flown args.at args.out.now) c.requires.going.stands c.requires.not_waiting)

pub start-turned-requires : goal.start-turned-requires
start-turned-requires c = rw (lent c.args.bytes.now c.args.at.taken) c.requires.not_serving

pub overflow_add-result : goal.overflow_add-result
overflow_add-result c = omega (arith, (stands_after (goal.at.overflow_add-result c).After-start-turned).within)

pub write_answer-requires : goal.write_answer-requires
write_answer-requires c = rw (lent c.args.out.now c.args.at.written) (ready_room true _ _ c.requires.not_waiting)

pub overflow_add-result-2 : goal.overflow_add-result-2
overflow_add-result-2 c =
    let stands = stands_after (goal.at.overflow_add-result-2 c).After-start-turned in
    omega (arith, stands.fits, stands.kept, c.write_answer.ensures.value)

pub returns : goal.returns
returns c =
    let handled = (goal.at.returns c).After-start-turned in
    let written = c.write_answer.ensures in
    ap (λ (ended : Bool). after handled ended c.write_answer.result c.write_answer.new.out) c.ends_flight.ensures
    ∙ further handled c.write_answer.result c.write_answer.new.out written.value written.out_after
