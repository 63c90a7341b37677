-- `records::flight::serve` meets its contract: each record that `turn` serves takes the flight one record further, until it ends, waits
-- or comes to another kind. Assumes nothing.
use Rattle.std.specs.Prelude.{Some}
use Rattle.std.proofs.Common.{rules}
use Prim.Native.Nat.{ℕ, ◌+◌, ◌-◌, ◌≤◌, ◌<◌}
use mathlib.Core.Path.{◌≡◌, refl, sym, ap, subst, ◌∙◌}
use mathlib.Core.Bool.{Bool, true, false, true≢false}
use mathlib.Core.List.{List, ◌++◌}
use native.Mathlib.Omega.{arith}
use native.Mathlib.Nat.{le_refl}
use borrow.Rule.Slice.PartMut.{put_mid}
use lib.ListN.{length, take, drop, get_or, length-drop}
use lib.Seq.{get_or-drop}
use Rattle.copter.specs.declared.config.CopterGuidanceConfig.{CopterGuidanceConfig}
use Rattle.copter.specs.declared.memory.Memory.{Memory}
use Rattle.copter.specs.declared.memory.CopterGuidance.{CopterGuidance}
use Rattle.records.specs.declared.flight.Flown.{Flown}
use Rattle.records.specs.declared.kinds.Kind.TheVariants as kinds
use Rattle.records.specs.declared.turn.Turned.{Turned}
use Rattle.records.specs.Layout.{byte_at}
use Rattle.records.specs.Answer.{answer_bytes}
use Rattle.records.specs.Step.{answer_room, judged}
use Rattle.records.specs.Flight.{Flight, ends_flight, waits, flown}
use Rattle.records.specs.Kinds.{kind_of}
use Rattle.records.specs.Inner.{guidance_of, craft_of, came, in_craft, waiting, serving, next, Served, serves}
use Rattle.records.proofs.Laws.Flight.{ready_some, ready_room, next_moves}
use Rattle.records.proofs.Parts.{lent}
use Rattle.records.proofs.Steps.{judged_at, kind_unserved, configure_unserved}
use Rattle.records.proofs.Underway.{Underway, set_off, one_more, stopped, standing, waits_there, one_further}
use Rattle.records.proofs.flight.serve.Goals as goal
use Rattle.records.proofs.flight.serve.Goals.{After-turn-turned}

-- the byte that the next record starts with
kind_left : (bytes : List ℕ) (n : ℕ) → byte_at (drop n bytes) 0 ≡ get_or bytes n 0
kind_left bytes n = let there : n + 0 ≡ n = omega arith in rw (get_or-drop, there)

-- the same flight with the craft's guidance known
abbrev start_of : Flown → List ℕ → CopterGuidance → Flight
start_of at out g = standing (craft_of g.config g.memory) at.taken at.written false out

set_out_same : (at : Flown) (out : List ℕ) (g : CopterGuidance) → at.craft.guidance ≡ Some g → at.ended ≡ false → start_of at out g ≡ flown at out
set_out_same at out g e n i = record { craft = record { guidance = sym e i }; taken = at.taken; written = at.written; ended = sym n i; buffer = out }

-- a flight that has come further from where the loop set out, and stops there
served : (bytes : List ℕ) (last : Bool) (at : Flown) (out : List ℕ) (g : CopterGuidance) → at.craft.guidance ≡ Some g → at.ended ≡ false
    → (flight : Flight) → Underway bytes last (start_of at out g) flight
    → (flight.ended ≡ false → waiting last bytes flight ≡ false → serving bytes flight ≡ false) → (ended : Bool) → ended ≡ flight.ended
    → Served bytes last (flown at out) (standing flight.craft flight.taken flight.written ended flight.buffer)
served bytes last at out g is going flight under stops ended e =
    subst (λ (b : Bool). Served bytes last (flown at out) (standing flight.craft flight.taken flight.written b flight.buffer)) (sym e)
    (subst (λ (f : Flight). Served bytes last f flight) (set_out_same at out g is going) (stopped bytes last (start_of at out g) flight under stops))

-- ---- the flight at the loop's head, and after a record

abbrev stood : CopterGuidanceConfig → Memory → ℕ → ℕ → List ℕ → Flight
stood config memory taken written out = standing (craft_of config memory) taken written false out

-- a record of a kind that `turn` does not serve ends the loop
other_kind : (bytes : List ℕ) (last : Bool) (at : Flown) (out : List ℕ) (g : CopterGuidance) → at.craft.guidance ≡ Some g → at.ended ≡ false
    → (memory : Memory) (taken written : ℕ) (now : List ℕ) → Underway bytes last (start_of at out g) (stood g.config memory taken written now)
    → serves (Some (guidance_of g.config memory)) (kind_of (get_or bytes taken 0)) ≡ false → (ended : Bool) → ended ≡ false
    → Served bytes last (flown at out) (standing (craft_of g.config memory) taken written ended now)
other_kind bytes last at out g is going memory taken written now under other ended e =
    let other_left : serving bytes (stood g.config memory taken written now) ≡ false = rw (kind_left bytes taken) other in
    served bytes last at out g is going (stood g.config memory taken written now) under (λ going go. other_left) ended e

abbrev standing_after : CopterGuidanceConfig → ℕ → ℕ → List ℕ → Turned Memory → Bool → ℕ → List ℕ → Flight
standing_after config taken written out r ended put after =
    standing (craft_of config r.kept) (taken + r.taken) (written + put) ended (put_mid written (length out - written) out after)

module _ (bytes : List ℕ) (last : Bool) (start : Flight) (config : CopterGuidanceConfig) (memory : Memory) (taken written : ℕ) (out : List ℕ)
    (waited : Bool) (said : waited ≡ waits last (take (length bytes - taken) (drop taken bytes)) (length out - written)) (goes_on : waited ≡ false) where
  ready : waiting last bytes (stood config memory taken written out) ≡ false
  ready = sym (waits_there bytes out (craft_of config memory) taken written last waited said) ∙ goes_on

  -- a byte at least is left, and there is room
  some_left : 1 ≤ length (drop taken bytes)
  some_left = ready_some last _ _ ready

  room_left : answer_room ≤ length (drop written out)
  room_left = ready_room last _ _ ready

  module _ (under : Underway bytes last start (stood config memory taken written out)) (r : Turned Memory)
      (came_to : in_craft config r ≡ came (craft_of config memory)
      (judged (Some (guidance_of config memory)) (take (length bytes - taken) (drop taken bytes)))) (put : ℕ) (after : List ℕ)
      (long : put ≡ length (answer_bytes r.answer))
      (is : after ≡ answer_bytes r.answer ++ drop put (take (length out - written) (drop written out))) where
    further : standing_after config taken written out r (ends_flight r.answer) put after ≡ next bytes (stood config memory taken written out)
    further = one_further bytes out (craft_of config memory) taken written (in_craft config r) came_to room_left put after long is

    come : (ended : Bool) → ended ≡ ends_flight r.answer → Underway bytes last start (standing_after config taken written out r ended put after)
    come ended e =
        rw e (subst (Underway bytes last start) (sym further)
        (one_more bytes last start (stood config memory taken written out) under refl ready))

    falls : ends_flight r.answer ≡ false → length bytes - (taken + r.taken) < length bytes - taken
    falls goes =
        let on : (next bytes (stood config memory taken written out)).ended ≡ false = sym (ap (λ (f : Flight). f.ended) further) ∙ goes in
        let moved = next_moves last bytes _ (stood config memory taken written out) under.stands ready on in
        omega (arith, moved, ap (λ (f : Flight). f.taken) further, some_left, length-drop taken bytes)

pub returns-in_default : goal.returns-in_default
returns-in_default c =
    record { same = refl; stands = c.requires.stands; further = le_refl c.args.at.taken; stops = λ going go. rw c.in_default.is }

pub loop-in_flight-init : goal.loop-in_flight-init
loop-in_flight-init c =
    let stands = c.requires.stands in
    record { going = refl; under = set_off _ _ _ (record { within = stands.within; fits = stands.fits; kept = refl }) }

-- ---- after `turn`

came_to : (c : After-turn-turned) →
    let config = c.in-Some.g.config in
    let head = c.loop-in_flight in
    let bytes = c.args.bytes.now in
    in_craft config c.turn-turned.result
    ≡ came (craft_of config head.memory) (judged (Some (guidance_of config head.memory)) (take (length bytes - head.taken) (drop head.taken bytes)))
came_to c =
    let config = c.in-Some.g.config in
    let head = c.loop-in_flight in
    let args = c.args in
    let some =
    some_left args.bytes.now args.last (flown args.at args.out.now) config head.memory head.taken head.written head.out
    c.waits.result c.waits.ensures c.loop-in_flight-test.true in
    c.turn-turned.ensures
    ∙ ap (came (craft_of config head.memory))
    (sym (judged_at (Some (guidance_of config head.memory)) args.bytes.now head.taken (kinds.InFlight c.in-Ok-InFlight.in_flight) some
    (c.in-Ok-InFlight.ensures ∙ ap Some c.in-Ok-InFlight.field-0-is)))

-- the flight as it stands, and the measure, whatever number of bytes the answer has
module _ (c : After-turn-turned) (put : ℕ) (after : List ℕ) (long : put ≡ length (answer_bytes c.turn-turned.result.answer))
    (is : after ≡ answer_bytes c.turn-turned.result.answer
    ++ drop put (take (length c.loop-in_flight.out - c.loop-in_flight.written) (drop c.loop-in_flight.written c.loop-in_flight.out))) where
  stands_so : (ended : Bool) → ended ≡ ends_flight c.turn-turned.result.answer
      → Underway c.args.bytes.now c.args.last (start_of c.args.at c.args.out.now c.in-Some.g)
      (standing_after c.in-Some.g.config c.loop-in_flight.taken c.loop-in_flight.written c.loop-in_flight.out c.turn-turned.result ended put after)
  stands_so =
      let head = c.loop-in_flight in
      come c.args.bytes.now c.args.last (start_of c.args.at c.args.out.now c.in-Some.g) c.in-Some.g.config head.memory head.taken
      head.written head.out c.waits.result c.waits.ensures c.loop-in_flight-test.true head.invariant.under c.turn-turned.result (came_to c) put after long is

  fewer_left : ends_flight c.turn-turned.result.answer ≡ false
      → length c.args.bytes.now - (c.loop-in_flight.taken + c.turn-turned.result.taken) < length c.args.bytes.now - c.loop-in_flight.taken
  fewer_left =
      let head = c.loop-in_flight in
      falls c.args.bytes.now c.args.last (start_of c.args.at c.args.out.now c.in-Some.g) c.in-Some.g.config head.memory head.taken
      head.written head.out c.waits.result c.waits.ensures c.loop-in_flight-test.true head.invariant.under c.turn-turned.result (came_to c) put after long is

pub write_answer-written-requires : goal.write_answer-written-requires
write_answer-written-requires c =
    let args = c.args in
    let head = c.loop-in_flight in
    rw (lent head.out head.written)
    (room_left args.bytes.now args.last (start_of args.at args.out.now c.in-Some.g) c.in-Some.g.config head.memory head.taken head.written head.out
    c.waits.result c.waits.ensures c.loop-in_flight-test.true)

pub overflow_add-written : goal.overflow_add-written
overflow_add-written c =
    let stands = (stands_so (goal.at.overflow_add-written c).After-turn-turned _ _ refl refl _ refl).stands in
    omega (arith, stands.fits, stands.kept, c.write_answer-written.ensures.value)

pub loop-in_flight-smaller : goal.loop-in_flight-smaller
loop-in_flight-smaller c = fewer_left (goal.at.loop-in_flight-smaller c).After-turn-turned _ _ refl refl (sym c.ends_flight.ensures ∙ c.if-ends_flight.false)

pub loop-in_flight-preserved : goal.loop-in_flight-preserved
loop-in_flight-preserved c =
    let put = c.write_answer-written in
    record {
      going = c.loop-in_flight.invariant.going;
      under =
          stands_so (goal.at.loop-in_flight-preserved c).After-turn-turned put.result put.new.out put.ensures.value put.ensures.out_after false
          (sym c.if-ends_flight.false ∙ c.ends_flight.ensures);
    }

-- ---- where the loop stops

pub returns-after-loop-in_flight : goal.returns-after-loop-in_flight
returns-after-loop-in_flight c =
    let args = c.args in
    let head = c.loop-in_flight in
    let g = c.in-Some.g in
    let flight = stood g.config head.memory head.taken head.written head.out in
    let held_up : waiting args.last args.bytes.now flight ≡ true =
    sym (waits_there args.bytes.now head.out flight.craft head.taken head.written args.last c.waits.result c.waits.ensures) ∙ c.loop-in_flight-test.false in
    served args.bytes.now args.last args.at args.out.now g c.in-Some.is c.requires.going flight head.invariant.under
    (λ going go. absurd (true≢false (sym held_up ∙ go))) head.ended head.invariant.going

pub returns-in_default-try_from : goal.returns-in_default-try_from
returns-in_default-try_from c =
    let head = c.loop-in_flight in
    other_kind c.args.bytes.now c.args.last c.args.at c.args.out.now c.in-Some.g c.in-Some.is c.requires.going head.memory head.taken head.written head.out
    head.invariant.under (configure_unserved (Some (guidance_of c.in-Some.g.config head.memory)) _ c.try_from.result c.try_from.ensures (search rules)) head.ended head.invariant.going

pub returns-in_default-try_from-2 : goal.returns-in_default-try_from-2
returns-in_default-try_from-2 c =
    let head = c.loop-in_flight in
    other_kind c.args.bytes.now c.args.last c.args.at c.args.out.now c.in-Some.g c.in-Some.is c.requires.going head.memory head.taken head.written head.out
    head.invariant.under (kind_unserved (Some (guidance_of c.in-Some.g.config head.memory)) _ c.try_from.result _ c.try_from.ensures (search rules)) head.ended head.invariant.going

pub returns-then-ends_flight : goal.returns-then-ends_flight
returns-then-ends_flight c =
    let args = c.args in
    let head = c.loop-in_flight in
    let g = c.in-Some.g in
    let r = c.turn-turned.result in
    let put = c.write_answer-written in
    served args.bytes.now args.last args.at args.out.now g c.in-Some.is c.requires.going
    (standing_after g.config head.taken head.written head.out r true put.result put.new.out)
    (stands_so (goal.at.returns-then-ends_flight c).After-turn-turned put.result put.new.out put.ensures.value put.ensures.out_after true
    (sym c.if-ends_flight.true ∙ c.ends_flight.ensures)) (λ going go. absurd (true≢false going)) true refl
