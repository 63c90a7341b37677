-- `records::flight::fly` meets its contract: `serve` and `begin` by turns take the flight further, and what is to come of it stays the same. Assumes nothing.
use Prim.Native.Nat.{ℕ, ◌-◌}
use mathlib.Core.Path.{◌≡◌, refl, sym, ap, subst, ◌∙◌}
use mathlib.Core.Bool.{Bool, true, false}
use mathlib.Core.List.{List}
use native.Mathlib.Omega.{arith}
use native.Mathlib.Nat.{le_trans}
use borrow.Author.Tests.{le-ltb, ne_eqb}
use lib.ListN.{length, take, drop, length-drop}
use Rattle.records.specs.declared.flight.Flown.{Flown}
use Rattle.records.specs.Step.{answer_room}
use Rattle.records.specs.Flight.{Flight, waits, flown, set_out}
use Rattle.records.specs.Inner.{waiting, next, Served}
use Rattle.records.proofs.Laws.Flight.{ready_some, ready_room, next_moves, rest_ended, rest_waiting}
use Rattle.records.proofs.Underway.{Underway, set_off, one_more, waits_there}
use Rattle.records.proofs.flight.fly.Goals as goal
use Rattle.records.proofs.flight.fly.Goals.{After-serve-at, After-begin-at, then-at-via-then-at, then-at-via-else-at+then-waits}

-- ---- flights, over any bytes

-- a flight that has come further still
served_further : {bytes : List ℕ} {last : Bool} {start flight after : Flight} → Underway bytes last start flight → Served bytes last flight after
    → Underway bytes last start after
served_further under served =
    record {
      same = under.same ∙ served.same;
      stands =
          record { within = served.stands.within; fits = served.stands.fits; kept = served.stands.kept ∙ under.stands.kept };
      further = le_trans under.further served.further;
    }

-- a record that does not wait, waits no more where nothing follows
ready_at_last : (last : Bool) (bytes : List ℕ) (room : ℕ) → waits last bytes room ≡ false → waits true bytes room ≡ false
unfolding waits
ready_at_last last bytes room ready =
    let some = ready_some last bytes room ready in
    let here : length bytes ≡ 0 → ⊥ = λ none. omega arith in
    rw (ne_eqb (length bytes) 0 here, le-ltb room answer_room (ready_room last bytes room ready))

pub loop-at-init : goal.loop-at-init
loop-at-init c = record { going = refl; under = set_off _ _ _ (record { within = omega arith; fits = omega arith; kept = refl }) }

pub serve-at-requires : goal.serve-at-requires
serve-at-requires c =
    let inv = c.loop-at.invariant in
    let stands = inv.under.stands in
    record { stands = record { within = stands.within; fits = stands.fits; kept = refl }; going = inv.going }

-- what the test of `waits` said of a flight
waits_said : (bytes : List ℕ) (last : Bool) (at : Flown) (out : List ℕ) {waited : Bool}
    → waited ≡ waits last (take (length bytes - at.taken) (drop at.taken bytes)) (length out - at.written)
    → {is : Bool} → waited ≡ is → waiting last bytes (flown at out) ≡ is
waits_said bytes last at out {waited = waited} said told = sym (waits_there bytes out at.craft at.taken at.written last waited said) ∙ told

-- ---- after `serve`

abbrev served_flight : After-serve-at → Flight
served_flight c = flown c.serve-at.result c.serve-at.new.out

come : (c : After-serve-at) → Underway c.args.bytes.now c.args.last (set_out c.args.before c.args.out.now) (served_flight c)
come c = served_further c.loop-at.invariant.under c.serve-at.ensures

pub returns-then-at : goal.returns-then-at
returns-then-at c =
    let done = (goal.at.returns-then-at c).After-serve-at in
    let bytes = c.args.bytes.now in
    let last = c.args.last in
    sym ((come done).same ∙ elim c.then-at.branch [
      | then-at-via-then-at w ↦ rest_ended last bytes (served_flight done) w.if-at.true
      | then-at-via-else-at+then-waits w ↦ rest_waiting last bytes (served_flight done) w.if-at.false
          (waits_said bytes last c.serve-at.result c.serve-at.new.out w.waits.ensures w.if-waits.true)
    ])

pub begin-at-requires : goal.begin-at-requires
begin-at-requires c =
    let go = waits_said c.args.bytes.now c.args.last c.serve-at.result c.serve-at.new.out c.waits.ensures c.if-waits.false in
    let stands = c.serve-at.ensures.stands in
    record {
      going = record { stands = record { within = stands.within; fits = stands.fits; kept = refl }; going = c.if-at.false };
      not_waiting = ready_at_last c.args.last _ _ go;
      not_serving = c.serve-at.ensures.stops c.if-at.false go;
    }

-- ---- after `begin`

come_on : (c : After-begin-at) → Underway c.args.bytes.now c.args.last (set_out c.args.before c.args.out.now) (flown c.begin-at.result c.begin-at.new.out)
come_on c =
    let bytes = c.args.bytes.now in
    let start = set_out c.args.before c.args.out.now in
    let flight = flown c.serve-at.result c.serve-at.new.out in
    let go = waits_said bytes c.args.last c.serve-at.result c.serve-at.new.out c.waits.ensures c.if-waits.false in
    subst (Underway bytes c.args.last start) (sym c.begin-at.ensures)
    (one_more bytes c.args.last start flight (served_further c.loop-at.invariant.under c.serve-at.ensures) c.if-at.false go)

pub returns-then-at-2 : goal.returns-then-at-2
returns-then-at-2 c =
    sym ((come_on (goal.at.returns-then-at-2 c).After-begin-at).same
    ∙ rest_ended c.args.last c.args.bytes.now (flown c.begin-at.result c.begin-at.new.out) c.if-at-2.true)

pub loop-at-smaller : goal.loop-at-smaller
loop-at-smaller c =
    let bytes = c.args.bytes.now in
    let flight = flown c.serve-at.result c.serve-at.new.out in
    let go = waits_said bytes c.args.last c.serve-at.result c.serve-at.new.out c.waits.ensures c.if-waits.false in
    let on : (next bytes flight).ended ≡ false = sym (ap (λ (f : Flight). f.ended) c.begin-at.ensures) ∙ c.if-at-2.false in
    let moved = next_moves c.args.last bytes _ flight c.serve-at.ensures.stands go on in
    omega (
      arith,
      moved,
      ap (λ (f : Flight). f.taken) c.begin-at.ensures,
      c.serve-at.ensures.further,
      ready_some c.args.last _ _ go,
      length-drop flight.taken bytes,
    )

pub loop-at-preserved : goal.loop-at-preserved
loop-at-preserved c = record { going = c.if-at-2.false; under = come_on (goal.at.loop-at-preserved c).After-begin-at }
