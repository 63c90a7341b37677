-- Turns of a flight over a known input write the answers of the whole file: `whole`. Assumes nothing.
use Rattle.std.proofs.Common.{ℕ, ◌≤◌, ◌≡◌, refl, sym, ap, subst, ◌∙◌, true, false, List, [], ◌++◌, length, drop, Option, Some, None, arith, true≢false}
use Rattle.std.specs.Prelude.{IsSome}
use Rattle.std.specs.Io.KnownBytes.{Appends, Consumes, IsAtEnd}
use mathlib.Core.List.{append_assoc}
use borrow.Author.Tests.{eqb-true}
use lib.Dec.{lit≤}
use Rattle.buffers.specs.declared.launcher.Reading.TheVariants.{Once}
use Rattle.buffers.specs.Buffers.{Gives}
use Rattle.buffers.specs.Turns.{Underway, at_first, onward, Turned, out_of_turns, stopped}
use Rattle.records.specs.Flight.{flight_answers}
use Rattle.fly.specs.declared.flight.Flight.{Flight}
use Rattle.fly.specs.Flight.{Flies, is_last}
use Rattle.fly.proofs.Pieces.{appends_none, appends_more, short_left}

consumed : (rest given : List ℕ) (left : Option (List ℕ)) → Consumes (Some rest) left given
    → (after : List ℕ) × (left ≡ Some after) × (rest ≡ given ++ after)
consumed rest given None eaten = absurd eaten
consumed rest given (Some after) eaten = (after, refl, eaten)

at_end : (after : List ℕ) (left : Option (List ℕ)) → left ≡ Some after → IsAtEnd left → after ≡ []
at_end after left known end = subst IsAtEnd known end

-- The last turn of a flight whose reads succeed has all that was left, since there was room for more.
all_came : (got : Option ℕ) (kept held after : List ℕ) (left : Option (List ℕ)) → IsSome got → Gives Once 65536 got kept held left → length kept ≤ 200
    → left ≡ Some after → is_last got ≡ true → after ≡ []
all_came None kept held after left some gives short known last = absurd (true≢false (sym some))
all_came (Some n) kept held after left some gives short known last =
    let none : n ≡ 0 = eqb-true n 0 last in
    at_end after left known (gives.1 none (omega (arith, gives.0, none, short)))

module _ (first : Flight) (bytes : List ℕ) (out : Option (List ℕ)) where
  -- After some turns: what was written, and that the rest of the answers are those of what is kept and of what the reader has left.
  record Owed (left out_now : Option (List ℕ)) (program : Flight) (kept : List ℕ) : Type 0 where
    rest : List ℕ
    known : left ≡ Some rest
    written : List ℕ
    so_far : Appends out out_now written
    same : flight_answers first.craft bytes ≡ written ++ flight_answers program.craft (kept ++ rest)
    short : length kept ≤ 200

  joined : (kept given held rest after : List ℕ) → held ≡ kept ++ given → rest ≡ given ++ after → kept ++ rest ≡ held ++ after
  joined kept given held rest after held_is rest_is = ap (λ l. kept ++ l) rest_is ∙ sym (append_assoc kept given after) ∙ ap (λ l. l ++ after) (sym held_is)

  underway : {turns : ℕ} {left out_now : Option (List ℕ)} {program : Flight} {kept : List ℕ}
      → Underway Flies Once 65536 (Some bytes) out first [] turns left out_now program kept → Owed left out_now program kept
  underway at_first = record { rest = bytes; known = refl; written = []; so_far = appends_none out; same = refl; short = lit≤ tt }
  underway (onward {left₁ = left₁} {left₂ = left₂} {out₁ = out₁} {out₂ = out₂} {program₁ = program₁} {program₂ = program₂} {kept = kept} {held = held} taken before turn) =
      let owed = underway before in
      let (given, came) = turn.0 in
      let (after, known, rest_is) = consumed owed.rest given left₂ (subst (λ l. Consumes l left₂ given) owed.known came.1) in
      let (going, cut, counted, flown) = turn.3 in
      let (written, appended, same) = flown in
      record {
        rest = after;
        known = known;
        written = owed.written ++ written;
        so_far = appends_more out out₁ out₂ owed.written written owed.so_far appended;
        same =
            owed.same
            ∙ ap (λ l. owed.written ++ flight_answers program₁.craft l) (joined kept given held owed.rest after came.0 rest_is)
            ∙ ap (λ l. owed.written ++ l) (same after)
            ∙ sym (append_assoc owed.written written _);
        short = short_left (drop taken held) cut;
      }

  still_going : {turns : ℕ} {left out_now : Option (List ℕ)} {program : Flight} {kept : List ℕ}
      → Underway Flies Once 65536 (Some bytes) out first [] turns left out_now program kept → 1 ≤ turns → program.complete ≡ false
  still_going at_first some = absurd (omega (arith, some))
  still_going (onward taken before turn) some = turn.3.0

  -- Where no read failed and the flight is complete, the answers of the whole input are written.
  pub whole : {left out_now : Option (List ℕ)} {last : Flight} {got : Option ℕ} → Turned Flies Once 65536 (Some bytes) out first [] left out_now last got
      → IsSome got → last.complete ≡ true → Appends out out_now (flight_answers first.craft bytes)
  whole (out_of_turns kept under) some complete = absurd (true≢false (sym complete ∙ still_going under (lit≤ tt)))
  whole {left = left} {out_now = out_now} {got = got} (stopped {left₁ = left₁} {out₁ = out₁} {program₁ = program₁} {kept = kept} {held = held} under turn) some complete =
      let owed = underway under in
      let (given, came) = turn.0 in
      let (after, known, rest_is) = consumed owed.rest given left (subst (λ l. Consumes l left given) owed.known came.1) in
      let (written, appended, same) = turn.3 complete in
      let answers =
      owed.same
      ∙ ap (λ l. owed.written ++ flight_answers program₁.craft l) (joined kept given held owed.rest after came.0 rest_is)
      ∙ ap (λ l. owed.written ++ l) (same after (all_came got kept held after left some turn.1 owed.short known)) in
      subst (Appends out out_now) (sym answers) (appends_more out out₁ out_now owed.written written owed.so_far appended)
