-- A flight under way: the flight that a loop of the port has come to, from the one that it set out with. What is to come of the two is the same.
-- Assumes nothing.
use Prim.Native.Nat.{ℕ, ◌+◌, ◌-◌, ◌<◌, ◌≤◌}
use mathlib.Core.Path.{◌≡◌, refl, sym, ap, ◌∙◌}
use mathlib.Core.Bool.{Bool, false}
use mathlib.Core.List.{List, [], ◌++◌, append-nil}
use native.Mathlib.Omega.{arith}
use native.Mathlib.Nat.{le_refl}
use lib.ListN.{length, take, drop, length-drop, drop_of_length-le}
use Rattle.records.specs.declared.craft.Craft.{Craft}
use Rattle.records.specs.declared.turn.Turned.{Turned}
use Rattle.records.specs.Answer.{answer_bytes}
use Rattle.records.specs.Step.{judged, answer_room, step}
use Rattle.records.specs.Flight.{Flight, ends_flight, waits, onward}
use Rattle.records.specs.Inner.{came, waiting, serving, next, rest, Stands, Served}
use Rattle.records.proofs.Parts.{lent}
use Rattle.records.proofs.Steps.{written_step}
use Rattle.records.proofs.Laws.Flight.{ready_some, next_stands, rest_next}

-- ---- further on

pub record Underway (bytes : List ℕ) (last : Bool) (start flight : Flight) : Type 0 where
  pub same : rest last bytes start ≡ rest last bytes flight
  pub stands : Stands bytes (length start.buffer) flight
  pub further : start.taken ≤ flight.taken

pub set_off : (bytes : List ℕ) (last : Bool) (start : Flight) → Stands bytes (length start.buffer) start → Underway bytes last start start
set_off bytes last start stands = record { same = refl; stands = stands; further = le_refl start.taken }

module _ (bytes : List ℕ) (last : Bool) (start flight : Flight) (under : Underway bytes last start flight) where
  -- one record more
  pub one_more : flight.ended ≡ false → waiting last bytes flight ≡ false → Underway bytes last start (next bytes flight)
  unfolding onward
  one_more going ready =
      let size = length start.buffer in
      record {
        same = under.same ∙ rest_next last bytes size flight under.stands going ready;
        stands = next_stands last bytes size flight under.stands ready;
        further = omega (arith, under.further);
      }

  -- where the port stops
  pub stopped : (flight.ended ≡ false → waiting last bytes flight ≡ false → serving bytes flight ≡ false) → Served bytes last start flight
  stopped stops = record { same = under.same; stands = under.stands; further = under.further; stops = stops }

-- ---- the loops' variables

abbrev pub standing : Craft → ℕ → ℕ → Bool → List ℕ → Flight
standing craft taken written ended out = record { craft = craft; taken = taken; written = written; ended = ended; buffer = out }

none_behind : (l : List ℕ) (n : ℕ) → drop (length l - n) (drop n l) ≡ []
none_behind l n = drop_of_length-le (drop n l) {i = length l - n} (omega (arith, length-drop n l))

-- where a flight goes on a byte is left
pub byte_left : (last waited : Bool) (bytes : List ℕ) (taken room : ℕ) → waited ≡ waits last (take (length bytes - taken) (drop taken bytes)) room
    → waited ≡ false → taken < length bytes
byte_left last waited bytes taken room said goes_on =
    let some = ready_some last (drop taken bytes) room (rw (lent bytes taken) at (sym said ∙ goes_on)) in omega (arith, some, length-drop taken bytes)

module _ (bytes out : List ℕ) (craft : Craft) (taken written : ℕ) where
  pub waits_there : (last b : Bool) → b ≡ waits last (take (length bytes - taken) (drop taken bytes)) (length out - written)
      → b ≡ waiting last bytes (standing craft taken written false out)
  waits_there last b e = e ∙ rw (lent bytes taken, length-drop written out)

  -- after a record, whose answer is written, they are the flight one record further
  pub one_further : (t : Turned Craft) → t ≡ came craft (judged craft.guidance (take (length bytes - taken) (drop taken bytes)))
      → answer_room ≤ length (drop written out) → (put : ℕ) (after : List ℕ) → put ≡ length (answer_bytes t.answer)
      → after ≡ answer_bytes t.answer ++ drop put (take (length out - written) (drop written out))
      → standing t.kept (taken + t.taken) (written + put) (ends_flight t.answer) (take written out ++ (after ++ drop (length out - written) (drop written out)))
      ≡ next bytes (standing craft taken written false out)
  unfolding onward
  one_further t came_to room put after long is =
      let front : answer_room ≤ length (take (length out - written) (drop written out)) = rw (lent out written) room in
      let stepped = written_step craft (take (length bytes - taken) (drop taken bytes)) (take (length out - written) (drop written out)) t front came_to long is in
      let whole : step craft (take (length bytes - taken) (drop taken bytes)) (take (length out - written) (drop written out)) ≡ step craft
      (drop taken bytes) (drop written out) =
      rw (lent bytes taken, lent out written) in
      rw (none_behind out written, append-nil after) (ap (onward (standing craft taken written false out)) (stepped ∙ whole))
