-- However a flight file is cut into pieces and whatever buffers are lent, the answers that are written are those of the whole file: `however_cut`,
-- from `piece_then_rest` and `last_piece`. A flight that has not ended stands where the next record waits. What is written for a file of whole records
-- is what is written for them one by one: `file_as_feed`. Assumes nothing.
use Prim.Native.Nat.{ℕ, zero, suc, ◌-◌, ◌≤◌, ◌<◌}
use mathlib.Core.Path.{◌≡◌, refl, sym, ap, ap₂, subst, ◌∙◌}
use mathlib.Core.Bool.{Bool, true, false, not, cond, ◌&&◌, ◌||◌, true≢false}
use mathlib.Core.List.{List, [], ◌∷◌, ◌++◌, append-nil, append_assoc}
use native.Mathlib.Omega.{arith}
use borrow.Author.Tests.{ltb-false, eqb-false, le-ltb, le-leb, eq-eqb, ne_eqb}
use lib.Dec.{ltb, eqb}
use lib.ListN.{length, take, drop, replicate, length-append, length-drop, length-replicate, drop_of_length-le}
use lib.Seq.{length-take-le, take-add, take_at, drop_at, drop-append-le, drop-drop}
use Rattle.records.specs.declared.craft.Craft.{Craft}
use Rattle.records.specs.declared.flight.Flown.{Flown}
use Rattle.records.specs.Answer.{answer_bytes}
use Rattle.records.specs.Kinds.{kind_of, body_length}
use Rattle.records.specs.Step.{Judged, judged, Outcome, craft_after, answer_of, answered, answer_room, step}
use Rattle.records.specs.Flight.{ends_flight, cut_short, waits, Flight, set_out, onward, fly_on, fly, flown, answers, flight_answers}
use Rattle.records.specs.Inner.{left, free, waiting, next, rest, Stands}
use Rattle.records.specs.Feed.{Entry, outcome, replies, kind_byte, body_of}
use Rattle.records.specs.Total.{last_kind}
use Rattle.records.specs.Worked.{file, output}
use Rattle.std.proofs.lemmas.Bool.{cond_both}
use Rattle.records.proofs.Laws.Counts.{step_judged, same_unless, neither, unknown, unknown_byte}
use Rattle.records.proofs.Laws.Counts.{served, complete_served, judged_takes, Counted, step_counted, judged_prefix, whole_goes_on}

-- ---- when a record does not wait

module _ (last : Bool) (bytes : List ℕ) (room : ℕ) (ready : waits last bytes room ≡ false) where
  pub ready_some : 1 ≤ length bytes
  unfolding waits
  ready_some =
      let some = eqb-false (length bytes) 0 (neither (eqb (length bytes) 0) _ ready).0 in omega arith

  pub ready_room : answer_room ≤ room
  unfolding waits
  ready_room = ltb-false room answer_room (neither (ltb room answer_room) _ (neither (eqb (length bytes) 0) _ ready).1).0

  pub ready_whole : not last && cut_short bytes ≡ false
  unfolding waits
  ready_whole = (neither (ltb room answer_room) _ (neither (eqb (length bytes) 0) _ ready).1).1

-- ---- one record of a flight

module _ (n : ℕ) (last : Bool) (bytes : List ℕ) (flight : Flight) where
  pub one_more : flight.ended ≡ false → waiting last bytes flight ≡ false
      → fly_on (suc n) last bytes flight ≡ fly_on n last bytes (next bytes flight)
  unfolding fly_on
  one_more going ready = rw (going, ready)

pub stays_ended : (n : ℕ) (last : Bool) (bytes : List ℕ) (flight : Flight) → flight.ended ≡ true → fly_on n last bytes flight ≡ flight
unfolding fly_on
stays_ended zero last bytes flight over = refl
stays_ended (suc n) last bytes flight over = rw over

pub stays_waiting : (n : ℕ) (last : Bool) (bytes : List ℕ) (flight : Flight) → flight.ended ≡ false → waiting last bytes flight ≡ true
    → fly_on n last bytes flight ≡ flight
unfolding fly_on
stays_waiting zero last bytes flight going held = refl
stays_waiting (suc n) last bytes flight going held = rw (going, held)

module _ (last : Bool) (bytes : List ℕ) (size : ℕ) (flight : Flight) (stands : Stands bytes size flight)
    (ready : waiting last bytes flight ≡ false) where
  counted : Counted (left bytes flight) (free flight) (step flight.craft (left bytes flight) (free flight))
  counted = step_counted flight.craft (left bytes flight) (free flight) (ready_room last (left bytes flight) (length (free flight)) ready)

  pub next_stands : Stands bytes size (next bytes flight)
  unfolding onward
  next_stands =
      let buffer = flight.buffer in
      let outcome = step flight.craft (left bytes flight) (free flight) in
      let joined = length-append (take flight.written buffer) outcome.buffer in
      let front = length-take-le flight.written buffer stands.fits in
      let behind = length-drop flight.taken bytes in
      let room = length-drop flight.written buffer in
      record {
        within = omega (arith, counted.within);
        fits = omega (arith, counted.fits, counted.kept);
        kept = omega (arith, counted.kept);
      }

  -- A record that does not end the flight takes a byte at least.
  pub next_moves : (next bytes flight).ended ≡ false → flight.taken < (next bytes flight).taken
  unfolding onward
  next_moves going = omega (arith, counted.moves going)

  -- What has been written is what was written before and the answer.
  pub next_writes :
      take (next bytes flight).written (next bytes flight).buffer
      ≡ take flight.written flight.buffer ++ answer_bytes (step flight.craft (left bytes flight) (free flight)).answer
  unfolding onward
  next_writes =
      let before = take flight.written flight.buffer in
      let outcome = step flight.craft (left bytes flight) (free flight) in
      let front = length-take-le flight.written flight.buffer stands.fits in
      take-add flight.written outcome.written (before ++ outcome.buffer)
      ∙ rw (take_at before outcome.buffer flight.written front, drop_at before outcome.buffer flight.written front, counted.puts)

-- ---- where a flight stands

set_out_stands : (craft : Craft) (bytes buffer : List ℕ) → Stands bytes (length buffer) (set_out craft buffer)
set_out_stands craft bytes buffer = record { within = omega arith; fits = omega arith; kept = refl }

fly_on_stands : (n : ℕ) (last : Bool) (bytes : List ℕ) (size : ℕ) (flight : Flight) → Stands bytes size flight
    → Stands bytes size (fly_on n last bytes flight)
unfolding fly_on
fly_on_stands zero last bytes size flight stands = stands
fly_on_stands (suc n) last bytes size flight stands =
    cond_both (flight.ended || waiting last bytes flight) _ _ (Stands bytes size) (λ over. stands)
    (λ goes_on.
    let (going, ready) = neither flight.ended (waiting last bytes flight) goes_on in
    fly_on_stands n last bytes size (next bytes flight) (next_stands last bytes size flight stands ready))

-- What the port's `fly` takes is there, and what it writes fits.
pub flown_stands : (r : Flown) (after : List ℕ) (craft : Craft) (bytes : List ℕ) (last : Bool) (buffer : List ℕ)
    → flown r after ≡ fly craft bytes last buffer → (r.taken ≤ length bytes) × (r.written ≤ length after)
flown_stands r after craft bytes last buffer same =
    let stands =
    subst (Stands bytes (length buffer)) (sym same)
    (fly_on_stands (length bytes) last bytes (length buffer) (set_out craft buffer) (set_out_stands craft bytes buffer)) in
    (stands.within, stands.fits)

-- ---- all records that are still to come

module _ (last : Bool) (bytes : List ℕ) (size : ℕ) where
  none_left : (flight : Flight) → length bytes - flight.taken ≤ 0 → waiting last bytes flight ≡ true
  unfolding waits
  none_left flight none =
      let empty : length (left bytes flight) ≡ 0 = omega (arith, length-drop flight.taken bytes) in
      rw (eq-eqb (length (left bytes flight)) 0 empty)

  -- Where no byte is left, nothing comes.
  over : (n : ℕ) (flight : Flight) (ended : Bool) → flight.ended ≡ ended → (flight.ended ≡ false → length bytes - flight.taken ≤ 0)
      → fly_on n last bytes flight ≡ flight
  over n flight true is none = stays_ended n last bytes flight is
  over n flight false is none = stays_waiting n last bytes flight is (none_left flight (none is))

  -- A budget of at least as many records as there are bytes left is enough.
  enough_records : (m n : ℕ) (flight : Flight) → Stands bytes size flight → (flight.ended ≡ false → length bytes - flight.taken ≤ m)
      → (flight.ended ≡ false → length bytes - flight.taken ≤ n) → fly_on m last bytes flight ≡ fly_on n last bytes flight
  unfolding fly_on
  enough_records zero n flight stands p q = sym (over n flight flight.ended refl p)
  enough_records (suc m) zero flight stands p q = over (suc m) flight flight.ended refl q
  enough_records (suc m) (suc n) flight stands p q =
      same_unless (flight.ended || waiting last bytes flight) flight
      (λ goes_on.
      let (going, ready) = neither flight.ended (waiting last bytes flight) goes_on in
      let moves = next_moves last bytes size flight stands ready in
      enough_records m n (next bytes flight) (next_stands last bytes size flight stands ready) (λ on. omega (arith, moves on, p going))
      (λ on. omega (arith, moves on, q going)))

module _ (last : Bool) (bytes : List ℕ) where
  pub rest_next : (size : ℕ) (flight : Flight) → Stands bytes size flight → flight.ended ≡ false → waiting last bytes flight ≡ false
      → rest last bytes flight ≡ rest last bytes (next bytes flight)
  rest_next size flight stands going ready =
      let some = ready_some last (left bytes flight) (length (free flight)) ready in
      let moves = next_moves last bytes size flight stands ready in
      let counted : length bytes ≡ suc (length bytes - 1) = omega (arith, length-drop flight.taken bytes) in
      ap (λ (n : ℕ). fly_on n last bytes flight) counted
      ∙ one_more (length bytes - 1) last bytes flight going ready
      ∙ enough_records last bytes size (length bytes - 1) (length bytes) (next bytes flight) (next_stands last bytes size flight stands ready)
      (λ on. omega (arith, moves on)) (λ on. omega arith)

  pub rest_ended : (flight : Flight) → flight.ended ≡ true → rest last bytes flight ≡ flight
  rest_ended = stays_ended (length bytes) last bytes

  pub rest_waiting : (flight : Flight) → flight.ended ≡ false → waiting last bytes flight ≡ true → rest last bytes flight ≡ flight
  rest_waiting = stays_waiting (length bytes) last bytes

-- ---- the answers of a whole file

blank_room : answer_room ≤ length {A = ℕ} (replicate answer_room 0)
blank_room = omega (arith, length-replicate {A = ℕ} answer_room 0)

-- A budget of at least as many records as there are bytes is enough.
enough_budget : (m n : ℕ) (craft : Craft) (bytes : List ℕ) → length bytes ≤ m → length bytes ≤ n → answers m craft bytes ≡ answers n craft bytes
unfolding answers
enough_budget zero zero craft bytes p q = refl
enough_budget zero (suc n) craft bytes p q = let none : length bytes ≡ 0 = omega arith in rw (eq-eqb (length bytes) 0 none)
enough_budget (suc m) zero craft bytes p q = let none : length bytes ≡ 0 = omega arith in rw (eq-eqb (length bytes) 0 none)
enough_budget (suc m) (suc n) craft bytes p q =
    let outcome = step craft bytes (replicate answer_room 0) in
    let counts = step_counted craft bytes (replicate answer_room 0) blank_room in
    let behind = length-drop outcome.taken bytes in
    same_unless (eqb (length bytes) 0) _
    (λ some. ap (λ (l : List ℕ). answer_bytes outcome.answer ++ l)
    (same_unless (ends_flight outcome.answer) _
    (λ goes_on.
    let moves = counts.moves goes_on in
    enough_budget m n outcome.craft (drop outcome.taken bytes) (omega arith) (omega arith))))

-- the answer of a record, by what it comes to, and the answers of at most n records more
abbrev from_judged : Craft → ℕ → List ℕ → Judged → List ℕ
from_judged craft n bytes j =
    let answer = answer_of j.verdict in
    answer_bytes answer ++ cond (ends_flight answer) [] (answers n (craft_after craft j.verdict) (drop j.taken bytes))

judged_first : (n : ℕ) (craft : Craft) (bytes : List ℕ) → (length bytes ≡ 0 → ⊥)
    → answers (suc n) craft bytes ≡ from_judged craft n bytes (judged craft.guidance bytes)
unfolding answers answered
judged_first n craft bytes some = rw (ne_eqb (length bytes) 0 some, step_judged craft bytes (replicate answer_room 0) blank_room)

-- The answers of a file are the answer of its first record and, unless that ends the flight, the answers of what it leaves.
first_answer : (craft : Craft) (bytes : List ℕ) → 1 ≤ length bytes →
    let j = judged craft.guidance bytes in
    flight_answers craft bytes ≡ from_judged craft (length (drop j.taken bytes)) bytes j
first_answer craft bytes some =
    let j = judged craft.guidance bytes in
    let answer = answer_of j.verdict in
    let takes = judged_takes craft.guidance bytes in
    let counted : length bytes ≡ suc (length bytes - 1) = omega arith in
    let behind = drop j.taken bytes in
    let shorter = length-drop j.taken bytes in
    let none_missing : length bytes ≡ 0 → ⊥ = λ none. omega arith in
    ap (λ (n : ℕ). answers n craft bytes) counted
    ∙ judged_first (length bytes - 1) craft bytes none_missing
    ∙ ap (λ (l : List ℕ). answer_bytes answer ++ l)
    (same_unless (ends_flight answer) _
    (λ goes_on.
    enough_budget (length bytes - 1) (length behind) (craft_after craft j.verdict) behind (omega (arith, takes.moves goes_on)) (omega arith)))

-- ---- a piece of a file

-- the answer of a record, and the answers of what is left of the piece and of what follows it
abbrev from_outcome : List ℕ → List ℕ → Outcome → List ℕ
from_outcome bytes more outcome =
    answer_bytes outcome.answer
    ++ cond (ends_flight outcome.answer) [] (flight_answers outcome.craft (drop outcome.taken bytes ++ more))

first_of_piece : (craft : Craft) (bytes more buffer : List ℕ) → 1 ≤ length bytes → answer_room ≤ length buffer
    → judged craft.guidance (bytes ++ more) ≡ judged craft.guidance bytes
    → flight_answers craft (bytes ++ more) ≡ from_outcome bytes more (step craft bytes buffer)
unfolding answered
first_of_piece craft bytes more buffer some room same =
    let longer : 1 ≤ length (bytes ++ more) = omega (arith, length-append bytes more) in
    let j = judged craft.guidance bytes in
    first_answer craft (bytes ++ more) longer
    ∙ ap (λ (k : Judged). from_judged craft (length (drop k.taken (bytes ++ more))) (bytes ++ more) k) same
    ∙ rw (drop-append-le j.taken bytes more (judged_takes craft.guidance bytes).within)
    (ap (from_outcome bytes more) (sym (step_judged craft bytes buffer room)))

-- What a flight has written, and what it would still write for what is left of the piece and the bytes that follow the piece.
abbrev in_all : List ℕ → List ℕ → Flight → List ℕ
in_all piece more flight =
    take flight.written flight.buffer ++ cond flight.ended [] (flight_answers flight.craft (left piece flight ++ more))

module _ (last : Bool) (piece more : List ℕ) (size : ℕ) (all : last ≡ true → more ≡ []) where
  -- What follows the piece does not change a record that does not wait.
  same_record : (b : Bool) → last ≡ b → (craft : Craft) (bytes : List ℕ) → 1 ≤ length bytes → not b && cut_short bytes ≡ false
      → judged craft.guidance (bytes ++ more) ≡ judged craft.guidance bytes
  same_record true is craft bytes some whole = rw (all is, append-nil bytes)
  same_record false is craft bytes some whole = judged_prefix craft.guidance bytes more some whole

  same_next : (flight : Flight) → Stands piece size flight → flight.ended ≡ false → waiting last piece flight ≡ false
      → in_all piece more flight ≡ in_all piece more (next piece flight)
  unfolding onward
  same_next flight stands going ready =
      let craft = flight.craft in
      let bytes = left piece flight in
      let room = length (free flight) in
      let outcome = step craft bytes (free flight) in
      let written = take flight.written flight.buffer in
      let some = ready_some last bytes room ready in
      let same = same_record last refl craft bytes some (ready_whole last bytes room ready) in
      rw going
      (ap (λ (l : List ℕ). written ++ l) (first_of_piece craft bytes more (free flight) some (ready_room last bytes room ready) same)
      ∙ sym (append_assoc written (answer_bytes outcome.answer) _)
      ∙ ap₂
      (λ (front behind : List ℕ). front ++ cond (ends_flight outcome.answer) [] (flight_answers outcome.craft (behind ++ more)))
      (sym (next_writes last piece size flight stands ready))
      (drop-drop outcome.taken flight.taken piece))

  same_flown : (n : ℕ) (flight : Flight) → Stands piece size flight → in_all piece more flight ≡ in_all piece more (fly_on n last piece flight)
  unfolding fly_on
  same_flown zero flight stands = refl
  same_flown (suc n) flight stands =
      cond_both (flight.ended || waiting last piece flight) _ _ (λ (f : Flight). in_all piece more flight ≡ in_all piece more f) (λ over. refl)
      (λ goes_on.
      let (going, ready) = neither flight.ended (waiting last piece flight) goes_on in
      same_next flight stands going ready ∙ same_flown n (next piece flight) (next_stands last piece size flight stands ready))

-- ---- the theorems

-- The answers of a file whose first bytes are the piece: what flying the piece writes and, unless that ends the flight, the answers of what it leaves
-- and of the bytes that follow. Where the piece is the last, nothing follows it.
pub any_piece : (craft : Craft) (piece more : List ℕ) (last : Bool) (buffer : List ℕ) → (last ≡ true → more ≡ []) →
    let f = fly craft piece last buffer in
    flight_answers craft (piece ++ more)
    ≡ take f.written f.buffer ++ cond f.ended [] (flight_answers f.craft (drop f.taken piece ++ more))
any_piece craft piece more last buffer all =
    same_flown last piece more (length buffer) all (length piece) (set_out craft buffer) (set_out_stands craft piece buffer)

pub piece_then_rest : (craft : Craft) (piece more buffer : List ℕ) →
    let f = fly craft piece false buffer in
    flight_answers craft (piece ++ more)
    ≡ take f.written f.buffer ++ cond f.ended [] (flight_answers f.craft (drop f.taken piece ++ more))
piece_then_rest craft piece more buffer = any_piece craft piece more false buffer (λ no. absurd (true≢false (sym no)))

pub last_piece : (craft : Craft) (piece buffer : List ℕ) →
    let f = fly craft piece true buffer in
    flight_answers craft piece ≡ take f.written f.buffer ++ cond f.ended [] (flight_answers f.craft (drop f.taken piece))
last_piece craft piece buffer =
    let f = fly craft piece true buffer in
    ap (flight_answers craft) (sym (append-nil piece))
    ∙ any_piece craft piece [] true buffer (λ yes. refl)
    ∙ ap (λ (l : List ℕ). take f.written f.buffer ++ cond f.ended [] (flight_answers f.craft l)) (append-nil (drop f.taken piece))

pub empty_flight_writes_nothing : (craft : Craft) → flight_answers craft [] ≡ []
unfolding answers
empty_flight_writes_nothing craft = refl

module _ (last : Bool) (bytes : List ℕ) (size : ℕ) where
  stopped : (n : ℕ) (flight : Flight) → Stands bytes size flight → (flight.ended ≡ false → length bytes - flight.taken ≤ n)
      → (fly_on n last bytes flight).ended ≡ false → waiting last bytes (fly_on n last bytes flight) ≡ true
  unfolding fly_on
  stopped zero flight stands enough going = none_left last bytes size flight (enough going)
  stopped (suc n) flight stands enough GoingOn =
      cond_both (flight.ended || waiting last bytes flight) _ _ (λ (f : Flight). f.ended ≡ false → waiting last bytes f ≡ true)
      (λ over going. rw going at over)
      (λ goes_on.
      let (going, ready) = neither flight.ended (waiting last bytes flight) goes_on in
      stopped n (next bytes flight) (next_stands last bytes size flight stands ready)
      (λ on. omega (arith, next_moves last bytes size flight stands ready on, enough going)))
      GoingOn

-- A flight that has not ended stands where the next record waits.
pub stops_only_where_it_waits : (craft : Craft) (bytes : List ℕ) (last : Bool) (buffer : List ℕ) →
    let f = fly craft bytes last buffer in
    f.ended ≡ false → waits last (drop f.taken bytes) (length (drop f.written f.buffer)) ≡ true
stops_only_where_it_waits craft bytes last buffer =
    stopped last bytes (length buffer) (length bytes) (set_out craft buffer) (set_out_stands craft bytes buffer) (λ going. omega arith)

-- ---- a file in pieces

-- what a flight has written
abbrev pub written_by : Flight → List ℕ
written_by flight = take flight.written flight.buffer

-- A file handled by calls of `fly`, one after another. Each gets some of the bytes that are left, all of them where it is told that nothing follows, and
-- any buffer. The last list is what the calls write, up to the end of the flight or of the file.
pub data InPieces : Craft → List ℕ → List ℕ → Type 0 where
  none_left_over : (craft : Craft) → InPieces craft [] []
  ends_here : (craft : Craft) (piece more : List ℕ) (last : Bool) (buffer : List ℕ) → (last ≡ true → more ≡ [])
      → (fly craft piece last buffer).ended ≡ true → InPieces craft (piece ++ more) (written_by (fly craft piece last buffer))
  goes_on : (craft : Craft) (piece more : List ℕ) (last : Bool) (buffer later : List ℕ) → (last ≡ true → more ≡ [])
      → (fly craft piece last buffer).ended ≡ false
      → InPieces (fly craft piece last buffer).craft (drop (fly craft piece last buffer).taken piece ++ more) later
      → InPieces craft (piece ++ more) (written_by (fly craft piece last buffer) ++ later)

-- However a file is cut and whatever buffers are lent, what is written are the answers of the whole file.
pub however_cut : {craft : Craft} {bytes written : List ℕ} → InPieces craft bytes written → written ≡ flight_answers craft bytes
however_cut (none_left_over craft) = sym (empty_flight_writes_nothing craft)
however_cut (ends_here craft piece more last buffer all over) =
    let f = fly craft piece last buffer in
    sym (any_piece craft piece more last buffer all
    ∙ ap (λ (b : Bool). written_by f ++ cond b [] (flight_answers f.craft (drop f.taken piece ++ more))) over
    ∙ append-nil (written_by f))
however_cut (goes_on craft piece more last buffer later all going others) =
    let f = fly craft piece last buffer in
    ap (λ (l : List ℕ). written_by f ++ l) (however_cut others)
    ∙ sym (any_piece craft piece more last buffer all
    ∙ ap (λ (b : Bool). written_by f ++ cond b [] (flight_answers f.craft (drop f.taken piece ++ more))) going)

-- ---- a file and a feed

-- one byte of a known kind and exactly its body, with an answer buffer of 25 zeros
pub record Whole (entry : Entry) : Type 0 where
  pub from_one : 1 ≤ kind_byte entry
  pub to_last : kind_byte entry ≤ last_kind
  pub exact : length entry.bytes ≡ suc (body_length (kind_of (kind_byte entry)))
  pub blank : entry.buffer ≡ replicate answer_room 0

abbrev pub AllWhole : List Entry → Type 0
AllWhole [] = Unit {0}
AllWhole (entry ∷ entries) = Whole entry × AllWhole entries

module _ (craft : Craft) (entry : Entry) (whole : Whole entry) where
  is_known : unknown (kind_of (kind_byte entry)) ≡ false
  is_known = unknown_byte (kind_byte entry) ∙ rw (le-leb 1 (kind_byte entry) whole.from_one, le-leb (kind_byte entry) last_kind whole.to_last)

  has_room : answer_room ≤ length entry.buffer
  has_room = rw whole.blank blank_room

  as_served : outcome craft entry ≡ answered craft (served (kind_of (kind_byte entry)) craft.guidance (drop 1 entry.bytes)) entry.buffer
  as_served =
      complete_served craft entry.bytes entry.buffer (record { is_known = is_known; whole = omega (arith, whole.exact); room = has_room })

  never_ends : ends_flight (outcome craft entry).answer ≡ false
  unfolding answered
  never_ends = rw as_served (whole_goes_on (kind_of (kind_byte entry)) craft.guidance (body_of entry) is_known)

  takes_all : drop (outcome craft entry).taken entry.bytes ≡ []
  unfolding answered
  takes_all =
      let no_more : length entry.bytes ≤ suc (body_length (kind_of (kind_byte entry))) = omega (arith, whole.exact) in
      rw as_served (drop_of_length-le entry.bytes no_more)

  -- What is written for a file that starts with the record is its answer and what is written for the others.
  record_then_others : (others : List ℕ) →
      let o = outcome craft entry in
      flight_answers craft (entry.bytes ++ others) ≡ take o.written o.buffer ++ flight_answers o.craft others
  unfolding cut_short
  record_then_others others =
      let bytes = entry.bytes in
      let counts = step_counted craft bytes entry.buffer has_room in
      let some : 1 ≤ length bytes = omega (arith, whole.exact) in
      let not_short = le-ltb (length bytes - 1) (body_length (kind_of (kind_byte entry))) (omega (arith, whole.exact)) in
      first_of_piece craft bytes others entry.buffer some has_room (judged_prefix craft.guidance bytes others some not_short)
      ∙ rw (never_ends, takes_all, counts.puts)

-- A file of whole records is answered as they are, one by one.
pub file_as_feed : (craft : Craft) (entries : List Entry) → AllWhole entries → flight_answers craft (file entries) ≡ output (replies craft entries)
unfolding file output replies
file_as_feed craft [] whole = empty_flight_writes_nothing craft
file_as_feed craft (entry ∷ entries) (whole, others) =
    let o = outcome craft entry in
    record_then_others craft entry whole (file entries)
    ∙ ap (λ (l : List ℕ). take o.written o.buffer ++ l) (file_as_feed o.craft entries others)
