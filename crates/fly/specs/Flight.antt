-- A flight after some more records, why it ended, and what its program writes. Assumes nothing.
use Rattle.std.specs.Prelude.{ℕ, ◌+◌, ◌≡◌, min, Bool, true, false, cond, eqb, List, [], ◌∷◌, ◌++◌, length, drop, ◌||◌, Option, Some, None, IfSome, MatchOption}
use Rattle.std.specs.Io.KnownBytes.{Appends}
use Rattle.buffers.specs.Output.{most_counted}
use Rattle.records.specs.declared.craft.Craft.{Craft}
use Rattle.records.specs.Flight as records
use Rattle.fly.specs.declared.ending.Ending.{Ending}
use Rattle.fly.specs.declared.flight.Flight.{Flight}

-- the record that these bytes begin with, the first of which is byte `at` of the input
abbrev pub ending : ℕ → List ℕ → Option Ending
ending at [] = None
ending at (kind ∷ body) = Some (record { at = at; kind = kind; came = length body })

-- What `fly` of the library gives for these bytes: the craft, the answers, the bytes taken, and where it ended, why.
abbrev pub onward : Flight → List ℕ → Bool → Flight
onward flight input last =
    let flown = records.fly flight.craft input last flight.answers in
    let taken = min (flight.taken + flown.taken) most_counted in
    record {
      craft = flown.craft;
      answers = flown.buffer;
      taken = taken;
      ending = cond flown.ended (ending taken (drop flown.taken input)) flight.ending;
      complete = flight.complete;
    }

-- ---- a turn

-- nothing more comes, or the read failed
abbrev pub is_last : Option ℕ → Bool
is_last None = true
is_last (Some count) = eqb count 0

-- no record is left that could be answered: no byte, or a record that is cut short
abbrev pub all_flown : List ℕ → Bool
all_flown rest = eqb (length rest) 0 || records.cut_short rest

-- A turn of a flight, from the bytes that it is handed and what the read gave. Where it goes on, it has written the first answers of any file that begins with these
-- bytes, the others are those of the bytes that it leaves and of what follows them, no record that could be answered is left, and the bytes
-- that it took are counted, up to the most that is counted. Where it stops and is complete, it has written all answers of such a file,
-- which goes on behind these bytes only where the read was not the last.
abbrev pub Flies : Flight → List ℕ → Option ℕ → Option (List ℕ) → Option (List ℕ) → Option ℕ → Flight → Type 0
Flies before held got out out_after taken after =
    MatchOption taken
    (after.complete ≡ true
    → (written : List ℕ) × Appends out out_after written
    × ((more : List ℕ) → (is_last got ≡ true → more ≡ []) → records.flight_answers before.craft (held ++ more) ≡ written))
    (λ n. (after.complete ≡ false) × (all_flown (drop n held) ≡ true) × (after.taken ≡ min (before.taken + n) most_counted)
    × ((written : List ℕ) × Appends out out_after written
    × ((more : List ℕ) → records.flight_answers before.craft (held ++ more) ≡ written ++ records.flight_answers after.craft (drop n held ++ more))))

-- ---- the program

-- From the bytes of an input, those that the writer held before, the craft and the bytes that the writer holds: behind what it held, the answers of the whole file.
abbrev pub Answered : Option (List ℕ) → Option (List ℕ) → Craft → Option (List ℕ) → Type 0
Answered input out craft out_after = IfSome input (λ bytes. Appends out out_after (records.flight_answers craft bytes))
