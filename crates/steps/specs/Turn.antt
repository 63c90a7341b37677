-- A turn of the program: a record. Assumes nothing.
use Rattle.std.specs.Prelude.{ℕ, false, List, Option, IfSome, ◌≡◌, replicate}
use Rattle.std.specs.Io.KnownBytes.{Appends}
use Rattle.copter.specs.declared.commands.Flags.{Flags}
use Rattle.records.specs.declared.answer.Answer.{Answer}
use Rattle.records.specs.declared.answer.Answer.TheVariants.{Attitude, BodyRate, Refused, Done, NoWind, Wind}
use Rattle.records.specs.Step.{Outcome, answer_room, step}
use Rattle.steps.specs.declared.flight.Flight.{Flight}
use Rattle.steps.specs.Memory.{memory_bytes}

-- the flags of the last call; a configure and a priming clear them
abbrev pub flags_after : Flags → Answer → Flags
flags_after before (Attitude setpoint flags) = flags
flags_after before (BodyRate setpoint flags) = flags
flags_after before Done = record { tilt = false; thrust = false; idle = false }
flags_after before (Refused refusal) = before
flags_after before NoWind = before
flags_after before (Wind estimate) = before

-- what comes of the record that the bytes start with
abbrev pub outcome : Flight → List ℕ → Outcome
outcome flight bytes = step flight.craft bytes (replicate answer_room 0)

abbrev pub after_outcome : Flags → Outcome → Flight
after_outcome before o = record { craft = o.craft; flags = flags_after before o.answer }

abbrev pub after_record : Flight → List ℕ → Flight
after_record flight bytes = after_outcome flight.flags (outcome flight bytes)

-- A turn that the flight goes on from handled one record, took its bytes and wrote the words of the memory after it.
abbrev pub Turned : Flight → List ℕ → Option ℕ → Option (List ℕ) → Option (List ℕ) → Option ℕ → Flight → Type 0
Turned before held got out out_after taken after =
    IfSome taken
    (λ n. (n ≡ (outcome before held).taken) × (after ≡ after_record before held) × Appends out out_after (memory_bytes after.craft after.flags))
