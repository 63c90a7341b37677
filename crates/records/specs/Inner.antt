-- How the port divides a record and a flight: what its inner functions give. Nothing here has to be believed, since `record` and `fly` are stated without it.
-- Assumes nothing.
use Rattle.std.specs.Prelude.{ℕ, ◌≤◌, ◌≡◌, Bool, true, false, List, length, drop, None, Option, Some}
use Rattle.copter.specs.declared.config.CopterGuidanceConfig.{CopterGuidanceConfig}
use Rattle.copter.specs.declared.memory.Memory.{Memory}
use Rattle.records.specs.declared.answer.Refusal.{Refusal}
use Rattle.records.specs.declared.craft.Craft.{Craft}
use Rattle.records.specs.declared.answer.Answer.TheVariants as answers
use Rattle.records.specs.declared.kinds.Kind.{Kind}
use Rattle.records.specs.declared.kinds.Kind.TheVariants as kinds
use Rattle.records.specs.declared.turn.Turned.{Turned}
use Rattle.records.specs.Layout.{byte_at}
use Rattle.records.specs.Kinds.{kind_of}
use Rattle.records.specs.Step.{Verdict, Judged, craft_after, answer_of, configured, step}
use Rattle.copter.specs.declared.memory.CopterGuidance.{CopterGuidance}
use Rattle.records.specs.Flight.{Flight, waits, onward, fly_on}

-- ---- a record

abbrev pub guidance_of : CopterGuidanceConfig → Memory → CopterGuidance
guidance_of config memory = record { config = config; memory = memory }

abbrev pub craft_of : CopterGuidanceConfig → Memory → Craft
craft_of config memory = configured (guidance_of config memory)

abbrev pub judged_as : Verdict → ℕ → Judged
judged_as verdict taken = record { verdict = verdict; taken = taken }

abbrev pub refused : {K : Type 0} → K → Refusal → ℕ → Turned K
refused kept refusal taken = record { kept = kept; answer = answers.Refused refusal; taken = taken }

-- what a record comes to, before its answer is written
abbrev pub came : Craft → Judged → Turned Craft
came craft j = record { kept = craft_after craft j.verdict; answer = answer_of j.verdict; taken = j.taken }

-- the same with the configuration that `turn` leaves where it is
abbrev pub in_craft : CopterGuidanceConfig → Turned Memory → Turned Craft
in_craft config t = record { kept = craft_of config t.kept; answer = t.answer; taken = t.taken }

-- whether `turn` serves a record
abbrev pub serves : Option CopterGuidance → Option Kind → Bool
serves (Some g) (Some (kinds.InFlight _)) = true
serves (Some g) (Some kinds.Configure) = false
serves (Some g) None = false
serves None kind = false

-- ---- a flight under way

-- the bytes that are left, and the part of the buffer that is free
abbrev pub left : List ℕ → Flight → List ℕ
left bytes flight = drop flight.taken bytes

abbrev pub free : Flight → List ℕ
free flight = drop flight.written flight.buffer

abbrev pub waiting : Bool → List ℕ → Flight → Bool
waiting last bytes flight = waits last (left bytes flight) (length (free flight))

-- whether `turn` serves the next record
abbrev pub serving : List ℕ → Flight → Bool
serving bytes flight = serves flight.craft.guidance (kind_of (byte_at (left bytes flight) 0))

abbrev pub next : List ℕ → Flight → Flight
next bytes flight = onward flight (step flight.craft (left bytes flight) (free flight))

-- all records that are still to come; there are no more of them than bytes
abbrev pub rest : Bool → List ℕ → Flight → Flight
rest last bytes flight = fly_on (length bytes) last bytes flight

-- A flight has taken no more bytes than there are and written no more than the buffer holds, which keeps its size.
pub record Stands (bytes : List ℕ) (size : ℕ) (flight : Flight) : Type 0 where
  pub within : flight.taken ≤ length bytes
  pub fits : flight.written ≤ length flight.buffer
  pub kept : length flight.buffer ≡ size

-- a flight that goes on
pub record Going (bytes : List ℕ) (size : ℕ) (flight : Flight) : Type 0 where
  pub stands : Stands bytes size flight
  pub going : flight.ended ≡ false

-- One that has come further: what is to come of it is the same, and it has ended, waits or has come to a record that `turn` does not serve.
pub record Served (bytes : List ℕ) (last : Bool) (before after : Flight) : Type 0 where
  pub same : rest last bytes before ≡ rest last bytes after
  pub stands : Stands bytes (length before.buffer) after
  pub further : before.taken ≤ after.taken
  pub stops : after.ended ≡ false → waiting last bytes after ≡ false → serving bytes after ≡ false
