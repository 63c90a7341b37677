-- What a record does: document 01's machine, one record at a time. A body is decoded (Read.antt), and what it says is performed. Assumes nothing.
use Rattle.copter.specs.declared.config.CopterGuidanceConfig.{CopterGuidanceConfig}
use Rattle.std.specs.Prelude.{ℕ, suc, cond, List, ◌++◌, ltb, eqb, length, take, drop, None, Option, Some, Result, Ok, Err}
use Rattle.copter.specs.Guide.{guide_call, new_craft, prime, wind_reading}
use Rattle.copter.specs.declared.memory.CopterGuidance.{CopterGuidance}
use Rattle.copter.specs.declared.commands.Setpoint.{Setpoint}
use Rattle.copter.specs.declared.commands.Setpoint.TheVariants as setpoints
use Rattle.copter.specs.declared.commands.Flags.{Flags}
use Rattle.copter.specs.declared.guide.Guided.{Guided}
use Rattle.records.specs.declared.craft.Craft.{Craft}
use Rattle.records.specs.declared.answer.Refusal.{Refusal}
use Rattle.records.specs.declared.answer.Refusal.TheVariants as refusals
use Rattle.records.specs.declared.answer.Answer.{Answer}
use Rattle.records.specs.declared.answer.Answer.TheVariants as answers
use Rattle.records.specs.declared.kinds.Kind.{Kind}
use Rattle.records.specs.declared.kinds.Kind.TheVariants as kinds
use Rattle.records.specs.declared.read.Input.{Input}
use Rattle.records.specs.declared.read.Input.TheVariants as inputs
use Rattle.records.specs.declared.turn.Performed.{Performed}
use Rattle.records.specs.declared.step.Handled.{Handled}
use Rattle.records.specs.Answer.{answer_bytes}
use Rattle.records.specs.Layout.{byte_at}
use Rattle.records.specs.Kinds.{kind_of, body_length}
use Rattle.wind.specs.declared.estimate.WindEstimate.{WindEstimate}
use Rattle.records.specs.Read.{configuration, read}

abbrev pub configured : CopterGuidance → Craft
configured g = record { guidance = Some g }

-- ---- performing: an input on a configured craft, which never refuses and leaves the configuration

-- the setpoint with its flags
unfoldable pub setpoint_answer : Setpoint → Flags → Answer
setpoint_answer (setpoints.Attitude s) flags = answers.Attitude s flags
setpoint_answer (setpoints.BodyRate s) flags = answers.BodyRate s flags

unfoldable pub wind_answer : Option WindEstimate → Answer
wind_answer None = answers.NoWind
wind_answer (Some estimate) = answers.Wind estimate

unfoldable pub guided : Guided → Performed
guided g = record { memory = g.craft.memory; answer = setpoint_answer g.setpoint g.flags }

-- the memory after it, and the answer
unfoldable pub perform : CopterGuidance → Input → Performed
perform g (inputs.Prime state) = record { memory = (prime g state).memory; answer = answers.Done }
perform g (inputs.Call dt state command) = guided (guide_call g dt state command)
perform g inputs.Wind = record { memory = g.memory; answer = wind_answer (wind_reading g) }

-- ---- what a record comes to

pub data Verdict : Type 0 where
  Accepted : CopterGuidance → Answer → Verdict
  Refused : Refusal → Verdict

abbrev pub performed : CopterGuidance → Performed → Verdict
performed g p = Accepted (record { config = g.config; memory = p.memory }) p.answer

-- an accepted configure starts a fresh craft
unfoldable pub configure : Result CopterGuidanceConfig Refusal → Verdict
configure (Ok config) = Accepted (new_craft config) answers.Done
configure (Err refusal) = Refused refusal

-- any other kind needs a craft
unfoldable pub told : Option CopterGuidance → Result Input Refusal → Verdict
told None reads = Refused refusals.NotConfigured
told (Some g) (Ok input) = performed g (perform g input)
told (Some g) (Err refusal) = Refused refusal

-- a record of a kind, over its whole body
unfoldable pub serve : Option Kind → Option CopterGuidance → List ℕ → Verdict
serve (Some kinds.Configure) guidance body = configure (configuration body)
serve (Some (kinds.InFlight kind)) guidance body = told guidance (read kind body)
serve None guidance body = Refused refusals.Kind

-- The verdict, and the bytes taken.
pub record Judged : Type 0 where
  pub verdict : Verdict
  pub taken : ℕ

-- a refusal that takes no byte
abbrev pub untaken : Refusal → Judged
untaken refusal = record { verdict = Refused refusal; taken = 0 }

-- a body cut short is 6
abbrev pub with_body : Option Kind → Option CopterGuidance → List ℕ → Judged
with_body kind guidance rest =
    let needed = body_length kind in
    cond (ltb (length rest) needed) (untaken refusals.Short) (record { verdict = serve kind guidance (take needed rest); taken = suc needed })

-- an unknown kind is 5
unfoldable pub with_kind : Option Kind → Option CopterGuidance → List ℕ → Judged
with_kind (Some kind) guidance rest = with_body (Some kind) guidance rest
with_kind None guidance rest = untaken refusals.Kind

-- a missing kind byte is 6
unfoldable pub judged : Option CopterGuidance → List ℕ → Judged
judged guidance bytes = cond (eqb (length bytes) 0) (untaken refusals.Short) (with_kind (kind_of (byte_at bytes 0)) guidance (drop 1 bytes))

-- ---- the record operation

-- What it reports: the craft, the answer, the bytes taken and written, and the whole buffer.
pub record Outcome : Type 0 where
  pub craft : Craft
  pub answer : Answer
  pub taken : ℕ
  pub written : ℕ
  pub buffer : List ℕ

-- the craft after a record; a refusal leaves it
unfoldable pub craft_after : Craft → Verdict → Craft
craft_after craft (Accepted g answer) = configured g
craft_after craft (Refused refusal) = craft

unfoldable pub answer_of : Verdict → Answer
answer_of (Accepted g answer) = answer
answer_of (Refused refusal) = answers.Refused refusal

-- an answer written over the buffer's first bytes
unfoldable pub answered : Craft → Judged → List ℕ → Outcome
answered craft j buffer =
    let answer = answer_of j.verdict in
    let bytes = answer_bytes answer in
    record {
      craft = craft_after craft j.verdict;
      answer = answer;
      taken = j.taken;
      written = length bytes;
      buffer = bytes ++ drop (length bytes) buffer;
    }

-- what an answer may need
abbrev pub answer_room : ℕ
answer_room = 25

-- a buffer under 25 bytes is 9
unfoldable pub step : Craft → List ℕ → List ℕ → Outcome
step craft bytes buffer =
    answered craft (cond (ltb (length buffer) answer_room) (untaken refusals.NoRoom) (judged craft.guidance bytes)) buffer

-- what the port's operation gives, with the buffer that it leaves
abbrev pub reported : Handled → List ℕ → Outcome
reported handled buffer =
    record {
      craft = handled.craft;
      answer = handled.answer;
      taken = handled.taken;
      written = handled.written;
      buffer = buffer;
    }
