-- What a record comes to. Where the buffer has room, its answer, its craft and the bytes that it takes come of the craft and the bytes alone. It takes
-- no more bytes than there are, at least one unless it ends the flight, in which case it takes none, and writes 25 bytes at most; what follows a whole record does not change it.
-- Assumes nothing.
use Rattle.std.specs.Prelude.{None, Option, Some, Result, Ok, Err}
use Rattle.std.proofs.lemmas.Bool.{cond_both}
use Prim.Native.Nat.{ℕ, zero, suc, ◌-◌, ◌≤◌}
use mathlib.Core.Path.{◌≡◌, refl, sym, ap, ◌∙◌}
use mathlib.Core.Bool.{Bool, true, false, not, cond, ◌&&◌, ◌||◌, true≢false}
use mathlib.Core.List.{List, ◌++◌}
use Rattle.std.specs.Prelude.{None, Option}
use native.Mathlib.Omega.{arith}
use borrow.Author.Tests.{ltb-false, eqb-false, le-ltb, le-leb, lt-leb, ne_eqb}
use lib.Dec.{T, leb, ltb, eqb}
use lib.ListN.{length, take, drop, length-append, length-drop, get_or-append}
use lib.Seq.{take-append-le, drop-append-le, take-append_seam}
use lib.Ieee.{Float}
use Rattle.wind.specs.declared.state.VehicleState.{VehicleState}
use Rattle.copter.specs.declared.config.CopterGuidanceConfig.{CopterGuidanceConfig}
use Rattle.copter.specs.Guide.{guide_call, wind_reading}
use Rattle.copter.specs.declared.commands.Flags.{Flags}
use Rattle.copter.specs.declared.commands.Setpoint.{Setpoint}
use Rattle.copter.specs.declared.commands.Setpoint.TheVariants as setpoints
use Rattle.copter.specs.declared.memory.CopterGuidance.{CopterGuidance}
use Rattle.copter.specs.declared.commands.Command.{Command}
use Rattle.records.specs.declared.craft.Craft.{Craft}
use Rattle.records.specs.declared.answer.Refusal.{Refusal}
use Rattle.records.specs.declared.answer.Refusal.TheVariants as refusals
use Rattle.records.specs.declared.answer.Answer.{Answer}
use Rattle.records.specs.declared.answer.Answer.TheVariants as answers
use Rattle.records.specs.declared.kinds.InFlight.{InFlight}
use Rattle.records.specs.declared.kinds.InFlight.TheVariants as flights
use Rattle.records.specs.declared.kinds.Kind.{Kind}
use Rattle.records.specs.declared.kinds.Kind.TheVariants as kinds
use Rattle.records.specs.declared.read.Input.{Input}
use Rattle.records.specs.declared.read.Input.TheVariants as inputs
use Rattle.records.specs.Answer.{number, is_none, refusal_of, accepted, setpoint_bytes, refusal_bytes, answer_bytes}
use Rattle.records.specs.Layout.{byte_at, floats_from}
use Rattle.records.specs.Kinds.{kind_of, body_length, command_start}
use Rattle.copter.specs.Config.{field_count, lowest}
use Rattle.records.specs.declared.kinds.Call.{Call}
use Rattle.records.specs.declared.kinds.Call.TheVariants as calls
use Rattle.records.specs.Read.{marks_ok, command, state, time_step_ok, heading_ok, configuration, call_input, read}
use Rattle.records.specs.Step.{setpoint_answer, wind_answer, guided, perform, Verdict, Accepted, Refused, configure, told, serve}
use Rattle.records.specs.Step.{Judged, untaken, with_body, with_kind, judged, Outcome, answer_of, answered, answer_room, step}
use Rattle.records.specs.Flight.{ends_flight, cut_short}
use Rattle.wind.specs.declared.estimate.WindEstimate.{WindEstimate}
use Rattle.records.specs.Total.{last_kind, takes_none}

-- Where there is room, the outcome is what the record comes to, written.
pub step_judged : (craft : Craft) (bytes buffer : List ℕ) → answer_room ≤ length buffer
    → step craft bytes buffer ≡ answered craft (judged craft.guidance bytes) buffer
unfolding step
step_judged craft bytes buffer room = rw (le-ltb (length buffer) answer_room room)

-- ---- what is written

refusal_short : (refusal : Refusal) → length (refusal_bytes refusal) ≤ 3
unfolding refusal_bytes
refusal_short (refusals.Field field) = omega arith
refusal_short refusals.TimeStep = omega arith
refusal_short refusals.Heading = omega arith
refusal_short refusals.Rate = omega arith
refusal_short refusals.Kind = omega arith
refusal_short refusals.Short = omega arith
refusal_short refusals.NotConfigured = omega arith
refusal_short refusals.Mark = omega arith
refusal_short refusals.NoRoom = omega arith

pub answer_short : (answer : Answer) → length (answer_bytes answer) ≤ answer_room
unfolding setpoint_bytes answer_bytes
answer_short (answers.Attitude s flags) = omega arith
answer_short (answers.BodyRate s flags) = omega arith
answer_short (answers.Refused refusal) = omega (arith, refusal_short refusal)
answer_short answers.Done = omega arith
answer_short answers.NoWind = omega arith
answer_short (answers.Wind w) = omega arith

-- ---- tests

-- a fact of either of two values, by the test that picks one
pub by_test : {A : Type 0} (P : A → Type 0) (b : Bool) {x y : A} → (b ≡ true → P x) → (b ≡ false → P y) → P (cond b x y)
by_test P b first second = cond_both b _ _ P first second

-- Values that agree where the test fails agree.
pub same_unless : {A : Type 0} (b : Bool) (x : A) {p q : A} → (b ≡ false → p ≡ q) → cond b x p ≡ cond b x q
same_unless true x agree = refl
same_unless false x agree = agree refl

pub neither : (a b : Bool) → a || b ≡ false → (a ≡ false) × (b ≡ false)
neither true b e = absurd (true≢false e)
neither false b e = (refl, e)

-- ---- the kinds

-- no kind of record
abbrev pub unknown : Option Kind → Bool
unknown (Some kind) = false
unknown None = true

-- The kinds are 1 to 9.
pub unknown_byte : (byte : ℕ) → unknown (kind_of byte) ≡ not (leb 1 byte && leb byte last_kind)
unfolding kind_of
unknown_byte zero = refl
unknown_byte (suc zero) = refl
unknown_byte (suc (suc zero)) = refl
unknown_byte (suc (suc (suc zero))) = refl
unknown_byte (suc (suc (suc (suc zero)))) = refl
unknown_byte (suc (suc (suc (suc (suc zero))))) = refl
unknown_byte (suc (suc (suc (suc (suc (suc zero)))))) = refl
unknown_byte (suc (suc (suc (suc (suc (suc (suc zero))))))) = refl
unknown_byte (suc (suc (suc (suc (suc (suc (suc (suc zero)))))))) = refl
unknown_byte (suc (suc (suc (suc (suc (suc (suc (suc (suc zero))))))))) = refl
unknown_byte (suc (suc (suc (suc (suc (suc (suc (suc (suc (suc n)))))))))) =
    let byte = suc (suc (suc (suc (suc (suc (suc (suc (suc (suc n))))))))) in rw (lt-leb byte last_kind (omega arith), le-leb 1 byte (omega arith))

pub known_kind : (kind : Option Kind) (guidance : Option CopterGuidance) (rest : List ℕ) → unknown kind ≡ false
    → with_kind kind guidance rest ≡ with_body kind guidance rest
unfolding with_kind
known_kind (Some kind) guidance rest e = refl
known_kind None guidance rest e = absurd (true≢false e)

-- ---- what a record comes to

-- a record of a kind with its whole body
abbrev pub served : Option Kind → Option CopterGuidance → List ℕ → Judged
served kind guidance rest = let needed = body_length kind in record { verdict = serve kind guidance (take needed rest); taken = suc needed }

module _ (P : Judged → Type 0) (guidance : Option CopterGuidance) (bytes : List ℕ) (short : P (untaken refusals.Short)) where
  with_body_cases : (kind : Option Kind) → 1 ≤ length bytes → (suc (body_length kind) ≤ length bytes → P (served kind guidance (drop 1 bytes)))
      → P (with_body kind guidance (drop 1 bytes))
  with_body_cases kind some whole =
      let rest = drop 1 bytes in
      cond_both (ltb (length rest) (body_length kind)) _ _ P (λ cut. short)
      (λ enough. whole (omega (arith, ltb-false (length rest) (body_length kind) enough, length-drop 1 bytes)))

  with_kind_cases : P (untaken refusals.Kind) → (kind : Option Kind) → 1 ≤ length bytes
      → (unknown kind ≡ false → suc (body_length kind) ≤ length bytes → P (served kind guidance (drop 1 bytes)))
      → P (with_kind kind guidance (drop 1 bytes))
  unfolding with_kind
  with_kind_cases strange (Some kind) some whole = with_body_cases (Some kind) some (whole refl)
  with_kind_cases strange None some whole = strange

  -- A record is cut short, of no known kind, or whole.
  pub judged_cases : P (untaken refusals.Kind) →
      let kind = kind_of (byte_at bytes 0) in
      (unknown kind ≡ false → suc (body_length kind) ≤ length bytes → P (served kind guidance (drop 1 bytes)))
      → P (judged guidance bytes)
  unfolding judged
  judged_cases strange whole =
      cond_both (eqb (length bytes) 0) _ _ P (λ empty. short)
      (λ some. let none_missing = eqb-false (length bytes) 0 some in with_kind_cases strange (kind_of (byte_at bytes 0)) (omega arith) whole)

pub judged_whole : (guidance : Option CopterGuidance) (bytes : List ℕ) →
    let kind = kind_of (byte_at bytes 0) in
    unknown kind ≡ false → suc (body_length kind) ≤ length bytes → judged guidance bytes ≡ served kind guidance (drop 1 bytes)
unfolding judged
judged_whole guidance bytes is_known whole =
    let kind = kind_of (byte_at bytes 0) in
    let rest = drop 1 bytes in
    let some : length bytes ≡ 0 → ⊥ = λ empty. omega arith in
    let enough : body_length kind ≤ length rest = omega (arith, length-drop 1 bytes) in
    rw (ne_eqb (length bytes) 0 some, known_kind kind guidance rest is_known, le-ltb (length rest) (body_length kind) enough)

-- a record of a known kind with its whole body, and room for its answer
pub record Complete (bytes buffer : List ℕ) : Type 0 where
  pub is_known : unknown (kind_of (byte_at bytes 0)) ≡ false
  pub whole : suc (body_length (kind_of (byte_at bytes 0))) ≤ length bytes
  pub room : answer_room ≤ length buffer

-- Its outcome is what it comes to by its kind.
pub complete_served : (craft : Craft) (bytes buffer : List ℕ) → Complete bytes buffer
    → step craft bytes buffer ≡ answered craft (served (kind_of (byte_at bytes 0)) craft.guidance (drop 1 bytes)) buffer
complete_served craft bytes buffer complete =
    step_judged craft bytes buffer complete.room
    ∙ ap (λ (j : Judged). answered craft j buffer) (judged_whole craft.guidance bytes complete.is_known complete.whole)

in_flight_told : (kind : Option Kind) (in_flight : InFlight) → kind ≡ Some (kinds.InFlight in_flight) → (guidance : Option CopterGuidance) (body : List ℕ)
    → serve kind guidance body ≡ told guidance (read in_flight body)
unfolding serve
in_flight_told kind in_flight is guidance body = rw is

-- One of a kind in flight is told to the craft.
pub complete_told : (craft : Craft) (bytes buffer : List ℕ) → Complete bytes buffer → (in_flight : InFlight) →
    let kind = kind_of (byte_at bytes 0) in
    let needed = body_length kind in
    kind ≡ Some (kinds.InFlight in_flight)
    → step craft bytes buffer
    ≡ answered craft (record { verdict = told craft.guidance (read in_flight (take needed (drop 1 bytes))); taken = suc needed }) buffer
complete_told craft bytes buffer complete in_flight is =
    let kind = kind_of (byte_at bytes 0) in
    let needed = body_length kind in
    complete_served craft bytes buffer complete
    ∙ ap (λ (v : Verdict). answered craft (record { verdict = v; taken = suc needed }) buffer)
    (in_flight_told kind in_flight is craft.guidance (take needed (drop 1 bytes)))

-- Only such a record is accepted.
pub accepted_complete : (craft : Craft) (bytes buffer : List ℕ) → T (accepted (step craft bytes buffer).answer) → Complete bytes buffer
unfolding step answered answer_of
accepted_complete craft bytes buffer =
    cond_both (ltb (length buffer) answer_room) _ _ Completes (λ small none. absurd none)
    (λ room. judged_cases Completes craft.guidance bytes (λ none. absurd none) (λ none. absurd none)
    (λ is_known whole some. record { is_known = is_known; whole = whole; room = ltb-false (length buffer) answer_room room }))
  where
    Completes : Judged → Type 0
    Completes j = T (accepted (answer_of j.verdict)) → Complete bytes buffer

-- ---- what is taken

-- No more bytes than there are, and one at least unless the flight ends.
pub record Takes (bytes : List ℕ) (j : Judged) : Type 0 where
  pub within : j.taken ≤ length bytes
  pub moves : ends_flight (answer_of j.verdict) ≡ false → 1 ≤ j.taken

untaken_takes : (bytes : List ℕ) (refusal : Refusal) → ends_flight (answers.Refused refusal) ≡ true → Takes bytes (untaken refusal)
unfolding answer_of
untaken_takes bytes refusal ends =
    record { within = omega arith; moves = λ (goes_on : ends_flight (answers.Refused refusal) ≡ false). absurd (true≢false (sym ends ∙ goes_on)) }

pub judged_takes : (guidance : Option CopterGuidance) (bytes : List ℕ) → Takes bytes (judged guidance bytes)
judged_takes guidance bytes =
    judged_cases (Takes bytes) guidance bytes (untaken_takes bytes refusals.Short refl) (untaken_takes bytes refusals.Kind refl)
    (λ is_known whole. record { within = whole; moves = λ goes_on. omega arith })

-- The same of the record operation, with what it writes.
pub record Counted (bytes buffer : List ℕ) (outcome : Outcome) : Type 0 where
  pub within : outcome.taken ≤ length bytes
  pub moves : ends_flight outcome.answer ≡ false → 1 ≤ outcome.taken
  pub fits : outcome.written ≤ length buffer
  pub puts : take outcome.written outcome.buffer ≡ answer_bytes outcome.answer
  pub kept : length outcome.buffer ≡ length buffer

answered_counted : (craft : Craft) (bytes buffer : List ℕ) (j : Judged) → answer_room ≤ length buffer → Takes bytes j
    → Counted bytes buffer (answered craft j buffer)
unfolding answered
answered_counted craft bytes buffer j room takes =
    let written = answer_bytes (answer_of j.verdict) in
    let short = answer_short (answer_of j.verdict) in
    record {
      within = takes.within;
      moves = takes.moves;
      fits = omega arith;
      puts = take-append_seam written (drop (length written) buffer);
      kept = length-append written (drop (length written) buffer) ∙ omega (arith, length-drop (length written) buffer);
    }

pub step_counted : (craft : Craft) (bytes buffer : List ℕ) → answer_room ≤ length buffer → Counted bytes buffer (step craft bytes buffer)
step_counted craft bytes buffer room =
    rw (step_judged craft bytes buffer room)
    (answered_counted craft bytes buffer (judged craft.guidance bytes) room (judged_takes craft.guidance bytes))

-- ---- what a record does not look at

with_body_prefix : (kind : Option Kind) (guidance : Option CopterGuidance) (rest more : List ℕ) → body_length kind ≤ length rest
    → with_body kind guidance (rest ++ more) ≡ with_body kind guidance rest
with_body_prefix kind guidance rest more enough =
    let needed = body_length kind in
    let longer : needed ≤ length (rest ++ more) = omega (arith, length-append rest more) in
    rw (le-ltb (length (rest ++ more)) needed longer, le-ltb (length rest) needed enough, take-append-le needed rest more enough)

with_kind_prefix : (kind : Option Kind) (guidance : Option CopterGuidance) (rest more : List ℕ) → body_length kind ≤ length rest
    → with_kind kind guidance (rest ++ more) ≡ with_kind kind guidance rest
unfolding with_kind
with_kind_prefix (Some kind) guidance rest more enough = with_body_prefix (Some kind) guidance rest more enough
with_kind_prefix None guidance rest more enough = refl

-- What follows a whole record does not change it.
pub judged_prefix : (guidance : Option CopterGuidance) (bytes more : List ℕ) → 1 ≤ length bytes → cut_short bytes ≡ false
    → judged guidance (bytes ++ more) ≡ judged guidance bytes
unfolding judged cut_short
judged_prefix guidance bytes more some not_short =
    let kind = kind_of (byte_at bytes 0) in
    let longer : length (bytes ++ more) ≡ 0 → ⊥ = λ empty. omega (arith, length-append bytes more) in
    let here : length bytes ≡ 0 → ⊥ = λ empty. omega arith in
    let enough : body_length kind ≤ length (drop 1 bytes) =
    omega (arith, ltb-false (length bytes - 1) (body_length kind) not_short, length-drop 1 bytes) in
    rw (
      ne_eqb (length (bytes ++ more)) 0 longer,
      ne_eqb (length bytes) 0 here,
      get_or-append bytes more 0 0 some,
      drop-append-le 1 bytes more some,
    )
    (with_kind_prefix kind guidance (drop 1 bytes) more enough)

-- The record operation does not look past a whole record.
pub nothing_past_a_record : (craft : Craft) (bytes more buffer : List ℕ) → answer_room ≤ length buffer → 1 ≤ length bytes → cut_short bytes ≡ false
    → step craft (bytes ++ more) buffer ≡ step craft bytes buffer
nothing_past_a_record craft bytes more buffer room some not_short =
    rw (
      step_judged craft (bytes ++ more) buffer room,
      step_judged craft bytes buffer room,
      judged_prefix craft.guidance bytes more some not_short,
    )

-- ---- what a whole record is answered

setpoint_accepted : (setpoint : Setpoint) (flags : Flags) → refusal_of (setpoint_answer setpoint flags) ≡ None
unfolding setpoint_answer
setpoint_accepted (setpoints.Attitude s) flags = refl
setpoint_accepted (setpoints.BodyRate s) flags = refl

reading_accepted : (reading : Option WindEstimate) → refusal_of (wind_answer reading) ≡ None
unfolding wind_answer
reading_accepted None = refl
reading_accepted (Some estimate) = refl

-- Performing never refuses.
pub perform_accepted : (g : CopterGuidance) (input : Input) → refusal_of (perform g input).answer ≡ None
unfolding perform guided
perform_accepted g (inputs.Prime state) = refl
perform_accepted g (inputs.Call dt state command) = setpoint_accepted (guide_call g dt state command).setpoint _
perform_accepted g inputs.Wind = reading_accepted (wind_reading g)

-- an accepted answer, or a refusal that takes the record
abbrev pub TakesRecord : Verdict → Type 0
TakesRecord (Accepted g answer) = refusal_of answer ≡ None
TakesRecord (Refused refusal) = takes_none (number refusal) ≡ false

-- the same of what a body says
abbrev TakesBody : {A : Type 0} → Result A Refusal → Type 0
TakesBody (Ok said) = Unit {0}
TakesBody (Err refusal) = takes_none (number refusal) ≡ false

-- whatever its checks say
checked_takes : (command : Command) (dt : Float) (state : VehicleState) (t h : Bool) → time_step_ok dt ≡ t → heading_ok state.heading_rad ≡ h
    → TakesBody (call_input (Ok command) dt state)
unfolding call_input
checked_takes command dt state true true in_time headed = simp (in_time, headed) tt
checked_takes command dt state true false in_time turned = simp (in_time, turned) refl
checked_takes command dt state false true late headed = simp (late, headed) refl
checked_takes command dt state false false late turned = simp (late, turned) refl

command_takes : (call : Call) (part : List ℕ) → TakesBody (command call part)
unfolding command
command_takes calls.Attitude part = tt
command_takes calls.Waypoint part = cond_both (marks_ok part) _ _ TakesBody (λ marked. tt) (λ unmarked. refl)
command_takes calls.AbsoluteAttitude part = tt
command_takes calls.Land part = tt
command_takes calls.AbsoluteRate part = tt

call_takes : (commanded : Result Command Refusal) (dt : Float) (state : VehicleState) → TakesBody commanded → TakesBody (call_input commanded dt state)
unfolding call_input
call_takes (Err refusal) dt state takes = takes
call_takes (Ok command) dt state takes =
    checked_takes command dt state (time_step_ok dt) (heading_ok state.heading_rad) refl refl

read_takes : (kind : InFlight) (body : List ℕ) → TakesBody (read kind body)
unfolding read
read_takes flights.Prime body = cond_both (heading_ok (state body).heading_rad) _ _ TakesBody (λ headed. tt) (λ turned. refl)
read_takes (flights.Call call) body = call_takes (command call (drop command_start body)) _ _ (command_takes call _)
read_takes flights.Rate body = refl
read_takes flights.Wind body = tt

told_takes : (guidance : Option CopterGuidance) (said : Result Input Refusal) → TakesBody said → TakesRecord (told guidance said)
unfolding told
told_takes None said takes = refl
told_takes (Some g) (Ok input) takes = perform_accepted g input
told_takes (Some g) (Err refusal) takes = takes

configuration_takes : (body : List ℕ) → TakesBody (configuration body)
unfolding configuration
configuration_takes body = cond_both (leb (lowest (floats_from 0 field_count body) 1 field_count) field_count) _ _ TakesBody (λ breaks. refl) (λ none_breaks. tt)

configure_takes : (said : Result CopterGuidanceConfig Refusal) → TakesBody said → TakesRecord (configure said)
unfolding configure
configure_takes (Ok config) takes = refl
configure_takes (Err refusal) takes = takes

pub serve_takes : (kind : Option Kind) (guidance : Option CopterGuidance) (body : List ℕ) → unknown kind ≡ false → TakesRecord (serve kind guidance body)
unfolding serve
serve_takes (Some kinds.Configure) guidance body e = configure_takes (configuration body) (configuration_takes body)
serve_takes (Some (kinds.InFlight kind)) guidance body e = told_takes guidance (read kind body) (read_takes kind body)
serve_takes None guidance body e = absurd (true≢false e)

-- ---- what ends a flight

accepted_goes_on : (answer : Answer) → refusal_of answer ≡ None → ends_flight answer ≡ false
accepted_goes_on (answers.Attitude setpoint flags) e = refl
accepted_goes_on (answers.BodyRate setpoint flags) e = refl
accepted_goes_on (answers.Refused refusal) e = absurd (true≢false (sym (ap is_none e)))
accepted_goes_on answers.Done e = refl
accepted_goes_on answers.NoWind e = refl
accepted_goes_on (answers.Wind estimate) e = refl

taken_goes_on : (verdict : Verdict) → TakesRecord verdict → ends_flight (answer_of verdict) ≡ false
unfolding answer_of
taken_goes_on (Accepted g answer) takes = accepted_goes_on answer takes
taken_goes_on (Refused refusal) takes = (neither (ends_flight (answers.Refused refusal)) (eqb (number refusal) 9) takes).0

-- A record whose body is whole does not end the flight.
pub whole_goes_on : (kind : Option Kind) (guidance : Option CopterGuidance) (body : List ℕ) → unknown kind ≡ false
    → ends_flight (answer_of (serve kind guidance body)) ≡ false
whole_goes_on kind guidance body is_known = taken_goes_on (serve kind guidance body) (serve_takes kind guidance body is_known)

-- no byte is taken where the flight ends
abbrev EndsInPlace : Judged → Type 0
EndsInPlace j = ends_flight (answer_of j.verdict) ≡ true → j.taken ≡ 0

-- A record that ends the flight takes no byte.
pub ending_takes_nothing : (craft : Craft) (bytes buffer : List ℕ) → ends_flight (step craft bytes buffer).answer ≡ true
    → (step craft bytes buffer).taken ≡ 0
unfolding step answered
ending_takes_nothing craft bytes buffer =
    let guidance = craft.guidance in
    by_test EndsInPlace (ltb (length buffer) answer_room) (λ small ends. refl)
    (λ room. judged_cases EndsInPlace guidance bytes (λ ends. refl) (λ ends. refl)
    (λ is_known whole ends. absurd (true≢false (sym ends ∙ whole_goes_on (kind_of (byte_at bytes 0)) guidance _ is_known))))
