-- Demand 1 holds: `total`. The checks of a record are followed to its answer, kind by kind, and what a refusal leaves to what the record comes to.
-- Assumes nothing.
use Rattle.std.specs.Prelude.{None, Option, Some, Result, Ok, Err}
use Prim.Native.Nat.{ℕ, zero, suc, ◌+◌, ◌-◌, ◌*◌, ◌≤◌, ◌<◌}
use mathlib.Core.Path.{◌≡◌, refl, sym, ap, subst, ◌∙◌}
use mathlib.Core.Bool.{Bool, true, false, not, cond, ◌&&◌, ◌||◌, true≢false}
use mathlib.Core.Logic.{◌↔◌}
use mathlib.Core.List.{List, [], ◌∷◌, ◌++◌}
use native.Mathlib.Omega.{arith}
use native.Mathlib.Nat.{add_assoc}
use borrow.Author.Tests.{le-leb, lt-leb, le-ltb, ne_eqb, not-true, not-false}
use lib.Dec.{T, leb, ltb, eqb}
use lib.ListN.{length, take, drop, length-drop}
use lib.Seq.{get_or-drop}
use lib.Ieee.{Float, nan, le}
use lib.Ieee.Bits.{is_true}
use lib.Ieee.Scale.{finite}
use Rattle.floats.specs.Compare.{abs}
use Rattle.copter.specs.Config.{field_count, nth, rule, lowest, config_of, Valid}
use Rattle.copter.proofs.Laws.Config.{EachKeeps, kept_is_valid, here_or_later}
use Rattle.copter.specs.declared.config.CopterGuidanceConfig.{CopterGuidanceConfig}
use Rattle.copter.specs.declared.commands.Command.{Command}
use Rattle.records.specs.declared.craft.Craft.{Craft}
use Rattle.records.specs.declared.answer.Refusal.{Refusal}
use Rattle.records.specs.declared.answer.Refusal.TheVariants as refusals
use Rattle.records.specs.declared.kinds.Call.TheVariants as calls
use Rattle.records.specs.declared.kinds.InFlight.{InFlight}
use Rattle.records.specs.declared.kinds.InFlight.TheVariants as flights
use Rattle.records.specs.declared.kinds.Kind.{Kind}
use Rattle.records.specs.declared.kinds.Kind.TheVariants as kinds
use Rattle.records.specs.declared.read.Input.{Input}
use Rattle.records.specs.declared.read.Input.TheVariants as inputs
use Rattle.records.specs.Answer.{number, field_of, refusal_of, is_none, accepted, refusal_bytes, answer_bytes}
use Rattle.records.specs.Layout.{byte_at, float_at, floats_from}
use Rattle.records.specs.Kinds.{kind_of, body_length, state_start, command_start}
use Rattle.records.specs.Read.{command, state, state_at, marks_ok, time_step_ok, heading_limit, heading_ok, configuration, prime_input, call_input, read}
use Rattle.records.specs.Step.{Verdict, Accepted, Refused, configure, told, serve}
use Rattle.records.specs.Step.{Judged, untaken, with_body, with_kind, judged, answer_of, craft_after, answered, answer_room, step}
use Rattle.records.specs.Total.{Reason, because, broken, reason, reason_in, reason_of, no_reason, Check, check, first_failing, no_craft}
use Rattle.records.specs.Total.{fields_kept, out_of_range, too_large, step_and_heading, own_checks, checks, why, Numbered}
use Rattle.records.specs.Total.{Accepting, Configures, fields_in, config_in, Keeps, Lowest, takes_none, Refusing, Total}
use Rattle.records.proofs.Laws.Layout.{floats_at}
use Rattle.std.proofs.lemmas.Bool.{cond_both}
use Rattle.records.proofs.Laws.Counts.{answer_short, neither, unknown, unknown_byte, served, judged_cases, complete_served, accepted_complete}
use Rattle.copter.specs.declared.memory.CopterGuidance.{CopterGuidance}
use Rattle.records.proofs.Laws.Counts.{perform_accepted, TakesRecord, serve_takes}

-- ---- places in a body

float_at_drop : (n at : ℕ) (bytes : List ℕ) → float_at (drop n bytes) at ≡ float_at bytes (n + at)
unfolding float_at
float_at_drop n at bytes = simp (get_or-drop, add_assoc)

-- the heading of a state, and of one that starts at byte 4; the marks of a command that starts at byte 64
heading_of_state : (body : List ℕ) → (state body).heading_rad ≡ float_at body 56
unfolding state
heading_of_state body = refl

heading_of_call : (body : List ℕ) → (state_at body state_start).heading_rad ≡ float_at body 60
heading_of_call body = heading_of_state (drop 4 body) ∙ float_at_drop 4 56 body

-- ---- the limits

not_in_range : (dt : Float) → not (time_step_ok dt) ≡ out_of_range dt
unfolding time_step_ok
not_in_range dt = refl

neither_nor : (a b : Bool) → not (not a || b) ≡ a && not b
neither_nor true b = refl
neither_nor false b = refl

not_large : (heading : Float) → not (heading_ok heading) ≡ too_large heading
unfolding heading_ok
not_large heading = neither_nor (finite heading) (le (abs heading) heading_limit)

marks_of_call : (body : List ℕ) → marks_ok (drop command_start body) ≡ leb (byte_at body 72) 1 && leb (byte_at body 89) 1
unfolding marks_ok
marks_of_call body = rw (get_or-drop 64 body 8 0, get_or-drop 64 body 25 0)

-- ---- a configuration

-- Of the fields from n on, d of them, m breaks its rule and no lower one does.
record LowestFrom (body : List ℕ) (n d m : ℕ) : Type 0 where
  pub low : n ≤ m
  pub high : m < n + d
  pub breaks : rule m (float_at body (4 * (m - 1))) ≡ false
  pub lower_keep : (i : ℕ) → n ≤ i → i < m → Keeps body i

-- what the checks of those fields find: nothing where all keep their rules, else the lowest that does not
abbrev Found : List ℕ → ℕ → ℕ → Option Reason → Type 0
Found body n d None = (i : ℕ) → n ≤ i → i < n + d → Keeps body i
Found body n d (Some reason) = (m : ℕ) × (reason ≡ broken m) × LowestFrom body n d m

module _ (body : List ℕ) (n : ℕ) where
  found_later : (d : ℕ) → Keeps body n → (o : Option Reason) → Found body (suc n) d o → Found body n (suc d) o
  found_later d keeps None all =
      λ i low high. here_or_later (Keeps body) n i low keeps (λ later. all i later (omega arith))
  found_later d keeps (Some reason) (m, is_field, lowest_later) = (
    m,
    is_field,
    record {
      low = omega arith;
      high = omega arith;
      breaks = lowest_later.breaks;
      lower_keep = λ i low below. here_or_later (Keeps body) n i low keeps (λ later. lowest_later.lower_keep i later below);
    },
  )

  found_here : (d : ℕ) → rule n (float_at body (4 * (n - 1))) ≡ false → Found body n (suc d) (Some (broken n))
  found_here d breaks =
      (n, refl, record { low = omega arith; high = omega arith; breaks = breaks; lower_keep = λ i low below. absurd (omega arith) })

found : (body : List ℕ) (n d : ℕ) → Found body n d (first_failing (fields_kept body n d))
unfolding first_failing fields_kept
found body n zero = λ i low high. absurd (omega arith)
found body n (suc d) =
    let keeps = rule n (float_at body (4 * (n - 1))) in
    let others = first_failing (fields_kept body (suc n) d) in
    cond_both (not keeps) _ _ (Found body n (suc d)) (λ fails. found_here body n d (not-true keeps fails))
    (λ holds. found_later body n d (not-false keeps holds) others (found body (suc n) d))

kept_none_fails : (body : List ℕ) → ((n : ℕ) → 1 ≤ n → n ≤ field_count → Keeps body n) → first_failing (fields_kept body 1 field_count) ≡ None
kept_none_fails body keep = go (first_failing (fields_kept body 1 field_count)) (found body 1 field_count)
  where
    go : (o : Option Reason) → Found body 1 field_count o → o ≡ None
    go None all = refl
    go (Some reason) (m, is_field, is_lowest) = absurd (true≢false (sym (keep m is_lowest.low (omega arith)) ∙ is_lowest.breaks))

pub none_fails_kept : (body : List ℕ) → first_failing (fields_kept body 1 field_count) ≡ None → (n : ℕ) → 1 ≤ n → n ≤ field_count → Keeps body n
none_fails_kept body none_fails n low high = subst (Found body 1 field_count) none_fails (found body 1 field_count) n low (omega arith)

fails_lowest : (body : List ℕ) → no_reason (first_failing (fields_kept body 1 field_count)) ≡ false
    → (n : ℕ) × (first_failing (fields_kept body 1 field_count) ≡ Some (broken n)) × Lowest body n
fails_lowest body = go (first_failing (fields_kept body 1 field_count)) (found body 1 field_count)
  where
    go : (o : Option Reason) → Found body 1 field_count o → no_reason o ≡ false → (n : ℕ) × (o ≡ Some (broken n)) × Lowest body n
    go None all some_fails = absurd (true≢false some_fails)
    go (Some reason) (n, is_field, is_lowest) some_fails = (
      n,
      ap Some is_field,
      record { low = is_lowest.low; high = omega arith; breaks = is_lowest.breaks; lower_keep = is_lowest.lower_keep },
    )

-- the refusal of the field at which a search stops, none past the last
abbrev field_refused : ℕ → ℕ → Option Reason
field_refused last field = cond (leb field last) (Some (broken field)) None

-- The search through the values is that through the checks.
module _ (values : List Float) (body : List ℕ) (last : ℕ) where
  searched : (n d : ℕ) → n + d ≡ suc last → ((i : ℕ) → n ≤ i → i ≤ last → nth values i ≡ float_at body (4 * (i - 1)))
      → first_failing (fields_kept body n d) ≡ field_refused last (lowest values n d)
  unfolding first_failing fields_kept lowest
  searched n zero ends same = rw (lt-leb n last (omega arith))
  searched n (suc d) ends same =
      rw (same n (omega arith) (omega arith))
      (by_rule (rule n (float_at body (4 * (n - 1))))
      (searched (suc n) d (omega arith) (λ i low high. same i (omega arith) high)))
    where
      by_rule : (keeps : Bool) → first_failing (fields_kept body (suc n) d) ≡ field_refused last (lowest values (suc n) d)
          → cond (not keeps) (Some (broken n)) (first_failing (fields_kept body (suc n) d))
          ≡ field_refused last (cond keeps (lowest values (suc n) d) n)
      by_rule true later = later
      by_rule false later = rw (le-leb n last (omega arith))

-- The fields that are read, by number.
pub fields_at : (body : List ℕ) (n : ℕ) → 1 ≤ n → n ≤ field_count → nth (floats_from 0 field_count body) n ≡ float_at body (4 * (n - 1))
fields_at body n low high = floats_at 0 field_count (n - 1) body nan (omega arith) ∙ ap (float_at body) (omega arith)

-- the same of the numbers that are read
pub each_keeps : (body : List ℕ) → ((n : ℕ) → 1 ≤ n → n ≤ field_count → Keeps body n) → EachKeeps (floats_from 0 field_count body)
each_keeps body keep n low high = rw (fields_at body n low high, keep n low high) tt

keeps_each : (body : List ℕ) → EachKeeps (floats_from 0 field_count body) → (n : ℕ) → 1 ≤ n → n ≤ field_count → Keeps body n
keeps_each body keep n low high =
    is_true (rule n (float_at body (4 * (n - 1)))) (subst (λ (x : Float). T (rule n x)) (fields_at body n low high) (keep n low high))

pub fields_searched : (body : List ℕ)
    → first_failing (fields_kept body 1 field_count) ≡ field_refused field_count (lowest (floats_from 0 field_count body) 1 field_count)
fields_searched body = searched (floats_from 0 field_count body) body field_count 1 field_count refl (fields_at body)

-- ---- why a record is refused

-- the reason that a verdict gives, or none
abbrev verdict_reason : Verdict → Option Reason
verdict_reason verdict = reason_of (answer_of verdict)

-- The check holds, and the next one is asked; or it fails.
asked : (fails : Bool) (refusal : Refusal) (j : Judged) (checks : List Check) → verdict_reason j.verdict ≡ first_failing checks
    → verdict_reason (cond fails (untaken refusal) j).verdict ≡ first_failing (check fails (reason refusal) ∷ checks)
unfolding answer_of first_failing
asked true refusal j checks others = refl
asked false refusal j checks others = others

field_searched : (fails : Bool) (field : ℕ) (config : CopterGuidanceConfig)
    → verdict_reason (configure (cond fails (Err (refusals.Field field)) (Ok config))) ≡ cond fails (Some (broken field)) None
unfolding answer_of configure
field_searched true field config = refl
field_searched false field config = refl

configure_refused : (body : List ℕ) → verdict_reason (configure (configuration body)) ≡ first_failing (fields_kept body 1 field_count)
unfolding configuration
configure_refused body =
    let values = floats_from 0 field_count body in
    let field = lowest values 1 field_count in
    field_searched (leb field field_count) field (config_of values) ∙ sym (fields_searched body)

-- the reason that a body gives, or none
abbrev reason_said : Result Input Refusal → Option Reason
reason_said (Ok input) = None
reason_said (Err refusal) = Some (reason refusal)

told_refused : (guidance : Option CopterGuidance) (said : Result Input Refusal) (checks : List Check) → reason_said said ≡ first_failing checks
    → verdict_reason (told guidance said) ≡ first_failing (no_craft guidance ∷ checks)
unfolding answer_of told first_failing
told_refused None said checks others = refl
told_refused (Some g) (Ok input) checks others = ap reason_in (perform_accepted g input) ∙ others
told_refused (Some g) (Err refusal) checks others = others

-- the check of a heading
headed : (holds : Bool) (input : Input) → reason_said (cond holds (Ok input) (Err refusals.Heading))
    ≡ first_failing (check (not holds) (because 3) ∷ [])
unfolding first_failing
headed true input = refl
headed false input = refl

-- the time step before it
timed : (holds : Bool) (said : Result Input Refusal) (checks : List Check) → reason_said said ≡ first_failing checks
    → reason_said (cond holds said (Err refusals.TimeStep)) ≡ first_failing (check (not holds) (because 2) ∷ checks)
unfolding first_failing
timed true said checks others = others
timed false said checks others = refl

module _ (body : List ℕ) where
  prime_said : reason_said (prime_input (state body)) ≡ first_failing (check (too_large (float_at body 56)) (because 3) ∷ [])
  unfolding prime_input
  prime_said = rw (← not_large, ← heading_of_state body) (headed (heading_ok (state body).heading_rad) (inputs.Prime (state body)))

  call_said : (command : Command) → reason_said (call_input (Ok command) (float_at body 0) (state_at body state_start))
      ≡ first_failing (step_and_heading body)
  unfolding call_input
  call_said command =
      let dt = float_at body 0 in
      let state = state_at body state_start in
      rw (← not_in_range, ← not_large, ← heading_of_call body) (timed (time_step_ok dt) _ _ (headed (heading_ok state.heading_rad) _))

  -- the marks before both
  marked : (holds : Bool) (command : Command)
      → reason_said (call_input (cond holds (Ok command) (Err refusals.Mark)) (float_at body 0) (state_at body state_start))
      ≡ first_failing (check (not holds) (because 8) ∷ step_and_heading body)
  unfolding call_input first_failing
  marked true command = call_said command
  marked false command = refl

  waypoint_said : reason_said (call_input (command calls.Waypoint (drop command_start body)) (float_at body 0) (state_at body state_start))
      ≡ first_failing (check (not (leb (byte_at body 72) 1 && leb (byte_at body 89) 1)) (because 8) ∷ step_and_heading body)
  unfolding command
  waypoint_said = rw (← marks_of_call body) (marked (marks_ok (drop command_start body)) _)

rate_said : Some (because 4) ≡ first_failing (check true (because 4) ∷ [])
unfolding first_failing
rate_said = refl

nothing_said : None ≡ first_failing []
unfolding first_failing
nothing_said = refl

in_flight_refused : (kind : InFlight) (guidance : Option CopterGuidance) (body : List ℕ)
    → verdict_reason (told guidance (read kind body)) ≡ first_failing (own_checks (Some (kinds.InFlight kind)) guidance body)
unfolding read command
in_flight_refused flights.Prime guidance body = told_refused guidance _ _ (prime_said body)
in_flight_refused (flights.Call calls.Attitude) guidance body = told_refused guidance _ _ (call_said body _)
in_flight_refused (flights.Call calls.Waypoint) guidance body = told_refused guidance _ _ (waypoint_said body)
in_flight_refused (flights.Call calls.AbsoluteAttitude) guidance body = told_refused guidance _ _ (call_said body _)
in_flight_refused (flights.Call calls.Land) guidance body = told_refused guidance _ _ (call_said body _)
in_flight_refused (flights.Call calls.AbsoluteRate) guidance body = told_refused guidance _ _ (call_said body _)
in_flight_refused flights.Rate guidance body = told_refused guidance _ _ rate_said
in_flight_refused flights.Wind guidance body = told_refused guidance _ _ nothing_said

-- a record of a known kind, by its body
with_body_refused : (kind : Option Kind) (guidance : Option CopterGuidance) (bytes : List ℕ) →
    let needed = body_length kind in
    let body = take needed (drop 1 bytes) in
    verdict_reason (serve kind guidance body) ≡ first_failing (own_checks kind guidance body)
    → verdict_reason (with_body kind guidance (drop 1 bytes)).verdict
    ≡ first_failing (check (ltb (length bytes - 1) needed) (because 6) ∷ own_checks kind guidance body)
with_body_refused kind guidance bytes others =
    rw (← length-drop 1 bytes) (asked (ltb (length (drop 1 bytes)) (body_length kind)) refusals.Short (served kind guidance (drop 1 bytes)) _ others)

with_kind_refused : (kind : Option Kind) (guidance : Option CopterGuidance) (bytes : List ℕ) →
    let needed = body_length kind in
    verdict_reason (with_kind kind guidance (drop 1 bytes)).verdict
    ≡ first_failing
    (check (unknown kind) (because 5)
    ∷ check (ltb (length bytes - 1) needed) (because 6)
    ∷ own_checks kind guidance (take needed (drop 1 bytes)))
unfolding answer_of with_kind serve first_failing
with_kind_refused (Some kinds.Configure) guidance bytes = with_body_refused (Some kinds.Configure) guidance bytes (configure_refused _)
with_kind_refused (Some (kinds.InFlight kind)) guidance bytes = with_body_refused (Some (kinds.InFlight kind)) guidance bytes (in_flight_refused kind guidance _)
with_kind_refused None guidance bytes = refl

refused_by : (craft : Craft) (bytes buffer : List ℕ) → reason_of (step craft bytes buffer).answer ≡ why craft bytes buffer
unfolding step judged answered checks
refused_by craft bytes buffer =
    rw (← unknown_byte (byte_at bytes 0))
    (asked (ltb (length buffer) answer_room) refusals.NoRoom _ _
    (asked (eqb (length bytes) 0) refusals.Short _ _ (with_kind_refused (kind_of (byte_at bytes 0)) craft.guidance bytes)))

none_given : (o : Option Refusal) → is_none o ≡ no_reason (reason_in o)
none_given None = refl
none_given (Some refusal) = refl

accepted_exactly : (craft : Craft) (bytes buffer : List ℕ) → accepted (step craft bytes buffer).answer ≡ no_reason (why craft bytes buffer)
accepted_exactly craft bytes buffer = none_given (refusal_of (step craft bytes buffer).answer) ∙ ap no_reason (refused_by craft bytes buffer)

accepted_takes : (craft : Craft) (bytes buffer : List ℕ) → accepted (step craft bytes buffer).answer ≡ true
    → Accepting bytes buffer (step craft bytes buffer)
unfolding answered
accepted_takes craft bytes buffer accepts =
    rw (complete_served craft bytes buffer (accepted_complete craft bytes buffer (rw accepts tt)))
    (record { taken = refl; written = refl; few = answer_short _; buffer_left = refl })

numbered : Numbered
unfolding body_length kind_of
numbered =
    record {
      configure = record { says = refl; follow = refl };
      prime = record { says = refl; follow = refl };
      attitude = record { says = refl; follow = refl };
      rate = record { says = refl; follow = refl };
      waypoint = record { says = refl; follow = refl };
      absolute_attitude = record { says = refl; follow = refl };
      land = record { says = refl; follow = refl };
      absolute_rate = record { says = refl; follow = refl };
      wind = record { says = refl; follow = refl };
    }

-- ---- whole configurations

module _ (craft : Craft) (bytes buffer : List ℕ) (configures : Configures bytes buffer) where
  configure_why : why craft bytes buffer ≡ first_failing (fields_kept (fields_in bytes) 1 field_count)
  unfolding checks first_failing kind_of body_length
  configure_why =
      rw (
        configures.kind_one,
        le-ltb (length buffer) 25 configures.room,
        ne_eqb (length bytes) 0 (λ None. omega arith),
        le-ltb (length bytes - 1) 200 (omega arith),
      )

  configure_accepted : accepted (step craft bytes buffer).answer ≡ no_reason (first_failing (fields_kept (fields_in bytes) 1 field_count))
  configure_accepted = accepted_exactly craft bytes buffer ∙ ap no_reason configure_why

  kept→accepted : ((n : ℕ) → 1 ≤ n → n ≤ field_count → Keeps (fields_in bytes) n) → accepted (step craft bytes buffer).answer ≡ true
  kept→accepted keep = configure_accepted ∙ ap no_reason (kept_none_fails (fields_in bytes) keep)

  accepted→kept : accepted (step craft bytes buffer).answer ≡ true → (n : ℕ) → 1 ≤ n → n ≤ field_count → Keeps (fields_in bytes) n
  accepted→kept accepts =
      none_fails_kept (fields_in bytes) (none_of (first_failing (fields_kept (fields_in bytes) 1 field_count)) (sym configure_accepted ∙ accepts))
    where
      none_of : (o : Option Reason) → no_reason o ≡ true → o ≡ None
      none_of None given = refl
      none_of (Some reason) given = absurd (true≢false (sym given))

  accepted_valid : (accepted (step craft bytes buffer).answer ≡ true) ↔ Valid (config_in bytes)
  accepted_valid =
      let values = floats_from 0 field_count (fields_in bytes) in
      let valid = kept_is_valid values in
      (λ accepts. valid.0 (each_keeps (fields_in bytes) (accepted→kept accepts)), λ v. kept→accepted (keeps_each (fields_in bytes) (valid.1 v)))

  else_lowest : accepted (step craft bytes buffer).answer ≡ false
      → (n : ℕ) × (reason_of (step craft bytes buffer).answer ≡ Some (broken n)) × Lowest (fields_in bytes) n
  else_lowest refuses =
      let (n, first, is_lowest) = fails_lowest (fields_in bytes) (sym configure_accepted ∙ refuses) in
      (n, refused_by craft bytes buffer ∙ configure_why ∙ first, is_lowest)

-- ---- what a refused record leaves

-- an accepted answer; or a refusal, 9 exactly where there is no room, that takes no byte or the record
abbrev Settles : Bool → ℕ → ℕ → Verdict → Type 0
Settles no_room needed taken (Accepted g answer) = refusal_of answer ≡ None
Settles no_room needed taken (Refused refusal) = (eqb (number refusal) 9 ≡ no_room) × (taken ≡ cond (takes_none (number refusal)) 0 (suc needed))

whole_settles : (needed : ℕ) (verdict : Verdict) → TakesRecord verdict → Settles false needed (suc needed) verdict
whole_settles needed (Accepted g answer) takes = takes
whole_settles needed (Refused refusal) takes =
    ((neither (eqb (number refusal) 5 || eqb (number refusal) 6) (eqb (number refusal) 9) takes).1, rw takes)

-- the three bytes of a refusal over a buffer, none of them for 9
refusal_put : (no_room : Bool) (a b c : ℕ) (buffer : List ℕ) →
    let bytes = cond no_room [] (a ∷ b ∷ c ∷ []) in
    (bytes ++ drop (length bytes) buffer ≡ cond no_room buffer (a ∷ b ∷ c ∷ drop 3 buffer)) × (length bytes ≡ cond no_room 0 3)
refusal_put true a b c buffer = (refl, refl)
refusal_put false a b c buffer = (refl, refl)

module _ (craft : Craft) (bytes buffer : List ℕ) where
  abbrev SettlesHere : Judged → Type 0
  SettlesHere j = Settles (ltb (length buffer) answer_room) (body_length (kind_of (byte_at bytes 0))) j.taken j.verdict

  -- Every record does, with room and without.
  all_settle : SettlesHere (cond (ltb (length buffer) answer_room) (untaken refusals.NoRoom) (judged craft.guidance bytes))
  all_settle =
      let guidance = craft.guidance in
      let kind = kind_of (byte_at bytes 0) in
      let body = take (body_length kind) (drop 1 bytes) in
      cond_both (ltb (length buffer) answer_room) _ _ SettlesHere (λ small. (sym small, refl))
      (λ room. judged_cases SettlesHere guidance bytes (sym room, refl) (sym room, refl)
      (λ is_known whole. rw room (whole_settles (body_length kind) (serve kind guidance body) (serve_takes kind guidance body is_known))))

  refusal_left : (refusal : Refusal) (taken : ℕ) → SettlesHere (record { verdict = Refused refusal; taken = taken })
      → Refusing craft bytes buffer (reason refusal) (answered craft (record { verdict = Refused refusal; taken = taken }) buffer)
  unfolding answered answer_of craft_after answer_bytes refusal_bytes
  refusal_left refusal taken (nine, takes) =
      let put = refusal_put (ltb (length buffer) answer_room) 3 (number refusal) (field_of refusal) buffer in
      record {
        refused = refl;
        craft_stays = refl;
        buffer_left = rw nine put.0;
        written = rw nine put.1;
        taken = takes;
        nine_without_room = nine;
      }

  verdict_left : (why : Reason) (taken : ℕ) (verdict : Verdict) → SettlesHere (record { verdict = verdict; taken = taken })
      → verdict_reason verdict ≡ Some why → Refusing craft bytes buffer why (answered craft (record { verdict = verdict; taken = taken }) buffer)
  unfolding answer_of
  verdict_left why taken (Accepted g answer) settles refuses = absurd (true≢false (ap no_reason (sym (ap reason_in settles) ∙ refuses)))
  verdict_left why taken (Refused refusal) settles refuses =
      let same : reason refusal ≡ why = cc in rw (← same) (refusal_left refusal taken settles)

  refused_stays : (reason : Reason) → why craft bytes buffer ≡ Some reason → Refusing craft bytes buffer reason (step craft bytes buffer)
  unfolding step answered
  refused_stays reason fails =
      let j = cond (ltb (length buffer) answer_room) (untaken refusals.NoRoom) (judged craft.guidance bytes) in
      verdict_left reason j.taken j.verdict all_settle (refused_by craft bytes buffer ∙ fails)

-- ---- the claim

pub total : Total
total =
    record {
      refused_by = refused_by;
      accepted_exactly = accepted_exactly;
      accepted_takes = accepted_takes;
      numbered = numbered;
      kept→accepted = kept→accepted;
      accepted→kept = accepted→kept;
      accepted_valid = accepted_valid;
      else_lowest = else_lowest;
      refused_stays = refused_stays;
    }
