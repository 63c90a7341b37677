-- "What each call does" holds of every list of records from an unconfigured craft: `facts`. An accepted record comes to what its kind and its body
-- say, and the craft held is one that primings and calls lead to from a valid configuration. Assumes nothing.
use Rattle.records.specs.declared.answer.Refusal.{Refusal}
use Rattle.std.specs.Prelude.{None, Option, Some, Result, Ok, Err}
use Prim.Native.Nat.{ℕ}
use mathlib.Core.Path.{◌≡◌, refl, sym, ap, subst, ◌∙◌}
use mathlib.Core.Bool.{cond}
use mathlib.Core.List.{List, [], ◌∷◌}
use lib.Dec.{T, ltb}
use lib.ListN.{length}
use Rattle.copter.specs.Guide.{new_craft, guide_call, prime, wind_reading}
use Rattle.copter.specs.declared.config.CopterGuidanceConfig.{CopterGuidanceConfig}
use Rattle.copter.specs.declared.memory.CopterGuidance.{CopterGuidance}
use Rattle.copter.proofs.Laws.Calls.{call_of, guide_call_of}
use Rattle.copter.proofs.Laws.Facts.{each_craft, each_call}
use Rattle.copter.proofs.Laws.Reached.{Reached, primed, reached_guided}
use Rattle.copter.proofs.Laws.Reached as reached
use Rattle.copter.proofs.Laws.Wind.{guide_keeps_config}
use Rattle.records.specs.declared.craft.Craft.{Craft}
use Rattle.records.specs.declared.answer.Refusal.TheVariants as refusals
use Rattle.records.specs.declared.answer.Answer.{Answer}
use Rattle.records.specs.declared.answer.Answer.TheVariants as answers
use Rattle.records.specs.declared.kinds.InFlight.{InFlight}
use Rattle.records.specs.declared.kinds.Kind.{Kind}
use Rattle.records.specs.declared.kinds.Kind.TheVariants as kinds
use Rattle.records.specs.declared.read.Input.{Input}
use Rattle.records.specs.declared.read.Input.TheVariants as inputs
use Rattle.records.specs.Answer.{accepted}
use Rattle.records.specs.Craft.{unconfigured}
use Rattle.records.specs.Kinds.{kind_of}
use Rattle.records.specs.Read.{configuration, read}
use Rattle.records.specs.Step.{configured, setpoint_answer, wind_answer, guided, perform, Verdict, performed, configure, told, serve}
use Rattle.records.specs.Step.{Judged, untaken, judged, craft_after, answer_of, answered, answer_room, step}
use Rattle.records.specs.Step as steps
use Rattle.records.specs.Feed.{Entry, outcome, after, machine, kind_byte, body_of, Accepted}
use Rattle.records.specs.Facts.{Told, Configuring, AcceptedAs, a_configure, an_input, Facts}
use Rattle.std.proofs.lemmas.Bool.{cond_both}
use Rattle.records.proofs.Laws.Counts.{judged_cases}
use Rattle.records.proofs.Laws.Read.{InputFits, ReadFits, read_fits, ConfigurationValid, configuration_valid}

-- ---- what an input comes to

-- the craft that it leaves, and the answer
abbrev leaves : CopterGuidance → Input → CopterGuidance
leaves g (inputs.Prime state) = prime g state
leaves g (inputs.Call dt state command) = (guide_call g dt state command).craft
leaves g inputs.Wind = g

abbrev answers_to : CopterGuidance → Input → Answer
answers_to g (inputs.Prime state) = answers.Done
answers_to g (inputs.Call dt state command) = let after = guide_call g dt state command in setpoint_answer after.setpoint after.flags
answers_to g inputs.Wind = wind_answer (wind_reading g)

performed_so : (g : CopterGuidance) (input : Input) → performed g (perform g input) ≡ steps.Accepted (leaves g input) (answers_to g input)
unfolding perform guided prime
performed_so g (inputs.Prime state) = refl
performed_so g (inputs.Call dt state command) =
    let after = guide_call g dt state command in
    let kept : after.craft.config ≡ g.config = rw (guide_call_of g dt state command) (guide_keeps_config g dt state (call_of command)) in
    let answer = answers_to g (inputs.Call dt state command) in
    ap (λ (config : CopterGuidanceConfig). steps.Accepted (record { config = config; memory = after.craft.memory }) answer) (sym kept)
performed_so g inputs.Wind = refl

-- ---- what an accepted record comes to

module _ (craft : Craft) (entry : Entry) where
  abbrev verdict : Verdict
  verdict = serve (kind_of (kind_byte entry)) craft.guidance (body_of entry)

  abbrev Whole : Judged → Type 0
  Whole j = T (accepted (answer_of j.verdict)) → j.verdict ≡ verdict

  -- The buffer has room, the kind is known and the body is whole.
  whole : Whole (cond (ltb (length entry.buffer) answer_room) (untaken refusals.NoRoom) (judged craft.guidance entry.bytes))
  unfolding answer_of
  whole =
      cond_both (ltb (length entry.buffer) answer_room) _ _ Whole (λ small ok. absurd ok)
      (λ room. judged_cases Whole craft.guidance entry.bytes (λ ok. absurd ok) (λ ok. absurd ok) (λ is_known long ok. refl))

  -- what a verdict leaves and answers
  abbrev ComesTo : Verdict → Type 0
  ComesTo v = ((outcome craft entry).craft ≡ craft_after craft v) × ((outcome craft entry).answer ≡ answer_of v)

  comes_to : {v : Verdict} → verdict ≡ v → Accepted craft entry → ComesTo v
  unfolding step answered
  comes_to is ok = let same = whole ok ∙ is in (ap (craft_after craft) same, ap answer_of same)

served_configure : (kind : Option Kind) (guidance : Option CopterGuidance) (body : List ℕ) (config : CopterGuidanceConfig) → kind ≡ Some kinds.Configure
    → configuration body ≡ Ok config → serve kind guidance body ≡ steps.Accepted (new_craft config) answers.Done
unfolding serve configure
served_configure kind guidance body config is says = rw (is, says)

served_input : (kind : Option Kind) (guidance : Option CopterGuidance) (body : List ℕ) (k : InFlight) (g : CopterGuidance) (input : Input) → kind ≡ Some (kinds.InFlight k)
    → guidance ≡ Some g → read k body ≡ Ok input → serve kind guidance body ≡ steps.Accepted (leaves g input) (answers_to g input)
unfolding serve told
served_input kind guidance body k g input is holds says = rw (is, holds, says) (performed_so g input)

module _ (first : List Entry) (entry : Entry) (ok : Accepted (machine first) entry) where
  configured_so : (config : CopterGuidanceConfig) → Configuring entry config
      → ((outcome (machine first) entry).craft ≡ configured (new_craft config)) × ((outcome (machine first) entry).answer ≡ answers.Done)
  unfolding craft_after answer_of
  configured_so config c =
      comes_to (machine first) entry
      (served_configure (kind_of (kind_byte entry)) (machine first).guidance (body_of entry) config c.of_kind c.says) ok

  told_so : (before : CopterGuidance) (input : Input) → Told first entry before input
      → ((outcome (machine first) entry).craft ≡ configured (leaves before input)) × ((outcome (machine first) entry).answer ≡ answers_to before input)
  unfolding craft_after answer_of
  told_so before input t =
      comes_to (machine first) entry
      (served_input (kind_of (kind_byte entry)) (machine first).guidance (body_of entry) t.kind before input t.of_kind t.holds t.says) ok

-- ---- what an accepted record is

module _ (first : List Entry) (entry : Entry) where
  abbrev body : List ℕ
  body = body_of entry

  as_configure : kind_of (kind_byte entry) ≡ Some kinds.Configure → (said : Result CopterGuidanceConfig Refusal) → configuration body ≡ said
      → T (accepted (answer_of (configure said))) → AcceptedAs first entry
  unfolding configure answer_of
  as_configure is (Ok config) says ok = a_configure config (record { of_kind = is; says = says })
  as_configure is (Err refusal) says ok = absurd ok

  as_input : (k : InFlight) → kind_of (kind_byte entry) ≡ Some (kinds.InFlight k) → (guidance : Option CopterGuidance) → (machine first).guidance ≡ guidance
      → (said : Result Input Refusal) → read k body ≡ said → T (accepted (answer_of (told guidance said))) → AcceptedAs first entry
  unfolding told answer_of
  as_input k is None holds said says ok = absurd ok
  as_input k is (Some g) holds (Ok input) says ok = an_input g input (record { holds = holds; kind = k; of_kind = is; says = says })
  as_input k is (Some g) holds (Err refusal) says ok = absurd ok

  as_kind : (kind : Option Kind) → kind_of (kind_byte entry) ≡ kind → T (accepted (answer_of (serve kind (machine first).guidance body)))
      → AcceptedAs first entry
  unfolding serve answer_of
  as_kind (Some kinds.Configure) is ok = as_configure is (configuration body) refl ok
  as_kind (Some (kinds.InFlight k)) is ok = as_input k is (machine first).guidance refl (read k body) refl ok
  as_kind None is ok = absurd ok

  accepted_as : Accepted (machine first) entry → AcceptedAs first entry
  accepted_as ok = as_kind (kind_of (kind_byte entry)) refl (rw (comes_to (machine first) entry refl ok).1 at ok)

-- ---- every craft

-- no craft, or one that is reached
abbrev HeldReached : Option CopterGuidance → Type 0
HeldReached None = Unit {0}
HeldReached (Some held) = Reached held

-- a refusal, or a craft that is reached
abbrev VerdictReached : Verdict → Type 0
VerdictReached (steps.Accepted g answer) = Reached g
VerdictReached (steps.Refused refusal) = Unit {0}

abbrev JudgedReached : Judged → Type 0
JudgedReached j = VerdictReached j.verdict

configure_reached : (said : Result CopterGuidanceConfig Refusal) → ConfigurationValid said → VerdictReached (configure said)
unfolding configure
configure_reached (Ok config) valid = reached.configured config valid
configure_reached (Err refusal) valid = tt

leaves_reached : (g : CopterGuidance) (input : Input) → InputFits input → Reached g → Reached (leaves g input)
leaves_reached g (inputs.Prime state) fit r = primed state fit r
leaves_reached g (inputs.Call dt state command) fit r = reached_guided r dt state command fit.0
leaves_reached g inputs.Wind fit r = r

told_reached : (guidance : Option CopterGuidance) (said : Result Input Refusal) → HeldReached guidance → ReadFits said → VerdictReached (told guidance said)
unfolding told
told_reached None said r fit = tt
told_reached (Some g) (Ok input) r fit = subst VerdictReached (sym (performed_so g input)) (leaves_reached g input fit r)
told_reached (Some g) (Err refusal) r fit = tt

serve_reached : (kind : Option Kind) (guidance : Option CopterGuidance) (body : List ℕ) → HeldReached guidance → VerdictReached (serve kind guidance body)
unfolding serve
serve_reached (Some kinds.Configure) guidance body r = configure_reached (configuration body) (configuration_valid body)
serve_reached (Some (kinds.InFlight k)) guidance body r = told_reached guidance (read k body) r (read_fits k body)
serve_reached None guidance _ r = tt

craft_reached : (craft : Craft) (verdict : Verdict) → HeldReached craft.guidance → VerdictReached verdict
    → HeldReached (craft_after craft verdict).guidance
unfolding craft_after
craft_reached craft (steps.Accepted g answer) r v = v
craft_reached craft (steps.Refused refusal) r v = r

outcome_reached : (craft : Craft) (entry : Entry) → HeldReached craft.guidance → HeldReached (outcome craft entry).craft.guidance
unfolding step answered
outcome_reached craft entry r =
    craft_reached craft _ r
    (cond_both (ltb (length entry.buffer) answer_room) _ _ JudgedReached (λ small. tt)
    (λ room. judged_cases JudgedReached craft.guidance entry.bytes tt tt
    (λ is_known long. serve_reached (kind_of (kind_byte entry)) craft.guidance (body_of entry) r)))

after_reached : (craft : Craft) (entries : List Entry) → HeldReached craft.guidance → HeldReached (after craft entries).guidance
unfolding after
after_reached craft [] r = r
after_reached craft (entry ∷ entries) r = after_reached (outcome craft entry).craft entries (outcome_reached craft entry r)

pub machine_reached : (entries : List Entry) (held : CopterGuidance) → (machine entries).guidance ≡ Some held → Reached held
unfolding unconfigured
machine_reached entries held holds = subst HeldReached holds (after_reached unconfigured entries tt)

-- ---- the claim

pub facts : Facts
facts =
    record {
      accepted_as = accepted_as;
      configured_so = λ first entry config ok c.
          let (craft, answer) = configured_so first entry ok config c in
          (craft, answer, subst ConfigurationValid c.says (configuration_valid (body_of entry)));
      primed_so = λ first entry before state ok t. told_so first entry ok before (inputs.Prime state) t;
      wind_read_so = λ first entry before ok t. told_so first entry ok before inputs.Wind t;
      called_so = λ first entry before dt state command ok t.
          let (craft, answer) = told_so first entry ok before (inputs.Call dt state command) t in
          let (in_time, heading, commanded) = subst ReadFits t.says (read_fits t.kind (body_of entry)) in
          let r = machine_reached first before t.holds in
          (craft, answer, each_call r dt state command in_time heading commanded);
      each_craft = λ entries held holds. each_craft (machine_reached entries held holds);
    }
