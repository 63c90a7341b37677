-- The claim over whole feeds holds: `whole_feeds`. Two crafts that differ in no more than what cannot be read answer every list alike, and an ending call
-- leaves a craft that differs in no more than that from the reset one. Assumes nothing.
use Rattle.records.specs.declared.answer.Refusal.{Refusal}
use Rattle.std.specs.Prelude.{None, Option, Some, Result, Ok, Err}
use Prim.Native.Nat.{ℕ, suc}
use mathlib.Core.Path.{◌≡◌, refl, sym, ap, ◌∙◌}
use mathlib.Core.Bool.{Bool, true, false, cond}
use mathlib.Core.Logic.{⊎_elim}
use mathlib.Core.List.{List, [], ◌∷◌, ◌++◌}
use lib.Dec.{T, ltb, eqb}
use lib.ListN.{length, take, drop}
use lib.Ieee.{Float, binary32, fits}
use lib.Ieee.Bits.{is_true}
use lib.Ieee.Scale.{finite}
use Rattle.math.specs.Math.{wrap_angle}
use Rattle.math.proofs.Laws.Wrap.{wrap_finite}
use Rattle.wind.specs.declared.state.VehicleState.{VehicleState}
use Rattle.heading.specs.declared.hover_wind.HoverWind.{HoverWind}
use Rattle.heading.proofs.Laws.HoverWind.{prime_grounded, prime_airborne}
use Rattle.copter.specs.Memory.{fresh}
use Rattle.copter.specs.Guide.{heading_target, followed_heading, command_heading, piloted, absolute_attitude_call, absolute_rate_call}
use Rattle.copter.specs.Guide.{wind_updated, guide_call, new_craft, prime, wind_reading}
use Rattle.copter.specs.declared.commands.Command.{Command}
use Rattle.copter.specs.declared.commands.Command.TheVariants as commands
use Rattle.copter.specs.declared.config.CopterGuidanceConfig.{CopterGuidanceConfig}
use Rattle.copter.specs.declared.memory.Memory.{Memory}
use Rattle.copter.specs.declared.memory.CopterGuidance.{CopterGuidance}
use Rattle.copter.proofs.Laws.Calls.{call_of, guide_call_of}
use Rattle.copter.proofs.Laws.Norm.{norm, norm_craft, norm_guided, fresh_with, piloted_leaves_fresh}
use Rattle.copter.proofs.Laws.Norm.{call_from_norm, norm_fresh, prime_from_norm, wind_from_norm}
use Rattle.records.specs.declared.craft.Craft.{Craft}
use Rattle.records.specs.declared.answer.Refusal.TheVariants as refusals
use Rattle.records.specs.declared.answer.Answer.TheVariants.{Done}
use Rattle.records.specs.declared.kinds.Call.TheVariants as calls
use Rattle.records.specs.declared.kinds.InFlight.{InFlight}
use Rattle.records.specs.declared.kinds.InFlight.TheVariants as flights
use Rattle.records.specs.declared.kinds.Kind.{Kind}
use Rattle.records.specs.declared.kinds.Kind.TheVariants as kinds
use Rattle.records.specs.declared.read.Input.{Input}
use Rattle.records.specs.declared.read.Input.TheVariants as inputs
use Rattle.records.specs.Craft.{unconfigured}
use Rattle.records.specs.Answer.{accepted}
use Rattle.records.specs.Layout.{byte_at, float_at}
use Rattle.records.specs.Kinds.{kind_of, body_length, state_start, command_start}
use Rattle.records.specs.Read.{absolute_attitude_command, absolute_rate_command, command, state_at, heading_ok}
use Rattle.records.specs.Read.{prime_input, call_input, read}
use Rattle.records.specs.Step.{configured, setpoint_answer, wind_answer, guided, perform, Verdict, Accepted, Refused, performed, told, serve}
use Rattle.records.specs.Step.{Judged, untaken, with_body, with_kind, judged, Outcome, craft_after, answer_of, answered}
use Rattle.records.specs.Step.{answer_room, step}
use Rattle.records.specs.Feed.{Entry, reply, outcome, after, machine, replies, Link, Fed, given_back, port_replies, kind_byte, body_of}
use Rattle.records.specs.Feed.{Ending, heading_of, ending_heading, Priming, made_fresh, reset, heading_held, wind_held}
use Rattle.records.specs.Feed.{above_ground, SameWind, WholeFeeds}
use Rattle.records.specs.Feed as feed
use Rattle.records.proofs.Laws.Layout.{float_at_fits}
use Rattle.std.proofs.lemmas.Bool.{cond_both}
use Rattle.records.proofs.Laws.Counts.{complete_told, accepted_complete}
use Rattle.records.proofs.Laws.Read.{by_checks}

-- ---- crafts that differ in no more than what cannot be read

abbrev pub norm_guidance : Option CopterGuidance → Option CopterGuidance
norm_guidance None = None
norm_guidance (Some g) = Some (norm_craft g)

abbrev pub normed : Craft → Craft
normed craft = record { guidance = norm_guidance craft.guidance }

abbrev norm_verdict : Verdict → Verdict
norm_verdict (Accepted g answer) = Accepted (norm_craft g) answer
norm_verdict (Refused refusal) = Refused refusal

abbrev norm_judged : Judged → Judged
norm_judged j = record { verdict = norm_verdict j.verdict; taken = j.taken }

abbrev norm_outcome : Outcome → Outcome
norm_outcome o = record { craft = normed o.craft; answer = o.answer; taken = o.taken; written = o.written; buffer = o.buffer }

-- ---- each record

module _ (g h : CopterGuidance) (same : norm_craft g ≡ norm_craft h) where
  -- What comes of a craft as of its `norm` comes of both.
  of_both : {A : Type 0} (f : CopterGuidance → A) → ((n : CopterGuidance) → f n ≡ f (norm_craft n)) → f g ≡ f h
  of_both f from_norm = from_norm g ∙ ap f same ∙ sym (from_norm h)

  perform_same : (input : Input) → norm_verdict (performed g (perform g input)) ≡ norm_verdict (performed h (perform h input))
  unfolding perform guided norm_guided norm_craft
  perform_same (inputs.Prime state) =
      let primed = of_both (λ n. prime n state) (λ n. prime_from_norm n state) in
      λ i. Accepted (record { config = (same i).config; memory = norm (primed i).memory }) Done
  perform_same (inputs.Call dt state command) =
      let m =
      of_both (λ n. norm_guided (guide_call n dt state command))
      (λ n. rw (guide_call_of n dt state command, guide_call_of (norm_craft n) dt state command) (call_from_norm n dt state (call_of command))) in
      λ i. Accepted (record { config = (same i).config; memory = (m i).craft.memory }) (setpoint_answer (m i).setpoint (m i).flags)
  perform_same inputs.Wind = let reading = of_both wind_reading wind_from_norm in λ i. Accepted (same i) (wind_answer (reading i))

told_same : (a b : Option CopterGuidance) → norm_guidance a ≡ norm_guidance b → (said : Result Input Refusal) → norm_verdict (told a said) ≡ norm_verdict (told b said)
unfolding told
told_same None None same said = refl
told_same None (Some h) same said = cc
told_same (Some g) None same said = cc
told_same (Some g) (Some h) same (Ok input) = perform_same g h (cc) input
told_same (Some g) (Some h) same (Err refusal) = refl

-- where a test leads to the same, or to what is the same but for what `norm` sets
unless_same : (b : Bool) (x j k : Judged) → norm_judged j ≡ norm_judged k → norm_judged (cond b x j) ≡ norm_judged (cond b x k)
unless_same true x j k same = refl
unless_same false x j k same = same

module _ (a b : Option CopterGuidance) (same : norm_guidance a ≡ norm_guidance b) where
  serve_same : (kind : Option Kind) (body : List ℕ) → norm_verdict (serve kind a body) ≡ norm_verdict (serve kind b body)
  unfolding serve
  serve_same (Some kinds.Configure) body = refl
  serve_same (Some (kinds.InFlight kind)) body = told_same a b same (read kind body)
  serve_same None body = refl

  with_body_same : (kind : Option Kind) (rest : List ℕ) → norm_judged (with_body kind a rest) ≡ norm_judged (with_body kind b rest)
  with_body_same kind rest =
      let needed = body_length kind in
      unless_same (ltb (length rest) needed) (untaken refusals.Short) _ _
      (λ i. record { verdict = serve_same kind (take needed rest) i; taken = suc needed })

  with_kind_same : (kind : Option Kind) (rest : List ℕ) → norm_judged (with_kind kind a rest) ≡ norm_judged (with_kind kind b rest)
  unfolding with_kind
  with_kind_same (Some kind) rest = with_body_same (Some kind) rest
  with_kind_same None rest = refl

  judged_same : (bytes : List ℕ) → norm_judged (judged a bytes) ≡ norm_judged (judged b bytes)
  unfolding judged
  judged_same bytes =
      unless_same (eqb (length bytes) 0) (untaken refusals.Short) _ _ (with_kind_same (kind_of (byte_at bytes 0)) (drop 1 bytes))

-- ---- each entry and each list

answered_normed : (craft : Craft) (verdict : Verdict) (taken : ℕ) (buffer : List ℕ)
    → norm_outcome (answered craft (record { verdict = verdict; taken = taken }) buffer)
    ≡ answered (normed craft) (record { verdict = norm_verdict verdict; taken = taken }) buffer
unfolding answered craft_after answer_of
answered_normed craft (Accepted g answer) taken buffer = refl
answered_normed craft (Refused refusal) taken buffer = refl

answered_same : (c d : Craft) → normed c ≡ normed d → (j k : Judged) → norm_judged j ≡ norm_judged k → (buffer : List ℕ)
    → norm_outcome (answered c j buffer) ≡ norm_outcome (answered d k buffer)
answered_same c d same j k alike buffer =
    answered_normed c j.verdict j.taken buffer
    ∙ (λ i. answered (same i) (alike i) buffer)
    ∙ sym (answered_normed d k.verdict k.taken buffer)

outcome_same : (c d : Craft) → normed c ≡ normed d → (entry : Entry) → norm_outcome (outcome c entry) ≡ norm_outcome (outcome d entry)
unfolding step
outcome_same c d same entry =
    let alike = judged_same c.guidance d.guidance (ap (λ (n : Craft). n.guidance) same) entry.bytes in
    answered_same c d same _ _ (unless_same (ltb (length entry.buffer) answer_room) (untaken refusals.NoRoom) _ _ alike) entry.buffer

pub alike_replies : (c d : Craft) → normed c ≡ normed d → (entries : List Entry) → replies c entries ≡ replies d entries
unfolding replies
alike_replies c d same [] = refl
alike_replies c d same (entry ∷ entries) =
    let alike = outcome_same c d same entry in
    let rest = alike_replies (outcome c entry).craft (outcome d entry).craft (ap (λ (o : Outcome). o.craft) alike) entries in
    λ i. reply (alike i) ∷ rest i

-- ---- an accepted record of a kind in flight

-- the input, where a body says one
abbrev Says : Input → Result Input Refusal → Type 0
Says input (Ok said) = said ≡ input
Says input (Err refusal) = Unit {0}

call_says : (command : Command) (dt : Float) (state : VehicleState)
    → Says (inputs.Call dt state command) (call_input (Ok command) dt state)
call_says command dt state = by_checks (Says (inputs.Call dt state command)) command dt state (λ in_time headed. refl) (λ refusal. tt)

prime_says : (state : VehicleState) → Says (inputs.Prime state) (prime_input state)
unfolding prime_input
prime_says state = cond_both (heading_ok state.heading_rad) _ _ (Says (inputs.Prime state)) (λ headed. refl) (λ turned. tt)

told_accepted : (guidance : Option CopterGuidance) (said : Result Input Refusal) (input : Input) → Says input said → T (accepted (answer_of (told guidance said)))
    → (g : CopterGuidance) × (guidance ≡ Some g) × (said ≡ Ok input)
unfolding answer_of told
told_accepted None said input says none = absurd none
told_accepted (Some g) (Ok other) input says some = (g, refl, ap Ok says)
told_accepted (Some g) (Err refusal) input says none = absurd none

-- The craft is configured, and every configured craft performs the input.
record Performs (craft : Craft) (entry : Entry) (input : Input) : Type 0 where
  pub before : CopterGuidance
  pub holds : craft ≡ configured before
  pub leaves : (g : CopterGuidance) → (outcome (configured g) entry).craft ≡ configured (record { config = g.config; memory = (perform g input).memory })

accepted_performs : (craft : Craft) (entry : Entry) → feed.Accepted craft entry → (kind : InFlight) → kind_of (kind_byte entry) ≡ Some (kinds.InFlight kind)
    → (input : Input) → Says input (read kind (body_of entry)) → Performs craft entry input
unfolding answered told craft_after
accepted_performs craft entry accepts kind is input says =
    let complete = accepted_complete craft entry.bytes entry.buffer accepts in
    let by_kind : (c : Craft) → _ = λ c. complete_told c entry.bytes entry.buffer complete kind is in
    let (g, holds, said) = told_accepted craft.guidance (read kind (body_of entry)) input says (rw (by_kind craft) at accepts) in
    record {
      before = g;
      holds = λ i. record { guidance = holds i };
      leaves = λ g. rw (by_kind (configured g), said);
    }

-- ---- the ending call

-- all but the heading target and the wind memory is as fresh, and the heading target is the wrapped heading
record Forgot (heading : Float) (craft : Craft) : Type 0 where
  pub alike : normed craft ≡ normed (reset craft (heading_held craft.guidance))
  pub wrapped : T (finite heading) → heading_held craft.guidance ≡ wrap_angle heading

piloted_forgot : (self : Memory) (config : CopterGuidanceConfig) (dt : Float) (state : VehicleState) (target heading : Float)
    → (T (finite heading) → target ≡ wrap_angle heading)
    → Forgot heading (configured (record { config = config; memory = piloted self config dt state target }))
unfolding norm_craft piloted fresh_with fresh
piloted_forgot self config dt state target heading h =
    let left = piloted_leaves_fresh self config dt state target ∙ sym (norm_fresh target (wind_updated self config dt state)) in
    record { alike = λ i. configured (record { config = config; memory = left i }); wrapped = h }

commanded_wrapped : (kept commanded estimate : Float) → T (fits binary32 commanded) → T (finite commanded)
    → heading_target kept (command_heading kept commanded) estimate ≡ wrap_angle commanded
unfolding heading_target command_heading
commanded_wrapped kept commanded estimate p q =
    rw (is_true (finite commanded) q, is_true (finite (wrap_angle commanded)) (wrap_finite commanded p q))

estimate_wrapped : (kept estimate : Float) → T (finite estimate) → followed_heading kept estimate ≡ wrap_angle estimate
unfolding followed_heading
estimate_wrapped kept estimate q = rw (is_true (finite estimate) q)

module _ (craft : Craft) (entry : Entry) (accepts : feed.Accepted craft entry) where
  abbrev dt : Float
  dt = float_at (body_of entry) 0

  abbrev estimated : VehicleState
  estimated = state_at (body_of entry) state_start

  abbrev command_part : List ℕ
  command_part = drop command_start (body_of entry)

  six_forgot : kind_byte entry ≡ 6 → Forgot (ending_heading entry) (outcome craft entry).craft
  unfolding kind_of read command perform guided guide_call absolute_attitude_call absolute_attitude_command
  six_forgot six =
      let said = absolute_attitude_command command_part in
      let p =
      accepted_performs craft entry accepts (flights.Call calls.AbsoluteAttitude) (ap kind_of six) _
      (call_says (commands.AbsoluteAttitude said) dt estimated) in
      let g = p.before in
      rw (p.holds, p.leaves g, ap (λ (byte : ℕ). heading_of byte (body_of entry)) six)
      (piloted_forgot g.memory g.config dt estimated _ said.heading_rad
      (commanded_wrapped g.memory.heading_rad said.heading_rad estimated.heading_rad (float_at_fits command_part 8)))

  eight_forgot : kind_byte entry ≡ 8 → Forgot (ending_heading entry) (outcome craft entry).craft
  unfolding kind_of read command perform guided guide_call absolute_rate_call
  eight_forgot eight =
      let p =
      accepted_performs craft entry accepts (flights.Call calls.AbsoluteRate) (ap kind_of eight) _
      (call_says (commands.AbsoluteRate (absolute_rate_command command_part)) dt estimated) in
      let g = p.before in
      rw (p.holds, p.leaves g, ap (λ (byte : ℕ). heading_of byte (body_of entry)) eight)
      (piloted_forgot g.memory g.config dt estimated _ estimated.heading_rad
      (estimate_wrapped g.memory.heading_rad estimated.heading_rad))

ending_forgot : (craft : Craft) (entry : Entry) → Ending craft entry → Forgot (ending_heading entry) (outcome craft entry).craft
ending_forgot craft entry e = ⊎_elim (six_forgot craft entry e.accepted) (eight_forgot craft entry e.accepted) e.six_or_eight

-- ---- a priming

same_wind : (a b : HoverWind) → a ≡ b → SameWind a b
same_wind a b e =
    record {
      same_filter = ap (λ (w : HoverWind). w.estimator.filter) e;
      same_window = ap (λ (w : HoverWind). w.estimator.window) e;
      same_ground = ap (λ (w : HoverWind). w.ground_altitude_m) e;
    }

module _ (craft : Craft) (entry : Entry) (priming : Priming craft entry) where
  primed : Performs craft entry (inputs.Prime (state_at (body_of entry) 0))
  unfolding kind_of read
  primed =
      accepted_performs craft entry priming.accepted flights.Prime (ap kind_of priming.kind_two) _
      (prime_says (state_at (body_of entry) 0))

  priming_grounded : above_ground craft.guidance (state_at (body_of entry) 0) ≡ false
      → SameWind (wind_held (outcome craft entry).craft.guidance) (wind_held (outcome (made_fresh craft) entry).craft.guidance)
  unfolding perform prime new_craft fresh
  priming_grounded low =
      let g = primed.before in
      let e = rw primed.holds at low in
      rw (primed.holds, primed.leaves g, primed.leaves (new_craft g.config))
      (same_wind _ _ (prime_grounded g.memory.wind g.config.guidance.airborne_height_m (state_at (body_of entry) 0) e))

  priming_airborne : above_ground craft.guidance (state_at (body_of entry) 0) ≡ true
      → SameWind (wind_held (outcome craft entry).craft.guidance) (wind_held craft.guidance)
  unfolding perform prime
  priming_airborne high =
      let g = primed.before in
      let e = rw primed.holds at high in
      rw (primed.holds, primed.leaves g)
      (same_wind _ _ (prime_airborne g.memory.wind g.config.guidance.airborne_height_m (state_at (body_of entry) 0) e))

-- ---- the port and the machine

-- fed the same entries, the port gives back the craft that the machine holds
pub given_back_is_held : (c : Craft) (entries : List Entry) (links : List Link) → Fed c entries links → given_back c links ≡ after c entries
unfolding Fed given_back after
given_back_is_held c [] [] f = refl
given_back_is_held c [] (link ∷ links) f = absurd f
given_back_is_held c (entry ∷ entries) [] f = absurd f
given_back_is_held c (entry ∷ entries) (link ∷ links) f =
    given_back_is_held link.handled.craft entries links f.1 ∙ ap (λ (o : Outcome). after o.craft entries) f.0

-- and answers as the machine does
pub port_answers_as_machine : (c : Craft) (entries : List Entry) (links : List Link) → Fed c entries links → port_replies links ≡ replies c entries
unfolding Fed port_replies replies
port_answers_as_machine c [] [] f = refl
port_answers_as_machine c [] (link ∷ links) f = absurd f
port_answers_as_machine c (entry ∷ entries) [] f = absurd f
port_answers_as_machine c (entry ∷ entries) (link ∷ links) f =
    let rest =
    port_answers_as_machine link.handled.craft entries links f.1 ∙ ap (λ (o : Outcome). replies o.craft entries) f.0 in
    λ i. reply (f.0 i) ∷ rest i

after_last : (c : Craft) (entries : List Entry) (entry : Entry) → after c (entries ++ (entry ∷ [])) ≡ (outcome (after c entries) entry).craft
unfolding after
after_last c [] entry = refl
after_last c (first ∷ entries) entry = after_last (outcome c first).craft entries entry

-- ---- the claim

module _ (first : List Entry) (ending : Entry) (last : List Entry) (before later : List Link)
    (fed : Fed unconfigured (first ++ (ending ∷ [])) before) (fed_later : Fed (given_back unconfigured before) last later)
    (e : Ending (machine first) ending) where
  abbrev held : Craft
  held = machine (first ++ (ending ∷ []))

  forgot : Forgot (ending_heading ending) held
  forgot = rw (after_last unconfigured first ending) (ending_forgot (machine first) ending e)

  replies_as_reset : port_replies later ≡ replies (reset held (heading_held held.guidance)) last
  replies_as_reset =
      port_answers_as_machine (given_back unconfigured before) last later fed_later
      ∙ ap (λ (c : Craft). replies c last) (given_back_is_held unconfigured (first ++ (ending ∷ [])) before fed)
      ∙ alike_replies held (reset held (heading_held held.guidance)) forgot.alike last

  replies_as_reset_wrapped : T (finite (ending_heading ending))
      → port_replies later ≡ replies (reset held (wrap_angle (ending_heading ending))) last
  replies_as_reset_wrapped q = replies_as_reset ∙ ap (λ (heading : Float). replies (reset held heading) last) (forgot.wrapped q)

given_back_is_outcome : (first : List Entry) (entry : Entry) (before : List Link) → Fed unconfigured (first ++ (entry ∷ [])) before
    → given_back unconfigured before ≡ (outcome (machine first) entry).craft
given_back_is_outcome first entry before fed =
    given_back_is_held unconfigured (first ++ (entry ∷ [])) before fed ∙ after_last unconfigured first entry

pub whole_feeds : WholeFeeds
whole_feeds =
    record {
      ending_call_forgets = replies_as_reset_wrapped;
      ending_call_forgets_all_but_heading = replies_as_reset;
      priming_forgets =
          λ first priming before fed p e.
          rw (given_back_is_outcome first priming before fed) (priming_grounded (machine first) priming p e);
      priming_above_keeps =
          λ first priming before fed p e.
          rw (given_back_is_outcome first priming before fed) (priming_airborne (machine first) priming p e);
    }
