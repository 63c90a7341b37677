-- "What each call does", of every list of records, as the type `Facts`: the craft that a list leads to from an unconfigured one is as `EachCraft` says, and each accepted call
-- goes as `EachCall` says (copter/specs/Calls.antt, a field for each sentence of document 01). proofs/Laws/Facts.antt proves it. Assumes nothing.
use Rattle.std.specs.Prelude.{◌≡◌, List, Float, Some, Ok}
use Rattle.wind.specs.declared.state.VehicleState.{VehicleState}
use Rattle.copter.specs.Calls.{EachCraft, EachCall}
use Rattle.copter.specs.Config.{Valid}
use Rattle.copter.specs.Guide.{new_craft, guide_call, prime, wind_reading}
use Rattle.copter.specs.declared.commands.Command.{Command}
use Rattle.copter.specs.declared.config.CopterGuidanceConfig.{CopterGuidanceConfig}
use Rattle.copter.specs.declared.memory.CopterGuidance.{CopterGuidance}
use Rattle.records.specs.declared.answer.Answer.TheVariants as answers
use Rattle.records.specs.declared.kinds.InFlight.{InFlight}
use Rattle.records.specs.declared.kinds.Kind.TheVariants as kinds
use Rattle.records.specs.declared.read.Input.{Input}
use Rattle.records.specs.declared.read.Input.TheVariants as inputs
use Rattle.records.specs.Kinds.{kind_of}
use Rattle.records.specs.Read.{configuration, read}
use Rattle.records.specs.Step.{configured, setpoint_answer, wind_answer}
use Rattle.records.specs.Feed.{Entry, outcome, machine, kind_byte, body_of, Accepted}

-- ---- accepted records, after any list

-- what an accepted record of a kind in flight finds, and what its body says
pub record Told (first : List Entry) (entry : Entry) (before : CopterGuidance) (input : Input) : Type 0 where
  pub holds : (machine first).guidance ≡ Some before
  pub kind : InFlight
  pub of_kind : kind_of (kind_byte entry) ≡ Some (kinds.InFlight kind)
  pub says : read kind (body_of entry) ≡ Ok input

-- what an accepted configure says
pub record Configuring (entry : Entry) (config : CopterGuidanceConfig) : Type 0 where
  pub of_kind : kind_of (kind_byte entry) ≡ Some kinds.Configure
  pub says : configuration (body_of entry) ≡ Ok config

-- An accepted record is a configure or tells a configured craft something.
pub data AcceptedAs (first : List Entry) (entry : Entry) : Type 0 where
  a_configure : (config : CopterGuidanceConfig) → Configuring entry config → AcceptedAs first entry
  an_input : (before : CopterGuidance) (input : Input) → Told first entry before input → AcceptedAs first entry

-- ---- the claim

pub record Facts : Type 0 where
  pub accepted_as : (first : List Entry) (entry : Entry) → Accepted (machine first) entry → AcceptedAs first entry
  -- From an accepted configure each field of the configuration held keeps its rule, and the craft is fresh.
  pub configured_so : (first : List Entry) (entry : Entry) (config : CopterGuidanceConfig) → Accepted (machine first) entry → Configuring entry config
      → ((outcome (machine first) entry).craft ≡ configured (new_craft config)) × ((outcome (machine first) entry).answer ≡ answers.Done) × Valid config
  pub primed_so : (first : List Entry) (entry : Entry) (before : CopterGuidance) (state : VehicleState) → Accepted (machine first) entry
      → Told first entry before (inputs.Prime state)
      → ((outcome (machine first) entry).craft ≡ configured (prime before state)) × ((outcome (machine first) entry).answer ≡ answers.Done)
  pub wind_read_so : (first : List Entry) (entry : Entry) (before : CopterGuidance) → Accepted (machine first) entry → Told first entry before inputs.Wind
      → ((outcome (machine first) entry).craft ≡ configured before) × ((outcome (machine first) entry).answer ≡ wind_answer (wind_reading before))
  -- An accepted call answers and leaves what its definition gives, and that is as document 01 says of each call.
  pub called_so : (first : List Entry) (entry : Entry) (before : CopterGuidance) (dt : Float) (state : VehicleState) (command : Command)
      → Accepted (machine first) entry → Told first entry before (inputs.Call dt state command) →
      let after = guide_call before dt state command in
      ((outcome (machine first) entry).craft ≡ configured after.craft)
      × ((outcome (machine first) entry).answer ≡ setpoint_answer after.setpoint after.flags)
      × EachCall before dt state command after
  -- Every craft that a list of records leads to.
  pub each_craft : (entries : List Entry) (held : CopterGuidance) → (machine entries).guidance ≡ Some held → EachCraft held
