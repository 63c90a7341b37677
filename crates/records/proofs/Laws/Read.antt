-- What a body says, where it is not refused: a heading is a float of 32 bits, a time step is accepted and a configuration is valid. Assumes nothing.
use Rattle.copter.specs.declared.config.CopterGuidanceConfig.{CopterGuidanceConfig}
use Rattle.std.specs.Prelude.{Result, Ok, Err}
use Prim.Native.Nat.{ℕ}
use mathlib.Core.Path.{◌≡◌, refl, sym, subst, ◌∙◌}
use mathlib.Core.Bool.{Bool, true, false}
use mathlib.Core.List.{List}
use lib.Dec.{T, leb}
use lib.ListN.{drop}
use lib.Ieee.{Float, binary32, fits, le}
use lib.Ieee.Fits.{and_l, and_r}
use Rattle.math.specs.Math.{one}
use Rattle.controllers.specs.RateDivider.{shortest, Accepted}
use Rattle.wind.specs.declared.state.VehicleState.{VehicleState}
use Rattle.copter.specs.Config.{field_count, lowest, Valid}
use Rattle.copter.specs.declared.commands.Command.{Command}
use Rattle.copter.proofs.Laws.Config.{EachKeeps, kept_valid}
use Rattle.copter.proofs.Laws.Facts.{CommandFits}
use Rattle.records.specs.declared.answer.Refusal.{Refusal}
use Rattle.records.specs.declared.kinds.Call.{Call}
use Rattle.records.specs.declared.kinds.Call.TheVariants as calls
use Rattle.records.specs.declared.kinds.InFlight.{InFlight}
use Rattle.records.specs.declared.kinds.InFlight.TheVariants as flights
use Rattle.records.specs.declared.read.Input.{Input}
use Rattle.records.specs.declared.read.Input.TheVariants as inputs
use Rattle.records.specs.Layout.{float_at, floats_from}
use Rattle.records.specs.Kinds.{state_start, command_start}
use Rattle.records.specs.Read.{state, state_at, absolute_attitude_command, marks_ok, command, time_step_ok, heading_ok, configuration}
use Rattle.records.specs.Read.{call_input, read}
use Rattle.records.proofs.Laws.Layout.{float_at_fits}
use Rattle.std.proofs.lemmas.Bool.{cond_both}
use Rattle.records.proofs.Laws.Total.{fields_searched, none_fails_kept, each_keeps}

-- ---- floats

heading_fits : (part : List ℕ) → T (fits binary32 (state part).heading_rad)
unfolding state
heading_fits part = float_at_fits part 56

in_time_accepted : (dt : Float) → time_step_ok dt ≡ true → Accepted dt
unfolding time_step_ok
in_time_accepted dt ok =
    let both : T (time_step_ok dt) = subst T (sym ok) tt in
    record { at_least = and_l (le shortest dt) (le dt one) both; at_most = and_r (le shortest dt) (le dt one) both }

-- ---- inputs

abbrev CommandReadFits : Result Command Refusal → Type 0
CommandReadFits (Ok command) = CommandFits command
CommandReadFits (Err refusal) = Unit {0}

command_fits : (call : Call) (part : List ℕ) → CommandReadFits (command call part)
unfolding command absolute_attitude_command
command_fits calls.Attitude part = tt
command_fits calls.Waypoint part = cond_both (marks_ok part) _ _ CommandReadFits (λ marked. tt) (λ unmarked. tt)
command_fits calls.AbsoluteAttitude part = float_at_fits part 8
command_fits calls.Land part = tt
command_fits calls.AbsoluteRate part = tt

-- what an input brings along
abbrev pub InputFits : Input → Type 0
InputFits (inputs.Prime state) = T (fits binary32 state.heading_rad)
InputFits (inputs.Call dt state command) = Accepted dt × T (fits binary32 state.heading_rad) × CommandFits command
InputFits inputs.Wind = Unit {0}

abbrev pub ReadFits : Result Input Refusal → Type 0
ReadFits (Ok input) = InputFits input
ReadFits (Err refusal) = Unit {0}

-- A fact of every refusal, and of the input where both checks pass, is one of what a call with good marks says, whichever check comes first.
module _ (P : Result Input Refusal → Type 0) (command : Command) (dt : Float) (state : VehicleState)
    (accepts : time_step_ok dt ≡ true → heading_ok state.heading_rad ≡ true → P (Ok (inputs.Call dt state command)))
    (refuses : (refusal : Refusal) → P (Err refusal)) where
  by_both : (t h : Bool) → time_step_ok dt ≡ t → heading_ok state.heading_rad ≡ h → P (call_input (Ok command) dt state)
  unfolding call_input
  by_both true true in_time headed = simp (in_time, headed) (accepts in_time headed)
  by_both true false in_time turned = simp (in_time, turned) (refuses _)
  by_both false true late headed = simp (late, headed) (refuses _)
  by_both false false late turned = simp (late, turned) (refuses _)

  pub by_checks : P (call_input (Ok command) dt state)
  by_checks = by_both (time_step_ok dt) (heading_ok state.heading_rad) refl refl

call_fits : (commanded : Result Command Refusal) (dt : Float) (state : VehicleState) → CommandReadFits commanded → T (fits binary32 state.heading_rad)
    → ReadFits (call_input commanded dt state)
unfolding call_input
call_fits (Err refusal) dt state fit heading = tt
call_fits (Ok command) dt state fit heading =
    by_checks ReadFits command dt state (λ in_time headed. (in_time_accepted dt in_time, heading, fit)) (λ refusal. tt)

pub read_fits : (kind : InFlight) (body : List ℕ) → ReadFits (read kind body)
unfolding read
read_fits flights.Prime body = cond_both (heading_ok (state body).heading_rad) _ _ ReadFits (λ headed. heading_fits body) (λ turned. tt)
read_fits (flights.Call call) body =
    let part = drop command_start body in
    call_fits (command call part) (float_at body 0) (state_at body state_start) (command_fits call part) (heading_fits (drop state_start body))
read_fits flights.Rate body = tt
read_fits flights.Wind body = tt

-- ---- configurations

none_broken : (body : List ℕ) →
    let values = floats_from 0 field_count body in
    leb (lowest values 1 field_count) field_count ≡ false → EachKeeps values
none_broken body none_breaks = each_keeps body (none_fails_kept body (fields_searched body ∙ rw none_breaks))

abbrev pub ConfigurationValid : Result CopterGuidanceConfig Refusal → Type 0
ConfigurationValid (Ok config) = Valid config
ConfigurationValid (Err refusal) = Unit {0}

pub configuration_valid : (body : List ℕ) → ConfigurationValid (configuration body)
unfolding configuration
configuration_valid body =
    let values = floats_from 0 field_count body in
    cond_both (leb (lowest values 1 field_count) field_count) _ _ ConfigurationValid (λ breaks. tt)
    (λ none_breaks. kept_valid values (none_broken body none_breaks))
