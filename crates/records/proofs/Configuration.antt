-- What a configuration's body says, by the lowest field that breaks its rule, if one does. Assumes nothing.
use Rattle.std.proofs.Common.{◌≡◌, ℕ, Bool, true, false, cond, refl, ap, ◌∙◌, List, Float}
use Rattle.std.specs.Prelude.{Option, Some, None, Result, Ok, Err, leb}
use Rattle.std.specs.Option.{option_map_or}
use Rattle.copter.specs.Config.{lowest, lowest_broken, config_of}
use Rattle.records.specs.Layout.{floats_from}
use Rattle.copter.specs.declared.config.CopterGuidanceConfig.{CopterGuidanceConfig}
use Rattle.records.specs.declared.answer.Refusal.{Refusal}
use Rattle.records.specs.declared.answer.Refusal.TheVariants as refusals
use Rattle.records.specs.Read.{configuration}

abbrev broken : ℕ → Result CopterGuidanceConfig Refusal
broken field = Err (refusals.Field field)

by_lowest : (body : List ℕ) (found : Option ℕ) → found ≡ lowest_broken (floats_from 0 50 body)
    → option_map_or broken found (Ok (config_of (floats_from 0 50 body))) ≡ configuration body
unfolding configuration lowest_broken
by_lowest body found is = ap (λ (o : Option ℕ). option_map_or broken o (Ok (config_of values))) is ∙ case (leb field 50)
  where
    values : List Float
    values = floats_from 0 50 body

    field : ℕ
    field = lowest values 1 50

    case : (b : Bool) → option_map_or broken (cond b (Some field) None) (Ok (config_of values)) ≡ cond b (broken field) (Ok (config_of values))
    case true = refl
    case false = refl

pub one_broken : (body : List ℕ) (values : List Float) (field : ℕ) → values ≡ floats_from 0 50 body → Some field ≡ lowest_broken values
    → Err (refusals.Field field) ≡ configuration body
one_broken body values field e found = by_lowest body (Some field) (rw e at found)

pub none_broken : (body : List ℕ) (values : List Float) (config : CopterGuidanceConfig) → values ≡ floats_from 0 50 body → None ≡ lowest_broken values
    → config ≡ config_of values → Ok config ≡ configuration body
none_broken body values config e found made = rw (made, e) (by_lowest body None (rw e at found))
