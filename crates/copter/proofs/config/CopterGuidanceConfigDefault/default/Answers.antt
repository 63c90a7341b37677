-- `CopterGuidanceConfig::default` meets its contract: each number that it takes is the default of its field. Assumes nothing.
use Rattle.std.proofs.Common.{rules, ◌≡◌, ℕ, ◌<◌, ap, ◌∙◌, sym, refl, length, get_or}
use Rattle.std.specs.Prelude.{map, Float}
use Rattle.std.proofs.lemmas.List.{same_lists, get_or-map}
use Rattle.copter.specs.declared.config.TheConstants.{FIELD_TABLE}
use Rattle.copter.specs.declared.config.Field.{Field}
use Rattle.copter.specs.declared.config.Rule.TheVariants.{Anything}
use Rattle.copter.specs.Config.{default_config, config_of, defaults, fields}
use Rattle.copter.proofs.config.CopterGuidanceConfigDefault.default.Goals as goal

table_defaults : map (λ (f : Field). f.1) FIELD_TABLE ≡ defaults
unfolding defaults fields
table_defaults = refl

pub returns : goal.returns
unfolding default_config
returns c =
    let default = λ (f : Field). f.1 in
    let mapped : c.map.result ≡ map default FIELD_TABLE =
    same_lists c.map.result (map default FIELD_TABLE) c.map.ensures.items.long
    (λ (k : ℕ) (d : Float) (h : k < length c.map.result).
    let inside : k < 50 = rw c.map.ensures.items.long at h in
    let row : Field = record { 0 = Anything; 1 = d } in
    let called = c.map.ensures.items.at k row d inside in
    let its : get_or c.map.result k d ≡ (get_or FIELD_TABLE k row).1 = search (rules, called) in
    its ∙ sym (get_or-map default FIELD_TABLE k row d inside)) in
    c.from.ensures ∙ ap config_of (mapped ∙ table_defaults)
