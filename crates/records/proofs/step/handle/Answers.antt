-- `records::step::handle` meets its contract: a record in flight of a configured craft is `turn`'s, and any other `start`'s. Assumes nothing.
use Rattle.std.proofs.Common.{Some, ap, rules}
use mathlib.Core.Path.{◌∙◌}
use Rattle.records.specs.declared.kinds.Kind.TheVariants as kinds
use Rattle.records.proofs.Steps.{judged_first, none_unserved, kind_unserved, configure_unserved, held}
use Rattle.records.proofs.step.handle.Goals as goal
use Rattle.records.proofs.step.handle.Goals.{in_default-via-in-None-1, in_default-via-in-Some+in-None-1, in_default-via-in-Some+in-Some-split_first+in-Ok+in-Configure-1, in_default-via-in-Some+in-Some-split_first+in-Err-1}

pub start-requires : goal.start-requires
start-requires c = elim c.in_default.branch [
  | in_default-via-in-None-1 w ↦ search rules
  | in_default-via-in-Some+in-None-1 w ↦ search (rules, none_unserved)
  | in_default-via-in-Some+in-Some-split_first+in-Ok+in-Configure-1 w ↦
      rw (w.in-Some.is, w.in-Some-split_first.ensures.cases.0) (configure_unserved (Some w.in-Some.g) _ w.try_from.result w.try_from.ensures (search rules))
  | in_default-via-in-Some+in-Some-split_first+in-Err-1 w ↦
      rw (w.in-Some.is, w.in-Some-split_first.ensures.cases.0) (kind_unserved (Some w.in-Some.g) _ w.try_from.result _ w.try_from.ensures (search rules))
]

pub returns : goal.returns
returns c =
    let at = c.in-Some-split_first in
    let g = c.in-Some.g in
    let is = c.in-Ok-InFlight.ensures ∙ ap Some c.in-Ok-InFlight.field-0-is in
    rw (held c.args.craft g c.in-Some.is, judged_first (Some g) c.args.bytes.now at.rest.now at.byte.now (kinds.InFlight c.in-Ok-InFlight.in_flight) at.ensures.cases.0 is)
    c.turn-turned.ensures
