-- `math::surely_beyond` meets its contract. Assumes nothing.
use mathlib.Core.Path.{sym, ◌∙◌}
use Rattle.math.proofs.Laws.Length.{told_beyond}
use Rattle.math.proofs.surely_beyond.Goals as goal

pub returns-then-has_plain_square : goal.returns-then-has_plain_square
returns-then-has_plain_square c h =
    told_beyond _ _ c.well_formed.1.0.1 (sym c.has_plain_square.ensures ∙ c.if-has_plain_square.true) h
