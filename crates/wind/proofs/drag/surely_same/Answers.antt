-- `wind::drag::surely_same` meets its contract: equal numbers other than zero are the same (`eq→same_nonzero`). Assumes nothing.
use Rattle.std.proofs.Common.{T, sym, subst}
use lib.Ieee.{binary32, of_bits, ne}
use Rattle.floats.proofs.Laws.Order.{eq→same_nonzero}
use Rattle.wind.proofs.drag.surely_same.Goals as goal

pub returns-then-v-w : goal.returns-then-v-w
unfolding of_bits ne
returns-then-v-w c nonzero =
    eq→same_nonzero binary32 c.args.v c.args.w (rw c.well_formed.0.1 tt) (rw c.well_formed.1.0.1 tt) (rw c.if-v-w.true tt) (subst T (sym nonzero) tt)
