-- `floats::sqrt::whole_root` meets its contract, whatever the guess. The first loop keeps r below 2 ^ 32 and takes it down; the second keeps r² ≤ n and
-- takes it up. The measures are r, and what is left of n above r. Assumes nothing.
use Rattle.std.proofs.Common.{◌-◌, ◌*◌, ◌^◌, ◌<◌, ◌≤◌}
use Rattle.floats.proofs.sqrt.whole_root.Given as goal

abbrev pub invariant-loop-r : goal.invariant-loop-r
invariant-loop-r l = l.r < 2 ^ 32

abbrev pub decreases-loop-r : goal.decreases-loop-r
decreases-loop-r l = l.r

abbrev pub invariant-loop-r-2 : goal.invariant-loop-r-2
invariant-loop-r-2 l = l.r * l.r ≤ l.n

abbrev pub decreases-loop-r-2 : goal.decreases-loop-r-2
decreases-loop-r-2 l = l.n - l.r
