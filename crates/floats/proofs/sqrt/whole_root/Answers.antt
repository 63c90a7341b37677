-- `floats::sqrt::whole_root` meets its contract, whatever the guess. The first loop keeps r below 2 ^ 32 and takes it down; the second keeps r² ≤ n and
-- takes it up. The measures are r, and what is left of n above r. Assumes nothing.
use Rattle.std.proofs.Common.{ℕ, zero, suc, ◌*◌, ◌^◌, ◌<◌, ◌≤◌, not-suc-le-zero, lt_of_le_of_lt, le_of_lt, zero-lt-suc, mul-le-mul_left}
use Rattle.std.proofs.Common.{mul-lt-mul_of_pos_right, arith, pow_pos}
use Rattle.floats.proofs.Laws.Sqrt.WholeRoot.{next_square, lt_of_squares, whole_root_unique}
use Rattle.floats.proofs.sqrt.whole_root.Goals as goal

square_fits : (r : ℕ) → r < 2 ^ 32 → r * r < 2 ^ 64
square_fits r h = lt_of_le_of_lt (mul-le-mul_left r (le_of_lt h)) (mul-lt-mul_of_pos_right h (pow_pos 32))

root_fits : (r n : ℕ) → r * r ≤ n → n < 2 ^ 64 → r < 2 ^ 32
root_fits r n h k = lt_of_squares (lt_of_le_of_lt h k)

above_zero : (r n : ℕ) → n < r * r → 1 ≤ r
above_zero zero n h = absurd (not-suc-le-zero h)
above_zero (suc r) n h = zero-lt-suc r

pub overflow_mul-r : goal.overflow_mul-r
overflow_mul-r c = omega (arith, square_fits c.loop-r.r c.loop-r.invariant)

pub overflow_sub-r : goal.overflow_sub-r
overflow_sub-r c = above_zero c.loop-r.r c.args.n (omega arith)

pub loop-r-smaller : goal.loop-r-smaller
loop-r-smaller c = omega (arith, overflow_sub-r c)

pub overflow_mul-r-in-loop-r-2-2 : goal.overflow_mul-r-in-loop-r-2-2
overflow_mul-r-in-loop-r-2-2 c = omega (arith, root_fits c.loop-r-2.r c.args.n c.loop-r-2.invariant (omega arith))

pub loop-r-2-preserved : goal.loop-r-2-preserved
loop-r-2-preserved c = omega (arith, next_square c.loop-r-2.r)

pub returns : goal.returns
returns c = whole_root_unique (c.loop-r-2.invariant, omega (arith, next_square c.loop-r-2.r))
