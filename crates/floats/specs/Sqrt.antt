-- The square root of IEEE 754, over any format. What makes it that root is proved in proofs/Laws/Sqrt.antt. Assumes nothing.
use Rattle.std.specs.Prelude.{ℕ, zero, suc, ◌+◌, ◌*◌, ◌/◌, ◌^◌, false, cond, ◌==◌, nat_le, Float}
use Rattle.std.specs.Float.{nan, inf, fin, Format}
use Rattle.std.specs.Float.Ieee.{prec, low, up, down, size, round}

-- The whole-number root of n, digit by digit: r has the digits found so far, and k are left.
unfoldable pub root_digits : ℕ → ℕ → ℕ → ℕ
root_digits zero n r = r
root_digits (suc k) n r = root_digits k n (cond (nat_le ((r + 2 ^ k) * (r + 2 ^ k)) n) (r + 2 ^ k) r)

-- The largest number whose square is at most n.
unfoldable pub whole_root : ℕ → ℕ
whole_root n = root_digits (size n) n 0

-- The scale at which a root's whole part has more digits than the format keeps, whatever positive value of it the root is of.
abbrev pub scale : Format → ℕ
scale f = 2 ^ (low f + prec f)

-- num in units of 1 / scale², of which √(num / den) is the root in units of 1 / scale
abbrev pub square : Format → ℕ → ℕ
square f num = num * (scale f * scale f)

-- The whole part of √(num / den) in units of 1 / scale.
abbrev pub whole_part : Format → ℕ → ℕ → ℕ
whole_part f num den = whole_root (square f num / den)

-- √(num / den), rounded once. One digit more than the whole part, which is 1 where something is left over, stands for all further digits: it tells on
-- which side of a tie the root lies.
unfoldable pub root_of : Format → ℕ → ℕ → Float
root_of f num den =
    let r = whole_part f num den in
    round f false (2 * r + cond (r * r * den == square f num) 0 1) (2 * scale f)

-- A zero keeps its sign. A number below zero has no root.
unfoldable pub sqrt : Format → Float → Float
sqrt f nan = nan
sqrt f (inf s) = cond s nan (inf s)
sqrt f (fin s m e) = cond (m == 0) (fin s m e) (cond s nan (root_of f (m * up e) (down e)))
