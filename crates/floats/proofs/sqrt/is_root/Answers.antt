-- `floats::sqrt::is_root` meets its contract: where the two tests pass, the square of the guess is near enough to the radicand (`sqrt_checked`).
-- Assumes nothing.
use Rattle.std.proofs.Common.{◌≡◌, ℕ, ◌+◌, ◌-◌, ◌*◌, ◌%◌, ◌^◌, ◌<◌, ◌≤◌, T, sym, subst, ◌∙◌, lt_of_lt_of_le, mod-eq_of_lt}
use Rattle.std.proofs.Common.{arith, lit≤, leb-true}
use lib.Ieee.{binary32, fits, to_bits}
use Rattle.floats.proofs.Laws.Sqrt.Pattern.{base32, radicand32, radicand32_below, bits_below, sqrt_checked}
use Rattle.floats.proofs.sqrt.is_root.Goals as goal

-- the shift loses no digit
kept : (b : ℕ) → radicand32 b % 2 ^ 64 ≡ radicand32 b
kept b = mod-eq_of_lt (lt_of_lt_of_le (radicand32_below b) (lit≤ tt))

rejoined : (n m : ℕ) → m ≤ n → n ≡ m + (n - m)
rejoined n m h = omega arith

pub overflow_add-base : goal.overflow_add-base
overflow_add-base c = omega (arith, bits_below c.args.x (subst T (sym c.well_formed.0.1) tt) c.requires.above_zero c.requires.normal)

pub overflow_mul-base : goal.overflow_mul-base
overflow_mul-base c = omega (arith, bits_below c.args.x (subst T (sym c.well_formed.0.1) tt) c.requires.above_zero c.requires.normal)

pub overflow_cast-base : goal.overflow_cast-base
overflow_cast-base c = omega (arith, bits_below c.args.x (subst T (sym c.well_formed.0.1) tt) c.requires.above_zero c.requires.normal)

pub returns-then-q-k : goal.returns-then-q-k
returns-then-q-k c e =
    let x = c.args.x in
    let fit : T (fits binary32 x) = subst T (sym c.well_formed.0.1) tt in
    let b = to_bits binary32 x in
    let k = radicand32 b in
    let root = c.args.pattern - base32 b in
    let same = kept b in
    let low : root * root < k + root = omega arith in
    let high : k ≤ root * root + root = rw same at (leb-true (k % 2 ^ 64) (root * root + root) e) in
    rejoined c.args.pattern (base32 b) (omega arith) ∙ sqrt_checked x fit c.requires.above_zero c.requires.normal root low high
