-- `floats::rem::power` meets its contract: below 2^-126 the pattern is the digits alone, and from there on the exponent's field alone. Assumes nothing.
use Rattle.std.proofs.Common.{◌≡◌, ℕ, ◌+◌, ◌-◌, ◌*◌, ◌%◌, ◌^◌, ◌<◌, ◌≤◌, false, sym, ap, ap₂, ◌∙◌, subst, mul-one, arith, pow-add}
use lib.Pow.{pow-lt}
use lib.Ieee.{binary32, of_bits}
use lib.Ieee.Exact.{HasValue}
use Rattle.floats.proofs.Laws.Digits.{digits, place, pattern_value}
use Rattle.floats.proofs.Laws.Special.{up_to_infinity}
use Rattle.floats.proofs.rem.power.Goals as goal

-- the shift loses no digit
below_lead : (k : ℕ) → k < 23 → 1 * 2 ^ k % 2 ^ 32 < 2 ^ 23
below_lead k h = let l : 2 ^ k < 2 ^ 23 = pow-lt h in omega arith

small : (k : ℕ) → k < 23 → HasValue (of_bits binary32 (1 * 2 ^ k % 2 ^ 32)) false (2 ^ k) (2 ^ 149)
small k h =
    let a = 1 * 2 ^ k % 2 ^ 32 in
    let l : 2 ^ k < 2 ^ 23 = pow-lt h in
    let d : digits binary32 a ≡ 2 ^ k = omega arith in
    let p : place binary32 a ≡ 0 = omega arith in
    subst (λ (z : ℕ). HasValue (of_bits binary32 a) false z (2 ^ 149)) (ap₂ (λ (y z : ℕ). y * 2 ^ z) d p ∙ mul-one (2 ^ k))
    (pattern_value binary32 a (omega arith))

large : (k : ℕ) → 23 ≤ k → k < 254 → HasValue (of_bits binary32 ((k - 22) * 2 ^ 23)) false (2 ^ k) (2 ^ 149)
large k h l =
    let a = (k - 22) * 2 ^ 23 in
    let d : digits binary32 a ≡ 2 ^ 23 = omega arith in
    let p : place binary32 a ≡ k - 23 = omega arith in
    let whole : 23 + (k - 23) ≡ k = omega arith in
    subst (λ (z : ℕ). HasValue (of_bits binary32 a) false z (2 ^ 149))
    (ap₂ (λ (y z : ℕ). y * 2 ^ z) d p ∙ sym (pow-add 2 23 (k - 23)) ∙ ap (λ (z : ℕ). 2 ^ z) whole)
    (pattern_value binary32 a (omega arith))

pub float_from_bits-result : goal.float_from_bits-result
float_from_bits-result c = rw (up_to_infinity binary32 (1 * 2 ^ c.args.k % 2 ^ 32) (omega (arith, below_lead c.args.k c.if-k-lt23.true))) tt

pub returns-then-k-lt23 : goal.returns-then-k-lt23
returns-then-k-lt23 c = small c.args.k c.if-k-lt23.true

pub float_from_bits-result-2 : goal.float_from_bits-result-2
float_from_bits-result-2 c = rw (up_to_infinity binary32 ((c.args.k - 22) * 2 ^ 23) (omega arith)) tt

pub returns : goal.returns
returns c = large c.args.k c.if-k-lt23.false c.requires
