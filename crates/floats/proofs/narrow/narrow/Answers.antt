-- `floats::narrow::narrow` meets its contract: in each range the pattern that it puts together is that of the converted value. Assumes nothing.
use Rattle.std.proofs.Common.{◌≡◌, ℕ, ◌+◌, ◌-◌, ◌*◌, ◌/◌, ◌%◌, ◌^◌, ◌<◌, ◌≤◌, true, T, sym, ap, ◌∙◌, subst, le_refl, arith}
use lib.Ieee.{Float, fits, binary32, binary64, to_bits, of_bits}
use lib.Ieee.Bits.{of_bits-to_bits, to_bits-lt}
use Rattle.floats.proofs.Laws.Narrow.{sum, sum_number, sum_range, small_by_sum, normal_pattern, large_pattern, made_word, made_pattern, made_number, made_for}
use Rattle.floats.proofs.Laws.Round.{convert_nan}
use Rattle.floats.proofs.Laws.Special.{quiet_nan, is_nan_lem, up_to_infinity}
use Rattle.floats.specs.Narrow.{convert}
use Rattle.floats.proofs.narrow.narrow.Goals as goal
use Rattle.floats.proofs.narrow.narrow.Goals.{else-size-ge-NORMAL-via-then-size-ge-NORMAL+else-size-lt-TOO_LARGE, else-size-ge-NORMAL-via-else-size-ge-NORMAL}

abbrev bits : Float → ℕ
bits x = to_bits binary64 x

-- what owning an `f64` tells: the format holds it
read_back : (x : Float) → fits binary64 x ≡ true → of_bits binary64 (bits x) ≡ x
read_back x h = of_bits-to_bits binary64 x (subst T (sym h) tt)

in_range : (x : Float) → fits binary64 x ≡ true → bits x < 2 ^ 64
in_range x h = to_bits-lt binary64 x (subst T (sym h) tt)

pub returns-then-is_nan : goal.returns-then-is_nan
returns-then-is_nan c =
    quiet_nan ∙ sym (ap (convert binary32) (is_nan_lem c.args.x (sym c.is_nan.ensures.value ∙ c.if-is_nan.true)) ∙ convert_nan binary32)

pub overflow_mul-sign : goal.overflow_mul-sign
overflow_mul-sign c = omega (arith, in_range c.args.x c.well_formed.0.1)

-- ---- the normal range

rounded : (size : ℕ) → size < 1151 * 2 ^ 52 → (size - 896 * 2 ^ 52 + (2 ^ 28 - 1) + (size - 896 * 2 ^ 52) / 2 ^ 29 % 2) / 2 ^ 29 ≤ 255 * 2 ^ 23
rounded size h = omega arith

pub overflow_add-result-then-size-lt-TOO_LARGE-2 : goal.overflow_add-result-then-size-lt-TOO_LARGE-2
overflow_add-result-then-size-lt-TOO_LARGE-2 c =
    made_word (bits c.args.x) _ (in_range c.args.x c.well_formed.0.1) (rounded (bits c.args.x % 2 ^ 63) c.if-size-lt-TOO_LARGE.true)

pub overflow_cast-result : goal.overflow_cast-result
overflow_cast-result c =
    made_pattern (bits c.args.x) _ (in_range c.args.x c.well_formed.0.1) (rounded (bits c.args.x % 2 ^ 63) c.if-size-lt-TOO_LARGE.true)

pub float_from_bits-result : goal.float_from_bits-result
float_from_bits-result c =
    made_number (bits c.args.x) _ (in_range c.args.x c.well_formed.0.1) (rounded (bits c.args.x % 2 ^ 63) c.if-size-lt-TOO_LARGE.true)

pub returns-then-size-lt-TOO_LARGE : goal.returns-then-size-lt-TOO_LARGE
returns-then-size-lt-TOO_LARGE c =
    let x = c.args.x in
    made_for x (bits x) _ (in_range x c.well_formed.0.1)
    (normal_pattern x (bits x) (read_back x c.well_formed.0.1) c.if-size-ge-NORMAL.true c.if-size-lt-TOO_LARGE.true)

-- ---- below it

pub float_from_bits-sum : goal.float_from_bits-sum
float_from_bits-sum c = rw (up_to_infinity binary64 (bits c.args.x % 2 ^ 63) (omega arith)) tt

pub float_to_bits-result : goal.float_to_bits-result
float_to_bits-result c = rw (sum_number (bits c.args.x) c.if-size-lt-NORMAL.true) tt

pub overflow_sub-result : goal.overflow_sub-result
overflow_sub-result c = (sum_range (bits c.args.x) c.if-size-lt-NORMAL.true).0

small : (b : ℕ) → b % 2 ^ 63 < 897 * 2 ^ 52 → to_bits binary64 (sum b) - 926 * 2 ^ 52 ≤ 255 * 2 ^ 23
small b h = omega (arith, sum_range b h)

pub overflow_add-result-then-size-lt-NORMAL : goal.overflow_add-result-then-size-lt-NORMAL
overflow_add-result-then-size-lt-NORMAL c =
    made_word (bits c.args.x) _ (in_range c.args.x c.well_formed.0.1) (small (bits c.args.x) c.if-size-lt-NORMAL.true)

pub overflow_cast-result-then-size-lt-NORMAL : goal.overflow_cast-result-then-size-lt-NORMAL
overflow_cast-result-then-size-lt-NORMAL c =
    made_pattern (bits c.args.x) _ (in_range c.args.x c.well_formed.0.1) (small (bits c.args.x) c.if-size-lt-NORMAL.true)

pub float_from_bits-result-then-size-lt-NORMAL : goal.float_from_bits-result-then-size-lt-NORMAL
float_from_bits-result-then-size-lt-NORMAL c =
    made_number (bits c.args.x) _ (in_range c.args.x c.well_formed.0.1) (small (bits c.args.x) c.if-size-lt-NORMAL.true)

pub returns-then-size-lt-NORMAL : goal.returns-then-size-lt-NORMAL
returns-then-size-lt-NORMAL c =
    let x = c.args.x in
    made_for x (bits x) _ (in_range x c.well_formed.0.1)
    (small_by_sum (bits x) c.if-size-lt-NORMAL.true x (read_back x c.well_formed.0.1))

-- ---- above it

above : (c : goal.Else-size-lt-NORMAL) → 1151 * 2 ^ 52 ≤ bits c.args.x % 2 ^ 63
above c =
    elim c.else-size-ge-NORMAL.branch [
      | else-size-ge-NORMAL-via-then-size-ge-NORMAL+else-size-lt-TOO_LARGE w ↦ w.if-size-lt-TOO_LARGE.false
      | else-size-ge-NORMAL-via-else-size-ge-NORMAL w ↦ absurd (omega arith)
    ]

pub overflow_add-result-2 : goal.overflow_add-result-2
overflow_add-result-2 c = made_word (bits c.args.x) _ (in_range c.args.x c.well_formed.0.1) (le_refl (255 * 2 ^ 23))

pub overflow_cast-result-2 : goal.overflow_cast-result-2
overflow_cast-result-2 c = made_pattern (bits c.args.x) _ (in_range c.args.x c.well_formed.0.1) (le_refl (255 * 2 ^ 23))

pub float_from_bits-result-2 : goal.float_from_bits-result-2
float_from_bits-result-2 c = made_number (bits c.args.x) _ (in_range c.args.x c.well_formed.0.1) (le_refl (255 * 2 ^ 23))

pub returns : goal.returns
returns c =
    let x = c.args.x in
    made_for x (bits x) _ (in_range x c.well_formed.0.1)
    (large_pattern x (bits x) (read_back x c.well_formed.0.1) (above c) (sym c.is_nan.ensures.value ∙ c.if-is_nan.false))
