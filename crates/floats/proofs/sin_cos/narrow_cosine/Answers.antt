-- `floats::sin_cos::narrow_cosine` meets its contract: from 1/2 to 1 the sum is rounded where the result of `convert` is. Assumes nothing.
use Rattle.std.proofs.Common.{T, sym, subst}
use lib.Ieee.{binary32, fits}
use lib.Ieee.Fits.{and_i}
use Rattle.floats.specs.Narrow.{convert}
use Rattle.floats.proofs.Laws.Order.{number, le_numbers}
use Rattle.floats.proofs.Laws.Round.{convert_in_format, convert_number}
use Rattle.floats.proofs.Laws.Align.{half, half_to_one}
use Rattle.floats.proofs.sin_cos.narrow_cosine.Goals as goal

pub float_to_float-result : goal.float_to_float-result
float_to_float-result c =
    let y = c.args.y in
    let least = subst T (sym c.if-y.true) tt in
    rw (half_to_one y least (subst T (sym c.if-y-2.true) tt))
    (and_i (fits binary32 (convert binary32 y)) (number (convert binary32 y)) (convert_in_format binary32 y)
    (subst T (sym (convert_number binary32 y)) (le_numbers half y least).1))

pub returns-then-y-2 : goal.returns-then-y-2
returns-then-y-2 c =
    half_to_one c.args.y (subst T (sym c.if-y.true) tt) (subst T (sym c.if-y-2.true) tt)
