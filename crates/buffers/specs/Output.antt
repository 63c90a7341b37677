-- What an output remembers of its writes, and the status that a program ends with. Assumes nothing.
use Rattle.std.specs.Prelude.{ℕ, Bool, ◌≡◌, ◌+◌, ◌-◌, ◌^◌, ◌&&◌, ◌||◌, cond, eqb, ltb, List, length, Option, Some, MatchResult, Result, min}
use Rattle.std.specs.Option.{is_some}
use Rattle.std.specs.Result.{is_err, result_unwrap_or}
use Rattle.std.specs.declared.io.Error.{Error}
use Rattle.buffers.specs.declared.output.Output.{Output}

-- Why a write that was to take so many bytes failed, from what it gave: its error, some error where it took none of them, and none where it took some or had none
-- to take.
abbrev pub Failure : ℕ → Result ℕ Error → Option Error → Type 0
Failure len given failed = MatchResult given (λ n. is_some failed ≡ (eqb n 0 && ltb 0 len)) (λ e. failed ≡ Some e)

-- no output counts more bytes
abbrev pub most_counted : ℕ
most_counted = 2 ^ 64 - 1

-- An output before and after a write of these bytes: it counts those that were taken, and knows why the write failed.
abbrev pub Told : {W : Type 0} → Output W → Output W → List ℕ → Result ℕ Error → Type 0
Told before after bytes given =
    (after.written ≡ min (before.written + result_unwrap_or given 0) most_counted) × Failure (length bytes) given after.failed

-- 1 where the last read failed, or the last write, else 0
abbrev pub status_of : Result ℕ Error → Option Error → ℕ
status_of read failed = cond (is_err read || is_some failed) 1 0
