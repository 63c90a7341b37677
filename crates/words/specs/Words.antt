-- The words of a flag and of a value that may be missing. Assumes nothing.
use Rattle.std.specs.Prelude.{ℕ, Bool, true, false, cond, List, ◌++◌, Option, Some, None, Result, Ok, Err}
use Rattle.floats.specs.Bits.{le_bytes}

abbrev pub flag : Bool → List ℕ
flag on = le_bytes (cond on 1 0)

-- a flag and the value; the blank one where there is none
abbrev pub none_or : {A : Type 0} → (A → List ℕ) → A → Option A → List ℕ
none_or words blank None = flag false ++ words blank
none_or words blank (Some x) = flag true ++ words x

-- the words of the value, or of the error
abbrev pub ok_or : {A E : Type 0} → (A → List ℕ) → (E → List ℕ) → Result A E → List ℕ
ok_or words error_words (Ok x) = words x
ok_or words error_words (Err e) = error_words e
