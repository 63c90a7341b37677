-- What a buffer holds after its bytes were moved, and after a read. Assumes nothing.
use Rattle.std.specs.Prelude.{ℕ, ◌+◌, ◌-◌, ◌<◌, ◌≡◌, cond, List, ◌++◌, Option, MatchOption, IfSome, leb, length, take, drop}
use Rattle.std.specs.Io.KnownBytes.{Consumes, IsAtEnd}
use Rattle.buffers.specs.declared.launcher.Reading.{Reading}
use Rattle.buffers.specs.declared.launcher.Reading.TheVariants.{Once, Full}

-- The bytes from `from` to `end` at the start, and the others where they were. An `end` past the buffer moves nothing, and so does a `from` past `end`,
-- where `end - from` is 0.
unfoldable pub moved : List ℕ → ℕ → ℕ → List ℕ
moved bytes from end = cond (leb end (length bytes)) (take (end - from) (drop from bytes) ++ drop (end - from) bytes) bytes

-- From the bytes that a reader has left before and after, and those held before and after: what the reader gave stands behind what was held.
abbrev pub Reads : Option (List ℕ) → Option (List ℕ) → List ℕ → List ℕ → Type 0
Reads left_before left_after held_before held_after =
    ((given : List ℕ) × ((held_after ≡ held_before ++ given) × Consumes left_before left_after given))

-- What is given for a reading, from the size of the buffer, the bytes held before and after it and those that the reader then has left: the count of bytes that
-- came, or none, which stands for a read that failed (std's clauses have no word for a failure, so none could be given for any read). One read that brings nothing
-- into a buffer with room says that the input has ended, and leaves the bytes held where it fails. A filling leaves room only where the input has ended.
abbrev pub Gives : Reading → ℕ → Option ℕ → List ℕ → List ℕ → Option (List ℕ) → Type 0
Gives Once size got before after left =
    MatchOption got (after ≡ before) (λ n. (length after ≡ length before + n) × (n ≡ 0 → length after < size → IsAtEnd left))
Gives Full size got before after left = IfSome got (λ n. (length after ≡ length before + n) × (length after < size → IsAtEnd left))
