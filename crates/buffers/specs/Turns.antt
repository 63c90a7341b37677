-- A program's turns over its input. Assumes nothing.
use Rattle.std.specs.Prelude.{ℕ, List, Option, Some, None, IfSome, ◌≤◌, ◌+◌, ◌-◌, ◌^◌, length, drop}
use Rattle.buffers.specs.declared.launcher.Reading.{Reading}
use Rattle.buffers.specs.Buffers.{Reads, Gives}

-- no program sees the end of so many
abbrev pub most_turns : ℕ
most_turns = 2 ^ 64 - 1

module _ {P : Type 0} (turned : P → List ℕ → Option ℕ → Option (List ℕ) → Option (List ℕ) → Option ℕ → P → Type 0) (reading : Reading) (size : ℕ) where
  -- One turn, from the bytes that the reader has left, those that the writer holds, the program and the bytes kept from the turn before, to the bytes left, the
  -- count of bytes taken (none where the program stops), the bytes that the writer holds and the program: it is handed what was kept and behind it what the reader
  -- gave, and is told the count of what came, which is 0 with room left only where the input has ended, or none, which stands for a read that failed (see `Gives`).
  abbrev pub Turn : Option (List ℕ) → Option (List ℕ) → P → List ℕ → List ℕ → Option (List ℕ) → Option ℕ → Option ℕ → Option (List ℕ) → P → Type 0
  Turn left out program kept held left_after got taken out_after program_after =
      Reads left left_after kept held × Gives reading size got kept held left_after
      × IfSome taken (λ n. n ≤ length held)
      × turned program held got out out_after taken program_after

  -- From the bytes that the reader has left, those that the writer holds and the program, at the start and after a number of turns that the program went on from, and
  -- the bytes then kept: those that the last turn did not take.
  pub data Underway (left out : Option (List ℕ)) (first : P) (held_first : List ℕ) : ℕ → Option (List ℕ) → Option (List ℕ) → P → List ℕ → Type 0 where
    at_first : Underway left out first held_first 0 left out first held_first
    onward : {turns : ℕ} {left₁ left₂ out₁ out₂ : Option (List ℕ)} {program₁ program₂ : P} {kept held : List ℕ} {got : Option ℕ}
        (taken : ℕ) → Underway left out first held_first turns left₁ out₁ program₁ kept
        → Turn left₁ out₁ program₁ kept held left₂ got (Some taken) out₂ program₂
        → Underway left out first held_first (turns + 1) left₂ out₂ program₂ (drop taken held)

  -- the same up to the turn that the program stops at, with what that turn was told, or to the last turn that there is time for
  pub data Turned (left out : Option (List ℕ)) (first : P) (held_first : List ℕ) (left_after out_after : Option (List ℕ)) (last : P) (got : Option ℕ) : Type 0 where
    out_of_turns : (kept : List ℕ) → Underway left out first held_first most_turns left_after out_after last kept
        → Turned left out first held_first left_after out_after last got
    stopped : {turns : ℕ} {left₁ out₁ : Option (List ℕ)} {program₁ : P} {kept held : List ℕ}
        → Underway left out first held_first turns left₁ out₁ program₁ kept → Turn left₁ out₁ program₁ kept held left_after got None out_after last
        → Turned left out first held_first left_after out_after last got
