-- Bytes moved to a buffer's start: the buffer keeps its length, and from the end on there is nothing to move. Assumes nothing.
use Prim.Native.Nat.{ℕ, ◌-◌, ◌≤◌}
use mathlib.Core.Path.{◌≡◌, refl}
use mathlib.Core.Bool.{Bool, true, false, cond}
use mathlib.Core.List.{List, ◌++◌}
use native.Mathlib.Nat.{zero-add}
use native.Mathlib.Omega.{arith}
use borrow.Author.Tests.{leb-true}
use lib.Dec.{leb}
use lib.ListN.{length, take, drop, length-drop}
use lib.Seq.{length-paste}
use Rattle.buffers.specs.Buffers.{moved}

-- the first `n` of the bytes from `from` on, at the start
abbrev pub shifted : List ℕ → ℕ → ℕ → List ℕ
shifted bytes from n = take n (drop from bytes) ++ drop n bytes

pub shifted_length : (bytes : List ℕ) (from n : ℕ) → n ≤ length bytes - from → length (shifted bytes from n) ≡ length bytes
shifted_length bytes from n h = simp zero-add at (length-paste bytes 0 (drop from bytes) n (omega arith) (rw length-drop h))

pub moved_length : (bytes : List ℕ) (from end : ℕ) → length (moved bytes from end) ≡ length bytes
unfolding moved
moved_length bytes from end = by_test (leb end (length bytes)) refl
  where
    by_test : (b : Bool) → leb end (length bytes) ≡ b → length (cond b (shifted bytes from (end - from)) bytes) ≡ length bytes
    by_test true e = let h = leb-true end (length bytes) e in shifted_length bytes from (end - from) (omega arith)
    by_test false e = refl

either_way : (b : Bool) (bytes : List ℕ) → bytes ≡ cond b bytes bytes
either_way true bytes = refl
either_way false bytes = refl

-- from the end on there is nothing to move
pub unmoved : (bytes : List ℕ) (from end : ℕ) → end ≤ from → bytes ≡ moved bytes from end
unfolding moved
unmoved bytes from end h = let none : end - from ≡ 0 = omega arith in rw none (either_way (leb end (length bytes)) bytes)
