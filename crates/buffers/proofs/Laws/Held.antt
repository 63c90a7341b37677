-- What a buffer holds after a write behind what it held, and after its first bytes are dropped. Assumes nothing.
use Rattle.std.proofs.Common.{◌≡◌, ◌∙◌, ℕ, ◌+◌, ◌-◌, ◌≤◌, List, ◌++◌, length, take, drop, arith, rules, min}
use Rattle.std.proofs.lemmas.List.{same_lists, places}
use Rattle.std.proofs.lemmas.Grind.{common_steps}
use borrow.Rule.Slice.PartMut.{put_mid}
use borrow.Author.Tests.{le-leb}
use Rattle.buffers.specs.Buffers.{moved}

pub written : (held count room : ℕ) (bytes given : List ℕ) → held ≤ length bytes → count ≤ length given
    → take (held + count) (put_mid held room bytes given) ≡ take held bytes ++ take count given
written held count room bytes given h k = same_lists _ _ (search (rules, places)) (λ i d within. grind (arith, places))

taken_twice : (count : ℕ) (bytes : List ℕ) → take count (take count bytes) ≡ take count bytes
taken_twice count bytes = same_lists _ _ (grind (arith, common_steps, places)) (λ i d within. grind (arith, common_steps, places))

fitting : (held count capacity : ℕ) (bytes given : List ℕ) → length bytes ≡ capacity → held ≤ capacity → count ≡ min (length given) (capacity - held)
    → take held bytes ++ take count given ≡ take capacity (take held bytes ++ given)
fitting held count capacity bytes given e h k = same_lists _ _ (grind (arith, common_steps, places)) (λ i d within. grind (arith, common_steps, places))

-- as many of the bytes as there is room for
pub appended : (held count room capacity : ℕ) (bytes given part : List ℕ) → length bytes ≡ capacity → held ≤ capacity → count ≡ min (length given) (capacity - held)
    → part ≡ take count given → take (held + count) (put_mid held room bytes part) ≡ take capacity (take held bytes ++ given)
appended held count room capacity bytes given part e h k p =
    rw p (written held count room bytes (take count given) (omega arith) (grind (arith, common_steps, places)) ∙ rw (taken_twice count given) (fitting held count capacity bytes given e h k))

pub dropped : (held count : ℕ) (bytes : List ℕ) → held ≤ length bytes → take (held - count) (moved bytes count held) ≡ drop count (take held bytes)
unfolding moved
dropped held count bytes h = rw (le-leb _ _ h) (same_lists _ _ (grind (arith, common_steps, places)) (λ i d within. grind (arith, common_steps, places)))
