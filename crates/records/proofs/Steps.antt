-- The record operation by what the port's functions give: a record's answer, written, is what the definition answers. Assumes nothing.
use Rattle.std.specs.Prelude.{None, Option, Some, Result, Ok, Err, MatchOption, MatchResult}
use Prim.Native.Nat.{ℕ, ◌+◌, ◌-◌, ◌≤◌, ◌<◌}
use mathlib.Core.Path.{◌≡◌, refl, sym}
use mathlib.Core.Bool.{false, true≢false}
use mathlib.Core.List.{List, [], ◌∷◌, ◌++◌}
use native.Mathlib.Omega.{arith}
use borrow.Author.Tests.{ne_eqb, lt-ltb}
use lib.ListN.{length, take, drop, get_or}
use lib.Seq.{get_or-drop, drop-drop}
use Rattle.copter.specs.declared.memory.CopterGuidance.{CopterGuidance}
use Rattle.records.specs.declared.kinds.InFlight.{InFlight}
use Rattle.records.specs.declared.kinds.UnknownKind.{UnknownKind}
use Rattle.records.specs.declared.kinds.Kind.{Kind}
use Rattle.records.specs.declared.kinds.Kind.TheVariants as kinds
use Rattle.records.specs.Kinds.{kind_of}
use Rattle.records.specs.Layout.{byte_at}
use Rattle.records.specs.declared.craft.Craft.{Craft}
use Rattle.records.specs.declared.turn.Turned.{Turned}
use Rattle.records.specs.declared.answer.Refusal.TheVariants as refusals
use Rattle.records.specs.declared.answer.Answer.TheVariants as answers
use Rattle.records.specs.Answer.{refusal_bytes, answer_bytes}
use Rattle.records.specs.Step.{configured, with_body, with_kind, judged, craft_after, answer_of, answer_room, answered, step, reported}
use Rattle.records.specs.Inner.{came, serves}
use Rattle.records.proofs.Parts.{lent}
use Rattle.records.proofs.Laws.Counts.{step_judged}

-- a record of a known kind, by the place of its kind
pub judged_at : (guidance : Option CopterGuidance) (bytes : List ℕ) (n : ℕ) (kind : Kind) → 1 ≤ length (drop n bytes)
    → kind_of (get_or bytes n 0) ≡ Some kind
    → judged guidance (take (length bytes - n) (drop n bytes)) ≡ with_body (Some kind) guidance (take (length bytes - (n + 1)) (drop (n + 1) bytes))
unfolding judged with_kind
judged_at guidance bytes n kind some is =
    let here : length (drop n bytes) ≡ 0 → ⊥ = λ none. omega arith in
    let there : n + 0 ≡ n = omega arith in
    rw (lent bytes n, lent bytes (n + 1), ne_eqb (length (drop n bytes)) 0 here, get_or-drop, there, is, drop-drop)

-- a record of a known kind, from its first byte
pub judged_first : (guidance : Option CopterGuidance) (bytes rest : List ℕ) (byte : ℕ) (kind : Kind) → bytes ≡ byte ∷ rest → kind_of byte ≡ Some kind
    → judged guidance bytes ≡ with_body (Some kind) guidance rest
unfolding judged with_kind
judged_first guidance bytes rest byte kind e is =
    let some : length (byte ∷ rest) ≡ 0 → ⊥ = λ none. omega arith in rw (e, is, ne_eqb (length (byte ∷ rest)) 0 some)

-- the craft whose guidance is known
pub held : (craft : Craft) (g : CopterGuidance) → craft.guidance ≡ Some g → craft ≡ configured g
held craft g e i = record { guidance = e i }

-- what a record comes to, with its answer written
pub written_step : (craft : Craft) (bytes buffer : List ℕ) (t : Turned Craft) {written : ℕ} {out : List ℕ} → answer_room ≤ length buffer
    → t ≡ came craft (judged craft.guidance bytes) → written ≡ length (answer_bytes t.answer) → out ≡ answer_bytes t.answer ++ drop written buffer
    → record { craft = t.kept; answer = t.answer; taken = t.taken; written = written; buffer = out } ≡ step craft bytes buffer
unfolding answered
written_step craft bytes buffer t room came_to long put = rw (put, long, came_to) (sym (step_judged craft bytes buffer room))

-- nothing is done where there is no room
pub no_room : (craft : Craft) (bytes buffer : List ℕ) → length buffer < answer_room
    → reported (record { craft = craft; answer = answers.Refused refusals.NoRoom; taken = 0; written = 0 }) buffer ≡ step craft bytes buffer
unfolding step answered craft_after answer_of answer_bytes refusal_bytes
no_room craft bytes buffer small = rw (lt-ltb (length buffer) answer_room small)

-- a kind in flight that `turn` does not serve finds no craft
pub not_configured : (guidance : Option CopterGuidance) (kind : InFlight) → serves guidance (Some (kinds.InFlight kind)) ≡ false → guidance ≡ None
not_configured None _ other = refl
not_configured (Some g) _ other = absurd (true≢false other)

-- of the known kinds, `turn` serves those in flight alone
pub unserved : (g : CopterGuidance) (kind : Kind) → ((k : InFlight) → kind ≡ kinds.InFlight k → ⊥) → serves (Some g) (Some kind) ≡ false
unserved g kinds.Configure other = refl
unserved g (kinds.InFlight k) other = absurd (other k refl)

-- `turn` serves no record without a byte
pub none_unserved : {A : Type 0} (Q : A → Type 0) (guidance : Option CopterGuidance) (bytes : List ℕ) (first : Option A)
    → MatchOption first (length bytes ≡ 0) Q → first ≡ None → serves guidance (kind_of (byte_at bytes 0)) ≡ false
unfolding kind_of
none_unserved Q None bytes first cases none = refl
none_unserved Q (Some g) [] first cases none = refl
none_unserved Q (Some g) (byte ∷ bytes) first cases none = absurd (omega (arith, rw none at cases))

-- nor a byte that is no kind, nor a configure
pub kind_unserved : (guidance : Option CopterGuidance) (byte : ℕ) (r : Result Kind UnknownKind) (e : UnknownKind)
    → MatchResult r (λ k. kind_of byte ≡ Some k) (λ e. kind_of byte ≡ None) → r ≡ Err e → serves guidance (kind_of byte) ≡ false
kind_unserved None byte r e given is = refl
kind_unserved (Some g) byte r e given is = rw (rw is at given) refl

pub configure_unserved : (guidance : Option CopterGuidance) (byte : ℕ) (r : Result Kind UnknownKind)
    → MatchResult r (λ k. kind_of byte ≡ Some k) (λ e. kind_of byte ≡ None) → r ≡ Ok kinds.Configure → serves guidance (kind_of byte) ≡ false
configure_unserved None byte r given is = refl
configure_unserved (Some g) byte r given is = rw (rw is at given) refl
