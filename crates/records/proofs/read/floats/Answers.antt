-- `records::read::floats` meets its contract: each float that it takes is the body's at that place. Assumes nothing.
use Rattle.std.proofs.Common.{rules, ◌≡◌, ℕ, zero, suc, ◌+◌, ◌*◌, ◌≤◌, ◌<◌, length, get_or, List, Float, sym, ap, subst, ◌∙◌, arith}
use Rattle.std.proofs.lemmas.List.{same_lists}
use Rattle.std.specs.Array.{IsFromFnResultFrom}
use Rattle.std.specs.Fn.{Called}
use denote.Param.Members.{Mut}
use Rattle.copter.proofs.Laws.Config.{here_or_later}
use Rattle.records.specs.Layout.{float_at, floats_from}
use Rattle.records.proofs.Laws.Layout.{floats_counted, floats_at}
use Rattle.records.proofs.read.floats.Goals as goal

-- what a closure that stays as it is gave at each number from i on, n of them
module _ {F B : Type 0} (g : Mut F (ℕ × Unit {0}) B) (f : F) (ys : List B) (value : ℕ → B)
    (gives : (k : ℕ) (y : B) (q : F) → Called g f (k, tt) y q → (q ≡ f) × (y ≡ value k)) where
  each_value : (n i : ℕ) → IsFromFnResultFrom g f ys i n → (k : ℕ) → i ≤ k → k < i + n → (d : B) → get_or ys k d ≡ value k
  each_value zero i calls k low high d = absurd (omega arith)
  each_value (suc n) i calls k low high d =
      let same = gives i calls.1 calls.0 calls.3 in
      here_or_later (λ (m : ℕ). get_or ys m d ≡ value m) i k low (calls.2.1 d ∙ same.1)
      (λ later.
      each_value n (i + 1) (subst (λ (p : F). IsFromFnResultFrom g p ys (i + 1) n) same.0 calls.4) k (omega arith) (omega arith) d)

pub returns : goal.returns
returns g c =
    let part = c.args.part.now in
    let count = g.row.N in
    same_lists c.from_fn.result (floats_from 0 count part) (c.from_fn.ensures.items.long ∙ sym (floats_counted 0 count part))
    (λ (k : ℕ) (d : Float) (h : k < length c.from_fn.result).
    let inside : k < count = rw c.from_fn.ensures.items.long at h in
    let taken : get_or c.from_fn.result k d ≡ float_at part (k * 4) =
    each_value _ _ c.from_fn.result (λ (n : ℕ). float_at part (n * 4)) (λ n y q called. search rules) count 0 c.from_fn.ensures.items.each k
    (omega (arith, inside)) (omega (arith, inside)) d in
    let place : k * 4 ≡ 0 + 4 * k = omega arith in
    taken ∙ ap (float_at part) place ∙ sym (floats_at 0 count k part d inside))
