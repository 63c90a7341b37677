-- What a flight's turn comes to, from what its pieces wrote and left. Assumes nothing.
use Rattle.std.proofs.Common.{ℕ, ◌+◌, ◌-◌, ◌≤◌, ◌≡◌, refl, sym, ap, subst, ◌∙◌, Bool, true, false, not, cond, List, [], ◌++◌, length, take, drop, Option, arith, true≢false}
use Rattle.std.specs.Prelude.{min}
use Rattle.std.specs.Bool.{then_some}
use Rattle.std.specs.Io.KnownBytes.{Appends}
use mathlib.Core.List.{append_assoc, append-nil}
use Rattle.records.specs.declared.craft.Craft.{Craft}
use Rattle.records.specs.declared.flight.Flown.{Flown}
use Rattle.records.specs.Flight as records
use Rattle.records.proofs.Laws.Flight.{empty_flight_writes_nothing}
use Rattle.fly.specs.declared.flight.Flight.{Flight}
use Rattle.buffers.specs.Output.{most_counted}
use Rattle.fly.specs.Flight.{Flies, is_last, all_flown, onward}
use Rattle.fly.proofs.Pieces.{appends_more, first_waits, none_left, cut_left, one_piece, rest_of}

-- counts that stop at the same limit
pub count_on : (a b c limit : ℕ) → min (min (a + b) limit + c) limit ≡ min (a + (b + c)) limit
count_on a b c limit = omega arith

-- One piece of a turn, from the bytes held from a place on: what it gives, the craft after it, and the bytes of the flight that are counted then.
pub record Piece (before here new : Flight) (held : List ℕ) (taken : ℕ) (last : Bool) (r : Flown) : Type 0 where
  pub same : records.flown r new.answers ≡ records.fly here.craft (drop taken held) last here.answers
  pub craft : r.craft ≡ new.craft
  pub counted : new.taken ≡ min (before.taken + (taken + r.taken)) most_counted

pub piece : (before here new : Flight) (held : List ℕ) (taken : ℕ) (last : Bool) (r : Flown) →
    let rest = take (length held - taken) (drop taken held) in
    records.flown r new.answers ≡ records.fly here.craft rest last here.answers → new ≡ onward here rest last
    → here.taken ≡ min (before.taken + taken) most_counted → Piece before here new held taken last r
piece before here new held taken last r flown after counted =
    let grown : new.taken ≡ min (here.taken + r.taken) most_counted =
    ap (λ (f : Flight). f.taken) after ∙ ap (λ n. min (here.taken + n) most_counted) (sym (ap (λ (f : records.Flight). f.taken) flown)) in
    record {
      same = flown ∙ ap (λ l. records.fly here.craft l last here.answers) (rest_of held taken);
      craft = ap (λ (f : records.Flight). f.craft) flown ∙ sym (ap (λ (f : Flight). f.craft) after);
      counted = grown ∙ ap (λ n. min (n + r.taken) most_counted) counted ∙ count_on before.taken taken r.taken most_counted;
    }

-- After some pieces of a turn: what was written are the first answers of any file that begins with the bytes held, and the others are those of the bytes that are left
-- and of what follows them; nothing does in the last turn.
abbrev pub SoFar : Craft → List ℕ → Bool → Option (List ℕ) → Option (List ℕ) → ℕ → Craft → Type 0
SoFar first held last out out_now taken craft =
    (written : List ℕ) × Appends out out_now written
    × ((more : List ℕ) → (last ≡ true → more ≡ []) → records.flight_answers first (held ++ more) ≡ written ++ records.flight_answers craft (drop taken held ++ more))

-- The answers of all that was held, where nothing is left and nothing follows.
all_answered : (craft : Craft) (written rest more : List ℕ) → rest ≡ [] → more ≡ [] → written ++ records.flight_answers craft (rest ++ more) ≡ written
all_answered craft written rest more none no_more =
    ap (λ l. written ++ records.flight_answers craft (l ++ more)) none
    ∙ ap (λ l. written ++ records.flight_answers craft ([] ++ l)) no_more
    ∙ ap (λ l. written ++ l) (empty_flight_writes_nothing craft)
    ∙ append-nil written

-- The end of a turn, from what its pieces wrote.
turned : (before : Flight) (held : List ℕ) (got : Option ℕ) (out out_after : Option (List ℕ)) (taken : ℕ) (after : Flight) (last : Bool)
    → last ≡ is_last got → after.complete ≡ last → after.taken ≡ min (before.taken + taken) most_counted → SoFar before.craft held last out out_after taken after.craft
    → (last ≡ true → drop taken held ≡ []) → (last ≡ false → all_flown (drop taken held) ≡ true)
    → Flies before held got out out_after (then_some (not last) taken) after
turned before held got out out_after taken after true same complete counted so_far none few = λ done.
    let (written, appended, answers) = so_far in (
      written,
      appended,
      (λ more all.
          answers more (λ at_last. all (sym same)) ∙ all_answered after.craft written (drop taken held) more (none refl) (all (sym same))),
    )
turned before held got out out_after taken after false same complete counted so_far none few =
    let (written, appended, answers) = so_far in
    (complete, few refl, counted, (written, appended, (λ more. answers more (λ at_last. absurd (true≢false (sym at_last))))))

module _ (first : Craft) (held : List ℕ) (last : Bool) (out out_now : Option (List ℕ)) (taken : ℕ) (craft : Craft) (so_far : SoFar first held last out out_now taken craft)
    (out_after : Option (List ℕ)) (r : Flown) (buffer after : List ℕ) (same : records.flown r after ≡ records.fly craft (drop taken held) last buffer)
    (appended : Appends out_now out_after (take r.written after)) where
  abbrev later : List ℕ → List ℕ
  later more = records.flight_answers r.craft (drop (taken + r.taken) held ++ more)

  abbrev so_written : List ℕ
  so_written = so_far.0 ++ take r.written after

  so_appended : Appends out out_after so_written
  so_appended = appends_more out out_now out_after so_far.0 (take r.written after) so_far.1 appended

  answered : (ended : Bool) → r.ended ≡ ended → (more : List ℕ) → (last ≡ true → more ≡ [])
      → records.flight_answers first (held ++ more) ≡ so_written ++ cond ended [] (later more)
  answered ended same_ended more all =
      so_far.2 more all
      ∙ ap (λ l. so_far.0 ++ l) (one_piece r after craft held taken last buffer same more all)
      ∙ ap (λ (b : Bool). so_far.0 ++ (take r.written after ++ cond b [] (later more))) same_ended
      ∙ sym (append_assoc so_far.0 (take r.written after) (cond ended [] (later more)))

  -- one piece more, of a flight that goes on
  pub piece_more : r.ended ≡ false → SoFar first held last out out_after (taken + r.taken) r.craft
  piece_more going = (so_written, so_appended, answered false going)

  -- and of one that ends
  pub piece_ends : r.ended ≡ true
      → (written : List ℕ) × Appends out out_after written × ((more : List ℕ) → (last ≡ true → more ≡ []) → records.flight_answers first (held ++ more) ≡ written)
  piece_ends over = (so_written, so_appended, (λ more all. answered true over more all ∙ append-nil so_written))

  waiting : r.ended ≡ false → r.taken ≡ 0 → records.waits last (drop taken held) (length buffer) ≡ true
  waiting going none =
      first_waits craft (drop taken held) last buffer
      (ap (λ (f : records.Flight). f.ended) (sym same) ∙ going)
      (ap (λ (f : records.Flight). f.taken) (sym same) ∙ none)

  -- A piece of which nothing was taken is nothing where it is the last, and else a record that is cut short.
  nothing_left : 25 ≤ length buffer → r.ended ≡ false → r.taken ≡ 0 → last ≡ true → drop taken held ≡ []
  nothing_left room going none at_last =
      none_left (drop taken held) (length buffer) room
      (ap (λ (b : Bool). records.waits b (drop taken held) (length buffer)) (sym at_last) ∙ waiting going none)

  little_left : 25 ≤ length buffer → r.ended ≡ false → r.taken ≡ 0 → last ≡ false → all_flown (drop taken held) ≡ true
  little_left room going none not_last =
      cut_left (drop taken held) (length buffer) room
      (ap (λ (b : Bool). records.waits b (drop taken held) (length buffer)) (sym not_last) ∙ waiting going none)

  -- the end of a turn at a piece of which nothing was taken
  pub turn_over : (before after_turn : Flight) (got : Option ℕ) → before.craft ≡ first → r.craft ≡ after_turn.craft → after_turn.complete ≡ last
      → after_turn.taken ≡ min (before.taken + taken) most_counted → last ≡ is_last got → 25 ≤ length buffer → r.ended ≡ false → r.taken ≡ 0 → Flies before held got out out_after (then_some (not last) taken) after_turn
  turn_over before after_turn got begun craft_after complete counted same_last room going none =
      let nothing : taken + r.taken ≡ taken = omega (arith, none) in
      let moved = subst (λ n. SoFar first held last out out_after n r.craft) nothing (piece_more going) in
      let here = subst (λ (c : Craft). SoFar c held last out out_after taken r.craft) (sym begun) moved in
      turned before held got out out_after taken after_turn last same_last complete counted (subst (SoFar before.craft held last out out_after taken) craft_after here)
      (nothing_left room going none) (little_left room going none)
