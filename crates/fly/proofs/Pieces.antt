-- What flying a part of a file leaves to do: where nothing is taken, only a record that is cut short, and nothing at all where the part is the last. Assumes nothing.
use Rattle.std.proofs.Common.{ℕ, zero, suc, ◌+◌, ◌-◌, ◌≤◌, ◌≡◌, refl, sym, ap, subst, ◌∙◌, Bool, true, false, cond, ◌||◌, List, [], ◌∷◌, ◌++◌, length, take, drop, Option, Some, None, arith, true≢false}
use Rattle.std.specs.Io.KnownBytes.{Appends}
use mathlib.Core.List.{append_assoc, append-nil}
use Rattle.records.specs.declared.craft.Craft.{Craft}
use Rattle.records.specs.declared.flight.Flown.{Flown}
use Rattle.records.specs.Flight.{waits, cut_short, Flight, set_out, onward, fly_on, fly, flown, flight_answers}
use Rattle.records.specs.Inner.{waiting, next, Stands}
use Rattle.records.specs.declared.kinds.Call.TheVariants as calls
use Rattle.records.specs.declared.kinds.InFlight.TheVariants as flights
use Rattle.records.specs.declared.kinds.Kind.{Kind}
use Rattle.records.specs.declared.kinds.Kind.TheVariants.{Configure, InFlight}
use Rattle.records.specs.Kinds.{kind_of, body_length}
use Rattle.fly.specs.Flight.{all_flown}
use borrow.Author.Tests.{le-ltb, ltb-true, ne_eqb}
use lib.ListN.{length-drop}
use lib.Seq.{drop-drop, take_all}
use lib.Dec.{ltb, eqb, lit≤}
use Rattle.std.proofs.lemmas.Bool.{cond_both}
use Rattle.records.proofs.Laws.Flight.{ready_some, one_more, stays_ended, next_moves, any_piece}

-- ---- what a writer holds

pub appends_none : (out : Option (List ℕ)) → Appends out out []
appends_none None = tt
appends_none (Some held) = sym (append-nil held)

pub appends_more : (first second third : Option (List ℕ)) (x y : List ℕ) → Appends first second x → Appends second third y → Appends first third (x ++ y)
appends_more None second third x y one two = tt
appends_more (Some p) None third x y one two = absurd one
appends_more (Some p) (Some q) None x y one two = absurd two
appends_more (Some p) (Some q) (Some r) x y one two = two ∙ ap (λ l. l ++ y) one ∙ append_assoc p x y

-- ---- a flight takes no byte back

further : (n : ℕ) (last : Bool) (bytes : List ℕ) (flight : Flight) → flight.taken ≤ (fly_on n last bytes flight).taken
unfolding fly_on onward
further zero last bytes flight = omega arith
further (suc n) last bytes flight =
    cond_both (flight.ended || waiting last bytes flight) _ _ (λ (f : Flight). flight.taken ≤ f.taken) (λ over. omega arith)
    (λ goes_on. omega (arith, further n last bytes (next bytes flight)))

either : {A : Type 0} (b : Bool) → (b ≡ true → A) → (b ≡ false → A) → A
either true f g = f refl
either false f g = g refl

starts : (craft : Craft) (bytes buffer : List ℕ) → Stands bytes (length buffer) (set_out craft buffer)
starts craft bytes buffer = record { within = omega arith; fits = omega arith; kept = refl }

-- Where it takes no byte and has not ended, the first record waits.
pub first_waits : (craft : Craft) (bytes : List ℕ) (last : Bool) (buffer : List ℕ) →
    let f = fly craft bytes last buffer in
    f.ended ≡ false → f.taken ≡ 0 → waits last bytes (length buffer) ≡ true
first_waits craft bytes last buffer going none =
    let start = set_out craft buffer in
    let first = next bytes start in
    either (waits last bytes (length buffer)) (λ yes. yes)
    (λ ready.
    let some = ready_some last bytes (length buffer) ready in
    let count : length bytes ≡ suc (length bytes - 1) = omega (arith, some) in
    let same : fly craft bytes last buffer ≡ fly_on (length bytes - 1) last bytes first =
    ap (λ n. fly_on n last bytes start) count ∙ one_more (length bytes - 1) last bytes start refl ready in
    either first.ended
    (λ over. absurd (true≢false (sym over ∙ ap (λ (f : Flight). f.ended) (sym (same ∙ stays_ended (length bytes - 1) last bytes first over)) ∙ going)))
    (λ on.
    let moved = next_moves last bytes (length buffer) start (starts craft bytes buffer) ready on in
    let grown = further (length bytes - 1) last bytes first in
    let whole : (fly craft bytes last buffer).taken ≡ (fly_on (length bytes - 1) last bytes first).taken = ap (λ (f : Flight). f.taken) same in
    let impossible : ⊥ = omega (arith, moved, grown, whole, none) in
    absurd impossible))

-- ---- what waits

not_none : (n : ℕ) → suc n ≡ 0 → ⊥
not_none n none = omega (arith, none)

some_byte : (byte : ℕ) (bytes : List ℕ) → eqb (length (byte ∷ bytes)) 0 ≡ false
some_byte byte bytes = ne_eqb _ 0 (not_none (length bytes))

-- The last part leaves no byte, where there is room for an answer.
pub none_left : (bytes : List ℕ) (room : ℕ) → 25 ≤ room → waits true bytes room ≡ true → bytes ≡ []
unfolding waits
none_left [] room enough held = refl
none_left (byte ∷ bytes) room enough held = absurd (true≢false (sym held ∙ rw (some_byte byte bytes, le-ltb room 25 enough)))

body_within : (kind : Option Kind) → body_length kind ≤ 200
unfolding body_length
body_within None = lit≤ tt
body_within (Some Configure) = lit≤ tt
body_within (Some (InFlight flights.Prime)) = lit≤ tt
body_within (Some (InFlight (flights.Call calls.Attitude))) = lit≤ tt
body_within (Some (InFlight (flights.Call calls.Waypoint))) = lit≤ tt
body_within (Some (InFlight (flights.Call calls.AbsoluteAttitude))) = lit≤ tt
body_within (Some (InFlight (flights.Call calls.Land))) = lit≤ tt
body_within (Some (InFlight (flights.Call calls.AbsoluteRate))) = lit≤ tt
body_within (Some (InFlight flights.Rate)) = lit≤ tt
body_within (Some (InFlight flights.Wind)) = lit≤ tt

-- Another leaves at most a record that is cut short.
pub cut_left : (bytes : List ℕ) (room : ℕ) → 25 ≤ room → waits false bytes room ≡ true → all_flown bytes ≡ true
unfolding waits
cut_left bytes room enough held = rw (le-ltb room 25 enough) at held

pub short_left : (bytes : List ℕ) → all_flown bytes ≡ true → length bytes ≤ 200
unfolding cut_short
short_left [] held = lit≤ tt
short_left (byte ∷ bytes) held =
    let cut : ltb (length (byte ∷ bytes) - 1) (body_length (kind_of byte)) ≡ true = rw (some_byte byte bytes) at held in
    let less = ltb-true _ _ cut in
    omega (arith, less, body_within (kind_of byte))

-- ---- one piece more

-- From what was left of the bytes held: the answers of the piece, and unless it ended the flight those of what it leaves.
pub one_piece : (r : Flown) (after : List ℕ) (craft : Craft) (held : List ℕ) (taken : ℕ) (last : Bool) (buffer : List ℕ)
    → flown r after ≡ fly craft (drop taken held) last buffer → (more : List ℕ) → (last ≡ true → more ≡ [])
    → flight_answers craft (drop taken held ++ more)
    ≡ take r.written after ++ cond r.ended [] (flight_answers r.craft (drop (taken + r.taken) held ++ more))
one_piece r after craft held taken last buffer same more all =
    subst
    (λ (f : Flight). flight_answers craft (drop taken held ++ more) ≡ take f.written f.buffer ++ cond f.ended [] (flight_answers f.craft (drop f.taken (drop taken held) ++ more)))
    (sym same) (any_piece craft (drop taken held) more last buffer all)
    ∙ ap (λ l. take r.written after ++ cond r.ended [] (flight_answers r.craft (l ++ more))) (drop-drop r.taken taken held)

-- the bytes from a place on, as a slice has them
pub rest_of : (held : List ℕ) (taken : ℕ) → take (length held - taken) (drop taken held) ≡ drop taken held
rest_of held taken = take_all _ (drop taken held) (omega (arith, length-drop taken held))
