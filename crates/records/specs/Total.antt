-- Demand 1, as the type `Total`: which records are accepted, by which number each other one is refused, and what each takes and leaves. `why` is document 01's "How each
-- operation refuses", check after check, with its numbers of refusals, its places and limits and its 25 bytes; `Numbered` has its kinds, with the bytes of each.
-- proofs/Laws/Total.antt proves the claim. Assumes nothing.
use Rattle.std.specs.Prelude.{ℕ, zero, suc, ◌-◌, ◌*◌, ◌≤◌, ◌<◌, ◌≡◌, Bool, true, false, not, cond, ◌&&◌, ◌||◌, ◌↔◌, List, [], ◌∷◌, ◌++◌, leb, ltb, eqb, length, take, drop, Float, None, Option, Some}
use Rattle.std.specs.Float.Ieee.{le}
use Rattle.std.specs.Float.Ieee.Scale.{finite}
use Rattle.floats.specs.Ops.{f32}
use Rattle.floats.specs.Compare.{abs}
use Rattle.copter.specs.Config.{field_count, rule, config_of, Valid}
use Rattle.copter.specs.declared.config.CopterGuidanceConfig.{CopterGuidanceConfig}
use Rattle.records.specs.declared.craft.Craft.{Craft}
use Rattle.records.specs.declared.answer.Refusal.{Refusal}
use Rattle.records.specs.declared.answer.Answer.{Answer}
use Rattle.records.specs.declared.kinds.Call.TheVariants as calls
use Rattle.records.specs.declared.kinds.InFlight.TheVariants as flights
use Rattle.records.specs.declared.kinds.Kind.{Kind}
use Rattle.records.specs.declared.kinds.Kind.TheVariants as kinds
use Rattle.records.specs.Answer.{number, field_of, refusal_of, accepted, answer_bytes}
use Rattle.records.specs.Layout.{byte_at, float_at, floats_from}
use Rattle.records.specs.Kinds.{call, kind_of, body_length}
use Rattle.copter.specs.declared.memory.CopterGuidance.{CopterGuidance}
use Rattle.records.specs.Step.{Outcome, step}

-- ---- why a record is refused

-- the two bytes that say why: the number of the refusal, and the field of refusal 1, or 0
pub record Reason : Type 0 where
  pub number : ℕ
  pub field : ℕ

abbrev pub because : ℕ → Reason
because n = record { number = n; field = 0 }

-- refusal 1 of a field
abbrev pub broken : ℕ → Reason
broken n = record { number = 1; field = n }

abbrev pub reason : Refusal → Reason
reason refusal = record { number = number refusal; field = field_of refusal }

abbrev pub reason_in : Option Refusal → Option Reason
reason_in None = None
reason_in (Some refusal) = Some (reason refusal)

-- the reason that an answer gives, or none
abbrev pub reason_of : Answer → Option Reason
reason_of answer = reason_in (refusal_of answer)

abbrev pub no_reason : Option Reason → Bool
no_reason None = true
no_reason (Some reason) = false

-- a check, and the reason where it fails
pub record Check : Type 0 where
  pub fails : Bool
  pub reason : Reason

abbrev pub check : Bool → Reason → Check
check fails reason = record { fails = fails; reason = reason }

-- Checks run in the order written.
unfoldable pub first_failing : List Check → Option Reason
first_failing [] = None
first_failing (c ∷ checks) = cond c.fails (Some c.reason) (first_failing checks)

abbrev pub no_craft : Option CopterGuidance → Check
no_craft None = check true (because 7)
no_craft (Some g) = check false (because 7)

-- the fields from n on, d of them; field n stands at 4 (n - 1)
unfoldable pub fields_kept : List ℕ → ℕ → ℕ → List Check
fields_kept body n zero = []
fields_kept body n (suc d) = check (not (rule n (float_at body (4 * (n - 1))))) (broken n) ∷ fields_kept body (suc n) d

-- a time step that is a NaN, under 1/4,096 or over 1
abbrev pub out_of_range : Float → Bool
out_of_range dt = not (le (f32 0x3980_0000) dt && le dt (f32 0x3F80_0000))

-- a finite heading over 1,024 in size
abbrev pub too_large : Float → Bool
too_large heading = finite heading && not (le (abs heading) (f32 0x4480_0000))

-- T, and the heading of the state after it
abbrev pub step_and_heading : List ℕ → List Check
step_and_heading body = check (out_of_range (float_at body 0)) (because 2) ∷ check (too_large (float_at body 60)) (because 3) ∷ []

-- the checks of each kind, over its body
abbrev pub own_checks : Option Kind → Option CopterGuidance → List ℕ → List Check
own_checks (Some kinds.Configure) guidance body = fields_kept body 1 field_count
own_checks (Some (kinds.InFlight flights.Prime)) guidance body = no_craft guidance ∷ check (too_large (float_at body 56)) (because 3) ∷ []
own_checks (Some (kinds.InFlight (flights.Call calls.Attitude))) guidance body = no_craft guidance ∷ step_and_heading body
own_checks (Some (kinds.InFlight (flights.Call calls.Waypoint))) guidance body =
    no_craft guidance ∷ check (not (leb (byte_at body 72) 1 && leb (byte_at body 89) 1)) (because 8) ∷ step_and_heading body
own_checks (Some (kinds.InFlight (flights.Call calls.AbsoluteAttitude))) guidance body = no_craft guidance ∷ step_and_heading body
own_checks (Some (kinds.InFlight (flights.Call calls.Land))) guidance body = no_craft guidance ∷ step_and_heading body
own_checks (Some (kinds.InFlight (flights.Call calls.AbsoluteRate))) guidance body = no_craft guidance ∷ step_and_heading body
own_checks (Some (kinds.InFlight flights.Rate)) guidance body = no_craft guidance ∷ check true (because 4) ∷ []
own_checks (Some (kinds.InFlight flights.Wind)) guidance body = no_craft guidance ∷ []
own_checks None guidance body = []

-- an answer buffer has this many bytes at least
abbrev pub least_room : ℕ
least_room = 25

-- kinds 1 to 9
abbrev pub last_kind : ℕ
last_kind = 9

-- an answer buffer under 25 bytes; no kind byte; a kind that is not 1 to 9; a body cut short; and the kind's own checks
unfoldable pub checks : Craft → List ℕ → List ℕ → List Check
checks craft bytes buffer =
    let byte = byte_at bytes 0 in
    let needed = body_length (kind_of byte) in
    check (ltb (length buffer) least_room) (because 9)
    ∷ check (eqb (length bytes) 0) (because 6)
    ∷ check (not (leb 1 byte && leb byte last_kind)) (because 5)
    ∷ check (ltb (length bytes - 1) needed) (because 6)
    ∷ own_checks (kind_of byte) craft.guidance (take needed (drop 1 bytes))

abbrev pub why : Craft → List ℕ → List ℕ → Option Reason
why craft bytes buffer = first_failing (checks craft bytes buffer)

-- ---- kinds

-- what a byte of kind says, and how many bytes follow it
pub record Says (byte : ℕ) (kind : Option Kind) (following : ℕ) : Type 0 where
  pub says : kind_of byte ≡ kind
  pub follow : body_length kind ≡ following

pub record Numbered : Type 0 where
  pub configure : Says 1 (Some kinds.Configure) 200
  pub prime : Says 2 (Some (kinds.InFlight flights.Prime)) 60
  pub attitude : Says 3 (call calls.Attitude) 80
  pub rate : Says 4 (Some (kinds.InFlight flights.Rate)) 0
  pub waypoint : Says 5 (call calls.Waypoint) 94
  pub absolute_attitude : Says 6 (call calls.AbsoluteAttitude) 80
  pub land : Says 7 (call calls.Land) 72
  pub absolute_rate : Says 8 (call calls.AbsoluteRate) 80
  pub wind : Says 9 (Some (kinds.InFlight flights.Wind)) 0

-- ---- configurations

-- a whole record of kind 1, and room for its answer
pub record Configures (bytes buffer : List ℕ) : Type 0 where
  pub kind_one : byte_at bytes 0 ≡ 1
  pub whole : 201 ≤ length bytes
  pub room : least_room ≤ length buffer

abbrev pub fields_in : List ℕ → List ℕ
fields_in bytes = take 200 (drop 1 bytes)

abbrev pub config_in : List ℕ → CopterGuidanceConfig
config_in bytes = config_of (floats_from 0 field_count (fields_in bytes))

-- the field n of a configuration keeps its rule
abbrev pub Keeps : List ℕ → ℕ → Type 0
Keeps body n = rule n (float_at body (4 * (n - 1))) ≡ true

-- the field n breaks its rule, and no lower one does
pub record Lowest (body : List ℕ) (n : ℕ) : Type 0 where
  pub low : 1 ≤ n
  pub high : n ≤ field_count
  pub breaks : rule n (float_at body (4 * (n - 1))) ≡ false
  pub lower_keep : (m : ℕ) → 1 ≤ m → m < n → Keeps body m

-- ---- what is accepted

-- What an accepted record takes and writes: the record, and its answer at the start of the buffer, 25 bytes at most. The rest of the buffer stays.
pub record Accepting (bytes buffer : List ℕ) (outcome : Outcome) : Type 0 where
  pub taken : outcome.taken ≡ suc (body_length (kind_of (byte_at bytes 0)))
  pub written : outcome.written ≡ length (answer_bytes outcome.answer)
  pub few : outcome.written ≤ least_room
  pub buffer_left : outcome.buffer ≡ answer_bytes outcome.answer ++ drop outcome.written buffer

-- ---- what is refused

-- refusals 5, 6 and 9 take no byte
abbrev pub takes_none : ℕ → Bool
takes_none n = eqb n 5 || eqb n 6 || eqb n 9

-- What a record refused for a reason leaves: the craft as it was, and all of the buffer but its first three bytes; a buffer under 25 bytes wholly as it was.
pub record Refusing (craft : Craft) (bytes buffer : List ℕ) (reason : Reason) (outcome : Outcome) : Type 0 where
  pub refused : reason_of outcome.answer ≡ Some reason
  pub craft_stays : outcome.craft ≡ craft
  pub buffer_left : outcome.buffer ≡ cond (ltb (length buffer) least_room) buffer (3 ∷ reason.number ∷ reason.field ∷ drop 3 buffer)
  pub written : outcome.written ≡ cond (ltb (length buffer) least_room) 0 3
  pub taken : outcome.taken ≡ cond (takes_none reason.number) 0 (suc (body_length (kind_of (byte_at bytes 0))))
  pub nine_without_room : eqb reason.number 9 ≡ ltb (length buffer) least_room

-- ---- the claim

pub record Total : Type 0 where
  -- A record is refused by the first check that fails, and accepted where none does.
  pub refused_by : (craft : Craft) (bytes buffer : List ℕ) → reason_of (step craft bytes buffer).answer ≡ why craft bytes buffer
  pub accepted_exactly : (craft : Craft) (bytes buffer : List ℕ) → accepted (step craft bytes buffer).answer ≡ no_reason (why craft bytes buffer)
  pub accepted_takes : (craft : Craft) (bytes buffer : List ℕ) → accepted (step craft bytes buffer).answer ≡ true
      → Accepting bytes buffer (step craft bytes buffer)
  pub numbered : Numbered
  -- A configuration is accepted exactly when each of its 50 fields keeps its rule.
  pub kept→accepted : (craft : Craft) (bytes buffer : List ℕ) → Configures bytes buffer
      → ((n : ℕ) → 1 ≤ n → n ≤ field_count → Keeps (fields_in bytes) n) → accepted (step craft bytes buffer).answer ≡ true
  pub accepted→kept : (craft : Craft) (bytes buffer : List ℕ) → Configures bytes buffer
      → accepted (step craft bytes buffer).answer ≡ true → (n : ℕ) → 1 ≤ n → n ≤ field_count → Keeps (fields_in bytes) n
  -- The rules by name: it is accepted exactly when the configuration that it makes is valid.
  pub accepted_valid : (craft : Craft) (bytes buffer : List ℕ) → Configures bytes buffer
      → (accepted (step craft bytes buffer).answer ≡ true) ↔ Valid (config_in bytes)
  -- Else it is refused with the lowest field that breaks its rule.
  pub else_lowest : (craft : Craft) (bytes buffer : List ℕ) → Configures bytes buffer
      → accepted (step craft bytes buffer).answer ≡ false
      → (n : ℕ) × (reason_of (step craft bytes buffer).answer ≡ Some (broken n)) × Lowest (fields_in bytes) n
  pub refused_stays : (craft : Craft) (bytes buffer : List ℕ) (reason : Reason) → why craft bytes buffer ≡ Some reason
      → Refusing craft bytes buffer reason (step craft bytes buffer)
