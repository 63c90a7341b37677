-- The claim over whole feeds: document 01's "Demand 3 over whole feeds", as the type `WholeFeeds`. proofs/Laws/Feed.antt proves it. Assumes nothing.
use Rattle.std.specs.Prelude.{ℕ, ◌≡◌, Bool, true, false, cond, ◌⊎◌, List, [], ◌∷◌, ◌++◌, T, eqb, take, drop, Float, None, Option, Some}
use Rattle.std.specs.Float.Ieee.Scale.{finite}
use Rattle.math.specs.Math.{wrap_angle}
use Rattle.wind.specs.declared.state.VehicleState.{VehicleState}
use Rattle.heading.specs.declared.hover_wind.HoverWind.{HoverWind}
use Rattle.heading.specs.HoverWind as hover
use Rattle.copter.specs.Memory.{fresh}
use Rattle.copter.specs.Guide.{new_craft}
use Rattle.records.specs.declared.craft.Craft.{Craft}
use Rattle.records.specs.declared.answer.Answer.{Answer}
use Rattle.records.specs.declared.step.Handled.{Handled}
use Rattle.records.specs.Answer.{accepted}
use Rattle.records.specs.Craft.{unconfigured}
use Rattle.records.specs.Layout.{byte_at}
use Rattle.records.specs.Kinds.{kind_of, body_length, state_start, command_start}
use Rattle.records.specs.Read.{state_at, absolute_attitude_command}
use Rattle.copter.specs.declared.memory.CopterGuidance.{CopterGuidance}
use Rattle.records.specs.Step.{Outcome, step, reported}

-- ---- feeds

-- any bytes handed in as a record, with an answer buffer of its own of any length and content
pub record Entry : Type 0 where
  pub bytes : List ℕ
  pub buffer : List ℕ

-- What an entry gets: the answer, in which the flags and the refusal with its field are, both byte counts and every byte of the buffer.
pub record Reply : Type 0 where
  pub answer : Answer
  pub taken : ℕ
  pub written : ℕ
  pub buffer : List ℕ

abbrev pub reply : Outcome → Reply
reply outcome = record { answer = outcome.answer; taken = outcome.taken; written = outcome.written; buffer = outcome.buffer }

-- ---- the definition's machine

abbrev pub outcome : Craft → Entry → Outcome
outcome craft entry = step craft entry.bytes entry.buffer

-- what the machine holds after a list of entries
unfoldable pub after : Craft → List Entry → Craft
after craft [] = craft
after craft (entry ∷ entries) = after (outcome craft entry).craft entries

-- after a list that starts with no craft configured
abbrev pub machine : List Entry → Craft
machine entries = after unconfigured entries

-- what it answers to a list
unfoldable pub replies : Craft → List Entry → List Reply
replies craft [] = []
replies craft (entry ∷ entries) = reply (outcome craft entry) ∷ replies (outcome craft entry).craft entries

-- ---- the port

-- what the port's record operation gave back for an entry, and the buffer that it left
pub record Link : Type 0 where
  pub handled : Handled
  pub left : List ℕ

-- The port was fed the entries, each with the craft that the one before gave back. Each link is the promise of the record operation and no more.
unfoldable pub Fed : Craft → List Entry → List Link → Type 0
Fed craft [] [] = Unit {0}
Fed craft [] (link ∷ links) = ⊥
Fed craft (entry ∷ entries) [] = ⊥
Fed craft (entry ∷ entries) (link ∷ links) =
    (reported link.handled link.left ≡ step craft entry.bytes entry.buffer) × Fed link.handled.craft entries links

-- the craft that the last link gave back
unfoldable pub given_back : Craft → List Link → Craft
given_back craft [] = craft
given_back craft (link ∷ links) = given_back link.handled.craft links

unfoldable pub port_replies : List Link → List Reply
port_replies [] = []
port_replies (link ∷ links) =
    record {
      answer = link.handled.answer;
      taken = link.handled.taken;
      written = link.handled.written;
      buffer = link.left;
    }
    ∷ port_replies links

-- ---- the ending call and the priming

abbrev pub kind_byte : Entry → ℕ
kind_byte entry = byte_at entry.bytes 0

abbrev pub body_of : Entry → List ℕ
body_of entry = take (body_length (kind_of (kind_byte entry))) (drop 1 entry.bytes)

abbrev pub Accepted : Craft → Entry → Type 0
Accepted craft entry = T (accepted (outcome craft entry).answer)

-- an accepted call of kind 6 or 8
pub record Ending (craft : Craft) (entry : Entry) : Type 0 where
  pub accepted : Accepted craft entry
  pub six_or_eight : (kind_byte entry ≡ 6) ⊎ (kind_byte entry ≡ 8)

-- the commanded heading of kind 6, the estimated one of kind 8
abbrev pub heading_of : ℕ → List ℕ → Float
heading_of kind body = cond (eqb kind 6) (absolute_attitude_command (drop command_start body)).heading_rad (state_at body state_start).heading_rad

abbrev pub ending_heading : Entry → Float
ending_heading ending = heading_of (kind_byte ending) (body_of ending)

-- an accepted priming
pub record Priming (craft : Craft) (entry : Entry) : Type 0 where
  pub accepted : Accepted craft entry
  pub kind_two : kind_byte entry ≡ 2

-- ---- what the machine is set to

-- the fresh memory of the configuration held
abbrev pub fresh_guidance : Option CopterGuidance → Option CopterGuidance
fresh_guidance None = None
fresh_guidance (Some g) = Some (new_craft g.config)

abbrev pub made_fresh : Craft → Craft
made_fresh craft = record { guidance = fresh_guidance craft.guidance }

-- the fresh memory of the configuration held, with the wind memory held and with a heading target
abbrev pub reset_guidance : Option CopterGuidance → Float → Option CopterGuidance
reset_guidance None heading = None
reset_guidance (Some g) heading =
    Some
    (record {
      config = g.config;
      memory =
          record {
            vertical = fresh.vertical;
            lateral = fresh.lateral;
            heading_rad = heading;
            leg_heading = fresh.leg_heading;
            wind = g.memory.wind;
          };
    })

abbrev pub reset : Craft → Float → Craft
reset craft heading = record { guidance = reset_guidance craft.guidance heading }

-- the heading target held; before a configure there is none, and 0 stands for it
abbrev pub heading_held : Option CopterGuidance → Float
heading_held None = fresh.heading_rad
heading_held (Some g) = g.memory.heading_rad

-- the wind memory held; before a configure there is none, and the fresh one stands for it
abbrev pub wind_held : Option CopterGuidance → HoverWind
wind_held None = hover.fresh
wind_held (Some g) = g.memory.wind

-- more than field 36 above the remembered ground
abbrev pub above_ground : Option CopterGuidance → VehicleState → Bool
above_ground None state = false
above_ground (Some g) state = hover.airborne g.memory.wind g.config.guidance.airborne_height_m state

-- ---- the claim

-- filter, window and remembered ground
pub record SameWind (a b : HoverWind) : Type 0 where
  pub same_filter : a.estimator.filter ≡ b.estimator.filter
  pub same_window : a.estimator.window ≡ b.estimator.window
  pub same_ground : a.ground_altitude_m ≡ b.ground_altitude_m

-- The first list starts with no craft configured. The machine is fed the same entries and never the port's answers or craft; where an ending call, a
-- priming or a height above the ground is spoken of, it is the machine's.
pub record WholeFeeds : Type 0 where
  -- After the ending call the port answers the last list as the machine does from a reset, with that wind memory and the wrapped heading.
  pub ending_call_forgets : (first : List Entry) (ending : Entry) (last : List Entry) (before later : List Link)
      → Fed unconfigured (first ++ (ending ∷ [])) before
      → Fed (given_back unconfigured before) last later
      → Ending (machine first) ending
      → T (finite (ending_heading ending))
      → port_replies later
      ≡ replies (reset (machine (first ++ (ending ∷ []))) (wrap_angle (ending_heading ending))) last
  -- Where that heading is not finite there is nothing to wrap. The same holds, for any heading, with the heading target that the ending call leaves.
  pub ending_call_forgets_all_but_heading : (first : List Entry) (ending : Entry) (last : List Entry) (before later : List Link)
      → Fed unconfigured (first ++ (ending ∷ [])) before
      → Fed (given_back unconfigured before) last later
      → Ending (machine first) ending
      → port_replies later
      ≡ replies (reset (machine (first ++ (ending ∷ []))) (heading_held (machine (first ++ (ending ∷ []))).guidance)) last
  -- A priming that is not above the remembered ground leaves the port the wind memory that it leaves a fresh memory of the configuration held.
  pub priming_forgets : (first : List Entry) (priming : Entry) (before : List Link)
      → Fed unconfigured (first ++ (priming ∷ [])) before
      → Priming (machine first) priming
      → above_ground (machine first).guidance (state_at (body_of priming) 0) ≡ false
      → SameWind (wind_held (given_back unconfigured before).guidance)
      (wind_held (outcome (made_fresh (machine first)) priming).craft.guidance)
  -- A priming above it keeps the wind memory that the machine holds.
  pub priming_above_keeps : (first : List Entry) (priming : Entry) (before : List Link)
      → Fed unconfigured (first ++ (priming ∷ [])) before
      → Priming (machine first) priming
      → above_ground (machine first).guidance (state_at (body_of priming) 0) ≡ true
      → SameWind (wind_held (given_back unconfigured before).guidance) (wind_held (machine first).guidance)
