-- A flight: records one after another. `fly` is what the port's `fly` gives for the bytes that have come in so far; `flight_answers` is what document 01's program writes for
-- a whole flight file. Assumes nothing.
use Rattle.std.specs.Prelude.{ℕ, zero, suc, ◌+◌, ◌-◌, Bool, false, not, cond, ◌&&◌, ◌||◌, List, [], ◌++◌, ltb, eqb, length, take, drop, replicate}
use Rattle.records.specs.declared.craft.Craft.{Craft}
use Rattle.records.specs.declared.answer.Answer.{Answer}
use Rattle.records.specs.declared.answer.Answer.TheVariants.{Attitude, BodyRate, Refused, Done, NoWind, Wind}
use Rattle.records.specs.declared.flight.Flown.{Flown}
use Rattle.records.specs.Answer.{number, answer_bytes}
use Rattle.records.specs.Layout.{byte_at}
use Rattle.records.specs.Kinds.{kind_of, body_length}
use Rattle.records.specs.Step.{Outcome, answer_room, step}

-- refusals 5 and 6 end a flight
abbrev pub ends_flight : Answer → Bool
ends_flight (Refused refusal) = eqb (number refusal) 5 || eqb (number refusal) 6
ends_flight (Attitude setpoint flags) = false
ends_flight (BodyRate setpoint flags) = false
ends_flight Done = false
ends_flight NoWind = false
ends_flight (Wind estimate) = false

-- a record with less than its whole body; an unknown kind has none
unfoldable pub cut_short : List ℕ → Bool
cut_short bytes = ltb (length bytes - 1) (body_length (kind_of (byte_at bytes 0)))

-- The next record is left for later: no byte of it is there, there is no room for its answer, or it is cut short and more bytes may follow.
unfoldable pub waits : Bool → List ℕ → ℕ → Bool
waits last bytes room = eqb (length bytes) 0 || (ltb room answer_room || (not last && cut_short bytes))

-- What has come of a flight so far: the craft, the bytes taken and written, whether it is over, and the whole buffer.
pub record Flight : Type 0 where
  pub craft : Craft
  pub taken : ℕ
  pub written : ℕ
  pub ended : Bool
  pub buffer : List ℕ

abbrev pub set_out : Craft → List ℕ → Flight
set_out craft buffer = record { craft = craft; taken = 0; written = 0; ended = false; buffer = buffer }

-- one record more
unfoldable pub onward : Flight → Outcome → Flight
onward flight outcome =
    record {
      craft = outcome.craft;
      taken = flight.taken + outcome.taken;
      written = flight.written + outcome.written;
      ended = ends_flight outcome.answer;
      buffer = take flight.written flight.buffer ++ outcome.buffer;
    }

-- at most so many records more
unfoldable pub fly_on : ℕ → Bool → List ℕ → Flight → Flight
fly_on zero last bytes flight = flight
fly_on (suc n) last bytes flight =
    let rest = drop flight.taken bytes in
    let room = drop flight.written flight.buffer in
    cond (flight.ended || waits last rest (length room)) flight (fly_on n last bytes (onward flight (step flight.craft rest room)))

-- A record takes a byte at least or ends the flight, so there are no more of them than bytes. With `last` nothing follows these bytes.
abbrev pub fly : Craft → List ℕ → Bool → List ℕ → Flight
fly craft bytes last buffer = fly_on (length bytes) last bytes (set_out craft buffer)

-- what the port's `fly` gives, with the buffer that it leaves
abbrev pub flown : Flown → List ℕ → Flight
flown f buffer = record { craft = f.craft; taken = f.taken; written = f.written; ended = f.ended; buffer = buffer }

-- ---- a whole flight file

-- the answers of at most so many records, up to the end or to a refusal 5 or 6
unfoldable pub answers : ℕ → Craft → List ℕ → List ℕ
answers zero craft bytes = []
answers (suc n) craft bytes =
    let outcome = step craft bytes (replicate answer_room 0) in
    cond (eqb (length bytes) 0) []
    (answer_bytes outcome.answer ++ cond (ends_flight outcome.answer) [] (answers n outcome.craft (drop outcome.taken bytes)))

abbrev pub flight_answers : Craft → List ℕ → List ℕ
flight_answers craft bytes = answers (length bytes) craft bytes
