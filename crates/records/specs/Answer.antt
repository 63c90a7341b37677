-- Document 01's number of each answer and of each refusal, and the bytes of an answer. Assumes nothing.
use Rattle.std.specs.Prelude.{ℕ, ◌+◌, Bool, true, false, cond, List, [], ◌∷◌, ◌++◌, eqb, Float, None, Option, Some}
use Rattle.copter.specs.declared.commands.Flags.{Flags}
use Rattle.records.specs.declared.answer.Refusal.{Refusal}
use Rattle.records.specs.declared.answer.Refusal.TheVariants.{Field, TimeStep, Heading, Rate, Kind, Short, NotConfigured, Mark, NoRoom}
use Rattle.records.specs.declared.answer.Answer.{Answer}
use Rattle.records.specs.declared.answer.Answer.TheVariants.{Attitude, BodyRate, Refused, Done, NoWind, Wind}
use Rattle.records.specs.Layout.{float_bytes}

abbrev pub is_none : Option Refusal → Bool
is_none None = true
is_none (Some refusal) = false

abbrev pub number : Refusal → ℕ
number (Field field) = 1
number TimeStep = 2
number Heading = 3
number Rate = 4
number Kind = 5
number Short = 6
number NotConfigured = 7
number Mark = 8
number NoRoom = 9

-- the field of refusal 1, and 0 in every other
abbrev pub field_of : Refusal → ℕ
field_of (Field field) = field
field_of TimeStep = 0
field_of Heading = 0
field_of Rate = 0
field_of Kind = 0
field_of Short = 0
field_of NotConfigured = 0
field_of Mark = 0
field_of NoRoom = 0

-- the refusal that an answer is, or none
abbrev pub refusal_of : Answer → Option Refusal
refusal_of (Refused refusal) = Some refusal
refusal_of (Attitude setpoint flags) = None
refusal_of (BodyRate setpoint flags) = None
refusal_of Done = None
refusal_of NoWind = None
refusal_of (Wind estimate) = None

-- no refusal
abbrev pub accepted : Answer → Bool
accepted answer = is_none (refusal_of answer)

-- bit 0 tilt saturated, bit 1 thrust saturated, bit 2 idle
abbrev pub flag_bits : Flags → ℕ
flag_bits flags = cond flags.tilt 1 0 + cond flags.thrust 2 0 + cond flags.idle 4 0

-- The bytes of an answer: its kind, and then its values.

-- a kind, four floats and the flags
unfoldable pub setpoint_bytes : ℕ → Float → Float → Float → Float → Flags → List ℕ
setpoint_bytes kind w x y z flags = (kind ∷ []) ++ float_bytes w ++ float_bytes x ++ float_bytes y ++ float_bytes z ++ (flag_bits flags ∷ [])

-- refusal 9 writes none
unfoldable pub refusal_bytes : Refusal → List ℕ
refusal_bytes refusal = cond (eqb (number refusal) 9) [] (3 ∷ number refusal ∷ field_of refusal ∷ [])

unfoldable pub answer_bytes : Answer → List ℕ
unfolding refusal_bytes
answer_bytes (Attitude s flags) = setpoint_bytes 1 s.roll_rad s.pitch_rad s.heading_rad s.thrust flags
answer_bytes (BodyRate s flags) = setpoint_bytes 2 s.roll_radps s.pitch_radps s.yaw_radps s.thrust flags
answer_bytes (Refused refusal) = refusal_bytes refusal
answer_bytes Done = 4 ∷ []
answer_bytes NoWind = 5 ∷ []
answer_bytes (Wind w) =
    (6 ∷ []) ++ float_bytes w.velocity_mps.x ++ float_bytes w.velocity_mps.y ++ float_bytes w.covariance_m2ps2.m00
    ++ float_bytes w.covariance_m2ps2.m01
    ++ float_bytes w.covariance_m2ps2.m10
    ++ float_bytes w.covariance_m2ps2.m11
