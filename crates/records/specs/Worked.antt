-- Document 01's "Worked flights, proved together", as one table: the type `WorkedFlights`, a field for each row. proofs/Laws/Worked.antt proves it. A float
-- is written by its bits, in hexadecimal, and the comment of its row has the number beside them; 0, 0.5, 1 and 2 have names. Assumes nothing.
use Rattle.std.specs.Prelude.{ℕ, ◌≤◌, ◌≡◌, true, false, List, [], ◌∷◌, ◌++◌, map, length, take, replicate, Float, None, Some}
use Rattle.std.specs.Float.{binary32, nan, inf}
use Rattle.std.specs.Float.Ieee.{neg, to_bits}
use Rattle.floats.specs.Ops.{f32}
use Rattle.floats.specs.Sqrt.{sqrt}
use Rattle.math.specs.Math.{zero, half, one, two, wrap_angle, tilt_boost, shaped_closing_speed, guard_sink, cap_magnitude}
use Rattle.math.specs.declared.vectors.Vec2.{Vec2}
use Rattle.math.specs.declared.vectors.Quaternion.{Quaternion}
use Rattle.controllers.specs.RateDivider.{due, ran}
use Rattle.controllers.specs.declared.rate_divider.RateDivider.{RateDivider}
use Rattle.controllers.specs.declared.rate_divider.Paced.{Paced}
use Rattle.altitude.specs.Altitude.{control}
use Rattle.altitude.specs.declared.AltitudeControllerConfig.{AltitudeControllerConfig}
use Rattle.altitude.specs.declared.AltitudeEstimate.{AltitudeEstimate}
use Rattle.altitude.specs.declared.AltitudeController.{AltitudeController}
use Rattle.copter.specs.Config.{defaults}
use Rattle.copter.specs.Descent.{lowered}
use Rattle.copter.specs.declared.memory.CopterGuidance.{CopterGuidance}
use Rattle.records.specs.declared.answer.Refusal.TheVariants.{TimeStep}
use Rattle.records.specs.Craft.{unconfigured}
use Rattle.records.specs.Layout.{float_at, Value, number, laid}
use Rattle.records.specs.Kinds.{state_start}
use Rattle.records.specs.Read.{state_at, time_step_ok, heading_ok}
use Rattle.records.specs.Step.{Refused, configured, answer_room, answered}
use Rattle.records.specs.Flight.{flight_answers}
use Rattle.records.specs.Feed.{Entry, Reply, outcome, replies, kind_byte, body_of, Accepted}

-- ---- how the rows are written

-- an attitude w, i, j, k
abbrev pub attitude : Float → Float → Float → Float → Quaternion
attitude w i j k = record { w = w; i = i; j = j; k = k }

abbrev pub vector : Float → Float → Vec2
vector x y = record { x = x; y = y }

-- W3: a divider's call with a period of 0.02 (3CA3D70A)
abbrev pub paced : RateDivider → Float → Paced
paced divider dt = due divider dt (f32 0x3CA3_D70A)

-- the first, second and third call after a run, with a dt of 1/128 (3C000000)
abbrev pub first : Paced
first = paced ran (f32 0x3C00_0000)

abbrev pub second : Paced
second = paced first.divider (f32 0x3C00_0000)

abbrev pub third : Paced
third = paced second.divider (f32 0x3C00_0000)

-- W9: a whole record of kind 6 with the time step t, and room for its answer
pub record CallWith (t : Float) (entry : Entry) : Type 0 where
  pub kind_six : kind_byte entry ≡ 6
  pub whole : 81 ≤ length entry.bytes
  pub room : answer_room ≤ length entry.buffer
  pub time_step : float_at (body_of entry) 0 ≡ t

-- every configured craft accepts it, with a heading that is not finite or at most 1,024 in size
abbrev pub CallAccepted : Float → Type 0
CallAccepted t = (g : CopterGuidance) (entry : Entry) → CallWith t entry → heading_ok (state_at (body_of entry) state_start).heading_rad ≡ true
    → Accepted (configured g) entry

-- every configured craft refuses it with number 2, takes its 81 bytes and is left as it was
abbrev pub CallRefused : Float → Type 0
CallRefused t = (g : CopterGuidance) (entry : Entry) → CallWith t entry
    → outcome (configured g) entry ≡ answered (configured g) (record { verdict = Refused TimeStep; taken = 81 }) entry.buffer

-- ---- the flight that the program runs

-- a record of a kind and of values, with an answer buffer of 25 zeros
abbrev pub sent : ℕ → List Value → Entry
sent kind values = record { bytes = kind ∷ laid values; buffer = replicate answer_room 0 }

-- the Rust's defaults, but 0 for the wind fields 42 to 50
unfoldable pub worked_fields : List Float
worked_fields = take 41 defaults ++ replicate 9 zero

unfoldable pub configuring : Entry
configuring = sent 1 (map number worked_fields)

-- a state of 15 floats, all 0
abbrev pub still : List Value
still = replicate 15 (number zero)

unfoldable pub priming : Entry
priming = sent 2 still

-- T 0.5, the state, and the command with a thrust of 0.5
unfoldable pub flying : ℕ → Entry
flying kind = sent kind ((number half ∷ []) ++ still ++ (number zero ∷ number zero ∷ number zero ∷ number half ∷ []))

unfoldable pub flight : List Entry
flight = configuring ∷ priming ∷ flying 6 ∷ sent 4 [] ∷ []

-- the flight as a file
unfoldable pub file : List Entry → List ℕ
file [] = []
file (entry ∷ entries) = entry.bytes ++ file entries

-- the bytes written, answer after answer
unfoldable pub output : List Reply → List ℕ
output [] = []
output (reply ∷ rest) = take reply.written reply.buffer ++ output rest

-- what the program writes
unfoldable pub worked_answers : List ℕ
worked_answers =
    (0x04 ∷ [])  -- done
    ++ (0x04 ∷ [])  -- done
    -- the setpoint with its flags
    ++ (0x01 ∷ 0x00 ∷ 0x00 ∷ 0x00 ∷ 0x00 ∷ 0x00 ∷ 0x00 ∷ 0x00 ∷ 0x00 ∷ 0x00 ∷ 0x00 ∷ 0x00 ∷ 0x00 ∷ 0x00 ∷ 0x00 ∷ 0x00 ∷ 0x3F ∷ 0x00 ∷ [])
    ++ (0x03 ∷ 0x04 ∷ 0x00 ∷ [])  -- the refusal

-- ---- the table

pub record WorkedFlights : Type 0 where
  -- W1 wrap 0 is 0.
  pub w1 : wrap_angle zero ≡ zero
  -- W2 boost upright is 1; i = 1, others 0: 0; i NaN: 1.
  pub w2 : record {
    upright : tilt_boost (attitude one zero zero zero) ≡ one;
    upside_down : tilt_boost (attitude zero one zero zero) ≡ zero;
    not_a_number : (w j k : Float) → tilt_boost (attitude w nan j k) ≡ one;
  }
  -- W3 period 0.02 after a run: dt 1/64 (3C800000) due with 1/64; dt 1/128 due on the third call with 3/128 (3CC00000).
  pub w3 : record {
    at_once : (paced ran (f32 0x3C80_0000)).due ≡ Some (f32 0x3C80_0000);
    not_on_first : first.due ≡ None;
    not_on_second : second.due ≡ None;
    on_third : third.due ≡ Some (f32 0x3CC0_0000);
  }
  -- W4 NaN altitude target: hover, integral as before.
  pub w4 : (self : AltitudeController) (config : AltitudeControllerConfig) (dt velocity : Float) (estimate : AltitudeEstimate)
      → control self config dt (record { altitude_m = nan; velocity_mps = velocity }) estimate
      ≡ record { controller = self; thrust = config.hover_thrust }
  -- W5 closing speed, acceleration 2: p 1, distance 5 (40A00000) is 4 (40800000); distance 2 is 2; p 0, distance 4 is 4.
  pub w5 : record {
    by_root : shaped_closing_speed (f32 0x40A0_0000) one two ≡ f32 0x4080_0000;
    by_line : shaped_closing_speed two one two ≡ two;
    without_p : shaped_closing_speed (f32 0x4080_0000) zero two ≡ f32 0x4080_0000;
  }
  -- W6 sink guard, thrust 0.5, limit 2, gain 0.25 (3E800000): climb -3 (C0400000) is 0.75 (3F400000); climb -2 none.
  pub w6 : record {
    past_limit : guard_sink half (f32 0xC040_0000) two (f32 0x3E80_0000) ≡ Some (f32 0x3F40_0000);
    at_limit : guard_sink half (neg two) two (f32 0x3E80_0000) ≡ None;
  }
  -- W7 cap (3, 4): at 5 (40A00000) unchanged, at 2.5 (40200000) (1.5, 2); (infinity, 0) gives (0, 0). 3 is 40400000, 4 is 40800000, 1.5 is 3FC00000.
  pub w7 : record {
    at_length : cap_magnitude (vector (f32 0x4040_0000) (f32 0x4080_0000)) (f32 0x40A0_0000) ≡ vector (f32 0x4040_0000) (f32 0x4080_0000);
    at_half_length : cap_magnitude (vector (f32 0x4040_0000) (f32 0x4080_0000)) (f32 0x4020_0000) ≡ vector (f32 0x3FC0_0000) two;
    of_infinity : (limit : Float) → cap_magnitude (vector (inf false) zero) limit ≡ vector zero zero;
  }
  -- W8 lowered from 100 (42C80000) by 1, leash 1: altitude 98 (42C40000) gives 99 (42C60000), altitude 105 (42D20000) gives 104 (42D00000).
  pub w8 : record {
    by_step : lowered (f32 0x42C8_0000) one (f32 0x42C4_0000) one ≡ f32 0x42C6_0000;
    to_leash : lowered (f32 0x42C8_0000) one (f32 0x42D2_0000) one ≡ f32 0x42D0_0000;
  }
  -- W9 dt 1/4,096 (39800000) and 1 accepted, the floats just outside (397FFFFF, 3F800001) refused: by the check, and by a whole record of kind 6.
  pub w9 : record {
    least : (time_step_ok (f32 0x3980_0000) ≡ true) × CallAccepted (f32 0x3980_0000);
    most : (time_step_ok one ≡ true) × CallAccepted one;
    below_least : (time_step_ok (f32 0x397F_FFFF) ≡ false) × CallRefused (f32 0x397F_FFFF);
    above_most : (time_step_ok (f32 0x3F80_0001) ≡ false) × CallRefused (f32 0x3F80_0001);
  }
  -- W10 root of 2 has bits 3FB504F3 (hexadecimal).
  pub w10 : to_bits binary32 (sqrt binary32 two) ≡ 0x3FB5_04F3
  -- Run by the program, output whole: record by record, and what is written for the file.
  pub run : output (replies unconfigured flight) ≡ worked_answers
  pub run_file : flight_answers unconfigured (file flight) ≡ worked_answers
