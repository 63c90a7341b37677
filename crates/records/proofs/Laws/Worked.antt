-- Document 01's worked flights hold of the definitions: `worked_flights`, one theorem for the one table of specs/Worked.antt. W1 to W8 and W10 are laws of the
-- crates below. Assumes nothing.
use Rattle.records.specs.declared.answer.Refusal.{Refusal}
use Rattle.records.specs.declared.read.Input.{Input}
use Rattle.std.specs.Prelude.{Some, Result}
use Prim.Native.Nat.{ℕ, suc, ◌≤◌}
use mathlib.Core.Path.{◌≡◌, refl, ap, ◌∙◌}
use mathlib.Core.Bool.{true, false}
use mathlib.Core.List.{List, [], map}
use native.Mathlib.Omega.{arith}
use lib.Dec.{lit≤}
use lib.Ieee.{Float, le, of_bits}
use Rattle.floats.specs.Ops.{f32}
use Rattle.floats.proofs.Laws.Sqrt.{sqrt_two_bits}
use Rattle.math.specs.Math.{one}
use Rattle.math.proofs.Laws.Worked as math
use Rattle.controllers.proofs.Laws.Worked as controllers
use Rattle.altitude.proofs.Laws.Worked as altitude
use Rattle.copter.proofs.Laws.Worked as copter
use Rattle.copter.specs.Config.{defaults}
use Rattle.copter.specs.Guide.{absolute_attitude_call, guide_call}
use Rattle.copter.specs.declared.memory.CopterGuidance.{CopterGuidance}
use Rattle.records.specs.declared.kinds.Call.TheVariants as calls
use Rattle.records.specs.declared.kinds.InFlight.TheVariants as flights
use Rattle.records.specs.Craft.{unconfigured}
use Rattle.records.specs.Layout.{size, Value, number, parts_of}
use Rattle.records.specs.Kinds.{kind_of, layout, body_length}
use Rattle.records.specs.Read.{command, time_step_ok, read}
use Rattle.records.specs.Step.{configured, setpoint_answer, guided, perform, told, answer_of, answered}
use Rattle.records.specs.Feed.{Entry, outcome, kind_byte, body_of}
use Rattle.records.specs.Total.{last_kind}
use Rattle.records.specs.Worked.{CallWith, CallAccepted, CallRefused, sent, worked_fields, configuring, priming, flying, flight, WorkedFlights}
use Rattle.records.proofs.Laws.Layout.{laid_size}
use Rattle.records.proofs.Laws.Counts.{unknown, Complete, complete_told}
use Rattle.records.proofs.Laws.Total.{total}
use Rattle.records.proofs.Laws.Flight.{Whole, AllWhole, file_as_feed}
use Rattle.records.proofs.Laws.Examples.{examples}

-- ---- W9

module _ (t : Float) (g : CopterGuidance) (entry : Entry) (with_t : CallWith t entry) where
  abbrev said : Result Input Refusal
  said = read (flights.Call calls.AbsoluteAttitude) (body_of entry)

  -- A whole record of kind 6 is told to the craft.
  told_as_call : outcome (configured g) entry ≡ answered (configured g) (record { verdict = told (Some g) said; taken = 81 }) entry.buffer
  unfolding kind_of
  told_as_call =
      let six = total.numbered.absolute_attitude in
      let kind = ap kind_of with_t.kind_six in
      let eighty : body_length (kind_of (kind_byte entry)) ≡ 80 =
      ap (λ (byte : ℕ). body_length (kind_of byte)) with_t.kind_six ∙ ap body_length six.says ∙ six.follow in
      let complete : Complete entry.bytes entry.buffer =
      record { is_known = ap unknown kind; whole = omega (arith, with_t.whole); room = with_t.room } in
      complete_told (configured g) entry.bytes entry.buffer complete (flights.Call calls.AbsoluteAttitude) kind
      ∙ ap (λ (n : ℕ). answered (configured g) (record { verdict = told (Some g) said; taken = suc n }) entry.buffer) eighty

call_accepted : (t : Float) → time_step_ok t ≡ true → CallAccepted t
unfolding answered answer_of told read command perform guided guide_call absolute_attitude_call setpoint_answer
call_accepted t in_time g entry with_t headed = rw (told_as_call t g entry with_t, with_t.time_step, in_time, headed) tt

call_refused : (t : Float) → time_step_ok t ≡ false → CallRefused t
unfolding told read command
call_refused t late g entry with_t = told_as_call t g entry with_t ∙ rw (with_t.time_step, late)

least_ok : time_step_ok (f32 0x3980_0000) ≡ true
unfolding time_step_ok le of_bits
least_ok = refl

most_ok : time_step_ok one ≡ true
unfolding time_step_ok le of_bits
most_ok = refl

below_least_late : time_step_ok (f32 0x397F_FFFF) ≡ false
unfolding time_step_ok le of_bits
below_least_late = refl

above_most_late : time_step_ok (f32 0x3F80_0001) ≡ false
unfolding time_step_ok le of_bits
above_most_late = refl

-- ---- the flight as a file

-- The values of a kind's layout, sent, are a whole record.
sent_whole : (kind : ℕ) (values : List Value) → 1 ≤ kind → kind ≤ last_kind → parts_of values ≡ layout (kind_of kind) → Whole (sent kind values)
unfolding body_length
sent_whole kind values low high laid_out =
    record { from_one = low; to_last = high; exact = ap suc (laid_size values ∙ ap size laid_out); blank = refl }

flight_whole : AllWhole flight
unfolding flight configuring priming flying worked_fields defaults kind_of
flight_whole = (
  sent_whole 1 (map number worked_fields) (lit≤ tt) (lit≤ tt) refl,
  (sent_whole 2 _ (lit≤ tt) (lit≤ tt) refl, (sent_whole 6 _ (lit≤ tt) (lit≤ tt) refl, (sent_whole 4 [] (lit≤ tt) (lit≤ tt) refl, tt))),
)

-- ---- the table

pub worked_flights : WorkedFlights
worked_flights =
    record {
      w1 = math.wrap_of_zero;
      w2 = record { upright = math.boost_upright; upside_down = math.boost_upside_down; not_a_number = math.boost_of_nan };
      w3 =
          record {
            at_once = controllers.due_at_once;
            not_on_first = (controllers.due_on_third_call).0;
            not_on_second = (controllers.due_on_third_call).1;
            on_third = (controllers.due_on_third_call).2;
          };
      w4 = altitude.nan_target_hovers;
      w5 = record { by_root = math.closing_by_root; by_line = math.closing_by_line; without_p = math.closing_without_p };
      w6 = record { past_limit = math.guard_past_limit; at_limit = math.guard_at_limit };
      w7 = record { at_length = math.cap_at_length; at_half_length = math.cap_at_half_length; of_infinity = math.cap_of_infinity };
      w8 = record { by_step = copter.lowered_by_step; to_leash = copter.lowered_to_leash };
      w9 =
          record {
            least = (least_ok, call_accepted (f32 0x3980_0000) least_ok);
            most = (most_ok, call_accepted one most_ok);
            below_least = (below_least_late, call_refused (f32 0x397F_FFFF) below_least_late);
            above_most = (above_most_late, call_refused (f32 0x3F80_0001) above_most_late);
          };
      w10 = sqrt_two_bits;
      run = examples.flight_answered;
      run_file = file_as_feed unconfigured flight flight_whole ∙ examples.flight_answered;
    }
