-- An answer's bytes say what document 01's places say: `answer_bytes_say`. Assumes nothing.
use mathlib.Core.Path.{refl}
use mathlib.Core.Bool.{Bool, true, false}
use mathlib.Core.List.{[], ◌∷◌}
use Rattle.wind.specs.declared.estimate.WindEstimate.{WindEstimate}
use Rattle.copter.specs.declared.commands.Flags.{Flags}
use Rattle.copter.specs.declared.commands.AttitudeSetpoint.{AttitudeSetpoint}
use Rattle.copter.specs.declared.commands.BodyRateSetpoint.{BodyRateSetpoint}
use Rattle.records.specs.declared.answer.Answer.TheVariants as answers
use Rattle.records.specs.Answer.{flag_bits, setpoint_bytes, answer_bytes}
use Rattle.records.specs.Layout.{number, mark, Fit, laid}
use Rattle.records.specs.AnswerBytes.{FlagsIn, AttitudeIn, BodyRateIn, WindIn, AnswerBytes}
use Rattle.records.proofs.Laws.Layout.{float_back}

flags_in : (tilt thrust idle : Bool) →
    let flags : Flags = record { tilt = tilt; thrust = thrust; idle = idle } in
    FlagsIn (flag_bits flags) flags
flags_in false false false = record { tilt = refl; thrust = refl; idle = refl; no_other = refl }
flags_in false false true = record { tilt = refl; thrust = refl; idle = refl; no_other = refl }
flags_in false true false = record { tilt = refl; thrust = refl; idle = refl; no_other = refl }
flags_in false true true = record { tilt = refl; thrust = refl; idle = refl; no_other = refl }
flags_in true false false = record { tilt = refl; thrust = refl; idle = refl; no_other = refl }
flags_in true false true = record { tilt = refl; thrust = refl; idle = refl; no_other = refl }
flags_in true true false = record { tilt = refl; thrust = refl; idle = refl; no_other = refl }
flags_in true true true = record { tilt = refl; thrust = refl; idle = refl; no_other = refl }

-- Each float is read from its place behind the floats before it.
attitude_in : (s : AttitudeSetpoint) (flags : Flags) → Fit (number s.roll_rad ∷ number s.pitch_rad ∷ number s.heading_rad ∷ number s.thrust ∷ [])
    → AttitudeIn (answer_bytes (answers.Attitude s flags)) s flags
unfolding setpoint_bytes answer_bytes laid
attitude_in s flags fit =
    record {
      size = refl;
      kind = refl;
      roll = float_back s.roll_rad fit.0 (laid (mark 1 ∷ [])) _;
      pitch = float_back s.pitch_rad fit.1.0 (laid (mark 1 ∷ number s.roll_rad ∷ [])) _;
      heading = float_back s.heading_rad fit.1.1.0 (laid (mark 1 ∷ number s.roll_rad ∷ number s.pitch_rad ∷ [])) _;
      thrust = float_back s.thrust fit.1.1.1.0 (laid (mark 1 ∷ number s.roll_rad ∷ number s.pitch_rad ∷ number s.heading_rad ∷ [])) _;
      said = flags_in flags.tilt flags.thrust flags.idle;
    }

body_rate_in : (s : BodyRateSetpoint) (flags : Flags) → Fit (number s.roll_radps ∷ number s.pitch_radps ∷ number s.yaw_radps ∷ number s.thrust ∷ [])
    → BodyRateIn (answer_bytes (answers.BodyRate s flags)) s flags
unfolding setpoint_bytes answer_bytes laid
body_rate_in s flags fit =
    record {
      size = refl;
      kind = refl;
      roll = float_back s.roll_radps fit.0 (laid (mark 2 ∷ [])) _;
      pitch = float_back s.pitch_radps fit.1.0 (laid (mark 2 ∷ number s.roll_radps ∷ [])) _;
      yaw = float_back s.yaw_radps fit.1.1.0 (laid (mark 2 ∷ number s.roll_radps ∷ number s.pitch_radps ∷ [])) _;
      thrust = float_back s.thrust fit.1.1.1.0 (laid (mark 2 ∷ number s.roll_radps ∷ number s.pitch_radps ∷ number s.yaw_radps ∷ [])) _;
      said = flags_in flags.tilt flags.thrust flags.idle;
    }

wind_in : (w : WindEstimate) →
    let v = w.velocity_mps in
    let c = w.covariance_m2ps2 in
    Fit (number v.x ∷ number v.y ∷ number c.m00 ∷ number c.m01 ∷ number c.m10 ∷ number c.m11 ∷ []) → WindIn (answer_bytes (answers.Wind w)) w
unfolding answer_bytes laid
wind_in w fit =
    let v = w.velocity_mps in
    let c = w.covariance_m2ps2 in
    record {
      size = refl;
      kind = refl;
      x = float_back v.x fit.0 (laid (mark 6 ∷ [])) _;
      y = float_back v.y fit.1.0 (laid (mark 6 ∷ number v.x ∷ [])) _;
      m00 = float_back c.m00 fit.1.1.0 (laid (mark 6 ∷ number v.x ∷ number v.y ∷ [])) _;
      m01 = float_back c.m01 fit.1.1.1.0 (laid (mark 6 ∷ number v.x ∷ number v.y ∷ number c.m00 ∷ [])) _;
      m10 = float_back c.m10 fit.1.1.1.1.0 (laid (mark 6 ∷ number v.x ∷ number v.y ∷ number c.m00 ∷ number c.m01 ∷ [])) _;
      m11 = float_back c.m11 fit.1.1.1.1.1.0 (laid (mark 6 ∷ number v.x ∷ number v.y ∷ number c.m00 ∷ number c.m01 ∷ number c.m10 ∷ [])) _;
    }

pub answer_bytes_say : AnswerBytes
unfolding answer_bytes
answer_bytes_say = record { attitude = attitude_in; body_rate = body_rate_in; done = refl; no_wind = refl; wind = wind_in }
