-- What an answer's bytes say at document 01's places, as the type `AnswerBytes`. proofs/Laws/AnswerBytes.antt proves it; Total.antt has the bytes of a
-- refusal. Assumes nothing.
use Rattle.std.specs.Prelude.{ℕ, ◌/◌, ◌%◌, ◌≡◌, List, [], ◌∷◌, eqb, length}
use Rattle.wind.specs.declared.estimate.WindEstimate.{WindEstimate}
use Rattle.copter.specs.declared.commands.Flags.{Flags}
use Rattle.copter.specs.declared.commands.AttitudeSetpoint.{AttitudeSetpoint}
use Rattle.copter.specs.declared.commands.BodyRateSetpoint.{BodyRateSetpoint}
use Rattle.records.specs.declared.answer.Answer.TheVariants as answers
use Rattle.records.specs.Answer.{answer_bytes}
use Rattle.records.specs.Layout.{byte_at, float_at, number, Fit}

-- bit 0 tilt saturated, bit 1 thrust saturated, bit 2 idle, and no other bit
pub record FlagsIn (byte : ℕ) (flags : Flags) : Type 0 where
  pub tilt : eqb (byte % 2) 1 ≡ flags.tilt
  pub thrust : eqb (byte / 2 % 2) 1 ≡ flags.thrust
  pub idle : eqb (byte / 4) 1 ≡ flags.idle
  pub no_other : byte / 8 ≡ 0

pub record AttitudeIn (bytes : List ℕ) (s : AttitudeSetpoint) (flags : Flags) : Type 0 where
  pub size : length bytes ≡ 18
  pub kind : byte_at bytes 0 ≡ 1
  pub roll : float_at bytes 1 ≡ s.roll_rad
  pub pitch : float_at bytes 5 ≡ s.pitch_rad
  pub heading : float_at bytes 9 ≡ s.heading_rad
  pub thrust : float_at bytes 13 ≡ s.thrust
  pub said : FlagsIn (byte_at bytes 17) flags

pub record BodyRateIn (bytes : List ℕ) (s : BodyRateSetpoint) (flags : Flags) : Type 0 where
  pub size : length bytes ≡ 18
  pub kind : byte_at bytes 0 ≡ 2
  pub roll : float_at bytes 1 ≡ s.roll_radps
  pub pitch : float_at bytes 5 ≡ s.pitch_radps
  pub yaw : float_at bytes 9 ≡ s.yaw_radps
  pub thrust : float_at bytes 13 ≡ s.thrust
  pub said : FlagsIn (byte_at bytes 17) flags

pub record WindIn (bytes : List ℕ) (w : WindEstimate) : Type 0 where
  pub size : length bytes ≡ 25
  pub kind : byte_at bytes 0 ≡ 6
  pub x : float_at bytes 1 ≡ w.velocity_mps.x
  pub y : float_at bytes 5 ≡ w.velocity_mps.y
  pub m00 : float_at bytes 9 ≡ w.covariance_m2ps2.m00
  pub m01 : float_at bytes 13 ≡ w.covariance_m2ps2.m01
  pub m10 : float_at bytes 17 ≡ w.covariance_m2ps2.m10
  pub m11 : float_at bytes 21 ≡ w.covariance_m2ps2.m11

-- Where each float of an answer is one of 32 bits, it is read from its place.
pub record AnswerBytes : Type 0 where
  pub attitude : (s : AttitudeSetpoint) (flags : Flags) → Fit (number s.roll_rad ∷ number s.pitch_rad ∷ number s.heading_rad ∷ number s.thrust ∷ [])
      → AttitudeIn (answer_bytes (answers.Attitude s flags)) s flags
  pub body_rate : (s : BodyRateSetpoint) (flags : Flags) → Fit (number s.roll_radps ∷ number s.pitch_radps ∷ number s.yaw_radps ∷ number s.thrust ∷ [])
      → BodyRateIn (answer_bytes (answers.BodyRate s flags)) s flags
  pub done : answer_bytes answers.Done ≡ 4 ∷ []
  pub no_wind : answer_bytes answers.NoWind ≡ 5 ∷ []
  pub wind : (w : WindEstimate) →
      let v = w.velocity_mps in
      let c = w.covariance_m2ps2 in
      Fit (number v.x ∷ number v.y ∷ number c.m00 ∷ number c.m01 ∷ number c.m10 ∷ number c.m11 ∷ []) → WindIn (answer_bytes (answers.Wind w)) w
