-- The words of the guidance's own types: each field in turn. Assumes nothing.
use Rattle.std.specs.Prelude.{ℕ, List, ◌++◌, Float, to_bits, None}
use Rattle.std.specs.Float.{binary32}
use Rattle.std.specs.Int.{w32, to_le_bytes}
use Rattle.floats.specs.Bits.{le_bytes}
use Rattle.floats.specs.Ops.{f32}
use Rattle.math.specs.Vectors.{zeros}
use Rattle.math.specs.declared.vectors.Vec2.{Vec2}
use Rattle.math.specs.declared.vectors.Vec3.{Vec3}
use Rattle.lateral.specs.declared.LateralController.{LateralController}
use Rattle.heading.specs.declared.wind_heading.WindHeading.{WindHeading}
use Rattle.heading.specs.declared.leg_heading.Leg.{Leg}
use Rattle.heading.specs.declared.leg_heading.LegHeading.{LegHeading}
use Rattle.heading.specs.declared.hover_wind.HoverWind.{HoverWind}
use Rattle.wind.specs.declared.estimate.Matrix2.{Matrix2}
use Rattle.wind.specs.declared.estimate.WindEstimate.{WindEstimate}
use Rattle.wind.specs.declared.sample.Sample.{Sample}
use Rattle.wind.specs.declared.window.Window.{Window}
use Rattle.words.specs.Words.{flag, none_or}

abbrev pub number : ℕ → List ℕ
number n = to_le_bytes w32 n

abbrev pub float : Float → List ℕ
float x = le_bytes (to_bits binary32 x)

abbrev pub vec2 : Vec2 → List ℕ
vec2 v = float v.x ++ float v.y

abbrev pub vec3 : Vec3 → List ℕ
vec3 v = float v.x ++ float v.y ++ float v.z

abbrev pub matrix : Matrix2 → List ℕ
matrix m = float m.m00 ++ float m.m01 ++ float m.m10 ++ float m.m11

abbrev pub estimate : WindEstimate → List ℕ
estimate e = vec2 e.velocity_mps ++ matrix e.covariance_m2ps2

abbrev pub no_estimate : WindEstimate
no_estimate = record { velocity_mps = zeros; covariance_m2ps2 = record { m00 = f32 0; m01 = f32 0; m10 = f32 0; m11 = f32 0 } }

abbrev pub sample : Sample → List ℕ
sample s = vec2 s.specific_force_mps2 ++ vec2 s.ground_along_mps ++ vec2 s.axis_x ++ vec2 s.axis_y ++ float s.axial_mps

abbrev pub window : Window → List ℕ
window w =
    float w.elapsed_s ++ number w.ticks ++ sample w.sums

abbrev pub hover_wind : HoverWind → List ℕ
hover_wind w =
    none_or estimate no_estimate w.estimator.filter ++ window w.estimator.window ++ none_or float (f32 0) w.ground_altitude_m

abbrev pub wind_heading : WindHeading → List ℕ
wind_heading w =
    none_or float (f32 0) w.side ++ none_or float (f32 0) w.target_rad ++ none_or estimate no_estimate w.weighed

abbrev pub leg : Leg → List ℕ
leg l = vec2 l.to_m ++ none_or float (f32 0) l.bearing_rad

abbrev pub no_leg : Leg
no_leg = record { to_m = zeros; bearing_rad = None }

abbrev pub leg_heading : LegHeading → List ℕ
leg_heading h = none_or leg no_leg h.leg ++ float h.stuck_s ++ flag h.yielding ++ wind_heading h.wind

abbrev pub lateral : LateralController → List ℕ
lateral c =
    vec2 c.integrated_error ++ none_or vec2 zeros c.derivative.previous_error ++ none_or vec2 zeros c.shaped_velocity_mps
    ++ vec2 c.commanded_velocity_mps
