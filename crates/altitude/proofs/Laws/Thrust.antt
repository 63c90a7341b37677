-- The thrust of altitude control can be a NaN, and is a NaN or in [0, 1] with a hover thrust that a configuration may have. Assumes nothing.
use mathlib.Core.Path.{◌≡◌, refl}
use mathlib.Core.Logic.{◌⊎◌, inl, inr}
use lib.Dec.{T}
use lib.Ieee.{Float, nan, of_bits, add, sub, mul, div, lt, eq, le}
use Rattle.floats.specs.Ops.{f32}
use Rattle.floats.specs.MinMax.{clamp}
use Rattle.floats.proofs.Laws.Order.{lt→le}
use Rattle.floats.proofs.Laws.MinMax.{clamp_cases}
use Rattle.math.specs.Math.{zero, half, one}
use Rattle.math.specs.declared.vectors.Quaternion.{Quaternion}
use Rattle.controllers.specs.Checks.{check_unit_interval}
use Rattle.controllers.proofs.Laws.Checks.{unit_interval_is_above_zero_to_one}
use Rattle.altitude.specs.declared.AltitudeControllerConfig.{AltitudeControllerConfig}
use Rattle.altitude.specs.declared.AltitudeTarget.{AltitudeTarget}
use Rattle.altitude.specs.declared.AltitudeEstimate.{AltitudeEstimate}
use Rattle.altitude.specs.declared.AltitudeController.{AltitudeController}
use Rattle.altitude.specs.declared.AltitudeControl.{AltitudeControl}
use Rattle.altitude.specs.Altitude.{thrust, control}
use Rattle.math.proofs.Laws.Cases.{cond_holds}
use Rattle.altitude.proofs.Laws.NotFinite.{finite_errors}

-- A NaN is reached from finite numbers, and the clamp keeps it: gains p and d of 3e38 (7F61B1E6), altitude target 5 at altitude 3, climb 5.
pub nan_thrust_of_finite_input : (self : AltitudeController) (dt i max_integral band : Float) (attitude : Quaternion)
    → (control self
    (record {
      gains = record { p = f32 0x7F61_B1E6; i = i; d = f32 0x7F61_B1E6 };
      max_integral = max_integral;
      hover_thrust = half;
      integration_band_m = band;
    })
    dt (record { altitude_m = f32 0x40A0_0000; velocity_mps = zero })
    (record { altitude_m = f32 0x4040_0000; velocity_mps = f32 0x40A0_0000; attitude = attitude })).thrust
    ≡ nan
unfolding control thrust clamp of_bits sub add mul div lt
nan_thrust_of_finite_input self dt i max_integral band attitude = refl

abbrev pub NanOrUnit : Float → Type 0
NanOrUnit x = (x ≡ nan) ⊎ (T (le zero x) × T (le x one))

clamp_nan_or_unit : (x : Float) → NanOrUnit (clamp x zero one)
unfolding of_bits le lt eq
clamp_nan_or_unit x = clamp_cases x zero one tt NanOrUnit inl (λ _. inr (tt, tt)) (λ _. inr (tt, tt)) (λ low high. inr (low, high))

pub thrust_nan_or_unit : (self : AltitudeController) (config : AltitudeControllerConfig) (dt : Float) (target : AltitudeTarget) (estimate : AltitudeEstimate)
    → T (check_unit_interval config.hover_thrust) → NanOrUnit (control self config dt target estimate).thrust
unfolding control thrust
thrust_nan_or_unit self config dt target estimate h =
    let hover = (unit_interval_is_above_zero_to_one config.hover_thrust).0 h in
    cond_holds (λ (r : AltitudeControl). NanOrUnit r.thrust) (finite_errors target estimate)
    (λ _. clamp_nan_or_unit _)
    (λ _. inr (lt→le zero config.hover_thrust hover.0, hover.1))
