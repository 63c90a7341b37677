-- What sets the flag of a thrust, when a throttle is idle, and when a craft counts as sinking. A piloted thrust is in [0, 1], and a navigated one is a NaN or from the floor to 1.
-- Assumes nothing.
use Rattle.std.specs.Prelude.{None, Option, Some}
use mathlib.Core.Path.{◌≡◌, refl}
use mathlib.Core.Bool.{Bool, true, false, not, cond, ◌&&◌, ◌||◌}
use mathlib.Core.Logic.{inl, inr}
use lib.Dec.{T}
use lib.Ieee.{Float, binary32, nan, is_nan, fits, neg, of_bits, lt, le}
use lib.Ieee.Bits.{is_true, is_false}
use Rattle.floats.specs.Ops.{◌⊖◌, ◌⊗◌}
use Rattle.floats.specs.MinMax.{max}
use Rattle.floats.proofs.Laws.Order.{nan_left, nan_right, le_numbers, lt_numbers, lt→le, float_le_refl, lt_not_le, le_not_lt}
use Rattle.floats.proofs.Laws.Special.{is_nan_lem}
use Rattle.math.specs.Math.{zero, one, tilt_boost, guard_sink}
use Rattle.math.specs.declared.vectors.Quaternion.{Quaternion}
use Rattle.math.proofs.Laws.Cases.{by_test, cond_holds}
use Rattle.math.proofs.Laws.Limits.{saturate_throttle_in_unit}
use Rattle.math.proofs.Laws.Thrust.{excess_positive}
use Rattle.altitude.specs.Altitude.{control}
use Rattle.altitude.specs.declared.AltitudeControllerConfig.{AltitudeControllerConfig}
use Rattle.altitude.specs.declared.AltitudeTarget.{AltitudeTarget}
use Rattle.altitude.specs.declared.AltitudeEstimate.{AltitudeEstimate}
use Rattle.altitude.specs.declared.AltitudeController.{AltitudeController}
use Rattle.altitude.proofs.Laws.Thrust.{NanOrUnit, thrust_nan_or_unit}
use Rattle.copter.specs.declared.config.ThrustLimits.{ThrustLimits}
use Rattle.copter.specs.declared.config.CopterGuidanceConfig.{CopterGuidanceConfig}
use Rattle.copter.specs.declared.thrust.Thrust.{Thrust}
use Rattle.copter.specs.declared.thrust.PilotedThrust.{PilotedThrust}
use Rattle.copter.specs.Config.{below_one}
use Rattle.controllers.specs.Checks.{check_unit_interval}
use Rattle.copter.specs.Thrust.{clip_thrust, boost, floor_thrust, guarded_by, guarded, hold_piloted, hold_absolute, boosted}
use Rattle.copter.specs.Guide.{navigated_thrust}
use Rattle.copter.specs.Calls.{NanOrFrom}
use Rattle.copter.proofs.Laws.Config.{below_one_is_zero_to_below_one}

-- ---- what sets the flag

flag_by_test : (b : Bool) (x y : Float)
    → (cond {A = Thrust} b (record { value = x; saturated = true }) (record { value = y; saturated = false })).saturated ≡ b
flag_by_test true x y = refl
flag_by_test false x y = refl

-- one of two bounds is crossed, by De Morgan
outside : (a b : Bool) → not a || not b ≡ not (a && b) && true
outside true true = refl
outside true false = refl
outside false b = refl

-- the test of the source: outside [0, 1] and no NaN
pub clip_flags_outside_unit : (thrust : Float) → (clip_thrust thrust).saturated ≡ not (le zero thrust && le thrust one) && not (is_nan thrust)
unfolding clip_thrust is_nan of_bits
clip_flags_outside_unit thrust =
    by_test (is_nan thrust)
    (λ n. rw (is_nan_lem thrust (is_true (is_nan thrust) n), (nan_left zero).0, (nan_right one).0, (nan_right zero).2))
    (λ n. rw (lt_not_le thrust zero n tt, lt_not_le one thrust tt n, is_false (is_nan thrust) n) (outside (le zero thrust) (le thrust one)))

pub boost_flags_above_ceiling : (throttle ceiling : Float) (attitude : Quaternion)
    → (boost throttle attitude ceiling).saturated ≡ lt (max ceiling throttle) (throttle ⊗ tilt_boost attitude)
unfolding boost
boost_flags_above_ceiling throttle ceiling attitude =
    flag_by_test (lt (max ceiling throttle) (throttle ⊗ tilt_boost attitude)) (max ceiling throttle) (throttle ⊗ tilt_boost attitude)

pub boosted_flags_either : (throttle ceiling : Float) (attitude : Quaternion)
    → (boosted throttle attitude ceiling).saturated
    ≡ (boost throttle attitude ceiling).saturated || (clip_thrust (boost throttle attitude ceiling).value).saturated
unfolding boosted
boosted_flags_either throttle ceiling attitude = refl

pub floor_flags_below : (thrust least : Float) → (floor_thrust thrust least).saturated ≡ lt thrust least
unfolding floor_thrust
floor_flags_below thrust least = flag_by_test (lt thrust least) least thrust

-- the limit is on, and the craft sinks faster
abbrev pub sinks_past : Float → ThrustLimits → Bool
sinks_past climb limits = lt zero limits.sink_limit_mps && lt zero (neg limits.sink_limit_mps ⊖ climb)

guard_by_flag : (b : Bool) (v : Float) (thrust : Thrust) → (guarded_by (cond b (Some v) None) thrust).saturated ≡ b || thrust.saturated
unfolding guarded_by
guard_by_flag true v thrust = refl
guard_by_flag false v thrust = refl

pub guard_flags_sink : (thrust : Thrust) (climb : Float) (limits : ThrustLimits)
    → (guarded thrust climb limits).saturated ≡ sinks_past climb limits || thrust.saturated
unfolding guarded guard_sink
guard_flags_sink thrust climb limits = guard_by_flag (sinks_past climb limits) _ thrust

-- of floats that the format holds, the difference is positive where the climb is below minus the limit
pub sinks_past_limit : (climb : Float) (limits : ThrustLimits) → T (fits binary32 climb) → T (fits binary32 limits.sink_limit_mps)
    → sinks_past climb limits ≡ lt zero limits.sink_limit_mps && lt climb (neg limits.sink_limit_mps)
sinks_past_limit climb limits p q = rw (excess_positive climb limits.sink_limit_mps p q)

pub navigated_flags_bounds_and_floor : (linear least : Float)
    → (navigated_thrust linear least).saturated ≡ le linear zero || le one linear || lt linear least
unfolding navigated_thrust
navigated_flags_bounds_and_floor linear least = rw (floor_flags_below linear least)

-- ---- a piloted thrust

held_by_test : (b s h : Bool) (v w : Float)
    → (cond {A = PilotedThrust} b (record { value = v; saturated = s || h; idle = false }) (record { value = w; saturated = s; idle = true })).saturated
    ≡ s || b && h
held_by_test true s h v w = refl
held_by_test false true h v w = refl
held_by_test false false h v w = refl

idle_by_test : (b s t : Bool) (v w : Float)
    → (cond {A = PilotedThrust} b (record { value = v; saturated = s; idle = false }) (record { value = w; saturated = t; idle = true })).idle ≡ not b
idle_by_test true s t v w = refl
idle_by_test false s t v w = refl

abbrev pub InUnit : Float → Type 0
InUnit x = T (le zero x) × T (le x one)

module _ (throttle : Float) (thrust : Thrust) (climb idle : Float) (limits : ThrustLimits) where
  -- whatever the boost made of it
  pub idle_by_raw_throttle : (hold_piloted throttle thrust climb idle limits).idle ≡ not (lt idle throttle)
  unfolding hold_piloted
  idle_by_raw_throttle = idle_by_test (lt idle throttle) _ _ _ _

  pub idle_passes_thrust : T (not (lt idle throttle))
      → hold_piloted throttle thrust climb idle limits ≡ record { value = thrust.value; saturated = thrust.saturated; idle = true }
  unfolding hold_piloted
  idle_passes_thrust h = rw (is_false (lt idle throttle) h)

  -- beyond what boost and clip flag: the floor and the sink guard, of a throttle that is not idle
  pub piloted_flags_floor_and_sink : (hold_piloted throttle thrust climb idle limits).saturated
      ≡ thrust.saturated || lt idle throttle && (sinks_past climb limits || lt thrust.value limits.min_thrust)
  unfolding hold_piloted
  piloted_flags_floor_and_sink =
      rw (
        guard_flags_sink (floor_thrust thrust.value limits.min_thrust) climb limits,
        floor_flags_below thrust.value limits.min_thrust,
      )
      (held_by_test (lt idle throttle) thrust.saturated (sinks_past climb limits || lt thrust.value limits.min_thrust) _ _)

pub nan_throttle_is_idle : (thrust : Thrust) (climb idle : Float) (limits : ThrustLimits) → (hold_piloted nan thrust climb idle limits).idle ≡ true
nan_throttle_is_idle thrust climb idle limits = rw (idle_by_raw_throttle nan thrust climb idle limits, (nan_right idle).0)

pub absolute_idle_by_raw_thrust : (thrust climb : Float) (config : CopterGuidanceConfig)
    → (hold_absolute thrust climb config).idle ≡ not (lt config.guidance.idle_throttle thrust)
unfolding hold_absolute
absolute_idle_by_raw_thrust thrust climb config =
    idle_by_raw_throttle thrust (clip_thrust thrust) climb config.guidance.idle_throttle config.thrust

-- ---- a piloted thrust is in [0, 1]

clipped_in_unit : (thrust : Float) → InUnit (clip_thrust thrust).value
unfolding clip_thrust
clipped_in_unit thrust = saturate_throttle_in_unit thrust

floored_in_unit : (thrust least : Float) → InUnit thrust → T (below_one least) → InUnit (floor_thrust thrust least).value
unfolding floor_thrust
floored_in_unit thrust least u r =
    let floor = (below_one_is_zero_to_below_one least).0 r in
    cond_holds (λ (t : Thrust). InUnit t.value) (lt thrust least) (λ _. (floor.0, lt→le least one floor.1)) (λ _. u)

guarded_in_unit : (thrust : Thrust) (climb : Float) (limits : ThrustLimits) → InUnit thrust.value → InUnit (guarded thrust climb limits).value
unfolding guarded guarded_by guard_sink
guarded_in_unit thrust climb limits u =
    cond_holds (λ (g : Option Float). InUnit (guarded_by g thrust).value) (sinks_past climb limits) (λ _. saturate_throttle_in_unit _) (λ _. u)

piloted_in_unit : (throttle : Float) (thrust : Thrust) (climb idle : Float) (limits : ThrustLimits)
    → InUnit thrust.value → T (below_one limits.min_thrust) → InUnit (hold_piloted throttle thrust climb idle limits).value
unfolding hold_piloted
piloted_in_unit throttle thrust climb idle limits u r =
    cond_holds (λ (h : PilotedThrust). InUnit h.value) (lt idle throttle)
    (λ _. guarded_in_unit (floor_thrust thrust.value limits.min_thrust) climb limits
    (floored_in_unit thrust.value limits.min_thrust u r))
    (λ _. u)

pub stick_thrust_in_unit : (throttle ceiling climb idle : Float) (attitude : Quaternion) (limits : ThrustLimits) → T (below_one limits.min_thrust)
    → InUnit (hold_piloted throttle (boosted throttle attitude ceiling) climb idle limits).value
unfolding boosted
stick_thrust_in_unit throttle ceiling climb idle attitude limits =
    piloted_in_unit throttle (boosted throttle attitude ceiling) climb idle limits (clipped_in_unit (boost throttle attitude ceiling).value)

pub absolute_thrust_in_unit : (thrust climb : Float) (config : CopterGuidanceConfig) → T (below_one config.thrust.min_thrust)
    → InUnit (hold_absolute thrust climb config).value
unfolding hold_absolute
absolute_thrust_in_unit thrust climb config =
    piloted_in_unit thrust (clip_thrust thrust) climb config.guidance.idle_throttle config.thrust (clipped_in_unit thrust)

-- ---- a navigated thrust is a NaN or from the floor to 1

floor_of_nan : (least : Float) → (floor_thrust nan least).value ≡ nan
unfolding floor_thrust
floor_of_nan least = rw (nan_left least).0

floored_from_floor : (thrust least : Float) → InUnit thrust → T (lt least one)
    → T (le least (floor_thrust thrust least).value) × T (le (floor_thrust thrust least).value one)
unfolding floor_thrust
floored_from_floor thrust least u h =
    let n = (lt_numbers least one h).0 in
    cond_holds (λ (t : Thrust). T (le least t.value) × T (le t.value one)) (lt thrust least)
    (λ _. (float_le_refl least n, lt→le least one h))
    (λ k. (rw (le_not_lt least thrust n (le_numbers thrust one u.1).0) k, u.1))

pub navigated_nan_or_from_floor : (linear least : Float) → NanOrUnit linear → T (below_one least)
    → NanOrFrom least (navigated_thrust linear least).value
unfolding navigated_thrust
navigated_nan_or_from_floor linear least (inl e) r = inl (rw (e, floor_of_nan least))
navigated_nan_or_from_floor linear least (inr u) r = inr (floored_from_floor linear least u ((below_one_is_zero_to_below_one least).0 r).1)

-- the altitude loop's thrust is as asked, where the hover thrust keeps its rule
pub controlled_nan_or_from_floor : (self : AltitudeController) (config : AltitudeControllerConfig) (dt : Float) (target : AltitudeTarget)
    (estimate : AltitudeEstimate) (least : Float)
    → T (check_unit_interval config.hover_thrust) → T (below_one least)
    → NanOrFrom least (navigated_thrust (control self config dt target estimate).thrust least).value
controlled_nan_or_from_floor self config dt target estimate least h r =
    navigated_nan_or_from_floor (control self config dt target estimate).thrust least (thrust_nan_or_unit self config dt target estimate h) r
