-- The altitude target is none or a finite height. With none and no finite altitude a waypoint call flies level and a land call has a NaN target. The
-- descent speed is at most field 21 after a waypoint call and at most field 25 after a land call. Assumes nothing.
use Rattle.std.specs.Prelude.{None, Option, Some}
use mathlib.Core.Path.{◌≡◌}
use mathlib.Core.Bool.{not}
use lib.Dec.{T}
use lib.Ieee.{Float, nan, neg, of_bits, lt, eq, le}
use lib.Ieee.Bits.{is_false}
use lib.Ieee.Scale.{finite}
use Rattle.floats.specs.Ops.{f32, ◌⊖◌, ◌⊗◌}
use Rattle.floats.specs.MinMax.{min}
use Rattle.floats.proofs.Laws.Order.{number, finite→number, le_numbers, lt→le, float_le_trans, neg_neg}
use Rattle.floats.proofs.Laws.MinMax.{min_le_left, min_le_right}
use Rattle.math.specs.Math.{zero, shaped_closing_speed}
use Rattle.altitude.specs.declared.AltitudeTarget.{AltitudeTarget}
use Rattle.math.proofs.Laws.Cases.{cond_holds}
use Rattle.copter.specs.declared.config.CopterGuidanceConfig.{CopterGuidanceConfig}
use Rattle.copter.specs.declared.descent.Descent.{Descent}
use Rattle.copter.specs.declared.descent.Descended.{Descended}
use Rattle.controllers.specs.Checks.{check_positive}
use Rattle.controllers.proofs.Laws.Checks.{positive_is_above_zero_and_finite}
use Rattle.copter.specs.Config.{above_descending}
use Rattle.copter.specs.Descent.{lowered, descent_start, ramped_descent, descent_rate, finite_height, level_at}
use Rattle.copter.specs.Descent.{toward, descended_from, descend_toward, landing, landed_from, land_descent}
use Rattle.copter.specs.Calls.{NoneOrFinite}
use Rattle.copter.proofs.Laws.Config.{above_descending_is_above_touchdown}

-- ---- the target is none or a finite height

finite_height_is_finite : (height : Float) → NoneOrFinite (finite_height height)
unfolding finite_height
finite_height_is_finite height = cond_holds NoneOrFinite (finite height) (λ f. f) (λ _. tt)

landing_is_finite : (height rate : Float) → NoneOrFinite (landing height rate).hold
unfolding landing
landing_is_finite height rate = cond_holds (λ (d : Descended). NoneOrFinite d.hold) (finite height) (λ f. f) (λ _. tt)

module _ (config : CopterGuidanceConfig) (dt : Float) where
  descended_is_finite : (start : Option Descent) (hold : Option Float) (waypoint altitude : Float) → NoneOrFinite hold
      → NoneOrFinite (descended_from start config dt hold waypoint altitude).hold
  unfolding descended_from
  descended_is_finite None hold waypoint altitude h = h
  descended_is_finite (Some from) hold waypoint altitude h = finite_height_is_finite (toward config dt waypoint altitude from).altitude_m

  landed_is_finite : (start : Option Descent) (speed altitude : Float) → NoneOrFinite (landed_from start config dt speed altitude).hold
  unfolding landed_from
  landed_is_finite None speed altitude = tt
  landed_is_finite (Some from) speed altitude =
      let rate = ramped_descent config dt config.guidance.land_speed_mps from.speed_mps in
      landing_is_finite (lowered from.start_m (rate ⊗ dt) altitude config.guidance.altitude_leash_m) rate

  module _ (hold : Option Float) (speed altitude climb : Float) where
    pub waypoint_target_none_or_finite : (waypoint : Float) → NoneOrFinite hold
        → NoneOrFinite (descend_toward config dt hold speed waypoint altitude climb).hold
    unfolding descend_toward
    waypoint_target_none_or_finite waypoint h = descended_is_finite (descent_start hold speed altitude climb) hold waypoint altitude h

    -- after a land call it is, whatever it was before
    pub land_target_none_or_finite : NoneOrFinite (land_descent config dt hold speed altitude climb).hold
    unfolding land_descent
    land_target_none_or_finite = landed_is_finite (descent_start hold speed altitude climb) speed altitude

-- ---- with no target and no finite altitude

module _ (config : CopterGuidanceConfig) (dt speed altitude climb : Float) (unknown : T (not (finite altitude))) where
  pub waypoint_flies_level : (waypoint : Float)
      → descend_toward config dt None speed waypoint altitude climb ≡ record { target = level_at waypoint; hold = None; speed_mps = zero }
  unfolding descend_toward descent_start
  waypoint_flies_level waypoint = rw (is_false (finite altitude) unknown)

  pub land_has_nan_target : land_descent config dt None speed altitude climb
      ≡ record {
        target = record { altitude_m = nan; velocity_mps = neg (ramped_descent config dt config.guidance.land_speed_mps speed) };
        hold = None;
        speed_mps = zero;
      }
  unfolding land_descent descent_start
  land_has_nan_target = rw (is_false (finite altitude) unknown)

-- ---- the descent speed

-- -0.0, which is the speed of a level target
level_speed_below : (limit : Float) → T (lt zero limit) → T (le (neg zero) limit)
unfolding neg of_bits lt eq le
level_speed_below limit h = float_le_trans (neg zero) zero limit tt (lt→le zero limit h)

pub ramped_descent_at_most_limit : (config : CopterGuidanceConfig) (dt limit speed : Float) → T (number limit)
    → T (le (ramped_descent config dt limit speed) limit)
unfolding ramped_descent
ramped_descent_at_most_limit config dt limit speed n = min_le_left limit _ n

module _ (config : CopterGuidanceConfig) (kept : T (check_positive config.guidance.max_descent_mps)) where
  abbrev limit : Float
  limit = config.guidance.max_descent_mps

  positive : T (lt zero limit)
  positive = ((positive_is_above_zero_and_finite limit).0 kept).0

  pub rate_at_most_limit : (height : Float) → T (le (descent_rate config height) limit)
  unfolding descent_rate
  rate_at_most_limit height =
      min_le_right (shaped_closing_speed height config.altitude.gains.p config.guidance.descent_accel_mps2) limit
      (finite→number limit ((positive_is_above_zero_and_finite limit).0 kept).1)

  -- the lower of two rates
  slower_at_most_limit : (height rate : Float) → T (le (min (descent_rate config height) rate) limit)
  slower_at_most_limit height rate =
      let bound = rate_at_most_limit height in
      let own = descent_rate config height in
      float_le_trans (min own rate) own limit (min_le_left own rate (le_numbers own limit bound).0) bound

  toward_at_most_limit : (dt waypoint altitude : Float) (from : Descent)
      → T (le (neg (toward config dt waypoint altitude from).velocity_mps) limit)
  unfolding toward
  toward_at_most_limit dt waypoint altitude from =
      let rate = ramped_descent config dt (descent_rate config (from.start_m ⊖ waypoint)) from.speed_mps in
      let step = lowered from.start_m (rate ⊗ dt) altitude config.guidance.altitude_leash_m in
      cond_holds (λ (t : AltitudeTarget). T (le (neg t.velocity_mps) limit)) (lt waypoint step)
      (λ _. rw (neg_neg (min (descent_rate config (step ⊖ waypoint)) rate)) (slower_at_most_limit (step ⊖ waypoint) rate))
      (λ _. level_speed_below limit positive)

  descended_at_most_limit : (start : Option Descent) (dt : Float) (hold : Option Float) (waypoint altitude : Float)
      → T (le (descended_from start config dt hold waypoint altitude).speed_mps limit)
  unfolding descended_from
  descended_at_most_limit None dt hold waypoint altitude = lt→le zero limit positive
  descended_at_most_limit (Some from) dt hold waypoint altitude = toward_at_most_limit dt waypoint altitude from

  -- at most field 21
  pub waypoint_speed_capped : (dt : Float) (hold : Option Float) (speed waypoint altitude climb : Float)
      → T (le (descend_toward config dt hold speed waypoint altitude climb).speed_mps limit)
  unfolding descend_toward
  waypoint_speed_capped dt hold speed waypoint altitude climb =
      descended_at_most_limit (descent_start hold speed altitude climb) dt hold waypoint altitude

module _ (config : CopterGuidanceConfig) (kept : T (above_descending config.guidance.land_speed_mps)) where
  abbrev land_speed : Float
  land_speed = config.guidance.land_speed_mps

  rest_at_most_land_speed : T (le zero land_speed)
  unfolding of_bits lt eq le
  rest_at_most_land_speed =
      float_le_trans zero (f32 0x3E4C_CCCD) land_speed tt (lt→le (f32 0x3E4C_CCCD) land_speed ((above_descending_is_above_touchdown land_speed).0 kept).0)

  landing_at_most_land_speed : (height rate : Float) → T (le rate land_speed) → T (le (landing height rate).speed_mps land_speed)
  unfolding landing
  landing_at_most_land_speed height rate h =
      cond_holds (λ (d : Descended). T (le d.speed_mps land_speed)) (finite height) (λ _. h) (λ _. rest_at_most_land_speed)

  landed_at_most_land_speed : (start : Option Descent) (dt speed altitude : Float)
      → T (le (landed_from start config dt speed altitude).speed_mps land_speed)
  unfolding landed_from
  landed_at_most_land_speed None dt speed altitude = rest_at_most_land_speed
  landed_at_most_land_speed (Some from) dt speed altitude =
      let rate = ramped_descent config dt land_speed from.speed_mps in
      landing_at_most_land_speed (lowered from.start_m (rate ⊗ dt) altitude config.guidance.altitude_leash_m) rate
      (ramped_descent_at_most_limit config dt land_speed from.speed_mps (finite→number land_speed ((above_descending_is_above_touchdown land_speed).0 kept).1))

  -- at most field 25
  pub land_speed_capped : (dt : Float) (hold : Option Float) (speed altitude climb : Float)
      → T (le (land_descent config dt hold speed altitude climb).speed_mps land_speed)
  unfolding land_descent
  land_speed_capped dt hold speed altitude climb = landed_at_most_land_speed (descent_start hold speed altitude climb) dt speed altitude
