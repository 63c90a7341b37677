-- How the altitude target moves, from copter.rs. Assumes nothing.
use Rattle.std.specs.Prelude.{cond, Float, None, Option, Some}
use Rattle.std.specs.Float.{nan}
use Rattle.std.specs.Float.Ieee.{neg, lt}
use Rattle.std.specs.Float.Ieee.Scale.{finite}
use Rattle.floats.specs.Ops.{◌⊕◌, ◌⊖◌, ◌⊗◌}
use Rattle.floats.specs.MinMax.{min, max}
use Rattle.math.specs.Math.{zero, shaped_closing_speed}
use Rattle.altitude.specs.declared.AltitudeTarget.{AltitudeTarget}
use Rattle.copter.specs.declared.config.CopterGuidanceConfig.{CopterGuidanceConfig}
use Rattle.copter.specs.declared.descent.Descent.{Descent}
use Rattle.copter.specs.declared.descent.Descended.{Descended}

-- a target lowered by a step, but no further than the leash below the craft
unfoldable pub lowered : Float → Float → Float → Float → Float
lowered start step altitude leash = max (start ⊖ step) (altitude ⊖ leash)

-- From the remembered target; with none, from the craft's altitude at the craft's climb, a sink or a NaN counting as rest; none until that altitude is
-- finite.
unfoldable pub descent_start : Option Float → Float → Float → Float → Option Descent
descent_start None speed altitude climb =
    cond (finite altitude) (Some (record { start_m = altitude; speed_mps = neg (max climb zero) })) None
descent_start (Some start) speed altitude climb = Some (record { start_m = start; speed_mps = speed })

-- at most the last speed and what a climb is shed with, or a descent speeds up with, in dt
unfoldable pub ramped_descent : CopterGuidanceConfig → Float → Float → Float → Float
ramped_descent config dt limit speed =
    let accel = cond (lt speed zero) config.guidance.climb_decel_mps2 config.guidance.descent_accel_mps2 in
    min limit (speed ⊕ accel ⊗ dt)

-- the rate toward a waypoint a height below the target
unfoldable pub descent_rate : CopterGuidanceConfig → Float → Float
descent_rate config height =
    min (shaped_closing_speed height config.altitude.gains.p config.guidance.descent_accel_mps2) config.guidance.max_descent_mps

-- a height that is not finite is none
unfoldable pub finite_height : Float → Option Float
finite_height height = cond (finite height) (Some height) None

-- ---- a waypoint call

abbrev pub level_at : Float → AltitudeTarget
level_at height = record { altitude_m = height; velocity_mps = zero }

unfoldable pub toward : CopterGuidanceConfig → Float → Float → Float → Descent → AltitudeTarget
toward config dt waypoint altitude from =
    let rate = ramped_descent config dt (descent_rate config (from.start_m ⊖ waypoint)) from.speed_mps in
    let step = lowered from.start_m (rate ⊗ dt) altitude config.guidance.altitude_leash_m in
    cond (lt waypoint step)
    (record { altitude_m = step; velocity_mps = neg (min (descent_rate config (step ⊖ waypoint)) rate) })
    (level_at waypoint)

unfoldable pub descended_from : Option Descent → CopterGuidanceConfig → Float → Option Float → Float → Float → Descended
descended_from None config dt hold waypoint altitude = record { target = level_at waypoint; hold = hold; speed_mps = zero }
descended_from (Some from) config dt hold waypoint altitude =
    let target = toward config dt waypoint altitude from in
    record { target = target; hold = finite_height target.altitude_m; speed_mps = neg target.velocity_mps }

unfoldable pub descend_toward : CopterGuidanceConfig → Float → Option Float → Float → Float → Float → Float → Descended
unfolding descended_from
descend_toward config dt hold speed waypoint altitude climb =
    descended_from (descent_start hold speed altitude climb) config dt hold waypoint altitude

-- ---- a land call

-- the rate is remembered only with a finite target
unfoldable pub landing : Float → Float → Descended
landing height rate =
    let target : AltitudeTarget = record { altitude_m = height; velocity_mps = neg rate } in
    cond (finite height)
    (record { target = target; hold = Some height; speed_mps = rate })
    (record { target = target; hold = None; speed_mps = zero })

unfoldable pub landed_from : Option Descent → CopterGuidanceConfig → Float → Float → Float → Descended
landed_from None config dt speed altitude =
    let rate = ramped_descent config dt config.guidance.land_speed_mps speed in
    record { target = record { altitude_m = nan; velocity_mps = neg rate }; hold = None; speed_mps = zero }
landed_from (Some from) config dt speed altitude =
    let rate = ramped_descent config dt config.guidance.land_speed_mps from.speed_mps in
    landing (lowered from.start_m (rate ⊗ dt) altitude config.guidance.altitude_leash_m) rate

unfoldable pub land_descent : CopterGuidanceConfig → Float → Option Float → Float → Float → Float → Descended
unfolding landed_from
land_descent config dt hold speed altitude climb = landed_from (descent_start hold speed altitude climb) config dt speed altitude
