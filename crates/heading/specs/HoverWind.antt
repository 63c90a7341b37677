-- Wind memory and when it changes, from `HoverWind` of hover_wind.rs, without its pause. Assumes nothing.
use Rattle.std.specs.Prelude.{Bool, false, cond, T, Float, None, Option, Some}
use Rattle.std.specs.Float.Ieee.{lt}
use Rattle.std.specs.Float.Ieee.Scale.{finite}
use Rattle.floats.specs.Ops.{◌⊕◌}
use Rattle.wind.specs.declared.state.VehicleState.{VehicleState}
use Rattle.wind.specs.declared.drag.WindConfig.{WindConfig}
use Rattle.heading.specs.declared.hover_wind.HoverWind.{HoverWind}
use Rattle.wind.specs.declared.estimate.WindEstimate.{WindEstimate}
use Rattle.wind.specs.Wind as wind

-- ---- the ground

-- an altitude as the ground's, none where it is not finite
unfoldable pub latched : Float → Option Float
latched altitude = cond (finite altitude) (Some altitude) None

-- more than a height above the ground; with none remembered, never
unfoldable pub above : Option Float → Float → Float → Bool
above None height altitude = false
above (Some ground_m) height altitude = lt (ground_m ⊕ height) altitude

-- ---- wind memory: filter, window and remembered ground

unfoldable pub fresh : HoverWind
fresh = record { estimator = wind.fresh; ground_altitude_m = None }

unfoldable pub airborne : HoverWind → Float → VehicleState → Bool
unfolding above
airborne self height state = above self.ground_altitude_m height state.position_m.z

-- On the ground the altitude is remembered and the wind forgotten; in the air both are kept.
unfoldable pub prime : HoverWind → Float → VehicleState → HoverWind
prime self height state =
    cond (airborne self height state) self (record { estimator = wind.fresh; ground_altitude_m = latched state.position_m.z })

-- on the ground nothing changes
unfoldable pub update : HoverWind → Float → WindConfig → Float → VehicleState → HoverWind
update self dt config height state =
    cond (airborne self height state)
    (record { estimator = wind.update self.estimator dt config state; ground_altitude_m = self.ground_altitude_m })
    self

abbrev pub estimate : HoverWind → Option WindEstimate
estimate self = self.estimator.filter

-- ---- what is said of it

-- no ground, or a finite height
abbrev pub FiniteGround : Option Float → Type 0
FiniteGround None = Unit {0}
FiniteGround (Some height) = T (finite height)
