-- What may be missing, as a flag, 0 where it is, and a value. Assumes nothing.
use Rattle.std.specs.Prelude.{ℕ, ◌+◌, cond, List, Float, None, Option, Some}
use Rattle.std.specs.Float.Ieee.{eq}
use Rattle.math.specs.Math.{zero, one}
use Rattle.math.specs.Vectors.{zeros}
use Rattle.math.specs.declared.vectors.Vec2.{Vec2}
use Rattle.wind.specs.declared.estimate.WindEstimate.{WindEstimate}
use Rattle.heading.specs.declared.leg_heading.Leg.{Leg}
use Rattle.control_c.specs.declared.memory.Held.{Held}
use Rattle.control_c.specs.Places.{at, vec2}

unfoldable pub given : {T : Type 0} → Held T → Option T
given held = cond (eq held.flag zero) None (Some held.value)

unfoldable pub held : {T : Type 0} → Option T → T → Held T
held None missing = record { flag = zero; value = missing }
held (Some value) missing = record { flag = one; value = value }

-- the wind estimate that stands where there is none
abbrev pub no_estimate : WindEstimate
no_estimate = record { velocity_mps = zeros; covariance_m2ps2 = record { m00 = zero; m01 = zero; m10 = zero; m11 = zero } }

-- ---- where they stand in an array

-- a wind estimate's six numbers from a place on
abbrev pub estimate : List Float → ℕ → WindEstimate
estimate l k =
    record {
      velocity_mps = vec2 l k (k + 1);
      covariance_m2ps2 = record { m00 = at l (k + 2); m01 = at l (k + 3); m10 = at l (k + 4); m11 = at l (k + 5) };
    }

-- the value after the flag that stands at a place
abbrev pub given_from : {T : Type 0} → (List Float → ℕ → T) → List Float → ℕ → Option T
given_from value l k = given (record { flag = at l k; value = value l (k + 1) })

abbrev pub number_from : List Float → ℕ → Option Float
number_from = given_from at

abbrev pub vector_from : List Float → ℕ → Option Vec2
vector_from = given_from (λ l k. vec2 l k (k + 1))

abbrev pub estimate_from : List Float → ℕ → Option WindEstimate
estimate_from = given_from estimate

-- a leg's four numbers from a place on: its waypoint, and its direction, which may be missing
abbrev pub leg : List Float → ℕ → Leg
leg l k = record { to_m = vec2 l k (k + 1); bearing_rad = number_from l (k + 2) }
