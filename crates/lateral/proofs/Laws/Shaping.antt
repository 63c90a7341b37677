-- The shaped velocity. Without a positive limit it is the demand, and nothing is remembered. Else it moves from the remembered velocity, at first
-- from the measured one, by a step towards the demand that is capped at the limit times the time step; where demand or measurement is not finite,
-- the demand passes through and what is remembered stays. Assumes nothing.
use Rattle.std.specs.Prelude.{None, Option, Some, unwrap_or}
use mathlib.Core.Path.{◌≡◌}
use mathlib.Core.Bool.{not, ◌&&◌}
use lib.Dec.{T}
use lib.Ieee.{Float, lt}
use lib.Ieee.Bits.{is_true, is_false}
use lib.Ieee.Scale.{finite}
use Rattle.floats.specs.Ops.{◌⊗◌, ◌⊘◌}
use Rattle.math.specs.Math.{zero, cap_magnitude, all_finite}
use Rattle.math.specs.Vectors.{zeros, plus, minus, times, over, norm}
use Rattle.math.specs.declared.vectors.Vec2.{Vec2}
use Rattle.math.proofs.Laws.Cap.{cap_keeps, cap_shortens, cap_of_no_length}
use Rattle.lateral.specs.declared.Shaping.{Shaping}
use Rattle.lateral.specs.Lateral.{shape}

-- the velocity reached from `from`
abbrev pub moved : Vec2 → Float → Float → Vec2 → Vec2
moved from max_accel dt demand = plus from (cap_magnitude (minus demand from) (max_accel ⊗ dt))

-- a call that moves the velocity from `from` to `to`
abbrev pub moving : Vec2 → Vec2 → Float → Shaping
moving from to dt = record { shaped_velocity_mps = Some to; commanded_mps = to; feedforward_mps2 = over (minus to from) dt }

-- a call that passes the demand through and remembers `shaped`
abbrev pub passing : Option Vec2 → Vec2 → Shaping
passing shaped demand = record { shaped_velocity_mps = shaped; commanded_mps = demand; feedforward_mps2 = zeros }

module _ (max_accel dt : Float) (demand measured : Vec2) where
  pub off_passes_demand : T (not (lt zero max_accel)) → (shaped : Option Vec2) → shape shaped max_accel dt demand measured ≡ passing None demand
  unfolding shape
  off_passes_demand h shaped = rw (is_false (lt zero max_accel) h)

  module _ (on : T (lt zero max_accel)) where
    pub not_finite_passes_demand : T (not (all_finite demand && all_finite measured)) → (shaped : Option Vec2)
        → shape shaped max_accel dt demand measured ≡ passing shaped demand
    unfolding shape
    not_finite_passes_demand h shaped = rw (is_true (lt zero max_accel) on, is_false (all_finite demand && all_finite measured) h)

    module _ (numbers : T (all_finite demand && all_finite measured)) where
      moves : (shaped : Option Vec2)
          → shape shaped max_accel dt demand measured ≡ moving (unwrap_or shaped measured) (moved (unwrap_or shaped measured) max_accel dt demand) dt
      unfolding shape
      moves shaped = rw (is_true (lt zero max_accel) on, is_true (all_finite demand && all_finite measured) numbers)

      pub starts_from_measured : shape None max_accel dt demand measured ≡ moving measured (moved measured max_accel dt demand) dt
      starts_from_measured = moves None

      pub goes_on_from_remembered : (v : Vec2) → shape (Some v) max_accel dt demand measured ≡ moving v (moved v max_accel dt demand) dt
      goes_on_from_remembered v = moves (Some v)

-- ---- the step

module _ (from : Vec2) (max_accel dt : Float) (demand : Vec2) where
  abbrev pub gap : Vec2
  gap = minus demand from

  pub near_gap_is_closed : T (finite (norm gap)) → T (not (lt (max_accel ⊗ dt) (norm gap))) → moved from max_accel dt demand ≡ plus from gap
  near_gap_is_closed f h = rw (cap_keeps gap (max_accel ⊗ dt) f h)

  pub far_gap_is_shortened : T (finite (norm gap)) → T (lt (max_accel ⊗ dt) (norm gap))
      → moved from max_accel dt demand ≡ plus from (times gap (max_accel ⊗ dt ⊘ norm gap))
  far_gap_is_shortened f h = rw (cap_shortens gap (max_accel ⊗ dt) f h)

  pub gap_of_no_length_stays : T (not (finite (norm gap))) → moved from max_accel dt demand ≡ plus from zeros
  gap_of_no_length_stays f = rw (cap_of_no_length gap (max_accel ⊗ dt) f)
