-- The rate divider, from rate_divider.rs. Assumes nothing.
use Rattle.std.specs.Prelude.{cond, T, Float, IfSome, None, Option, Some}
use Rattle.std.specs.Float.Ieee.{le}
use Rattle.floats.specs.Ops.{f32, ◌⊕◌, ◌⊖◌, ◌⊗◌}
use Rattle.math.specs.Math.{zero, half, one}
use Rattle.controllers.specs.declared.rate_divider.RateDivider.{RateDivider}
use Rattle.controllers.specs.declared.rate_divider.Paced.{Paced}

-- before the first run and after a reset
abbrev pub never_ran : RateDivider
never_ran = record { elapsed_s = None }

-- with the seconds since the last run
abbrev pub elapsed : Float → RateDivider
elapsed t = record { elapsed_s = Some t }

-- The first call is due with dt; later ones when elapsed ≥ period - 0.5 × dt, with elapsed.
unfoldable pub due_since : Option Float → Float → Float → Paced
due_since None dt period = record { divider = never_ran; due = Some dt }
due_since (Some before) dt period =
    let after = before ⊕ dt in
    record { divider = elapsed after; due = cond (le (period ⊖ half ⊗ dt) after) (Some after) None }

abbrev pub due : RateDivider → Float → Float → Paced
due divider = due_since divider.elapsed_s

-- the divider after a run, and with the last run forgotten
abbrev pub ran : RateDivider
ran = elapsed zero

abbrev pub reset : RateDivider
reset = never_ran

-- ---- what is said of it

-- 1/4,096 s, the shortest time step that is accepted
abbrev pub shortest : Float
shortest = f32 0x3980_0000

-- 16,777,216 s, which is 2 ^ 24
abbrev pub longest : Float
longest = f32 0x4B80_0000

-- a time step that document 01 accepts
pub record Accepted (dt : Float) : Type 0 where
  pub at_least : T (le shortest dt)
  pub at_most : T (le dt one)

abbrev pub Legal : Float → Type 0
Legal t = T (le shortest t) × T (le t longest)

abbrev pub Bounded : RateDivider → Type 0
Bounded divider = IfSome divider.elapsed_s (λ t. T (le zero t) × T (le t longest))
