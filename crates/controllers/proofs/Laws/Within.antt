-- Numbers within a limit that a configuration may have: zero is one, and so is every number after `clamp_symmetric`. Assumes nothing.
use mathlib.Core.Path.{sym, subst}
use lib.Dec.{T}
use lib.Ieee.{Float, binary32, of_bits, neg, le}
use lib.Ieee.Scale.{finite}
use Rattle.floats.specs.Ops.{◌⊕◌}
use Rattle.floats.proofs.Laws.Order.{number, finite_between, neg_finite, le_numbers}
use Rattle.floats.proofs.Laws.Sum.{add_number, neg_nonneg}
use Rattle.math.specs.Math.{zero, clamp_symmetric}
use Rattle.math.proofs.Laws.Limits.{limit_kept, clamp_symmetric_within}
use Rattle.controllers.specs.Checks.{check_limit}
use Rattle.controllers.proofs.Laws.Checks.{limit_is_nonnegative_and_finite}

abbrev pub Within : Float → Float → Type 0
Within limit x = T (le (neg limit) x) × T (le x limit)

pub within→number : (limit x : Float) → Within limit x → T (number x)
within→number limit x w = (le_numbers x limit w.1).0

module _ (limit : Float) (allowed : T (check_limit limit)) where
  nonnegative : T (le zero limit)
  nonnegative = ((limit_is_nonnegative_and_finite limit).0 allowed).0

  pub within→finite : (x : Float) → Within limit x → T (finite x)
  within→finite x w =
      let f = ((limit_is_nonnegative_and_finite limit).0 allowed).1 in
      finite_between (neg limit) x limit (subst T (sym (neg_finite limit)) f) f w.0 w.1

  pub zero_within : Within limit zero
  unfolding of_bits
  zero_within = (neg_nonneg limit nonnegative, nonnegative)

  pub clamped_within : (x : Float) → T (number x) → Within limit (clamp_symmetric x limit)
  clamped_within x n = rw (limit_kept limit nonnegative) at (clamp_symmetric_within x limit n)

  pub sum_clamped_within : (x step : Float) → Within limit x → T (number step) → Within limit (clamp_symmetric (x ⊕ step) limit)
  sum_clamped_within x step w n = clamped_within (x ⊕ step) (add_number binary32 x step (within→finite x w) n)
