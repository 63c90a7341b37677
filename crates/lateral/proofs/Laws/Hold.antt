-- Against a limit of zero, or one with a NaN in it, the integral is not held: the step is added whole. Assumes nothing.
use mathlib.Core.Path.{◌≡◌}
use lib.Dec.{T, not_T}
use lib.Ieee.{Float, binary32, of_bits, lt, eq, fits}
use lib.Ieee.Bits.{is_false}
use lib.Ieee.Fits.{mul-fits}
use Rattle.floats.specs.Ops.{◌⊕◌, ◌⊗◌}
use Rattle.floats.proofs.Laws.Order.{number, +0, lt_numbers, lt_excludes, float_le_trans, float_le_antisymm, eq→le, eq→ge}
use Rattle.floats.proofs.Laws.Sum.{add_numbers, add_nonneg, add_le}
use Rattle.floats.proofs.Laws.Product.{mul_numbers, mul_zero_right}
use Rattle.math.specs.Math.{zero}
use Rattle.math.specs.Vectors.{zeros, plus, dot}
use Rattle.math.specs.declared.vectors.Vec2.{Vec2}
use Rattle.lateral.specs.Lateral.{hold_against_limit}
use Rattle.lateral.proofs.Laws.Vectors.{Numbers}

zeros_sum : (a b : Float) → T (fits binary32 a) → T (eq a +0) → T (eq b +0) → T (number (a ⊕ b)) → T (eq (a ⊕ b) +0)
zeros_sum a b f h k n =
    float_le_antisymm (a ⊕ b) +0 (float_le_trans (a ⊕ b) a +0 (add_le binary32 a b f (eq→le b +0 k) n) (eq→le a +0 h))
    (add_nonneg binary32 a b (eq→ge a +0 h) (eq→ge b +0 k))

module _ (integral step : Vec2) (i : Float) where
  not_held : (limit : Vec2) → (T (lt zero (i ⊗ dot step limit)) → ⊥) → hold_against_limit integral step i limit ≡ plus integral step
  unfolding hold_against_limit
  not_held limit never = rw (is_false (lt zero (i ⊗ dot step limit)) (not_T (lt zero (i ⊗ dot step limit)) never))

  -- where the test for a hold passes, the products of step and limit are numbers
  products : (limit : Vec2) → T (lt zero (i ⊗ dot step limit)) → T (number (step.x ⊗ limit.x)) × T (number (step.y ⊗ limit.y))
  products limit h =
      add_numbers binary32 (step.x ⊗ limit.x) (step.y ⊗ limit.y) (mul_numbers binary32 i (dot step limit) (lt_numbers zero (i ⊗ dot step limit) h).1).1

  pub nan_limit_never_holds : (limit : Vec2) → (Numbers limit → ⊥) → hold_against_limit integral step i limit ≡ plus integral step
  nan_limit_never_holds limit never =
      not_held limit (λ h. never ((mul_numbers binary32 step.x limit.x (products limit h).0).1, (mul_numbers binary32 step.y limit.y (products limit h).1).1))

  pub zero_limit_never_holds : hold_against_limit integral step i zeros ≡ plus integral step
  unfolding of_bits eq
  zero_limit_never_holds = not_held zeros (λ h. lt_excludes zero (i ⊗ dot step zeros) h (eq→le (i ⊗ dot step zeros) +0 (no_product h)))
    where
      no_product : T (lt zero (i ⊗ dot step zeros)) → T (eq (i ⊗ dot step zeros) +0)
      no_product h =
          let n = (lt_numbers zero (i ⊗ dot step zeros) h).1 in
          let p = products zeros h in
          mul_zero_right binary32 i (dot step zeros)
          (zeros_sum (step.x ⊗ zero) (step.y ⊗ zero) (mul-fits binary32 step.x zero)
          (mul_zero_right binary32 step.x zero tt p.0) (mul_zero_right binary32 step.y zero tt p.1) (mul_numbers binary32 i (dot step zeros) n).1)
          n
