-- A closing speed that reaches its limit, told by their squares where the limit has a plain square. Assumes nothing.
use Rattle.std.proofs.Common.{lit<}
use mathlib.Core.Path.{◌≡◌, sym, ◌∙◌}
use mathlib.Core.Logic.{⊎_elim}
use mathlib.Core.Bool.{true, false}
use lib.Dec.{T, not_T}
use Rattle.std.proofs.lemmas.Float.{T_from_true}
use lib.Ieee.{Float, binary32, lt, le, eq, fits, is_nan, of_bits}
use lib.Ieee.Bits.{is_false}
use lib.Ieee.Fits.{mul-fits}
use Rattle.floats.specs.Ops.{◌⊖◌, ◌⊗◌, ◌⊘◌}
use Rattle.floats.specs.MinMax.{min}
use Rattle.floats.specs.Sqrt.{sqrt}
use Rattle.floats.proofs.Laws.Order.{le_numbers, lt_numbers, lt_excludes, le_or_lt, lt_le_trans, float_le_antisymm, eq→same_nonzero}
use Rattle.floats.proofs.Laws.MinMax.{min_left, min_right}
use Rattle.floats.proofs.Laws.Sqrt.{sqrt_fits}
use Rattle.floats.proofs.Laws.Sqrt.Square.{lowest}
use Rattle.floats.proofs.Laws.Sqrt.Limit.{root_at_least}
use Rattle.math.specs.Math.{zero, two, braked_speed, shaped_closing_speed}
use Rattle.math.specs.Inner.{has_plain_square, limited_closing_speed}
use Rattle.math.proofs.Laws.Length.{plain_in_range}
use Rattle.math.proofs.Laws.Limits.{positive_not_zero}

-- what is at least a positive limit is limited to it
min_of_reached : (x limit : Float) → T (fits binary32 x) → T (fits binary32 limit) → T (lt zero limit) → T (le limit x) → min x limit ≡ limit
unfolding of_bits
min_of_reached x limit fx fl p h =
    let n = le_numbers limit x h in
    ⊎_elim
    (λ l. min_left x limit l ∙ sym (eq→same_nonzero binary32 limit x fl fx (float_le_antisymm limit x h l) (positive_not_zero limit p)))
    (λ l. min_right x limit l) (le_or_lt x limit n.1 n.0)

not_up_to : (x y : Float) → lt x y ≡ true → le y x ≡ false
not_up_to x y h = is_false (le y x) (not_T (le y x) (lt_excludes x y (T_from_true (lt x y) h)))

is_number : (x : Float) → lt zero x ≡ true → is_nan x ≡ false
is_number x h = is_false (is_nan x) (lt_numbers zero x (T_from_true (lt zero x) h)).1

module _ (distance p accel : Float) (d : lt zero distance ≡ true) (q : lt zero p ≡ true) (a : lt zero accel ≡ true) (beyond : lt (accel ⊘ (p ⊗ p)) distance ≡ true) where
  abbrev square : Float
  square = two ⊗ accel ⊗ (distance ⊖ accel ⊘ (p ⊗ p) ⊘ two)

  -- past the linear distance the speed is the root
  closing_is_root : shaped_closing_speed distance p accel ≡ sqrt binary32 square
  unfolding shaped_closing_speed braked_speed
  closing_is_root =
      rw (
        is_number distance d,
        not_up_to zero distance d,
        a,
        is_number p q,
        not_up_to zero p q,
        is_false (eq accel zero) (positive_not_zero accel (T_from_true (lt zero accel) a)),
        not_up_to (accel ⊘ (p ⊗ p)) distance beyond,
      )

  pub told_reached : (limit : Float) → fits binary32 limit ≡ true → has_plain_square limit ≡ true → le (limit ⊗ limit) square ≡ true
      → limited_closing_speed distance p accel limit ≡ limit
  unfolding limited_closing_speed of_bits le lt eq
  told_reached limit fit plain h =
      let fl = T_from_true (fits binary32 limit) fit in
      let within = plain_in_range limit plain in
      let reached = root_at_least binary32 60 (lit< tt) limit fl within square (T_from_true (le (limit ⊗ limit) square) h) in
      rw closing_is_root
      (min_of_reached (sqrt binary32 square) limit (sqrt_fits binary32 square (mul-fits binary32 (two ⊗ accel) (distance ⊖ accel ⊘ (p ⊗ p) ⊘ two))) fl
      (lt_le_trans zero (lowest 60) limit tt within.at_least) reached)
