-- The closing speed is 0 for a distance that is not positive, and with a positive finite deceleration it is a number and not negative, whatever the distance
-- and whatever p. Assumes nothing.
use mathlib.Core.Path.{◌≡◌, refl}
use mathlib.Core.Bool.{Bool, true, false, not, ◌||◌, and-false, cond}
use Prim.Native.Nat.{ℕ, zero as zeroℕ, suc}
use lib.Dec.{T, T_not, ltb, eqb, eqb-suc-zero}
use lib.Ieee.{Float, nan, inf, fin, Format, binary32, neg, add, sub, mul, div, lt, eq, le, fits, is_nan, of_bits}
use lib.Ieee.Bits.{is_true, is_false}
use lib.Ieee.Fits.{div-fits}
use lib.Ieee.Positive.{above}
use lib.Ieee.Scale.{finite}
use Rattle.floats.specs.Compare.{is_negative}
use Rattle.floats.specs.Ops.{◌⊖◌, ◌⊗◌, ◌⊘◌}
use Rattle.floats.specs.Sqrt.{sqrt}
use Rattle.floats.proofs.Laws.Order.{+0, number, le_numbers, lt_numbers, lt→le, lt_by, lt_le_trans, le_lt_trans, positive_above}
use Rattle.floats.proofs.Laws.Product.{void_product, void_quotient, mul_nan, div_nan, mul_sign, div_sign, mul_number, mul_nonneg, mul_mono, float_mul_comm}
use Rattle.floats.proofs.Laws.Product.{mul-one, div_one, div_anti, div_number, square_number, unlike_self, above_sign}
use Rattle.floats.proofs.Laws.Sum.{sub_pos}
use Rattle.floats.proofs.Laws.Sqrt.{sqrt_nonneg}
use Rattle.floats.proofs.Laws.Sqrt.Special.{above_of_lt}
use Rattle.math.specs.Math.{zero, one, two, braked_speed, shaped_closing_speed}
use Rattle.math.proofs.Laws.Cases.{cond_holds}
use Rattle.math.proofs.Laws.Limits.{zero_nonneg}

not_or : (a b : Bool) → T (not (a || b)) → T (not a) × T (not b)
not_or true b h = absurd h
not_or false b h = (tt, h)

-- ---- a product of two values above zero is a number and not negative, an infinity included

some_is_not_none : (n : ℕ) → T (ltb 0 n) → eqb n 0 ≡ false
some_is_not_none zeroℕ h = absurd h
some_is_not_none (suc n) h = eqb-suc-zero n

no_void_product : (x y : Float) → T (above x) → T (above y) → void_product x y ≡ false
no_void_product nan y p q = absurd p
no_void_product (inf s) nan p q = absurd q
no_void_product (inf s) (inf t) p q = refl
no_void_product (inf s) (fin true n d) p q = absurd q
no_void_product (inf s) (fin false n d) p q = some_is_not_none n q
no_void_product (fin true m e) y p q = absurd p
no_void_product (fin false m e) nan p q = absurd q
no_void_product (fin false m e) (inf t) p q = some_is_not_none m p
no_void_product (fin false m e) (fin t n d) p q = refl

product_number : (f : Format) (x y : Float) → T (lt +0 x) → T (lt +0 y) → T (number (mul f x y))
product_number f x y p q =
    let void = no_void_product x y (above_of_lt x p) (above_of_lt y q) in
    rw (mul_nan f x y, is_false (is_nan x) (lt_numbers +0 x p).1, is_false (is_nan y) (lt_numbers +0 y q).1, void) tt

product_nonneg : (f : Format) (x y : Float) → T (lt +0 x) → T (lt +0 y) → T (le +0 (mul f x y))
product_nonneg f x y p q = mul_nonneg f x y (lt→le +0 x p) (lt→le +0 y q) (product_number f x y p q)

-- ---- the distance within which the speed is linear

no_void_quotient : (x y : Float) → T (above x) → T (finite x) → void_quotient x y ≡ false
no_void_quotient nan y p q = absurd p
no_void_quotient (inf s) y p q = absurd q
no_void_quotient (fin true m e) y p q = absurd p
no_void_quotient (fin false m e) nan p q = refl
no_void_quotient (fin false m e) (inf t) p q = refl
no_void_quotient (fin false m e) (fin t n d) p q = rw (some_is_not_none m p) (and-false (eqb n 0))

quotient_number : (a s : Float) → T (lt +0 a) → T (finite a) → T (number s) → T (number (a ⊘ s))
quotient_number a s h f n =
    rw (div_nan binary32 a s, is_false (is_nan a) (lt_numbers +0 a h).1, is_false (is_nan s) n, no_void_quotient a s (above_of_lt a h) f) tt

-- accel / p², with p² as it is rounded: 0 and infinity included
quotient_by_square : (a p : Float) → T (lt +0 a) → T (finite a) → T (number p) → T (le +0 (a ⊘ (p ⊗ p)))
quotient_by_square a p h f n =
    let s = p ⊗ p in
    let ns = square_number binary32 p n in
    let nq = quotient_number a s h f ns in
    positive_above (a ⊘ s) nq (rw (div_sign binary32 a s nq, above_sign a h, mul_sign binary32 p p ns, unlike_self (is_negative p)) tt)

-- ---- the speed

doubled : (a : Float) → T (fits binary32 a) → T (lt zero a) → T (finite a) → T (lt zero (two ⊗ a))
unfolding le is_nan of_bits
doubled a p h f =
    lt_le_trans zero a (two ⊗ a) h
    (rw (float_mul_comm binary32 one a, mul-one binary32 a p) at
    (mul_mono binary32 one two a (lt→le zero a h) tt (mul_number binary32 one a tt f) (mul_number binary32 two a tt f)))

finite_below : (x y : Float) → T (le +0 x) → T (lt x y) → T (finite x)
unfolding le
finite_below nan y h l = absurd l
finite_below (inf true) y h l = absurd h
finite_below (inf false) nan h l = absurd l
finite_below (inf false) (inf t) h l = absurd l
finite_below (inf false) (fin t n d) h l = absurd l
finite_below (fin s m e) y h l = tt

half_below : (x : Float) → T (fits binary32 x) → T (le zero x) → T (finite x) → T (le (x ⊘ two) x)
unfolding le is_nan eq of_bits
half_below x p h f =
    rw (div_one binary32 x p) at (div_anti binary32 x one two h tt tt (div_number binary32 x one f tt tt) (div_number binary32 x two f tt tt))

-- a distance is not used up by half of a shorter one
left_over : (distance linear : Float) → T (fits binary32 distance) → T (fits binary32 linear) → T (le zero linear) → T (lt linear distance)
    → T (lt zero (distance ⊖ linear ⊘ two))
unfolding of_bits
left_over distance linear p q h l =
    sub_pos binary32 distance (linear ⊘ two) p (div-fits binary32 linear two)
    (le_lt_trans (linear ⊘ two) linear distance (half_below linear q h (finite_below linear distance h l)) l)

above_zero_by_tests : (x : Float) → T (not (is_nan x || le x zero)) → T (lt zero x)
unfolding is_nan of_bits
above_zero_by_tests x h =
    let t = not_or (is_nan x) (le x zero) h in lt_by zero x tt t.0 (T_not (le x zero) t.1)

abbrev Nonneg : Float → Type 0
Nonneg x = T (le zero x)

module _
    (distance p accel : Float)
    (fd : T (fits binary32 distance))
    (fa : T (fits binary32 accel))
    (d : T (lt zero distance))
    (a : T (lt zero accel))
    (f : T (finite accel))
  where
    root_nonneg : (x : Float) → T (lt zero x) → T (le zero (sqrt binary32 (two ⊗ accel ⊗ x)))
    unfolding of_bits
    root_nonneg x l = sqrt_nonneg binary32 (two ⊗ accel ⊗ x) (product_nonneg binary32 (two ⊗ accel) x (doubled accel fa a f) l)

    beyond_linear : T (le zero (accel ⊘ (p ⊗ p))) → T (not (le distance (accel ⊘ (p ⊗ p)))) → T (lt zero (distance ⊖ accel ⊘ (p ⊗ p) ⊘ two))
    beyond_linear q u =
        let linear = accel ⊘ (p ⊗ p) in
        left_over distance linear fd (div-fits binary32 accel (p ⊗ p)) q
        (lt_by linear distance (le_numbers zero linear q).1 (lt_numbers zero distance d).1 (T_not (le distance linear) u))

    shaped_nonneg : T (lt zero p)
        → Nonneg
        (cond (eq accel zero || le distance (accel ⊘ (p ⊗ p))) (p ⊗ distance)
        (sqrt binary32 (two ⊗ accel ⊗ (distance ⊖ accel ⊘ (p ⊗ p) ⊘ two))))
    unfolding of_bits
    shaped_nonneg l =
        let linear = accel ⊘ (p ⊗ p) in
        let rest = distance ⊖ linear ⊘ two in
        let q = quotient_by_square accel p a f (lt_numbers zero p l).1 in
        cond_holds Nonneg (eq accel zero || le distance linear) (λ u. product_nonneg binary32 p distance l d)
        (λ u. root_nonneg rest (beyond_linear q (not_or (eq accel zero) (le distance linear) u).1))

    pub braked_nonneg : T (le zero (braked_speed distance p accel))
    unfolding braked_speed
    braked_nonneg =
        cond_holds Nonneg (is_nan p || le p zero) (λ t. root_nonneg distance d) (λ t. shaped_nonneg (above_zero_by_tests p t))

-- ---- the closing speed

pub closing_of_no_distance : (distance p accel : Float) → T (is_nan distance || le distance zero) → shaped_closing_speed distance p accel ≡ zero
unfolding shaped_closing_speed
closing_of_no_distance distance p accel h = rw (is_true (is_nan distance || le distance zero) h)

-- so it is no NaN
pub closing_nonneg : (distance p accel : Float) → T (fits binary32 distance) → T (fits binary32 accel) → T (lt zero accel) → T (finite accel)
    → T (le zero (shaped_closing_speed distance p accel))
unfolding shaped_closing_speed
closing_nonneg distance p accel fd fa a f =
    rw (is_true (lt zero accel) a)
    (cond_holds Nonneg (is_nan distance || le distance zero) (λ t. zero_nonneg)
    (λ t. braked_nonneg distance p accel fd fa (above_zero_by_tests distance t) a f))

-- The deceleration has to be finite: at an infinite one and an infinite p the linear distance is infinity / infinity.
pub closing_at_infinity_is_nan : shaped_closing_speed one (inf false) (inf false) ≡ nan
unfolding shaped_closing_speed braked_speed sqrt sub add neg mul div le is_nan of_bits
closing_at_infinity_is_nan = refl
