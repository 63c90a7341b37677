-- sinf and cosf: what they give for a NaN, the infinities and the zeros, that each result is an `f32`, results of libm, and one form for two that the
-- definitions choose between by a comparison. Assumes nothing.
use Rattle.std.proofs.Common.{◌≡◌, ◌+◌, ◌%◌, arith, ℕ, Bool, true, false, cond, not, T, ◌⊎◌, List, [], ◌∷◌, map, pos, sym, refl, ap, ◌∙◌, subst, inl, inr, ⊎_elim}
use lib.Ieee.{Float, nan, inf, fin, Format, binary32, binary64, fits, is_nan, of_bits, to_bits, lt, le, eq, add, sub, mul, neg}
use lib.Ieee.Bits.{is_true, of_bits-fits}
use lib.Ieee.Fits.{neg-fits, cond-fits}
use Rattle.floats.specs.Ops.{f32, ◌⊞◌, ◌⊟◌}
use Rattle.floats.specs.Compare.{abs, is_negative}
use Rattle.floats.specs.Narrow.{convert}
use Rattle.floats.specs.SinCos.{turns, pio2_times_1, pio2_times_3, negative, k_sinf, k_cosf, by_quadrant, quadrant, rem_pio2f, sinf_near, sinf_far, sinf_reduced, sinf, cosf_near, cosf_far, cosf_reduced, cosf}
use Rattle.floats.proofs.Laws.Order.{number, +0, -0, le_or_lt, lt_not_le, float_le_antisymm, float_le_trans, eq→le, zeros_equal, eq→same, positive_above, negative_below, neg_neg}
use Rattle.floats.proofs.Laws.Round.{zero_fits, convert_in_format}
use Rattle.floats.proofs.Laws.Sum.{float_add_comm, add-zero}

-- ---- a NaN
pub sinf_nan : sinf nan ≡ nan
unfolding sinf sinf_reduced by_quadrant quadrant rem_pio2f k_sinf k_cosf convert of_bits to_bits abs lt eq le add sub mul neg
sinf_nan = refl

pub cosf_nan : cosf nan ≡ nan
unfolding cosf cosf_reduced by_quadrant quadrant rem_pio2f k_sinf k_cosf convert of_bits to_bits abs lt eq le add sub mul neg
cosf_nan = refl

-- ---- no quarter turn more
quadrant_mod : (n : ℕ) → (n % 4 + 0) % 4 ≡ n % 4
quadrant_mod n = omega arith

pub no_turn : (x : Float) → by_quadrant ((quadrant x + 0) % 4) (rem_pio2f x) ≡ sinf_reduced x
unfolding sinf_reduced quadrant
no_turn x = ap (λ (n : ℕ). by_quadrant n (rem_pio2f x)) (quadrant_mod (to_bits binary64 (turns x)))

-- ---- the size by a comparison with zero: only -0 is not below zero and has another size
not_below : (x : Float) → T (number x) → T (not (is_negative x)) → lt x +0 ≡ false
unfolding is_nan
not_below x n s = lt_not_le x +0 n tt ∙ ap not (is_true (le +0 x) (positive_above x n s))

below_or_zero : (f : Format) (x : Float) → T (fits f x) → T (number x) → T (is_negative x) → (lt x +0 ≡ true) ⊎ (x ≡ -0)
unfolding is_nan is_negative
below_or_zero f x p n s =
    ⊎_elim
    (λ h. inr (eq→same f x -0 p (zero_fits f true) (float_le_antisymm x -0 (negative_below x s) (float_le_trans -0 +0 x (eq→le -0 +0 zeros_equal) h)) (is_true (is_negative x) s)))
    (λ h. inl (is_true (lt x +0) h))
    (le_or_lt +0 x tt n)

abbrev flipped : Float → Float
flipped x = cond (lt x +0) (neg x) x

by_comparison : (f : Format) (x : Float) → T (fits f x) → (abs x ≡ flipped x) ⊎ (x ≡ -0)
unfolding abs is_negative is_nan lt neg
by_comparison f nan p = inl refl
by_comparison f (inf true) p = inl refl
by_comparison f (inf false) p = inl refl
by_comparison f (fin false m e) p = inl (rw (not_below (fin false m e) tt tt))
by_comparison f (fin true m e) p = ⊎_elim (λ h. inl (rw h)) inr (below_or_zero f (fin true m e) p tt tt)

-- ---- an angle and a size: the definitions choose between two forms by a comparison, and one form serves
less_flipped : (f : Format) (a x : Float) (b : Bool) → cond b (add f x a) (sub f a x) ≡ sub f a (cond b (neg x) x)
unfolding sub
less_flipped f a x true = rw neg_neg (float_add_comm f x a)
less_flipped f a x false = refl

flipped_less : (f : Format) (a x : Float) (b : Bool) → cond b (sub f (neg x) a) (sub f x a) ≡ sub f (cond b (neg x) x) a
flipped_less f a x true = refl
flipped_less f a x false = refl

module _ (f g : Format) (x a : Float) (good : fits g x ≡ true) (q : T (fits f a)) where
  less_zero : T (not (eq a +0)) → cond (lt -0 +0) (add f -0 a) (sub f a -0) ≡ sub f a (abs -0)
  unfolding lt sub neg abs
  less_zero n = add-zero f false a q n ∙ sym (add-zero f true a q n)

  zero_less : T (not (eq (neg a) +0)) → cond (lt -0 +0) (sub f (neg -0) a) (sub f -0 a) ≡ sub f (abs -0) a
  unfolding lt sub neg abs
  zero_less n = float_add_comm f -0 (neg a) ∙ add-zero f true (neg a) (neg-fits f a q) n ∙ sym (add-zero f false (neg a) (neg-fits f a q) n) ∙ float_add_comm f (neg a) +0

  pub angle_less_size : T (not (eq a +0)) → cond (lt x +0) (add f x a) (sub f a x) ≡ sub f a (abs x)
  angle_less_size n = ⊎_elim (λ e. less_flipped f a x (lt x +0) ∙ ap (sub f a) (sym e)) (λ e. rw e (less_zero n)) (by_comparison g x (subst T (sym good) tt))

  pub size_less_angle : T (not (eq (neg a) +0)) → cond (lt x +0) (sub f (neg x) a) (sub f x a) ≡ sub f (abs x) a
  size_less_angle n =
      ⊎_elim (λ e. flipped_less f a x (lt x +0) ∙ ap (λ (y : Float). sub f y a) (sym e)) (λ e. rw e (zero_less n)) (by_comparison g x (subst T (sym good) tt))

-- the angles that the definitions choose so
first_nonzero : T (not (eq pio2_times_1 +0))
unfolding of_bits eq
first_nonzero = tt

third_nonzero : T (not (eq (neg pio2_times_3) +0))
unfolding of_bits eq neg
third_nonzero = tt

pub near_size : (x : Float) → fits binary32 x ≡ true → cond (negative x) (x ⊞ pio2_times_1) (pio2_times_1 ⊟ x) ≡ pio2_times_1 ⊟ abs x
unfolding of_bits
near_size x good = angle_less_size binary64 binary32 x pio2_times_1 good (of_bits-fits binary64 0x3FF9_21FB_5444_2D18) first_nonzero

pub far_size : (x : Float) → fits binary32 x ≡ true → cond (negative x) (neg x ⊟ pio2_times_3) (x ⊟ pio2_times_3) ≡ abs x ⊟ pio2_times_3
unfolding of_bits
far_size x good = size_less_angle binary64 binary32 x pio2_times_3 good (of_bits-fits binary64 0x4012_D97C_7F33_21D2) third_nonzero

-- ---- the infinities and the zeros
pub sinf_inf : (s : Bool) → sinf (inf s) ≡ nan
unfolding sinf sinf_reduced by_quadrant quadrant rem_pio2f k_sinf k_cosf convert of_bits to_bits abs lt eq le add sub mul neg
sinf_inf true = refl
sinf_inf false = refl

pub cosf_inf : (s : Bool) → cosf (inf s) ≡ nan
unfolding cosf cosf_reduced by_quadrant quadrant rem_pio2f k_sinf k_cosf convert of_bits to_bits abs lt eq le add sub mul neg
cosf_inf true = refl
cosf_inf false = refl

pub sinf_zero : (s : Bool) → sinf (fin s 0 (pos 0)) ≡ fin s 0 (pos 0)
unfolding sinf of_bits abs lt eq le
sinf_zero s = refl

pub cosf_zero : (s : Bool) → cosf (fin s 0 (pos 0)) ≡ fin false 1 (pos 0)
unfolding cosf of_bits abs lt eq le
cosf_zero s = refl

-- ---- each result is an `f32`
k_sinf_fits : (x : Float) → T (fits binary32 (k_sinf x))
unfolding k_sinf
k_sinf_fits x = convert_in_format binary32 _

k_cosf_fits : (x : Float) → T (fits binary32 (k_cosf x))
unfolding k_cosf
k_cosf_fits x = convert_in_format binary32 _

ruleset in_format = (cond-fits, neg-fits, of_bits-fits, k_sinf_fits, k_cosf_fits)

pub sinf_fits : (x : Float) → T (fits binary32 x) → T (fits binary32 (sinf x))
unfolding sinf sinf_near sinf_far sinf_reduced by_quadrant
sinf_fits x p = search in_format depth 9

pub cosf_fits : (x : Float) → T (fits binary32 (cosf x))
unfolding cosf cosf_near cosf_far cosf_reduced by_quadrant
cosf_fits x = search in_format depth 9

-- ---- results of libm, some in each range, as patterns: x, sinf x, cosf x
abbrev pub rows : List (ℕ × ℕ × ℕ)
rows =
    (0x3F00_0000, 0x3EF5_7744, 0x3F60_A940)
    ∷ (0x3F80_0000, 0x3F57_6AA4, 0x3F0A_5140)
    ∷ (0x4049_0FDB, 0xB3BB_BD2E, 0xBF80_0000)
    ∷ (0x42C8_0000, 0xBF01_A12E, 0x3F5C_C0EE)
    ∷ (0x4480_0000, 0xBE22_5693, 0x3F7C_C335)
    ∷ (0x38D1_B717, 0x38D1_B717, 0x3F80_0000)
    ∷ (0xC000_0000, 0xBF68_C7B7, 0xBED5_1133)
    ∷ (0xC040_0000, 0xBE10_81C3, 0xBF7D_7026)
    ∷ (0x40A0_0000, 0xBF75_7C10, 0x3E91_3C2C)
    ∷ (0xC0D0_0000, 0xBE5C_486A, 0x3F7A_01A6)
    ∷ (0x40F0_0000, 0x3F70_20C4, 0x3EB1_7A2F)
    ∷ []

pub known_results : map (λ (r : ℕ × ℕ × ℕ). (r.0, to_bits binary32 (sinf (f32 r.0)), to_bits binary32 (cosf (f32 r.0)))) rows ≡ rows
unfolding sinf sinf_near sinf_far sinf_reduced cosf cosf_near cosf_far cosf_reduced by_quadrant quadrant rem_pio2f k_sinf k_cosf convert of_bits to_bits abs lt eq le add sub mul neg
known_results = refl
