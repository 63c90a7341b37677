-- The sign of a float is the highest bit of its pattern, and the rest is the pattern of its size, over both formats. Assumes nothing.
use Rattle.std.proofs.Common.{◌≡◌, ℕ, ◌+◌, ◌*◌, ◌%◌, ◌<◌, Bool, true, false, cond, T, leb, refl, ap, ◌∙◌, true≢false, le-add_right, add_assoc, mod-eq_of_lt, zero-add, arith, lit<, le-leb}
use native.Mathlib.Nat.{add-mod_left}
use lib.Ieee.{Float, nan, inf, fin, Format, binary32, binary64, top, fits, is_nan, neg, to_bits, of_bits}
use lib.Ieee.Bits.{to_bits-lt, of_bits-to_bits, nan_bits_is}
use lib.Ieee.Fits.{neg-fits}
use borrow.Author.Tests.{lt-leb}
use Rattle.floats.specs.Ops.{f32}
use Rattle.floats.specs.Compare.{abs, is_negative, signum}
use Rattle.floats.proofs.Laws.Order.{abs_fits, abs_number}

-- the pattern is a sign's bit and the size's pattern
pub to_bits_splits : (f : Format) (x : Float) → to_bits f x ≡ cond (is_negative x) (top f) 0 + to_bits f (abs x)
unfolding to_bits is_negative abs
to_bits_splits f nan = simp zero-add
to_bits_splits f (inf s) = simp zero-add
to_bits_splits f (fin s m e) = simp (zero-add, add_assoc)

below_top : (t b : ℕ) → t + b < 2 * t → b < t
below_top t b h = omega arith

pub size_below_top : (f : Format) (x : Float) → T (fits f x) → to_bits f (abs x) < top f
unfolding to_bits is_negative abs neg
size_below_top binary32 nan h = lit< tt
size_below_top binary64 nan h = lit< tt
size_below_top binary32 (inf s) h = lit< tt
size_below_top binary64 (inf s) h = lit< tt
size_below_top f (fin s m e) h =
    below_top (top f) (to_bits f (fin false m e)) (rw (to_bits_splits f (fin true m e)) at (to_bits-lt f (fin true m e) (neg-fits f (fin false m e) (abs_fits f (fin s m e) h))))

pub sign_bit : (f : Format) (x : Float) → T (fits f x) → leb (top f) (to_bits f x) ≡ is_negative x
sign_bit f x h = ap (leb (top f)) (to_bits_splits f x) ∙ told (is_negative x) (top f) (to_bits f (abs x)) (size_below_top f x h)
  where
    told : (s : Bool) (t b : ℕ) → b < t → leb t (cond s t 0 + b) ≡ s
    told true t b l = le-leb t (t + b) (le-add_right t b)
    told false t b l = lt-leb t (0 + b) (rw zero-add l)

pub clear_sign : (f : Format) (x : Float) → T (fits f x) → of_bits f (to_bits f x % top f) ≡ abs x
clear_sign f x h =
    ap (λ (b : ℕ). of_bits f (b % top f)) (to_bits_splits f x)
    ∙ ap (of_bits f) (cleared (is_negative x) (top f) (to_bits f (abs x)) (size_below_top f x h))
    ∙ of_bits-to_bits f (abs x) (abs_fits f x h)
  where
    cleared : (s : Bool) (t b : ℕ) → b < t → (cond s t 0 + b) % t ≡ b
    cleared true t b l = add-mod_left t b ∙ mod-eq_of_lt l
    cleared false t b l = ap (λ (c : ℕ). c % t) (zero-add b) ∙ mod-eq_of_lt l

-- how `abs` reads the size's pattern
pub ruleset cleared = (clear_sign, nan_bits_is, abs_number)

pub signum_by_sign : (x : Float) → is_nan x ≡ false → signum x ≡ cond (is_negative x) (neg (f32 0x3F80_0000)) (f32 0x3F80_0000)
unfolding signum is_negative is_nan neg of_bits
signum_by_sign nan n = absurd (true≢false n)
signum_by_sign (inf true) n = refl
signum_by_sign (inf false) n = refl
signum_by_sign (fin true m e) n = refl
signum_by_sign (fin false m e) n = refl
