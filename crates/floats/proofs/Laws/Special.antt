-- What a NaN is, and which patterns are one. Assumes nothing.
use Rattle.std.proofs.Common.{◌≡◌, ℕ, ◌*◌, ◌%◌, ◌≤◌, true, false, refl, ◌∙◌, le-ltb}
use mathlib.Core.Bool.{false≢true}
use lib.Ieee.{Float, nan, inf, fin, Format, binary32, hid, ones, top, is_nan, nan_bits, of_bits}
use lib.Ieee.Bits.{nan_bits_above}
use lib.Ieee.Scale.{finite}
use Rattle.std.specs.Float.{float_is_finite}

-- ---- a NaN
pub is_nan_lem : (x : Float) → is_nan x ≡ true → x ≡ nan
unfolding is_nan
is_nan_lem nan t = refl
is_nan_lem (inf s) t = absurd (false≢true t)
is_nan_lem (fin s m e) t = absurd (false≢true t)

-- the one that the code makes
pub quiet_nan : of_bits binary32 0x7FC0_0000 ≡ nan
unfolding of_bits
quiet_nan = refl

-- the code's infinity
pub infinity : of_bits binary32 0x7F80_0000 ≡ inf false
unfolding of_bits
infinity = refl

-- std's word for what is neither a NaN nor an infinity is the logic's
pub same_word : (x : Float) → float_is_finite x ≡ finite x
unfolding float_is_finite
same_word nan = refl
same_word (inf s) = refl
same_word (fin s m e) = refl

-- without the sign's bit a pattern up to the infinity's is no NaN's
pub up_to_infinity : (f : Format) (b : ℕ) → b % top f ≤ ones f * hid f → nan_bits f b ≡ false
up_to_infinity f b h = nan_bits_above f b ∙ le-ltb (ones f * hid f) (b % top f) h
