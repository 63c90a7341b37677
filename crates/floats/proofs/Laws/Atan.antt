-- atanf and atan2f: what they give for a NaN and the zeros, and that each result is an `f32`; results of libm. Assumes nothing.
use Rattle.std.proofs.Common.{◌≡◌, ℕ, Bool, T, List, [], ◌∷◌, map, pos, refl}
use lib.Ieee.{Float, nan, inf, fin, binary32, fits, is_nan, of_bits, to_bits, lt, le, eq, add, sub, mul, div, neg}
use lib.Ieee.Bits.{of_bits-fits}
use lib.Ieee.Fits.{cond-fits, nan-fits, neg-fits, sub-fits, div-fits}
use Rattle.floats.specs.Ops.{f32, ◌⊘◌}
use Rattle.floats.specs.Compare.{abs, is_negative}
use Rattle.floats.specs.Atan.{atanf_rest, atanf_from, atanf_large, atanf, atan2f_infinite, atan2f_finite, atan2f_nonzero, atan2f}
use Rattle.floats.proofs.Laws.Order.{abs_fits}

-- ---- a NaN
pub atanf_nan : atanf nan ≡ nan
unfolding atanf atanf_large atanf_from atanf_rest of_bits abs lt eq le add sub mul div neg
atanf_nan = refl

pub atan2f_nan_x : (y : Float) → atan2f y nan ≡ nan
unfolding atan2f is_nan
atan2f_nan_x y = refl

pub atan2f_nan_y : (x : Float) → atan2f nan x ≡ nan
unfolding atan2f is_nan
atan2f_nan_y nan = refl
atan2f_nan_y (inf s) = refl
atan2f_nan_y (fin s m e) = refl

-- ---- a zero
pub atanf_zero : (s : Bool) → atanf (fin s 0 (pos 0)) ≡ fin s 0 (pos 0)
unfolding atanf of_bits abs lt
atanf_zero s = refl

-- ---- each result is an `f32`
ruleset in_format = (cond-fits, nan-fits, neg-fits, sub-fits, of_bits-fits)

pub atanf_fits : (x : Float) → T (fits binary32 x) → T (fits binary32 (atanf x))
unfolding atanf atanf_large atanf_from
atanf_fits x p = search in_format depth 9

of_quotient_fits : (y x : Float) → T (fits binary32 (atanf (abs (y ⊘ x))))
of_quotient_fits y x = atanf_fits (abs (y ⊘ x)) (abs_fits binary32 (y ⊘ x) (div-fits binary32 y x))

infinite_fits : (y x : Float) → T (fits binary32 (atan2f_infinite y x))
unfolding atan2f_infinite
infinite_fits y x = search in_format depth 9

finite_fits : (y x : Float) → T (fits binary32 (atan2f_finite y x))
unfolding atan2f_finite
finite_fits y x = search (in_format, of_quotient_fits) depth 9

nonzero_fits : (y x : Float) → T (fits binary32 (atan2f_nonzero y x))
unfolding atan2f_nonzero
nonzero_fits y x = search (in_format, infinite_fits, finite_fits) depth 9

pub atan2f_fits : (y x : Float) → T (fits binary32 y) → T (fits binary32 (atan2f y x))
unfolding atan2f
atan2f_fits y x p = search (in_format, atanf_fits, nonzero_fits) depth 9

-- ---- results of libm, some in each range, as patterns: x, atanf x
abbrev pub atanf_rows : List (ℕ × ℕ)
atanf_rows =
    (0x3F00_0000, 0x3EED_6338)
    ∷ (0x3F80_0000, 0x3F49_0FDB)
    ∷ (0x4049_0FDB, 0x3FA1_9DC5)
    ∷ (0x42C8_0000, 0x3FC7_C82F)
    ∷ (0x4480_0000, 0x3FC8_EFDB)
    ∷ (0x38D1_B717, 0x38D1_B717)
    ∷ (0xBE80_0000, 0xBE7A_DBB0)
    ∷ (0xBF20_0000, 0xBF0F_005D)
    ∷ (0xC000_0000, 0xBF8D_B70D)
    ∷ (0x5015_02F9, 0x3FC9_0FDA)
    ∷ (0xFF80_0000, 0xBFC9_0FDA)
    ∷ []

pub atanf_results : map (λ (r : ℕ × ℕ). (r.0, to_bits binary32 (atanf (f32 r.0)))) atanf_rows ≡ atanf_rows
unfolding atanf atanf_large atanf_from atanf_rest of_bits to_bits abs lt eq le add sub mul div neg
atanf_results = refl

-- y, x, atan2f y x
abbrev pub atan2f_rows : List (ℕ × ℕ × ℕ)
atan2f_rows =
    (0x4040_0000, 0x4080_0000, 0x3F24_BC7D)
    ∷ (0xC0A0_0000, 0x4140_0000, 0xBECA_2210)
    ∷ (0x3F80_0000, 0xBF80_0000, 0x4016_CBE4)
    ∷ (0x0000_0000, 0x8000_0000, 0x4049_0FDB)
    ∷ (0x8000_0000, 0x8000_0000, 0xC049_0FDB)
    ∷ (0x0DA2_4260, 0x7149_F2CA, 0x0000_0000)
    ∷ (0x0000_0000, 0x3F80_0000, 0x0000_0000)
    ∷ (0x8000_0000, 0x4000_0000, 0x8000_0000)
    ∷ (0xBF80_0000, 0x0000_0000, 0xBFC9_0FDB)
    ∷ (0x7149_F2CA, 0x0DA2_4260, 0x3FC9_0FDB)
    ∷ (0xC040_0000, 0xC080_0000, 0xC01F_E0BC)
    ∷ (0x8DA2_4260, 0xF149_F2CA, 0xC049_0FDB)
    ∷ (0x7F80_0000, 0xFF80_0000, 0x4016_CBE4)
    ∷ (0xBF80_0000, 0xFF80_0000, 0xC049_0FDB)
    ∷ []

pub atan2f_results : map (λ (r : ℕ × ℕ × ℕ). (r.0, r.1, to_bits binary32 (atan2f (f32 r.0) (f32 r.1)))) atan2f_rows ≡ atan2f_rows
unfolding atan2f atan2f_nonzero atan2f_infinite atan2f_finite atanf atanf_large atanf_from atanf_rest is_nan is_negative of_bits to_bits abs lt eq le add sub mul div neg
atan2f_results = refl
