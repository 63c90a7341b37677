-- sinf and cosf, from FreeBSD's msun: s_sinf.c, s_cosf.c, k_sinf.c, k_cosf.c and the medium range of e_rem_pio2f.c.
-- x is an `f32`. Everything is worked out in `f64`, each operation rounded once, and the result is rounded to `f32`. Assumes nothing.
use Rattle.std.specs.Prelude.{ℕ, ◌+◌, ◌%◌, Bool, cond, ◌==◌, to_bits, Float}
use Rattle.std.specs.Float.{binary32, binary64}
use Rattle.std.specs.Float.Ieee.{neg, lt, le}
use Rattle.floats.specs.Ops.{f32, f64, ◌⊞◌, ◌⊟◌, ◌⊠◌}
use Rattle.floats.specs.Compare.{abs}
use Rattle.floats.specs.Narrow.{convert}

-- ---- on [-π/4, π/4], by a polynomial

-- x + S1 x³ + S2 x⁵ + S3 x⁷ + S4 x⁹
unfoldable pub k_sinf : Float → Float
k_sinf x =
    let s1 = f64 0xBFC5_5555_54CB_AC77 in
    let s2 = f64 0x3F81_1110_896E_FBB2 in
    let s3 = f64 0xBF2A_00F9_E2CA_E774 in
    let s4 = f64 0x3EC6_CD87_8C3B_46A7 in
    let z = x ⊠ x in
    let w = z ⊠ z in
    let r = s3 ⊞ z ⊠ s4 in
    let s = z ⊠ x in
    convert binary32 (x ⊞ s ⊠ (s1 ⊞ z ⊠ s2) ⊞ s ⊠ w ⊠ r)

-- 1 + C0 x² + C1 x⁴ + C2 x⁶ + C3 x⁸
unfoldable pub k_cosf : Float → Float
k_cosf x =
    let one = f64 0x3FF0_0000_0000_0000 in
    let c0 = f64 0xBFDF_FFFF_FD0C_5E81 in
    let c1 = f64 0x3FA5_5553_E105_3A42 in
    let c2 = f64 0xBF56_C087_E80F_1E27 in
    let c3 = f64 0x3EF9_9342_E0EE_5069 in
    let z = x ⊠ x in
    let w = z ⊠ z in
    let r = c2 ⊞ z ⊠ c3 in
    convert binary32 (one ⊞ z ⊠ c0 ⊞ w ⊠ c1 ⊞ w ⊠ z ⊠ r)

-- ---- multiples of π/2 taken off

-- 1/2 π to 4/2 π
abbrev pub pio2_times_1 : Float
pio2_times_1 = f64 0x3FF9_21FB_5444_2D18

abbrev pub pio2_times_2 : Float
pio2_times_2 = f64 0x4009_21FB_5444_2D18

abbrev pub pio2_times_3 : Float
pio2_times_3 = f64 0x4012_D97C_7F33_21D2

abbrev pub pio2_times_4 : Float
pio2_times_4 = f64 0x4019_21FB_5444_2D18

-- 1.5 * 2 ^ 52: a number below 2 ^ 51 in size that is added to it is rounded to a whole one, which then stands in the sum's lowest bits.
abbrev pub toint : Float
toint = f64 0x4338_0000_0000_0000

-- `toint` plus the number n of quarter turns nearest to x
abbrev pub turns : Float → Float
turns x = x ⊠ f64 0x3FE4_5F30_6DC9_C883 ⊞ toint

-- n modulo 4
unfoldable pub quadrant : Float → ℕ
quadrant x = to_bits binary64 (turns x) % 4

-- x - n π/2, with π/2 in two parts. It serves up to 2 ^ 28 π/2 in size; beyond, the source goes on to another method, and this one stays total.
unfoldable pub rem_pio2f : Float → Float
rem_pio2f x =
    let pio2_1 = f64 0x3FF9_21FB_5000_0000 in
    let pio2_1t = f64 0x3E51_10B4_611A_6263 in
    let n = turns x ⊟ toint in
    x ⊟ n ⊠ pio2_1 ⊟ n ⊠ pio2_1t

-- the sine of y and n quarter turns
unfoldable pub by_quadrant : ℕ → Float → Float
by_quadrant n y = cond (n == 0) (k_sinf y) (cond (n == 1) (k_cosf y) (cond (n == 2) (k_sinf (neg y)) (neg (k_cosf y))))

-- ---- the ranges, by the size of x: the largest `f32` below π/4, 3π/4, 5π/4, 7π/4 and 9π/4, and 2 ^ -12

abbrev pub upto_pi/4 : Float → Bool
upto_pi/4 x = le (abs x) (f32 0x3F49_0FDA)

abbrev pub upto_3pi/4 : Float → Bool
upto_3pi/4 x = le (abs x) (f32 0x4016_CBE3)

abbrev pub upto_5pi/4 : Float → Bool
upto_5pi/4 x = le (abs x) (f32 0x407B_53D1)

abbrev pub upto_7pi/4 : Float → Bool
upto_7pi/4 x = le (abs x) (f32 0x40AF_EDDF)

abbrev pub upto_9pi/4 : Float → Bool
upto_9pi/4 x = le (abs x) (f32 0x40E2_31D5)

abbrev pub tiny : Float → Bool
tiny x = lt (abs x) (f32 0x3980_0000)

abbrev pub negative : Float → Bool
negative x = lt x (f32 0)

-- ---- sine

-- |x| from π/4 to 5π/4
unfoldable pub sinf_near : Float → Float
sinf_near x =
    cond (upto_3pi/4 x)
    (cond (negative x) (neg (k_cosf (x ⊞ pio2_times_1))) (k_cosf (x ⊟ pio2_times_1)))
    (k_sinf (neg (cond (negative x) (x ⊞ pio2_times_2) (x ⊟ pio2_times_2))))

-- |x| from 5π/4 to 9π/4
unfoldable pub sinf_far : Float → Float
sinf_far x =
    cond (upto_7pi/4 x)
    (cond (negative x) (k_cosf (x ⊞ pio2_times_3)) (neg (k_cosf (x ⊟ pio2_times_3))))
    (k_sinf (cond (negative x) (x ⊞ pio2_times_4) (x ⊟ pio2_times_4)))

-- any other x. A NaN and an infinity give a NaN, since the remainder is one.
unfoldable pub sinf_reduced : Float → Float
sinf_reduced x = by_quadrant (quadrant x) (rem_pio2f x)

unfoldable pub sinf : Float → Float
sinf x =
    cond (upto_pi/4 x) (cond (tiny x) x (k_sinf x))
    (cond (upto_5pi/4 x) (sinf_near x)
    (cond (upto_9pi/4 x) (sinf_far x) (sinf_reduced x)))

-- ---- cosine

unfoldable pub cosf_near : Float → Float
cosf_near x =
    cond (upto_3pi/4 x)
    (k_sinf (cond (negative x) (x ⊞ pio2_times_1) (pio2_times_1 ⊟ x)))
    (neg (k_cosf (cond (negative x) (x ⊞ pio2_times_2) (x ⊟ pio2_times_2))))

unfoldable pub cosf_far : Float → Float
cosf_far x =
    cond (upto_7pi/4 x)
    (k_sinf (cond (negative x) (neg x ⊟ pio2_times_3) (x ⊟ pio2_times_3)))
    (k_cosf (cond (negative x) (x ⊞ pio2_times_4) (x ⊟ pio2_times_4)))

-- the sine a quarter turn on: k_cosf y, k_sinf (neg y), neg (k_cosf y), k_sinf y, as in the source
unfoldable pub cosf_reduced : Float → Float
cosf_reduced x = by_quadrant ((quadrant x + 1) % 4) (rem_pio2f x)

unfoldable pub cosf : Float → Float
cosf x =
    cond (upto_pi/4 x) (cond (tiny x) (f32 0x3F80_0000) (k_cosf x))
    (cond (upto_5pi/4 x) (cosf_near x)
    (cond (upto_9pi/4 x) (cosf_far x) (cosf_reduced x)))
