-- atanf and atan2f, from FreeBSD's msun: s_atanf.c and e_atan2f.c, in `f32`, each operation rounded once. Where the Rust's libm parts from msun,
-- in `atanf` from 2 ^ 26 on and in `far_above`, it is followed: atan2f (1.5 * 2 ^ 26) -1 is 3FC90FDB. Assumes nothing.
use Rattle.std.specs.Prelude.{◌+◌, Bool, cond, ◌&&◌, ◌||◌, is_nan, nat_lt, to_bits, Float}
use Rattle.std.specs.Float.{nan, binary32}
use Rattle.std.specs.Float.Ieee.{neg, lt, le, eq}
use Rattle.floats.specs.Ops.{f32, ◌⊕◌, ◌⊖◌, ◌⊗◌, ◌⊘◌}
use Rattle.floats.specs.Compare.{abs, is_negative}

abbrev pub one : Float
one = f32 0x3F80_0000

abbrev pub one_and_half : Float
one_and_half = f32 0x3FC0_0000

abbrev pub two : Float
two = f32 0x4000_0000

-- ---- atanf

-- x - atan x for |x| below 7/16, by a polynomial in x² whose odd and even terms are summed apart
unfoldable pub atanf_rest : Float → Float
atanf_rest x =
    let a0 = f32 0x3EAA_AAA9 in
    let a1 = f32 0xBE4C_CA98 in
    let a2 = f32 0x3E11_F50D in
    let a3 = f32 0xBDDA_1247 in
    let a4 = f32 0x3D7C_AC25 in
    let z = x ⊗ x in
    let w = z ⊗ z in
    let s1 = z ⊗ (a0 ⊕ w ⊗ (a2 ⊕ w ⊗ a4)) in
    let s2 = w ⊗ (a1 ⊕ w ⊗ a3) in
    x ⊗ (s1 ⊕ s2)

-- atan t and an angle, given in two parts, added up
unfoldable pub atanf_from : Float → Float → Float → Float
atanf_from high low t = high ⊖ (atanf_rest t ⊖ low ⊖ t)

-- 7/16 and above, by the angle's distance from atan 0.5, atan 1, atan 1.5 or π/2
unfoldable pub atanf_large : Float → Float
atanf_large x =
    cond (lt x (f32 0x3F98_0000))
    (cond (lt x (f32 0x3F30_0000))
    (atanf_from (f32 0x3EED_6338) (f32 0x31AC_3769) ((two ⊗ x ⊖ one) ⊘ (two ⊕ x)))
    (atanf_from (f32 0x3F49_0FDA) (f32 0x3322_2168) ((x ⊖ one) ⊘ (x ⊕ one))))
    (cond (lt x (f32 0x401C_0000))
    (atanf_from (f32 0x3F7B_985E) (f32 0x3314_0FB4) ((x ⊖ one_and_half) ⊘ (one ⊕ one_and_half ⊗ x)))
    (atanf_from (f32 0x3FC9_0FDA) (f32 0x33A2_2168) (neg one ⊘ x)))

-- x with the sign flipped where s is true
abbrev pub with_sign : Bool → Float → Float
with_sign s x = cond s (neg x) x

-- Below 2 ^ -12 in size it is x; from 2 ^ 26 on it has the size of the `f32` below π/2, 3FC90FDA, as in libm.
unfoldable pub atanf : Float → Float
atanf x =
    cond (lt (abs x) (f32 0x3EE0_0000)) (cond (lt (abs x) (f32 0x3980_0000)) x (x ⊖ atanf_rest x))
    (with_sign (lt x (f32 0)) (cond (le (f32 0x4C80_0000) (abs x)) (f32 0x3FC9_0FDA) (atanf_large (abs x))))

-- ---- atan2f

-- π, and what π has beyond that; π/2, π/4, 3π/4
abbrev pub pi : Float
pi = f32 0x4049_0FDB

abbrev pub pi_low : Float
pi_low = f32 0xB3BB_BD2E

abbrev pub pi/2 : Float
pi/2 = f32 0x3FC9_0FDB

abbrev pub pi/4 : Float
pi/4 = f32 0x3F49_0FDB

abbrev pub 3pi/4 : Float
3pi/4 = f32 0x4016_CBE4

-- |y| is more than 2 ^ 26 times |x|, as the bit patterns tell: libm's test, and not msun's
abbrev pub far_above : Float → Float → Bool
far_above y x = nat_lt (to_bits binary32 (abs x) + 0x0D00_0000) (to_bits binary32 (abs y))

-- x infinite
unfoldable pub atan2f_infinite : Float → Float → Float
atan2f_infinite y x =
    with_sign (is_negative y)
    (cond (eq (abs y) (f32 0x7F80_0000)) (cond (is_negative x) 3pi/4 pi/4) (cond (is_negative x) pi (f32 0)))

-- x and y neither zero nor infinite, and y not far above x
unfoldable pub atan2f_finite : Float → Float → Float
atan2f_finite y x =
    let z = cond (is_negative x && far_above x y) (f32 0) (atanf (abs (y ⊘ x))) in
    cond (is_negative x)
    (cond (is_negative y) (z ⊖ pi_low ⊖ pi) (pi ⊖ (z ⊖ pi_low)))
    (with_sign (is_negative y) z)

-- x and y not zero
unfoldable pub atan2f_nonzero : Float → Float → Float
atan2f_nonzero y x =
    cond (eq (abs x) (f32 0x7F80_0000)) (atan2f_infinite y x)
    (cond (far_above y x || eq (abs y) (f32 0x7F80_0000)) (with_sign (is_negative y) pi/2) (atan2f_finite y x))

unfoldable pub atan2f : Float → Float → Float
atan2f y x =
    cond (is_nan x || is_nan y) nan
    (cond (eq x one) (atanf y)
    (cond (eq y (f32 0)) (cond (is_negative x) (with_sign (is_negative y) pi) y)
    (cond (eq x (f32 0)) (with_sign (is_negative y) pi/2) (atan2f_nonzero y x))))
