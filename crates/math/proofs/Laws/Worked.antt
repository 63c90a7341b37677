-- The worked flights of document 01 about these definitions: W1, W2, W5, W6 and W7. Each holds by computation. Assumes nothing.
use Rattle.std.specs.Prelude.{None, Some}
use mathlib.Core.Path.{◌≡◌, refl}
use mathlib.Core.Bool.{false}
use lib.Ieee.{Float, nan, inf, neg, of_bits, add, sub, mul, div, rem, lt, le, is_nan}
use Rattle.floats.specs.Ops.{f32}
use Rattle.floats.specs.MinMax.{max, clamp}
use Rattle.floats.specs.Sqrt.{sqrt, root_of, whole_root, root_digits}
use Rattle.math.specs.declared.vectors.Vec2.{Vec2}
use Rattle.math.specs.declared.vectors.Quaternion.{Quaternion}
use Rattle.math.specs.Vectors.{zeros}
use Rattle.math.specs.Math.{zero, half, one, two, wrap_angle, rem_euclid, tilt_boost, tilt_cosine, guard_sink, saturate_throttle, cap_magnitude}
use Rattle.math.specs.Math.{shaped_closing_speed, braked_speed}

-- ---- W1

pub wrap_of_zero : wrap_angle zero ≡ zero
unfolding wrap_angle rem_euclid rem add sub lt le is_nan of_bits
wrap_of_zero = refl

-- ---- W2: the attitude w, i, j, k

abbrev pub attitude : Float → Float → Float → Float → Quaternion
attitude w i j k = record { w = w; i = i; j = j; k = k }

pub boost_upright : tilt_boost (attitude one zero zero zero) ≡ one
unfolding tilt_boost tilt_cosine clamp max mul add sub div lt is_nan of_bits
boost_upright = refl

pub boost_upside_down : tilt_boost (attitude zero one zero zero) ≡ zero
unfolding tilt_boost tilt_cosine clamp max mul add sub div lt is_nan of_bits
boost_upside_down = refl

pub boost_of_nan : (w j k : Float) → tilt_boost (attitude w nan j k) ≡ one
unfolding tilt_boost tilt_cosine mul add sub of_bits
boost_of_nan w j k = refl

-- ---- W5: the distance 5 (40A00000), 2 or 4 (40800000), p 1 or 0, acceleration 2

pub closing_by_root : shaped_closing_speed (f32 0x40A0_0000) one two ≡ f32 0x4080_0000
unfolding shaped_closing_speed braked_speed sqrt root_of whole_root root_digits add sub mul div le is_nan of_bits
closing_by_root = refl

pub closing_by_line : shaped_closing_speed two one two ≡ two
unfolding shaped_closing_speed braked_speed sqrt root_of whole_root root_digits add sub mul div le is_nan of_bits
closing_by_line = refl

pub closing_without_p : shaped_closing_speed (f32 0x4080_0000) zero two ≡ f32 0x4080_0000
unfolding shaped_closing_speed braked_speed sqrt root_of whole_root root_digits add sub mul div le is_nan of_bits
closing_without_p = refl

-- ---- W6: thrust 0.5, limit 2, gain 0.25 (3E800000), climb -3 (C0400000) and -2

pub guard_past_limit : guard_sink half (f32 0xC040_0000) two (f32 0x3E80_0000) ≡ Some (f32 0x3F40_0000)
unfolding guard_sink saturate_throttle clamp neg add sub mul lt is_nan of_bits
guard_past_limit = refl

pub guard_at_limit : guard_sink half (neg two) two (f32 0x3E80_0000) ≡ None
unfolding guard_sink neg add sub mul lt is_nan of_bits
guard_at_limit = refl

-- ---- W7: the vector (3, 4), capped at 5 and at 2.5 (40200000), and (infinity, 0), capped at anything

abbrev pub vector : Float → Float → Vec2
vector x y = record { x = x; y = y }

pub cap_at_length : cap_magnitude (vector (f32 0x4040_0000) (f32 0x4080_0000)) (f32 0x40A0_0000) ≡ vector (f32 0x4040_0000) (f32 0x4080_0000)
unfolding cap_magnitude sqrt root_of whole_root root_digits add mul div lt of_bits
cap_at_length = refl

-- 3FC00000 is 1.5.
pub cap_at_half_length : cap_magnitude (vector (f32 0x4040_0000) (f32 0x4080_0000)) (f32 0x4020_0000) ≡ vector (f32 0x3FC0_0000) two
unfolding cap_magnitude sqrt root_of whole_root root_digits add mul div lt of_bits
cap_at_half_length = refl

pub cap_of_infinity : (limit : Float) → cap_magnitude (vector (inf false) zero) limit ≡ zeros
unfolding cap_magnitude sqrt add mul of_bits
cap_of_infinity limit = refl
