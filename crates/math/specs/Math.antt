-- math.rs as far as guidance uses it, with the order of its float operations, each rounded once. Assumes nothing.
use Rattle.std.specs.Prelude.{Bool, cond, ◌&&◌, ◌||◌, Float, None, Option, Some}
use Rattle.std.specs.Float.{binary32}
use Rattle.std.specs.Float.Ieee.{is_nan, neg, lt, le, eq, rem}
use Rattle.std.specs.Float.Ieee.Scale.{finite}
use Rattle.floats.specs.Ops.{f32, ◌⊕◌, ◌⊖◌, ◌⊗◌, ◌⊘◌}
use Rattle.floats.specs.MinMax.{max, clamp}
use Rattle.floats.specs.Sqrt.{sqrt}
use Rattle.math.specs.declared.vectors.Vec2.{Vec2}
use Rattle.math.specs.declared.vectors.Vec3.{Vec3}
use Rattle.math.specs.declared.vectors.Quaternion.{Quaternion}
use Rattle.math.specs.Vectors.{zeros, times, norm}

abbrev pub zero : Float
zero = f32 0

-- 0.1, 0.5, 1 and 2
abbrev pub tenth : Float
tenth = f32 0x3DCC_CCCD

abbrev pub half : Float
half = f32 0x3F00_0000

abbrev pub one : Float
one = f32 0x3F80_0000

abbrev pub two : Float
two = f32 0x4000_0000

-- π, 2π and π/2
abbrev pub pi : Float
pi = f32 0x4049_0FDB

abbrev pub tau : Float
tau = f32 0x40C9_0FDB

abbrev pub half_pi : Float
half_pi = f32 0x3FC9_0FDB

-- standard gravity, 9.80665 m/s²
abbrev pub gravity : Float
gravity = f32 0x411C_E80A

-- ---- limits

-- v, shortened to the length `limit` where it is longer. A vector of no finite length becomes zero.
unfoldable pub cap_magnitude : Vec2 → Float → Vec2
cap_magnitude v limit =
    let length = norm v in
    cond (finite length) (cond (lt limit length) (times v (limit ⊘ length)) v) zeros

-- the part of v past the length `band`
unfoldable pub past : Vec2 → Float → Vec2
past v band =
    let length = norm v in
    cond (lt band length) (times v ((length ⊖ band) ⊘ length)) zeros

-- a limit that is negative or a NaN counts as 0
unfoldable pub limit_or_zero : Float → Float
limit_or_zero limit = cond (le zero limit) limit zero

unfoldable pub clamp_symmetric : Float → Float → Float
clamp_symmetric value limit = clamp value (neg (limit_or_zero limit)) (limit_or_zero limit)

unfoldable pub saturate_symmetric : Float → Float → Float
saturate_symmetric value limit = cond (is_nan value) zero (clamp_symmetric value limit)

abbrev pub saturate_unit : Float → Float
saturate_unit value = saturate_symmetric value one

unfoldable pub clamp_symmetric_each : Vec2 → Float → Vec2
clamp_symmetric_each v limit = record { x = clamp_symmetric v.x limit; y = clamp_symmetric v.y limit }

unfoldable pub all_finite : Vec2 → Bool
all_finite v = finite v.x && finite v.y

-- from north, east, up to north, east, down
abbrev pub neu_to_ned : Vec3 → Vec3
neu_to_ned v = record { x = v.x; y = v.y; z = neg v.z }

-- ---- thrust

-- the cosine of the tilt, of an attitude of length 1
unfoldable pub tilt_cosine : Quaternion → Float
tilt_cosine q = one ⊖ two ⊗ (q.i ⊗ q.i ⊕ q.j ⊗ q.j)

-- 1 / cos(tilt), at most 2 and falling to 0 below a cosine of 0.1; 1 where the cosine is not finite
unfoldable pub tilt_boost : Quaternion → Float
tilt_boost q =
    let cosine = tilt_cosine q in
    cond (finite cosine) (clamp (cosine ⊘ tenth) zero one ⊘ max cosine half) one

-- to [0, 1]; a NaN becomes 0
unfoldable pub saturate_throttle : Float → Float
saturate_throttle value = cond (is_nan value) zero (clamp value zero one)

-- off unless sinking past a positive limit
unfoldable pub guard_sink : Float → Float → Float → Float → Option Float
guard_sink thrust climb limit gain =
    let excess = neg limit ⊖ climb in
    cond (lt zero limit && lt zero excess) (Some (saturate_throttle (thrust ⊕ gain ⊗ excess))) None

-- ---- closing speed

-- p * distance up to accel / p² from the target, √(2 accel (distance - accel / 2p²)) beyond; without a positive p the root alone, and with no accel the
-- linear speed alone
unfoldable pub braked_speed : Float → Float → Float → Float
braked_speed distance p accel =
    let linear = accel ⊘ (p ⊗ p) in
    cond (is_nan p || le p zero) (sqrt binary32 (two ⊗ accel ⊗ distance))
    (cond (eq accel zero || le distance linear) (p ⊗ distance) (sqrt binary32 (two ⊗ accel ⊗ (distance ⊖ linear ⊘ two))))

-- 0 for a distance that is a NaN or not positive; an accel that is a NaN or not positive counts as 0
unfoldable pub shaped_closing_speed : Float → Float → Float → Float
shaped_closing_speed distance p accel =
    cond (is_nan distance || le distance zero) zero (braked_speed distance p (cond (lt zero accel) accel zero))

-- ---- angles

-- the remainder in [0, divisor) for a positive divisor
unfoldable pub rem_euclid : Float → Float → Float
rem_euclid value divisor =
    let remainder = rem binary32 value divisor in
    cond (lt remainder zero) (remainder ⊕ divisor) remainder

-- to [-π, π)
unfoldable pub wrap_angle : Float → Float
wrap_angle angle = rem_euclid (angle ⊕ pi) tau ⊖ pi
