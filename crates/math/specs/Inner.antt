-- How the port divides what guidance asks of a length and of a speed: what its inner functions give, and what they may tell without a root. Nothing here
-- has to be believed, since every step of guidance is stated without it. Assumes nothing.
use Rattle.std.specs.Prelude.{◌≡◌, Bool, true, false, cond, ◌&&◌, Float}
use Rattle.std.specs.Float.{binary32}
use Rattle.std.specs.Float.Ieee.{is_nan, lt, le}
use Rattle.std.specs.Float.Ieee.Scale.{finite}
use Rattle.floats.specs.Ops.{f32}
use Rattle.floats.specs.MinMax.{min, clamp}
use Rattle.floats.specs.Sqrt.{sqrt}
use Rattle.math.specs.declared.vectors.Vec2.{Vec2}
use Rattle.math.specs.Vectors.{norm}
use Rattle.math.specs.Math.{zero, shaped_closing_speed}

-- `value` clamped to [low, high]; a NaN becomes 0
unfoldable pub saturate : Float → Float → Float → Float
saturate value low high = cond (is_nan value) zero (clamp value low high)

-- whether v is at most `limit` long, and whether it is longer
unfoldable pub within : Vec2 → Float → Bool
within v limit = le (norm v) limit

unfoldable pub exceeds : Vec2 → Float → Bool
exceeds v limit = lt limit (norm v)

-- the closing speed, at most `limit`
unfoldable pub limited_closing_speed : Float → Float → Float → Float → Float
limited_closing_speed distance p accel limit = min (shaped_closing_speed distance p accel) limit

-- ---- limits told by their squares

-- the limits from 0.0000001 to 10000000: each is the root of its square
unfoldable pub has_plain_square : Float → Bool
has_plain_square limit = le (f32 0x33D6_BF95) limit && le limit (f32 0x4B18_9680)

-- what is known where a limit's square told on which side of it the root of `square` is
pub record RootWithin (square limit : Float) : Type 0 where
  pub at_most : le (sqrt binary32 square) limit ≡ true
  pub not_above : lt limit (sqrt binary32 square) ≡ false
  pub bounded : finite (sqrt binary32 square) ≡ true

pub record RootBeyond (square limit : Float) : Type 0 where
  pub not_within : le (sqrt binary32 square) limit ≡ false
  pub above : lt limit (sqrt binary32 square) ≡ true
