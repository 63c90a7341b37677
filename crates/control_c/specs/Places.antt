-- The number at a place of an array, the vectors at two and at three places, and the quaternion from a place on. Assumes nothing.
use Rattle.std.specs.Prelude.{ℕ, ◌+◌, List, get_or, Float}
use Rattle.std.specs.Float.{nan}
use Rattle.math.specs.declared.vectors.Vec2.{Vec2}
use Rattle.math.specs.declared.vectors.Vec3.{Vec3}
use Rattle.math.specs.declared.vectors.Quaternion.{Quaternion}

abbrev pub at : List Float → ℕ → Float
at l k = get_or l k nan

abbrev pub vec2 : List Float → ℕ → ℕ → Vec2
vec2 l x y = record { x = at l x; y = at l y }

abbrev pub vec3 : List Float → ℕ → ℕ → ℕ → Vec3
vec3 l x y z = record { x = at l x; y = at l y; z = at l z }

abbrev pub quaternion : List Float → ℕ → Quaternion
quaternion l k = record { w = at l k; i = at l (k + 1); j = at l (k + 2); k = at l (k + 3) }
