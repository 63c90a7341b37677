-- min, max and clamp as Rust's `f32` has them. Assumes nothing.
use Rattle.std.specs.Prelude.{cond, is_nan, Float}
use Rattle.std.specs.Float.Ieee.{lt}

-- The smaller of two, and the other one where one is a NaN. Document 01 leaves open which of two zeros it is: here x.
unfoldable pub min : Float → Float → Float
min x y = cond (is_nan x) y (cond (lt y x) y x)

-- The larger of two, in the same way.
unfoldable pub max : Float → Float → Float
max x y = cond (is_nan x) y (cond (lt x y) y x)

-- x brought to `low` where it is below it, and then to `high` where it is above that.
unfoldable pub clamp : Float → Float → Float → Float
clamp x low high = let y = cond (lt x low) low x in cond (lt high y) high y
