-- Equality number by number, as the source's `==` of vectors and matrices has it: a NaN equals nothing, and the two zeros are equal. Assumes nothing.
use Rattle.std.specs.Prelude.{Bool, ◌&&◌}
use Rattle.std.specs.Float.Ieee.{eq}
use Rattle.math.specs.declared.vectors.Vec2.{Vec2}
use Rattle.wind.specs.declared.estimate.Matrix2.{Matrix2}

unfoldable pub same_vector : Vec2 → Vec2 → Bool
same_vector v w = eq v.x w.x && eq v.y w.y

unfoldable pub same_matrix : Matrix2 → Matrix2 → Bool
same_matrix p q = eq p.m00 q.m00 && eq p.m01 q.m01 && eq p.m10 q.m10 && eq p.m11 q.m11
