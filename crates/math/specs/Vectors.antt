-- The operations on vectors of two and of three floats, each float operation rounded once. A sum of products is added from left to right. Assumes nothing.
use Rattle.std.specs.Prelude.{Float}
use Rattle.std.specs.Float.{binary32}
use Rattle.floats.specs.Ops.{f32, ◌⊕◌, ◌⊖◌, ◌⊗◌, ◌⊘◌}
use Rattle.floats.specs.Sqrt.{sqrt}
use Rattle.math.specs.declared.vectors.Vec2.{Vec2}
use Rattle.math.specs.declared.vectors.Vec3.{Vec3}

abbrev pub zeros : Vec2
zeros = record { x = f32 0; y = f32 0 }

abbrev pub plus : Vec2 → Vec2 → Vec2
plus v w = record { x = v.x ⊕ w.x; y = v.y ⊕ w.y }

abbrev pub minus : Vec2 → Vec2 → Vec2
minus v w = record { x = v.x ⊖ w.x; y = v.y ⊖ w.y }

abbrev pub times : Vec2 → Float → Vec2
times v k = record { x = v.x ⊗ k; y = v.y ⊗ k }

abbrev pub over : Vec2 → Float → Vec2
over v k = record { x = v.x ⊘ k; y = v.y ⊘ k }

abbrev pub dot : Vec2 → Vec2 → Float
dot v w = v.x ⊗ w.x ⊕ v.y ⊗ w.y

-- the length
abbrev pub norm : Vec2 → Float
norm v = sqrt binary32 (dot v v)

abbrev pub dot3 : Vec3 → Vec3 → Float
dot3 v w = v.x ⊗ w.x ⊕ v.y ⊗ w.y ⊕ v.z ⊗ w.z

-- north and east, without the height
abbrev pub horizontal : Vec3 → Vec2
horizontal v = record { x = v.x; y = v.y }
