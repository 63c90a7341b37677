-- A float of one format as one of another, rounded once. Assumes nothing.
use Rattle.std.specs.Prelude.{◌*◌, Float}
use Rattle.std.specs.Float.{nan, inf, fin, Format}
use Rattle.std.specs.Float.Ieee.{up, down, round}

-- The value of the format f nearest to x, a tie to the even one: Rust's `as f32` and `as f64`.
unfoldable pub convert : Format → Float → Float
convert f nan = nan
convert f (inf s) = inf s
convert f (fin s m e) = round f s (m * up e) (down e)
