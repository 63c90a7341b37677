-- The heading that puts a wingtip into the wind, from wind_heading.rs. Assumes nothing.
use Rattle.std.specs.Prelude.{Bool, false, cond, ◌&&◌, Float, None, Option, Some}
use Rattle.std.specs.Float.Ieee.{neg, lt, le}
use Rattle.floats.specs.Ops.{◌⊕◌, ◌⊖◌, ◌⊗◌}
use Rattle.floats.specs.Compare.{abs}
use Rattle.floats.specs.Atan.{atan2f}
use Rattle.math.specs.Math.{zero, one, pi, wrap_angle}
use Rattle.math.specs.Vectors.{over, norm}
use Rattle.wind.specs.Estimate.{sd_along}
use Rattle.wind.specs.declared.estimate.WindEstimate.{WindEstimate}
use Rattle.heading.specs.Equality.{same_vector, same_matrix}
use Rattle.heading.specs.declared.HeadingConfig.{HeadingConfig}
use Rattle.heading.specs.declared.wind_heading.WindHeading.{WindHeading}
use Rattle.heading.specs.declared.wind_heading.WindTurn.{WindTurn}
use Rattle.heading.specs.declared.wind_heading.Wingtip.{Wingtip}

unfoldable pub fresh : WindHeading
fresh = record { side = None; target_rad = None; weighed = None }

-- ---- which estimate was weighed

-- as the source's `==` has it
unfoldable pub same_estimate : WindEstimate → WindEstimate → Bool
same_estimate a b = same_vector a.velocity_mps b.velocity_mps && same_matrix a.covariance_m2ps2 b.covariance_m2ps2

unfoldable pub weighed_already : Option WindEstimate → WindEstimate → Bool
weighed_already None present = false
weighed_already (Some last) present = same_estimate last present

-- ---- the wingtip's heading

-- the side once picked, else the one nearer the heading, or 1 where that is a NaN
unfoldable pub picked_side : Option Float → Float → Float → Float
picked_side None heading toward = cond (lt (wrap_angle (heading ⊖ toward)) zero) (neg one) one
picked_side (Some s) heading toward = s

-- The wind is strong enough, and its direction known well enough: the spread across it, over its speed, is small.
abbrev pub known : HeadingConfig → WindEstimate → Bool
known config present =
    let v = present.velocity_mps in
    let speed = norm v in
    let across = over (record { x = neg v.y; y = v.x }) speed in
    le config.wind_heading_min_mps speed && le (sd_along present across) (speed ⊗ config.wind_heading_max_sd_rad)

-- none where the wind is not known
unfoldable pub wingtip : Option Float → HeadingConfig → WindEstimate → Float → Wingtip
wingtip side config present heading =
    let toward = atan2f present.velocity_mps.y present.velocity_mps.x in
    let s = picked_side side heading toward in
    cond (known config present)
    (record { side = Some s; heading_rad = Some (wrap_angle (toward ⊕ s ⊗ (pi ⊖ config.wind_heading_from_wind_rad))) })
    (record { side = side; heading_rad = None })

-- ---- the target

-- it moves where there was none, or where the wingtip's heading is off it by more than the deadband
unfoldable pub moved : Option Float → Option Float → Float → Option Float
moved target None deadband = target
moved None (Some to) deadband = Some to
moved (Some from) (Some to) deadband = cond (lt deadband (abs (wrap_angle (to ⊖ from)))) (Some to) (Some from)

unfoldable pub weigh : WindHeading → HeadingConfig → WindEstimate → Float → WindTurn
weigh self config present heading =
    let tip = wingtip self.side config present heading in
    let target = moved self.target_rad tip.heading_rad config.wind_heading_deadband_rad in
    record { wind = record { side = tip.side; target_rad = target; weighed = Some present }; target_rad = target }

-- with an estimate, or without
unfoldable pub target_at : Option WindEstimate → WindHeading → HeadingConfig → Float → WindTurn
target_at None self config heading = record { wind = self; target_rad = self.target_rad }
target_at (Some present) self config heading =
    cond (weighed_already self.weighed present) (record { wind = self; target_rad = self.target_rad }) (weigh self config present heading)

-- off without a positive least wind
unfoldable pub target : WindHeading → HeadingConfig → Option WindEstimate → Float → WindTurn
unfolding target_at
target self config estimate heading =
    cond (lt zero config.wind_heading_min_mps) (target_at estimate self config heading) (record { wind = self; target_rad = None })
