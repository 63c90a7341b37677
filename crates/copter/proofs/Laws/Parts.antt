-- The parts of a configuration whose fields stand together in a list of all: what those fields make is what the definitions name one by one. Assumes
-- nothing.
use Rattle.std.proofs.Common.{rules, ◌≡◌, ℕ, ◌+◌, ◌<◌, ◌∙◌, take, drop, get_or, List}
use Rattle.std.proofs.lemmas.List.{get_or-take, get_or-drop}
use Rattle.std.specs.Float.{nan}
use Rattle.std.specs.Prelude.{Float}
use Rattle.altitude.specs.Altitude as altitude
use Rattle.lateral.specs.Lateral as lateral
use Rattle.heading.specs.Config as heading
use Rattle.wind.specs.Drag as wind
use Rattle.copter.specs.Config.{altitude_of, lateral_of, heading_of, wind_of}

-- the k-th of n numbers from a place on
in_part : (values : List Float) (n from k : ℕ) → k < n → get_or (take n (drop from values)) k nan ≡ get_or values (from + k) nan
in_part values n from k inside = get_or-take n (drop from values) k nan inside ∙ get_or-drop from values k nan

pub altitude_part : (values : List Float) → altitude.config_of (take 6 (drop 0 values)) ≡ altitude_of values
altitude_part values = search rules

pub lateral_part : (values : List Float) → lateral.config_of (take 8 (drop 6 values)) ≡ lateral_of values
lateral_part values = search rules

pub heading_part : (values : List Float) → heading.config_of (take 10 (drop 25 values)) ≡ heading_of values
heading_part values = search (rules, in_part values 10 25)

pub wind_part : (values : List Float) → wind.config_of (take 9 (drop 41 values)) ≡ wind_of values
wind_part values = search (rules, in_part values 9 41)
