-- The craft before the first accepted configure. Assumes nothing.
use Rattle.std.specs.Prelude.{None}
use Rattle.records.specs.declared.craft.Craft.{Craft}

unfoldable pub unconfigured : Craft
unconfigured = record { guidance = None }
