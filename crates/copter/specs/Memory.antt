-- What guidance remembers, and what is reset, from copter.rs. Assumes nothing.
use Rattle.std.specs.Prelude.{false, None}
use Rattle.math.specs.Math.{zero}
use Rattle.math.specs.Vectors.{zeros}
use Rattle.controllers.specs.RateDivider.{reset}
use Rattle.altitude.specs.Altitude as altitude
use Rattle.lateral.specs.Lateral as lateral
use Rattle.heading.specs.LegHeading as leg
use Rattle.heading.specs.HoverWind as wind
use Rattle.copter.specs.declared.memory.VerticalMemory.{VerticalMemory}
use Rattle.copter.specs.declared.memory.LateralMemory.{LateralMemory}
use Rattle.copter.specs.declared.memory.Memory.{Memory}

-- the vertical loop as it starts, with no target
unfoldable pub fresh_vertical : VerticalMemory
fresh_vertical = record { controller = altitude.fresh; target = None; descent_speed_mps = zero }

-- the lateral loop before its first run
unfoldable pub fresh_lateral : LateralMemory
fresh_lateral = record { controller = lateral.fresh; rate = reset; tilt_rad = zeros; tilt_capped = false; requested_accel_mps2 = zeros }

-- reset, all but the stored tilt and whether it was capped
unfoldable pub reset_lateral : LateralMemory → LateralMemory
reset_lateral self =
    record {
      controller = lateral.fresh;
      rate = reset;
      tilt_rad = self.tilt_rad;
      tilt_capped = self.tilt_capped;
      requested_accel_mps2 = zeros;
    }

-- what `CopterGuidance::new` sets
unfoldable pub fresh : Memory
fresh = record { vertical = fresh_vertical; lateral = fresh_lateral; heading_rad = zero; leg_heading = leg.fresh; wind = wind.fresh }
