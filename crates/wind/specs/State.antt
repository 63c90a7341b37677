-- The state of fifteen numbers. Assumes nothing.
use Rattle.std.specs.Prelude.{List, get_or, Float}
use Rattle.std.specs.Float.{nan}
use Rattle.wind.specs.declared.state.VehicleState.{VehicleState}

-- in the order of its fields, counted from 0
abbrev pub state_of : List Float → VehicleState
state_of values =
    record {
      position_m = record { x = get_or values 0 nan; y = get_or values 1 nan; z = get_or values 2 nan };
      velocity_mps = record { x = get_or values 3 nan; y = get_or values 4 nan; z = get_or values 5 nan };
      acceleration_mps2 = record { x = get_or values 6 nan; y = get_or values 7 nan; z = get_or values 8 nan };
      attitude = record { w = get_or values 9 nan; i = get_or values 10 nan; j = get_or values 11 nan; k = get_or values 12 nan };
      angular_velocity_z_radps = get_or values 13 nan;
      heading_rad = get_or values 14 nan;
    }
