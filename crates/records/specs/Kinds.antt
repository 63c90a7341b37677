-- The kinds of records and the layout of each body, as document 01's "The flight file" has them. Assumes nothing.
use Rattle.std.specs.Prelude.{ℕ, List, [], ◌∷◌, ◌++◌, get_or, None, Option, Some}
use Rattle.copter.specs.Config.{field_count}
use Rattle.records.specs.declared.kinds.Call.{Call}
use Rattle.records.specs.declared.kinds.Call.TheVariants as calls
use Rattle.records.specs.declared.kinds.InFlight.{InFlight}
use Rattle.records.specs.declared.kinds.InFlight.TheVariants as flights
use Rattle.records.specs.declared.kinds.Kind.{Kind}
use Rattle.records.specs.declared.kinds.Kind.TheVariants as kinds
use Rattle.records.specs.Layout.{Part, Mark, numbers, size}

-- ---- the byte of kind

abbrev pub call : Call → Option Kind
call c = Some (kinds.InFlight (flights.Call c))

-- what the bytes 0, 1, 2 and so on say
unfoldable pub known : List (Option Kind)
known =
    None
    ∷ Some kinds.Configure  -- 1
    ∷ Some (kinds.InFlight flights.Prime)  -- 2
    ∷ call calls.Attitude  -- 3
    ∷ Some (kinds.InFlight flights.Rate)  -- 4
    ∷ call calls.Waypoint  -- 5
    ∷ call calls.AbsoluteAttitude  -- 6
    ∷ call calls.Land  -- 7
    ∷ call calls.AbsoluteRate  -- 8
    ∷ Some (kinds.InFlight flights.Wind)  -- 9
    ∷ []

unfoldable pub kind_of : ℕ → Option Kind
unfolding known
kind_of byte = get_or known byte None

-- ---- layouts

-- position, velocity, acceleration (x, y, z each), attitude w, i, j, k, angular velocity z, heading
abbrev pub state_layout : List Part
state_layout = numbers 15

-- T, the time step
abbrev pub step_layout : List Part
step_layout = numbers 1

abbrev pub command_layout : Call → List Part
-- throttle, roll, pitch, yaw
command_layout calls.Attitude = numbers 4
-- position x y, mark, velocity x y, altitude, cruise speed, mark, heading
command_layout calls.Waypoint = numbers 2 ++ (Mark ∷ []) ++ numbers 2 ++ numbers 2 ++ (Mark ∷ []) ++ numbers 1
-- roll, pitch, heading, thrust
command_layout calls.AbsoluteAttitude = numbers 4
-- position x y
command_layout calls.Land = numbers 2
-- roll, pitch, yaw rates, thrust
command_layout calls.AbsoluteRate = numbers 4

abbrev pub in_flight_layout : InFlight → List Part
in_flight_layout flights.Prime = state_layout
in_flight_layout (flights.Call c) = step_layout ++ state_layout ++ command_layout c
in_flight_layout flights.Rate = []
in_flight_layout flights.Wind = []

abbrev pub layout : Option Kind → List Part
layout (Some kinds.Configure) = numbers field_count
layout (Some (kinds.InFlight kind)) = in_flight_layout kind
layout None = []

-- how many bytes follow the kind
unfoldable pub body_length : Option Kind → ℕ
body_length kind = size (layout kind)

-- where a call's state and its command start
abbrev pub state_start : ℕ
state_start = size step_layout

abbrev pub command_start : ℕ
command_start = size (step_layout ++ state_layout)
