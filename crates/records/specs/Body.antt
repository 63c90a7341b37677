-- A body with its kind, as the port hands it on. Nothing here has to be believed, since `record` and `fly` are stated without it. Assumes nothing.
use Rattle.std.specs.Prelude.{ℕ, ◌≡◌, cond, List, [], ◌∷◌, Option, None, Some, ltb, get_or, length, take, refl}
use Rattle.std.specs.Coded.{Coded, code_by, coded_ℕ}
use Rattle.records.specs.declared.kinds.Call.TheVariants as calls
use Rattle.records.specs.declared.kinds.InFlight.{InFlight}
use Rattle.records.specs.declared.kinds.InFlight.TheVariants as flights
use Rattle.records.specs.declared.kinds.Kind.TheVariants as kinds
use Rattle.records.specs.Layout.{size}
use Rattle.records.specs.Kinds.{in_flight_layout, body_length}

-- as many bytes as the kind has
abbrev pub Whole : InFlight → List ℕ → Type 0
Whole kind bytes = length bytes ≡ size (in_flight_layout kind)

-- the body that bytes start with, or none where it is cut short
unfoldable pub whole_body : InFlight → List ℕ → Option (InFlight × List ℕ)
whole_body kind rest =
    let needed = body_length (Some (kinds.InFlight kind)) in cond (ltb (length rest) needed) None (Some (kind, take needed rest))

-- ---- a number for each kind, which the value of a model has to have

abbrev pub in_order : List InFlight
in_order =
    flights.Prime
    ∷ flights.Rate
    ∷ flights.Wind
    ∷ flights.Call calls.Attitude
    ∷ flights.Call calls.Waypoint
    ∷ flights.Call calls.AbsoluteAttitude
    ∷ flights.Call calls.Land
    ∷ flights.Call calls.AbsoluteRate
    ∷ []

abbrev pub place : InFlight → ℕ
place flights.Prime = 0
place flights.Rate = 1
place flights.Wind = 2
place (flights.Call calls.Attitude) = 3
place (flights.Call calls.Waypoint) = 4
place (flights.Call calls.AbsoluteAttitude) = 5
place (flights.Call calls.Land) = 6
place (flights.Call calls.AbsoluteRate) = 7

pub placed : (kind : InFlight) → get_or in_order (place kind) flights.Prime ≡ kind
placed flights.Prime = refl
placed flights.Rate = refl
placed flights.Wind = refl
placed (flights.Call calls.Attitude) = refl
placed (flights.Call calls.Waypoint) = refl
placed (flights.Call calls.AbsoluteAttitude) = refl
placed (flights.Call calls.Land) = refl
placed (flights.Call calls.AbsoluteRate) = refl

abbrev pub coded_in_flight : Coded InFlight
coded_in_flight = code_by ℕ coded_ℕ place (λ n. get_or in_order n flights.Prime) placed
