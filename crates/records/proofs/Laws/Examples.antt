-- The claims over lists of records are not empty: document 01's worked flight has an accepted configure, a priming and an ending call as the claim over whole feeds
-- asks for them. After its configure and its priming, a priming above the ground and a record of each other kind but 4 are accepted too. `examples` computes each, and `flight_forgets` is the claim of that flight. Its
-- configuration is the Rust's default one, but for the wind. Assumes nothing.
use Rattle.std.specs.Prelude.{None, Ok}
use mathlib.Core.Path.{◌≡◌, refl}
use mathlib.Core.Bool.{true, false}
use mathlib.Core.Logic.{inl, inr}
use mathlib.Core.List.{List, [], ◌∷◌, ◌++◌, map}
use lib.Dec.{T}
use lib.ListN.{replicate}
use lib.Ieee.{is_nan, sub, rem, lt, le, of_bits, to_bits}
use lib.Ieee.Scale.{finite}
use Rattle.floats.specs.Compare.{abs}
use Rattle.floats.specs.MinMax.{clamp}
use Rattle.math.specs.Math.{zero, half, two, wrap_angle, rem_euclid, saturate_throttle, guard_sink}
use Rattle.math.specs.Vectors.{zeros}
use Rattle.controllers.specs.Checks.{check_limit, check_positive, check_unit_interval, check_tilt}
use Rattle.wind.specs.Wind as wind
use Rattle.heading.specs.HoverWind as hover
use Rattle.copter.specs.Config.{below_one, above_descending, up_to_pi, field_count, defaults, rule, lowest, config_of, default_config}
use Rattle.copter.specs.Thrust.{clip_thrust, floor_thrust, guarded, hold_piloted, hold_absolute}
use Rattle.copter.specs.Memory.{fresh}
use Rattle.copter.specs.Guide.{heading_target, command_heading, piloted_flags, attitude_call, absolute_attitude_call, absolute_rate_call}
use Rattle.copter.specs.Guide.{fly_to, waypoint_call, land_call, guide_call, new_craft, prime, wind_reading}
use Rattle.records.specs.Answer.{setpoint_bytes, answer_bytes}
use Rattle.records.specs.Craft.{unconfigured}
use Rattle.records.specs.Layout.{float_at, floats_from, number, laid}
use Rattle.records.specs.Kinds.{kind_of, body_length}
use Rattle.records.specs.Values.{waypoint_values, land_values}
use Rattle.records.specs.Read.{state, marks_ok, absolute_attitude_command, command, state_at, time_step_ok, heading_ok, configuration, read}
use Rattle.records.specs.Step.{setpoint_answer, wind_answer, guided, perform, configure, told, serve, with_kind, judged, craft_after, answer_of, answered, step}
use Rattle.records.specs.Feed.{Entry, after, machine, replies, Link, Fed, given_back, port_replies, body_of, Accepted}
use Rattle.records.specs.Feed.{Ending, ending_heading, Priming, reset, above_ground}
use Rattle.records.specs.Worked.{sent, worked_fields, configuring, still, priming, flying, flight, output, worked_answers}
use Rattle.records.proofs.Laws.Feed.{whole_feeds}

-- a priming at a height of 2, which is more than field 36 above a ground at 0
unfoldable pub climbed : Entry
climbed = sent 2 ((number zero ∷ number zero ∷ number two ∷ []) ++ replicate 12 (number zero))

-- T 0.5, the state, and a waypoint at (0, 0), with no velocity and no heading
unfoldable pub navigating : Entry
navigating =
    sent 5
    ((number half ∷ []) ++ still
    ++ waypoint_values (record { velocity = zeros; heading = zero })
    (record {
      position_m = zeros;
      velocity_mps = None;
      altitude_m = zero;
      cruise_speed_mps = zero;
      heading_rad = None;
    }))

-- T 0.5, the state, and a landing at (0, 0)
unfoldable pub landing : Entry
landing = sent 7 ((number half ∷ []) ++ still ++ land_values (record { position_m = zeros }))

abbrev pub reading_wind : Entry
reading_wind = sent 9 []

-- the lists before the entries
abbrev pub once_configured : List Entry
once_configured = configuring ∷ []

abbrev pub once_primed : List Entry
once_primed = configuring ∷ priming ∷ []

pub record Examples : Type 0 where
  pub configure_accepted : Accepted unconfigured configuring
  pub primed : Priming (machine once_configured) priming
  pub primed_on_ground : above_ground (machine once_configured).guidance (state_at (body_of priming) 0) ≡ false
  pub primed_again : Priming (machine once_primed) climbed
  pub primed_above_ground : above_ground (machine once_primed).guidance (state_at (body_of climbed) 0) ≡ true
  pub attitude_accepted : Accepted (machine once_primed) (flying 3)
  pub waypoint_accepted : Accepted (machine once_primed) navigating
  pub land_accepted : Accepted (machine once_primed) landing
  pub wind_accepted : Accepted (machine once_primed) reading_wind
  pub ended_by_six : Ending (machine once_primed) (flying 6)
  pub six_heading_finite : T (finite (ending_heading (flying 6)))
  pub ended_by_eight : Ending (machine once_primed) (flying 8)
  pub eight_heading_finite : T (finite (ending_heading (flying 8)))
  pub flight_answered : output (replies unconfigured flight) ≡ worked_answers

pub examples : Examples
unfolding
    output replies after flight configuring priming climbed flying navigating landing worked_fields worked_answers
    step judged with_kind kind_of body_length answered craft_after answer_of setpoint_bytes answer_bytes
    serve configure told perform guided setpoint_answer wind_answer wind_reading guide_call
    laid floats_from float_at state absolute_attitude_command marks_ok command configuration read heading_ok time_step_ok
    defaults rule lowest config_of check_limit check_positive check_unit_interval check_tilt below_one above_descending up_to_pi
    new_craft fresh prime hover.fresh hover.prime hover.airborne hover.latched wind.fresh
    attitude_call absolute_attitude_call absolute_rate_call waypoint_call land_call fly_to
    command_heading heading_target piloted_flags clip_thrust floor_thrust guarded hold_piloted hold_absolute guard_sink saturate_throttle
    wrap_angle rem_euclid clamp abs sub rem le is_nan of_bits to_bits
examples =
    record {
      configure_accepted = tt;
      primed = record { accepted = tt; kind_two = refl };
      primed_on_ground = refl;
      primed_again = record { accepted = tt; kind_two = refl };
      primed_above_ground = refl;
      attitude_accepted = tt;
      waypoint_accepted = tt;
      land_accepted = tt;
      wind_accepted = tt;
      ended_by_six = record { accepted = tt; six_or_eight = inl refl };
      six_heading_finite = tt;
      ended_by_eight = record { accepted = tt; six_or_eight = inr refl };
      eight_heading_finite = tt;
      flight_answered = refl;
    }

-- ---- the configuration of the flight

-- What the bytes of its fields say is the configuration of its fields,
pub worked_configuration : configuration (laid (map number worked_fields)) ≡ Ok (config_of worked_fields)
unfolding
    configuration worked_fields laid floats_from float_at lowest rule config_of defaults
    check_limit check_positive check_unit_interval check_tilt below_one above_descending up_to_pi lt le of_bits to_bits
worked_configuration = refl

-- the Rust's default one, with the wind fields 0.
pub worked_as_default :
    config_of worked_fields
    ≡ record {
      altitude = default_config.altitude;
      lateral = default_config.lateral;
      guidance = default_config.guidance;
      thrust = default_config.thrust;
      wind = (config_of (replicate field_count zero)).wind;
    }
unfolding config_of worked_fields default_config
worked_as_default = refl

-- ---- the claim applied

-- After the worked flight's call of kind 6 every list is answered as from the reset memory.
pub flight_forgets : (last : List Entry) (before later : List Link)
    → Fed unconfigured (once_primed ++ (flying 6 ∷ [])) before
    → Fed (given_back unconfigured before) last later
    → port_replies later ≡ replies (reset (machine (once_primed ++ (flying 6 ∷ []))) (wrap_angle (ending_heading (flying 6)))) last
flight_forgets last before later fed fed_later =
    whole_feeds.ending_call_forgets once_primed (flying 6) last before later fed fed_later examples.ended_by_six examples.six_heading_finite
