-- What each call does, from document 01 and copter.rs. Assumes nothing.
use Rattle.std.specs.Prelude.{false, cond, ◌||◌, Float, None, Option}
use Rattle.std.specs.Float.Ieee.{le}
use Rattle.std.specs.Float.Ieee.Scale.{finite}
use Rattle.floats.specs.Ops.{◌⊕◌, ◌⊗◌}
use Rattle.math.specs.Math.{zero, one, saturate_unit, wrap_angle}
use Rattle.altitude.specs.Altitude.{control}
use Rattle.altitude.specs.declared.AltitudeTarget.{AltitudeTarget}
use Rattle.altitude.specs.declared.AltitudeControl.{AltitudeControl}
use Rattle.wind.specs.declared.state.VehicleState.{VehicleState}
use Rattle.heading.specs.HoverWind as hover
use Rattle.heading.specs.LegHeading as leg
use Rattle.heading.specs.declared.hover_wind.HoverWind.{HoverWind}
use Rattle.heading.specs.declared.leg_heading.Turn.{Turn}
use Rattle.copter.specs.declared.commands.AttitudeCommand.{AttitudeCommand}
use Rattle.copter.specs.declared.commands.WaypointCommand.{WaypointCommand}
use Rattle.copter.specs.declared.commands.AbsoluteAttitudeCommand.{AbsoluteAttitudeCommand}
use Rattle.copter.specs.declared.commands.LandCommand.{LandCommand}
use Rattle.copter.specs.declared.commands.AbsoluteRateCommand.{AbsoluteRateCommand}
use Rattle.copter.specs.declared.commands.Command.{Command}
use Rattle.copter.specs.declared.commands.Command.TheVariants as commands
use Rattle.copter.specs.declared.commands.Setpoint.TheVariants.{Attitude, BodyRate}
use Rattle.copter.specs.declared.commands.Flags.{Flags}
use Rattle.copter.specs.declared.config.CopterGuidanceConfig.{CopterGuidanceConfig}
use Rattle.copter.specs.declared.memory.VerticalMemory.{VerticalMemory}
use Rattle.copter.specs.declared.memory.LateralMemory.{LateralMemory}
use Rattle.copter.specs.declared.memory.Memory.{Memory}
use Rattle.copter.specs.declared.memory.CopterGuidance.{CopterGuidance}
use Rattle.copter.specs.declared.thrust.Thrust.{Thrust}
use Rattle.copter.specs.declared.thrust.PilotedThrust.{PilotedThrust}
use Rattle.copter.specs.declared.descent.Descended.{Descended}
use Rattle.copter.specs.declared.tilt.Course.{Course}
use Rattle.copter.specs.declared.guide.Guided.{Guided}
use Rattle.copter.specs.Memory.{fresh_vertical, fresh_lateral, reset_lateral, fresh}
use Rattle.copter.specs.Thrust.{floor_thrust, hold_piloted, hold_absolute, boosted}
use Rattle.copter.specs.Descent.{descend_toward, land_descent}
use Rattle.wind.specs.declared.estimate.WindEstimate.{WindEstimate}
use Rattle.copter.specs.Tilt.{tilt_toward}

-- ---- the heading target

-- the wrapped estimate, or the heading kept where the estimate is not finite
unfoldable pub followed_heading : Float → Float → Float
followed_heading kept estimate = cond (finite estimate) (wrap_angle estimate) kept

-- wrapped; if the wrap is not finite, the wrapped estimate; if that is not finite either, kept
unfoldable pub heading_target : Float → Float → Float → Float
heading_target kept target estimate =
    let wrapped = wrap_angle target in
    cond (finite wrapped) wrapped (followed_heading kept estimate)

-- a commanded heading that is not finite holds the present target
unfoldable pub command_heading : Float → Float → Float
command_heading kept commanded = cond (finite commanded) commanded kept

-- ---- what comes first in a call

unfoldable pub wind_updated : Memory → CopterGuidanceConfig → Float → VehicleState → HoverWind
wind_updated self config dt state = hover.update self.wind dt config.wind config.guidance.airborne_height_m state

-- All of navigation reset: the vertical and lateral loops and the leg heading. The stored tilt and its flag stay.
abbrev pub released : LateralMemory → Float → HoverWind → Memory
released lateral heading wind =
    record { vertical = fresh_vertical; lateral = reset_lateral lateral; heading_rad = heading; leg_heading = leg.fresh; wind = wind }

-- what every call but waypoint and land leaves
unfoldable pub piloted : Memory → CopterGuidanceConfig → Float → VehicleState → Float → Memory
piloted self config dt state heading = released self.lateral heading (wind_updated self config dt state)

-- ---- piloted calls

unfoldable pub piloted_flags : PilotedThrust → Flags
piloted_flags held = record { tilt = false; thrust = held.saturated; idle = held.idle }

-- sticks scaled to angles; the yaw stick turns the heading target
unfoldable pub attitude_call : CopterGuidance → Float → VehicleState → AttitudeCommand → Guided
attitude_call self dt state command =
    let config = self.config in
    let guidance = config.guidance in
    let before = self.memory in
    let turned = before.heading_rad ⊕ saturate_unit command.yaw ⊗ guidance.stick_yaw_rate_radps ⊗ dt in
    let heading = heading_target before.heading_rad turned state.heading_rad in
    let throttle = command.throttle in
    let raised = boosted throttle state.attitude config.thrust.max_boost_thrust in
    let held = hold_piloted throttle raised state.velocity_mps.z guidance.idle_throttle config.thrust in
    record {
      craft = record { config = config; memory = piloted before config dt state heading };
      setpoint =
          Attitude
          (record {
            roll_rad = saturate_unit command.roll ⊗ guidance.max_stick_angles_rad.x;
            pitch_rad = saturate_unit command.pitch ⊗ guidance.max_stick_angles_rad.y;
            heading_rad = heading;
            thrust = held.value;
          });
      flags = piloted_flags held;
    }

-- roll and pitch as commanded; the heading replaces the heading target
unfoldable pub absolute_attitude_call : CopterGuidance → Float → VehicleState → AbsoluteAttitudeCommand → Guided
absolute_attitude_call self dt state command =
    let config = self.config in
    let before = self.memory in
    let target = command_heading before.heading_rad command.heading_rad in
    let heading = heading_target before.heading_rad target state.heading_rad in
    let held = hold_absolute command.thrust state.velocity_mps.z config in
    record {
      craft = record { config = config; memory = piloted before config dt state heading };
      setpoint =
          Attitude
          (record {
            roll_rad = command.roll_rad;
            pitch_rad = command.pitch_rad;
            heading_rad = heading;
            thrust = held.value;
          });
      flags = piloted_flags held;
    }

-- rates as commanded; the heading target follows the craft
unfoldable pub absolute_rate_call : CopterGuidance → Float → VehicleState → AbsoluteRateCommand → Guided
absolute_rate_call self dt state command =
    let config = self.config in
    let before = self.memory in
    let heading = followed_heading before.heading_rad state.heading_rad in
    let held = hold_absolute command.thrust state.velocity_mps.z config in
    record {
      craft = record { config = config; memory = piloted before config dt state heading };
      setpoint =
          BodyRate
          (record {
            roll_radps = command.roll_radps;
            pitch_radps = command.pitch_radps;
            yaw_radps = command.yaw_radps;
            thrust = held.value;
          });
      flags = piloted_flags held;
    }

-- ---- waypoint and land

-- the altitude loop's thrust, floored; on a bound of [0, 1] it was clipped
unfoldable pub navigated_thrust : Float → Float → Thrust
navigated_thrust linear least =
    let floored = floor_thrust linear least in
    record { value = floored.value; saturated = le linear zero || le one linear || floored.saturated }

unfoldable pub altitude_control : VerticalMemory → CopterGuidanceConfig → Float → AltitudeTarget → VehicleState → AltitudeControl
altitude_control vertical config dt target state =
    control vertical.controller config.altitude dt target
    (record { altitude_m = state.position_m.z; velocity_mps = state.velocity_mps.z; attitude = state.attitude })

-- a course at an altitude target, with the heading turned and the wind updated
unfoldable pub fly_to : CopterGuidance → Float → VehicleState → Course → Descended → Turn → HoverWind → Guided
fly_to self dt state course descended turn wind =
    let config = self.config in
    let before = self.memory in
    let turned = heading_target before.heading_rad turn.heading_rad state.heading_rad in
    let heading = heading_target turned turned state.heading_rad in
    let tilted = tilt_toward before.lateral config dt course (hover.estimate wind) state in
    let controlled = altitude_control before.vertical config dt descended.target state in
    let thrust = navigated_thrust controlled.thrust config.thrust.min_thrust in
    record {
      craft =
          record {
            config = config;
            memory =
                record {
                  vertical =
                      record { controller = controlled.controller; target = descended.hold; descent_speed_mps = descended.speed_mps };
                  lateral = tilted.memory;
                  heading_rad = heading;
                  leg_heading = turn.memory;
                  wind = wind;
                };
          };
      setpoint =
          Attitude
          (record {
            roll_rad = tilted.tilt_rad.x;
            pitch_rad = tilted.tilt_rad.y;
            heading_rad = heading;
            thrust = thrust.value;
          });
      flags = record { tilt = tilted.memory.tilt_capped; thrust = thrust.saturated; idle = false };
    }

unfoldable pub waypoint_call : CopterGuidance → Float → VehicleState → WaypointCommand → Guided
waypoint_call self dt state command =
    let config = self.config in
    let before = self.memory in
    let vertical = before.vertical in
    let wind = wind_updated before config dt state in
    let descended =
    descend_toward config dt vertical.target vertical.descent_speed_mps command.altitude_m state.position_m.z
    state.velocity_mps.z in
    let turn =
    leg.target before.leg_heading dt config.guidance.heading before.heading_rad command.position_m command.heading_rad
    (hover.estimate wind) state in
    let course : Course =
    record { position_m = command.position_m; velocity_mps = command.velocity_mps; cruise_speed_mps = command.cruise_speed_mps } in
    fly_to self dt state course descended turn wind

-- no target velocity, and a cruise speed of 0, which means no cap
unfoldable pub land_call : CopterGuidance → Float → VehicleState → LandCommand → Guided
land_call self dt state command =
    let config = self.config in
    let before = self.memory in
    let vertical = before.vertical in
    let wind = wind_updated before config dt state in
    let descended =
    land_descent config dt vertical.target vertical.descent_speed_mps state.position_m.z state.velocity_mps.z in
    let turn =
    leg.land_target before.leg_heading dt config.guidance.heading before.heading_rad (hover.estimate wind) state in
    let course : Course = record { position_m = command.position_m; velocity_mps = None; cruise_speed_mps = zero } in
    fly_to self dt state course descended turn wind

-- ---- a call with its command

unfoldable pub guide_call : CopterGuidance → Float → VehicleState → Command → Guided
guide_call self dt state (commands.Attitude command) = attitude_call self dt state command
guide_call self dt state (commands.Waypoint command) = waypoint_call self dt state command
guide_call self dt state (commands.AbsoluteAttitude command) = absolute_attitude_call self dt state command
guide_call self dt state (commands.Land command) = land_call self dt state command
guide_call self dt state (commands.AbsoluteRate command) = absolute_rate_call self dt state command

-- ---- configure, prime and the wind reading

unfoldable pub new_craft : CopterGuidanceConfig → CopterGuidance
new_craft config = record { config = config; memory = fresh }

-- the heading is stored as given
unfoldable pub prime : CopterGuidance → VehicleState → CopterGuidance
prime self state =
    record {
      config = self.config;
      memory =
          record {
            vertical = fresh_vertical;
            lateral = fresh_lateral;
            heading_rad = state.heading_rad;
            leg_heading = leg.fresh;
            wind = hover.prime self.memory.wind self.config.guidance.airborne_height_m state;
          };
    }

unfoldable pub wind_reading : CopterGuidance → Option WindEstimate
wind_reading self = hover.estimate self.memory.wind
