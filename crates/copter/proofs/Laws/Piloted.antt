-- What a piloted call does: all but the stored tilt and capped is reset, the raw throttle decides whether it is idle, and the thrust is in [0, 1]. It reads
-- nothing of the lateral memory. A priming leaves a divider and a request as after a reset. Assumes nothing.
use mathlib.Core.Path.{◌≡◌, refl}
use mathlib.Core.Bool.{not}
use lib.Dec.{T}
use lib.Ieee.{Float, lt}
use Rattle.altitude.specs.Altitude as altitude
use Rattle.lateral.specs.Lateral as lateral
use Rattle.wind.specs.declared.state.VehicleState.{VehicleState}
use Rattle.heading.specs.LegHeading as leg
use Rattle.heading.specs.WindHeading as wind
use Rattle.copter.specs.declared.commands.Setpoint.{Setpoint}
use Rattle.copter.specs.declared.memory.LateralMemory.{LateralMemory}
use Rattle.copter.specs.declared.memory.CopterGuidance.{CopterGuidance}
use Rattle.copter.specs.declared.thrust.PilotedThrust.{PilotedThrust}
use Rattle.copter.specs.Config.{below_one}
use Rattle.copter.specs.Memory.{fresh_vertical, fresh_lateral, reset_lateral}
use Rattle.copter.specs.Thrust.{boosted}
use Rattle.copter.specs.Guide.{wind_updated, piloted, piloted_flags, attitude_call, absolute_attitude_call, absolute_rate_call, prime}
use Rattle.copter.specs.Calls.{thrust_of, PilotedCall}
use Rattle.copter.proofs.Laws.Calls.{Piloted, attitude, absolute_attitude, absolute_rate, pilot}
use Rattle.copter.proofs.Laws.Navigation.{FromReset}
use Rattle.copter.proofs.Laws.Thrust.{InUnit, idle_by_raw_throttle, absolute_idle_by_raw_thrust, stick_thrust_in_unit, absolute_thrust_in_unit}

-- ---- a piloted call

-- what the pilot asks for, before boost and clip
abbrev pub raw_throttle : Piloted → Float
raw_throttle (attitude command) = command.throttle
raw_throttle (absolute_attitude command) = command.thrust
raw_throttle (absolute_rate command) = command.thrust

module _ (self : CopterGuidance) (dt : Float) (state : VehicleState) where
  -- a call whose setpoint asks for the thrust that is held
  held_call : (raw heading : Float) (held : PilotedThrust) (setpoint : Setpoint) → held.idle ≡ not (lt self.config.guidance.idle_throttle raw)
      → InUnit held.value → thrust_of setpoint ≡ held.value
      → PilotedCall self raw
      (record {
        craft = record { config = self.config; memory = piloted self.memory self.config dt state heading };
        setpoint = setpoint;
        flags = piloted_flags held;
      })
  unfolding piloted reset_lateral piloted_flags fresh_vertical altitude.fresh lateral.fresh leg.fresh wind.fresh
  held_call raw heading held setpoint i u e =
      record {
        resets =
            record {
              altitude = refl;
              lateral = refl;
              requested = refl;
              divider = refl;
              leg_heading = refl;
              tilt_stays = refl;
              capped_stays = refl;
            };
        idle = i;
        tilt_not_flagged = refl;
        thrust_in_unit = rw e u;
      }

  pub piloted_call : (call : Piloted) → T (below_one self.config.thrust.min_thrust) → PilotedCall self (raw_throttle call) (pilot self dt state call)
  unfolding attitude_call absolute_attitude_call absolute_rate_call
  piloted_call (attitude command) r =
      let throttle = command.throttle in
      let limits = self.config.thrust in
      let climb = state.velocity_mps.z in
      let idle = self.config.guidance.idle_throttle in
      held_call throttle _ _ _
      (idle_by_raw_throttle throttle (boosted throttle state.attitude limits.max_boost_thrust) climb idle limits)
      (stick_thrust_in_unit throttle limits.max_boost_thrust climb idle state.attitude limits r) refl
  piloted_call (absolute_attitude command) r =
      held_call command.thrust _ _ _ (absolute_idle_by_raw_thrust command.thrust state.velocity_mps.z self.config)
      (absolute_thrust_in_unit command.thrust state.velocity_mps.z self.config r) refl
  piloted_call (absolute_rate command) r =
      held_call command.thrust _ _ _ (absolute_idle_by_raw_thrust command.thrust state.velocity_mps.z self.config)
      (absolute_thrust_in_unit command.thrust state.velocity_mps.z self.config r) refl

-- the craft with another lateral memory
unfoldable pub with_lateral : CopterGuidance → LateralMemory → CopterGuidance
with_lateral self lateral =
    record {
      config = self.config;
      memory =
          record {
            vertical = self.memory.vertical;
            lateral = lateral;
            heading_rad = self.memory.heading_rad;
            leg_heading = self.memory.leg_heading;
            wind = self.memory.wind;
          };
    }

-- Whatever the lateral memory was, the answer is the same, and what is left differs in no more than the stored tilt and capped.
pub lateral_unread : (self : CopterGuidance) (dt : Float) (state : VehicleState) (call : Piloted) (lateral : LateralMemory)
    → pilot (with_lateral self lateral) dt state call
    ≡ record {
      craft = with_lateral (pilot self dt state call).craft (reset_lateral lateral);
      setpoint = (pilot self dt state call).setpoint;
      flags = (pilot self dt state call).flags;
    }
unfolding with_lateral attitude_call absolute_attitude_call absolute_rate_call piloted wind_updated
lateral_unread self dt state (attitude command) lateral = refl
lateral_unread self dt state (absolute_attitude command) lateral = refl
lateral_unread self dt state (absolute_rate command) lateral = refl

-- ---- a priming

pub prime_uprights : (self : CopterGuidance) (state : VehicleState) → (prime self state).memory.lateral ≡ fresh_lateral
unfolding prime
prime_uprights self state = refl

pub upright_from_reset : FromReset fresh_lateral
unfolding fresh_lateral
upright_from_reset = record { never_ran = refl; no_request = refl }
