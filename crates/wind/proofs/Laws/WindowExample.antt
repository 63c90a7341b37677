-- `WindowCloses` is not about nothing: a configuration with drag, a state whose sample is accepted, and windows that close with their 820th sample.
-- Assumes nothing.
use Rattle.std.proofs.Common.{◌≡◌, ℕ, suc, ◌≤◌, true, replicate, refl}
use lib.ListN.{length-replicate}
use lib.Ieee.{of_bits, neg, add, sub, mul, lt, le}
use Rattle.floats.specs.Ops.{f32}
use Rattle.floats.specs.Compare.{abs}
use Rattle.math.specs.Math.{zero, tenth, half, one, all_finite}
use Rattle.math.specs.Vectors.{zeros}
use Rattle.controllers.specs.RateDivider.{shortest}
use Rattle.wind.specs.declared.state.VehicleState.{VehicleState}
use Rattle.wind.specs.declared.drag.WindConfig.{WindConfig}
use Rattle.wind.specs.Drag.{is_on}
use Rattle.wind.specs.Sample.{rotation, body_axes, specific_force_ned, sample_finite, along, from_state}
use Rattle.wind.specs.Wind.{fresh}
use Rattle.wind.specs.Window.{AcceptedSample, LeastSteps, ClosesAt}
use Rattle.wind.proofs.Laws.Window.{window_closes}

-- momentum drag of 0.3 on both axes
abbrev pub with_drag : WindConfig
with_drag =
    record {
      ballistic_kgpm2 = zeros;
      momentum_per_s = record { x = f32 0x3E99_999A; y = f32 0x3E99_999A };
      force_noise_mps2 = half;
      process_noise_mps_per_rt_s = tenth;
      initial_sd_mps = f32 0x4120_0000;  -- 10
      gate_sigma = f32 0x40A0_0000;  -- 5
      max_axial_speed_mps = one;
    }

pub with_drag_on : is_on with_drag ≡ true
unfolding is_on of_bits lt
with_drag_on = refl

-- level, heading north and at rest
abbrev pub at_rest : VehicleState
at_rest =
    record {
      position_m = record { x = zero; y = zero; z = zero };
      velocity_mps = record { x = zero; y = zero; z = zero };
      acceleration_mps2 = record { x = zero; y = zero; z = zero };
      attitude = record { w = one; i = zero; j = zero; k = zero };
      angular_velocity_z_radps = zero;
      heading_rad = zero;
    }

unfoldable pub sample_taken_example : AcceptedSample with_drag
unfolding from_state along body_axes rotation specific_force_ned sample_finite all_finite abs of_bits neg add sub mul lt le
sample_taken_example =
    record {
      dt = shortest;
      state = at_rest;
      sample = along (body_axes at_rest.attitude) at_rest;
      step_accepted = record { at_least = tt; at_most = tt };
      is_taken = refl;
    }

at_least_step : (n : ℕ) → LeastSteps (replicate n sample_taken_example)
unfolding sample_taken_example
at_least_step ℕ.zero = tt
at_least_step (suc n) = (refl, at_least_step n)

-- however many samples follow
pub reaches_820_example : (n : ℕ) → 820 ≤ n → ClosesAt fresh with_drag (replicate n sample_taken_example) 820
unfolding fresh
reaches_820_example n h =
    window_closes.at_820 fresh with_drag (replicate n sample_taken_example) refl with_drag_on (rw length-replicate h) (at_least_step n)
