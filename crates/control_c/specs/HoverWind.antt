-- A wind update as C makes it. Assumes nothing.
use Rattle.std.specs.Prelude.{ℕ, List, [], ◌∷◌, Float}
use Rattle.wind.specs.declared.state.VehicleState.{VehicleState}
use Rattle.wind.specs.declared.drag.WindConfig.{WindConfig}
use Rattle.wind.specs.declared.window.Window.{Window}
use Rattle.heading.specs.HoverWind.{update}
use Rattle.heading.specs.declared.hover_wind.HoverWind.{HoverWind}
use Rattle.math.specs.Math.{zero}
use Rattle.wind.specs.declared.estimate.WindEstimate.{WindEstimate}
use Rattle.control_c.specs.declared.memory.Held.{Held}
use Rattle.control_c.specs.Places.{at, vec2}
use Rattle.control_c.specs.Missing.{held, number_from, estimate_from, no_estimate}

-- The window's sums in places 7 to 16; its count of samples is a number of its own.
abbrev pub window : List Float → ℕ → Window
window m ticks =
    record {
      elapsed_s = at m 7;
      ticks = ticks;
      sums =
          record {
            specific_force_mps2 = vec2 m 8 9;
            ground_along_mps = vec2 m 10 11;
            axis_x = vec2 m 12 13;
            axis_y = vec2 m 14 15;
            axial_mps = at m 16;
          };
    }

-- The estimate, the window and the altitude of the ground.
abbrev pub memory : List Float → ℕ → HoverWind
memory m ticks =
    record {
      estimator = record { filter = estimate_from m 0; window = window m ticks };
      ground_altitude_m = number_from m 17;
    }

-- Fields 42 to 50.
abbrev pub config : List Float → WindConfig
config l =
    record {
      ballistic_kgpm2 = vec2 l 0 1;
      momentum_per_s = vec2 l 2 3;
      force_noise_mps2 = at l 4;
      process_noise_mps_per_rt_s = at l 5;
      initial_sd_mps = at l 6;
      gate_sigma = at l 7;
      max_axial_speed_mps = at l 8;
    }

-- The array holds fields 42 to 50, field 36 and dt.
abbrev pub call : HoverWind → List Float → VehicleState → HoverWind
call before l state = update before (at l 10) (config l) (at l 9) state

-- the numbers of a memory
abbrev listed : Held WindEstimate → Window → Held Float → List Float
listed e window altitude =
    e.flag ∷ e.value.velocity_mps.x ∷ e.value.velocity_mps.y ∷
    e.value.covariance_m2ps2.m00 ∷ e.value.covariance_m2ps2.m01 ∷
    e.value.covariance_m2ps2.m10 ∷ e.value.covariance_m2ps2.m11 ∷
    window.elapsed_s ∷ window.sums.specific_force_mps2.x ∷ window.sums.specific_force_mps2.y ∷
    window.sums.ground_along_mps.x ∷ window.sums.ground_along_mps.y ∷
    window.sums.axis_x.x ∷ window.sums.axis_x.y ∷ window.sums.axis_y.x ∷ window.sums.axis_y.y ∷
    window.sums.axial_mps ∷ altitude.flag ∷ altitude.value ∷ []

abbrev pub numbers : HoverWind → List Float
numbers after = listed (held after.estimator.filter no_estimate) after.estimator.window (held after.ground_altitude_m zero)
