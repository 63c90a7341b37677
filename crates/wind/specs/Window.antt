-- When a window closes: document 01's "A wind window closes after at most 820 accepted samples, a number reached at dt 1/4,096", as the type
-- `WindowCloses`. proofs/Laws/Window.antt proves it. Assumes nothing.
use Rattle.std.specs.Prelude.{◌≡◌, ℕ, ◌+◌, ◌<◌, ◌≤◌, true, false, T, List, [], ◌∷◌, length, take, pos, Float, None, Some}
use Rattle.std.specs.Float.{binary32}
use Rattle.std.specs.Float.Ieee.{of_int, round, lt, le}
use Rattle.std.specs.Float.Ieee.Exact.{HasValue}
use Rattle.std.specs.Float.Ieee.Scale.{finite}
use Rattle.math.specs.Math.{zero}
use Rattle.controllers.specs.RateDivider.{shortest, Accepted}
use Rattle.wind.specs.declared.state.VehicleState.{VehicleState}
use Rattle.wind.specs.declared.drag.WindConfig.{WindConfig}
use Rattle.wind.specs.declared.sample.Sample.{Sample}
use Rattle.wind.specs.declared.window.Window.{Window}
use Rattle.wind.specs.declared.window.WindEstimator.{WindEstimator}
use Rattle.wind.specs.Drag.{is_on}
use Rattle.wind.specs.Sample.{from_state}
use Rattle.wind.specs.Wind.{update_period, empty, grown, closed, update}

-- ---- time steps

-- n of the shortest steps
abbrev pub steps : ℕ → Float
steps n = round binary32 false n 4096

-- ---- one update

-- a window that is open: fewer than 820 samples, at least 1/4,096 s each, and less than 0.2 s in all
pub record OpenWindow (w : Window) : Type 0 where
  pub few : w.ticks < 820
  pub long : T (le (steps w.ticks) w.elapsed_s)
  pub short : T (lt w.elapsed_s update_period)
  pub non_negative : T (le zero w.elapsed_s)
  pub is_finite : T (finite w.elapsed_s)

-- one sample more: counted without overflow, and the count is a whole f32
pub record OneMore (before after : Window) : Type 0 where
  pub counted : after.ticks ≡ before.ticks + 1
  pub few : after.ticks ≤ 820
  pub count_exact : HasValue (of_int binary32 (pos after.ticks)) false after.ticks 1
  pub long : T (le (steps after.ticks) after.elapsed_s)
  pub is_finite : T (finite after.elapsed_s)

-- Nothing changes, or the window has one sample more and stays open, or one of at most 820 samples closes.
pub data Updated (self : WindEstimator) (config : WindConfig) : WindEstimator → Type 0 where
  unchanged : Updated self config self
  open_still : (w : Window) → OneMore self.window w → OpenWindow w → Updated self config (record { filter = self.filter; window = w })
  finished : (w : Window) → OneMore self.window w → T (le update_period w.elapsed_s)
      → Updated self config (record { filter = Some (closed self.filter config w); window = empty })

-- ---- accepted samples

-- the time step and the state of an update that takes a sample
pub record AcceptedSample (config : WindConfig) : Type 0 where
  pub dt : Float
  pub state : VehicleState
  pub sample : Sample
  pub step_accepted : Accepted dt
  pub is_taken : from_state state config.max_axial_speed_mps ≡ Some sample

-- the estimator after these updates
unfoldable pub updates : (config : WindConfig) → WindEstimator → List (AcceptedSample config) → WindEstimator
updates config self [] = self
updates config self (next ∷ samples) = updates config (update self next.dt config next.state) samples

-- a window with these samples added
unfoldable pub sums : {config : WindConfig} → Window → List (AcceptedSample config) → Window
sums window [] = window
sums window (next ∷ samples) = sums (grown window next.dt next.sample) samples

-- each of these samples at dt 1/4,096
abbrev pub LeastSteps : {config : WindConfig} → List (AcceptedSample config) → Type 0
LeastSteps [] = Unit {0}
LeastSteps (next ∷ samples) = (next.dt ≡ shortest) × LeastSteps samples

-- ---- the claim

-- The nth sample closes the window: before it each sample is added, and the filter stays; with it the window is at least 0.2 s long, and a new estimate
-- and an empty window are left. Each sample is counted once.
pub record ClosesAt (self : WindEstimator) (config : WindConfig) (samples : List (AcceptedSample config)) (n : ℕ) : Type 0 where
  pub gathers : (k : ℕ) → k < n
      → updates config self (take k samples) ≡ record { filter = self.filter; window = sums self.window (take k samples) }
  pub counts : (k : ℕ) → k ≤ n → (sums self.window (take k samples)).ticks ≡ self.window.ticks + k
  pub long : T (le update_period (sums self.window (take n samples)).elapsed_s)
  pub closes : updates config self (take n samples)
      ≡ record { filter = Some (closed self.filter config (sums self.window (take n samples))); window = empty }

-- Of an estimator with an empty window, as a fresh one has and as each window that closes leaves, and a configuration with a drag coefficient.
pub record WindowCloses : Type 0 where
  -- among any 820 accepted samples one closes the window
  pub by_820 : (self : WindEstimator) (config : WindConfig) (samples : List (AcceptedSample config))
      → self.window ≡ empty
      → is_on config ≡ true
      → 820 ≤ length samples
      → (n : ℕ) × (1 ≤ n) × (n ≤ 820) × ClosesAt self config samples n
  -- at dt 1/4,096 it is the 820th
  pub at_820 : (self : WindEstimator) (config : WindConfig) (samples : List (AcceptedSample config))
      → self.window ≡ empty
      → is_on config ≡ true
      → 820 ≤ length samples
      → LeastSteps samples
      → ClosesAt self config samples 820
  -- an update that takes no sample changes nothing, so any number of them may stand between
  pub others_change_nothing : (self : WindEstimator) (config : WindConfig) (dt : Float) (state : VehicleState)
      → from_state state config.max_axial_speed_mps ≡ None
      → update self dt config state ≡ self
