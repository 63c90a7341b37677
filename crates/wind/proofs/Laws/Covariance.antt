-- The covariance is symmetric: of every estimate that updates lead to, the two numbers off the diagonal are the same. And where it loses its numbers:
-- a variance that is infinite leaves a NaN off the diagonal, since 0 times an infinity is none. Assumes nothing.
use Rattle.std.proofs.Common.{◌≡◌, ◌&&◌, Bool, true, false, refl}
use Rattle.std.specs.Prelude.{Option, Some, None}
use lib.Ieee.{Float, nan, inf, fin, of_bits, mul, add, lt, le}
use lib.Ieee.Scale.{finite}
use Rattle.floats.specs.Ops.{f32, ◌⊕◌, ◌⊖◌, ◌⊗◌}
use Rattle.math.specs.Math.{zero}
use Rattle.math.specs.Vectors.{dot}
use Rattle.math.specs.declared.vectors.Vec2.{Vec2}
use Rattle.math.proofs.Laws.Cases.{cond_holds}
use Rattle.wind.specs.declared.state.VehicleState.{VehicleState}
use Rattle.wind.specs.declared.drag.WindConfig.{WindConfig}
use Rattle.wind.specs.declared.drag.AxisDrag.{AxisDrag}
use Rattle.wind.specs.declared.estimate.WindEstimate.{WindEstimate}
use Rattle.wind.specs.declared.sample.Sample.{Sample}
use Rattle.wind.specs.declared.window.Window.{Window}
use Rattle.wind.specs.declared.window.Measured.{Measured}
use Rattle.wind.specs.declared.window.WindEstimator.{WindEstimator}
use Rattle.wind.specs.Drag.{is_on}
use Rattle.wind.specs.Estimate.{diagonal, initial, predict, covariance_along, corrected, correct}
use Rattle.wind.specs.Sample.{from_state}
use Rattle.wind.specs.Wind.{update_period, grown, filter_or, axis_corrected_by, axis_corrected, closed, fresh, gathered, taken, update}

-- ---- an estimate

pub record Symmetric (estimate : WindEstimate) : Type 0 where
  pub off_diagonal : estimate.covariance_m2ps2.m01 ≡ estimate.covariance_m2ps2.m10

initial_symmetric : (config : WindConfig) → Symmetric (initial config)
unfolding initial
initial_symmetric config = record { off_diagonal = refl }

predict_symmetric : (estimate : WindEstimate) (elapsed : Float) (config : WindConfig) → Symmetric estimate → Symmetric (predict estimate elapsed config)
unfolding predict
predict_symmetric estimate elapsed config s = record { off_diagonal = rw s.off_diagonal }

corrected_symmetric : (estimate : WindEstimate) (along : Vec2) (innovation variance : Float) → Symmetric (corrected estimate along innovation variance)
unfolding corrected
corrected_symmetric estimate along innovation variance = record { off_diagonal = refl }

correct_symmetric : (estimate : WindEstimate) (axis : Vec2) (measured variance gate_sigma : Float) → Symmetric estimate
    → Symmetric (correct estimate axis measured variance gate_sigma)
unfolding correct
correct_symmetric estimate axis measured variance gate_sigma s =
    let along = covariance_along estimate.covariance_m2ps2 axis in
    let innovation_variance = dot axis along ⊕ variance in
    let innovation = measured ⊖ dot axis estimate.velocity_mps in
    cond_holds Symmetric (le (innovation ⊗ innovation) (gate_sigma ⊗ gate_sigma ⊗ innovation_variance) && finite innovation_variance)
    (λ _. corrected_symmetric estimate along innovation innovation_variance) (λ _. s)

-- ---- the estimator

corrected_by_symmetric : (air : Option Float) (estimate : WindEstimate) (config : WindConfig) (drag : AxisDrag) (axis : Vec2) (means : Measured)
    → Symmetric estimate → Symmetric (axis_corrected_by air estimate config drag axis means)
unfolding axis_corrected_by
corrected_by_symmetric None estimate config drag axis means s = s
corrected_by_symmetric (Some air) estimate config drag axis means s = correct_symmetric estimate axis _ _ _ s

axis_corrected_symmetric : (estimate : WindEstimate) (config : WindConfig) (drag : AxisDrag) (axis : Vec2) (means : Measured)
    → Symmetric estimate → Symmetric (axis_corrected estimate config drag axis means)
unfolding axis_corrected
axis_corrected_symmetric estimate config drag axis means s = corrected_by_symmetric _ estimate config drag axis means s

-- no estimate, or one with a symmetric covariance
abbrev pub SymmetricIfAny : Option WindEstimate → Type 0
SymmetricIfAny None = Unit {0}
SymmetricIfAny (Some estimate) = Symmetric estimate

abbrev pub Even : WindEstimator → Type 0
Even self = SymmetricIfAny self.filter

filter_or_symmetric : (filter : Option WindEstimate) (config : WindConfig) → SymmetricIfAny filter → Symmetric (filter_or filter config)
unfolding filter_or
filter_or_symmetric None config s = initial_symmetric config
filter_or_symmetric (Some estimate) config s = s

closed_symmetric : (filter : Option WindEstimate) (config : WindConfig) (window : Window) → SymmetricIfAny filter → Symmetric (closed filter config window)
unfolding closed
closed_symmetric filter config window s =
    axis_corrected_symmetric _ config _ _ _
    (axis_corrected_symmetric _ config _ _ _ (predict_symmetric _ window.elapsed_s config (filter_or_symmetric filter config s)))

pub fresh_symmetric : Even fresh
unfolding fresh
fresh_symmetric = tt

gathered_symmetric : (self : WindEstimator) (dt : Float) (config : WindConfig) (sample : Sample) → Even self → Even (gathered self dt config sample)
unfolding gathered
gathered_symmetric self dt config sample s =
    let window = grown self.window dt sample in
    cond_holds Even (lt window.elapsed_s update_period) {x = record { filter = self.filter; window = window }} (λ _. s)
    (λ _. closed_symmetric self.filter config window s)

taken_symmetric : (sampled : Option Sample) (self : WindEstimator) (dt : Float) (config : WindConfig) → Even self → Even (taken sampled self dt config)
unfolding taken
taken_symmetric None self dt config s = s
taken_symmetric (Some sample) self dt config s = gathered_symmetric self dt config sample s

pub update_symmetric : (self : WindEstimator) (dt : Float) (config : WindConfig) (state : VehicleState) → Even self → Even (update self dt config state)
unfolding update
update_symmetric self dt config state s =
    cond_holds Even (is_on config) (λ _. taken_symmetric (from_state state config.max_axial_speed_mps) self dt config s) (λ _. s)

-- ---- a variance that is infinite

pub infinite_diagonal : (s : Bool) → diagonal (inf s) ≡ record { m00 = inf s; m01 = nan; m10 = nan; m11 = inf s }
unfolding diagonal of_bits mul
infinite_diagonal true = refl
infinite_diagonal false = refl

-- 1e20, whose square no f32 holds
abbrev large : Float
large = f32 0x60AD_78EC

large_squared : large ⊗ large ≡ inf false
unfolding of_bits mul
large_squared = refl

-- the initial covariance where the deviation is 1e20
pub initial_infinite : (config : WindConfig) → config.initial_sd_mps ≡ large
    → (initial config).covariance_m2ps2 ≡ record { m00 = inf false; m01 = nan; m10 = nan; m11 = inf false }
unfolding initial
initial_infinite config e = rw (e, large_squared, infinite_diagonal)

no_product : (s : Bool) → zero ⊗ inf s ≡ nan
unfolding of_bits mul
no_product s = refl

plus_nan : (x : Float) → x ⊕ nan ≡ nan
unfolding add
plus_nan nan = refl
plus_nan (inf s) = refl
plus_nan (fin s m e) = refl

-- a growth that is infinite leaves no number off the diagonal
pub predict_infinite : (estimate : WindEstimate) (elapsed : Float) (config : WindConfig) (s : Bool)
    → config.process_noise_mps_per_rt_s ⊗ config.process_noise_mps_per_rt_s ⊗ elapsed ≡ inf s
    → ((predict estimate elapsed config).covariance_m2ps2.m01 ≡ nan) × ((predict estimate elapsed config).covariance_m2ps2.m10 ≡ nan)
unfolding predict
predict_infinite estimate elapsed config s e = (rw (e, no_product, plus_nan), rw (e, no_product, plus_nan))
