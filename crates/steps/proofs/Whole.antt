-- The words of a configured craft's memory are 63, so that none is cut from its 252 bytes. Assumes nothing.
use Rattle.std.proofs.Common.{true, rules, ◌≡◌, refl, ℕ, ◌+◌, ◌-◌, List, ◌++◌, Option, Some, None, length, take, arith}
use Rattle.std.specs.Prelude.{Float, replicate}
use Rattle.std.proofs.lemmas.Grind.{common_steps}
use lib.ListN.{length-append}
use Rattle.copter.specs.declared.commands.Flags.{Flags}
use Rattle.copter.specs.declared.config.CopterGuidanceConfig.{CopterGuidanceConfig}
use Rattle.copter.specs.Guide.{new_craft}
use Rattle.copter.specs.Memory as memory
use Rattle.copter.specs.declared.memory.Memory.{Memory}
use Rattle.copter.specs.declared.memory.CopterGuidance.{CopterGuidance}
use Rattle.heading.specs.declared.hover_wind.HoverWind.{HoverWind}
use Rattle.heading.specs.declared.leg_heading.Leg.{Leg}
use Rattle.heading.specs.declared.leg_heading.LegHeading.{LegHeading}
use Rattle.heading.specs.declared.wind_heading.WindHeading.{WindHeading}
use Rattle.lateral.specs.declared.LateralController.{LateralController}
use Rattle.lateral.specs.Lateral as shaping
use Rattle.heading.specs.HoverWind as hover
use Rattle.heading.specs.LegHeading as legs
use Rattle.heading.specs.WindHeading as wingtip
use Rattle.wind.specs.Wind as wind
use Rattle.records.specs.declared.craft.Craft.{Craft}
use Rattle.floats.specs.Ops.{f32}
use Rattle.math.specs.Vectors.{zeros}
use Rattle.words.specs.Words.{flag, none_or}
use Rattle.words.specs.Types.{float, vec2, estimate, no_estimate, window, hover_wind, wind_heading, leg, no_leg, leg_heading, lateral}
use Rattle.steps.specs.Memory.{memory_words, craft_words, memory_bytes}

appended : (xs ys : List ℕ) {m n : ℕ} → length xs ≡ m → length ys ≡ n → length (xs ++ ys) ≡ m + n
appended xs ys hx hy = omega (arith, length-append xs ys, hx, hy)

-- a flag, and the value's words
optional : {A : Type 0} (words : A → List ℕ) (blank : A) {n : ℕ} → ((x : A) → length (words x) ≡ n) → (o : Option A) → length (none_or words blank o) ≡ 4 + n
optional words blank h None = omega (arith, h blank)
optional words blank h (Some x) = omega (arith, h x)

optional_float : (o : Option Float) → length (none_or float (f32 0) o) ≡ 8
optional_float = optional float (f32 0) (λ x. refl)

leg_length : (l : Leg) → length (leg l) ≡ 16
leg_length l = appended (vec2 l.to_m) _ refl (optional_float l.bearing_rad)

wind_heading_length : (w : WindHeading) → length (wind_heading w) ≡ 44
wind_heading_length w =
    appended _ _ (appended _ _ (optional_float w.side) (optional_float w.target_rad)) (optional estimate no_estimate (λ x. refl) w.weighed)

leg_heading_length : (h : LegHeading) → length (leg_heading h) ≡ 72
leg_heading_length h =
    let flown = optional leg no_leg leg_length h.leg in
    let stuck = appended _ (float h.stuck_s) flown refl in
    appended _ _ (appended _ (flag h.yielding) stuck refl) (wind_heading_length h.wind)

hover_wind_length : (w : HoverWind) → length (hover_wind w) ≡ 80
hover_wind_length w =
    let filter = optional estimate no_estimate (λ x. refl) w.estimator.filter in
    appended _ _ (appended _ (window w.estimator.window) filter refl) (optional_float w.ground_altitude_m)

lateral_length : (c : LateralController) → length (lateral c) ≡ 40
lateral_length c =
    let vector = optional vec2 zeros (λ x. refl) in
    let history = none_or vec2 zeros c.derivative.previous_error in
    let errors = appended (vec2 c.integrated_error) history refl (vector c.derivative.previous_error) in
    let shaped = appended (vec2 c.integrated_error ++ history) _ errors (vector c.shaped_velocity_mps) in
    appended (vec2 c.integrated_error ++ history ++ none_or vec2 zeros c.shaped_velocity_mps) (vec2 c.commanded_velocity_mps) shaped refl

memory_length : (m : Memory) → length (memory_words m) ≡ 240
memory_length m =
    let tilt = vec2 m.lateral.tilt_rad ++ flag m.lateral.tilt_capped ++ vec2 m.lateral.requested_accel_mps2 in
    let height = none_or float (f32 0) m.vertical.target ++ float m.vertical.descent_speed_mps in
    let rate = none_or float (f32 0) m.lateral.rate.elapsed_s ++ float m.heading_rad in
    let to_height = appended tilt height refl (appended _ (float m.vertical.descent_speed_mps) (optional_float m.vertical.target) refl) in
    let to_rate = appended (tilt ++ height) rate to_height (appended _ (float m.heading_rad) (optional_float m.lateral.rate.elapsed_s) refl) in
    let to_wind = appended (tilt ++ height ++ rate) _ to_rate (appended _ _ (leg_heading_length m.leg_heading) (hover_wind_length m.wind)) in
    let controllers = appended (float m.vertical.controller.integrated_error) (lateral m.lateral.controller) refl (lateral_length m.lateral.controller) in
    appended (tilt ++ height ++ rate ++ (leg_heading m.leg_heading ++ hover_wind m.wind)) _ to_wind controllers

-- with the three flags before it
pub configured_whole : (guidance : CopterGuidance) (flags : Flags) → length (craft_words (Some guidance) flags) ≡ 252
configured_whole guidance flags = appended (flag true ++ flag flags.tilt ++ flag flags.thrust) (memory_words guidance.memory) refl (memory_length guidance.memory)

-- by counting, of a craft that was just configured
fresh_whole : (config : CopterGuidanceConfig) (flags : Flags) → length (craft_words (Some (new_craft config)) flags) ≡ 252
unfolding new_craft memory.fresh memory.fresh_vertical memory.fresh_lateral shaping.fresh hover.fresh legs.fresh wingtip.fresh wind.fresh wind.empty
fresh_whole config flags = refl

exactly : (n : ℕ) (xs : List ℕ) → length xs ≡ n → take n xs ++ replicate (n - length (take n xs)) 0 ≡ xs
exactly n xs whole = search (rules, common_steps)

-- so no word of it is cut
pub none_lost : (craft : Craft) (guidance : CopterGuidance) (flags : Flags) → craft.guidance ≡ Some guidance
    → memory_bytes craft flags ≡ craft_words (Some guidance) flags
none_lost craft guidance flags configured = rw configured (exactly 252 _ (configured_whole guidance flags))
