-- Wind memory: what a priming leaves of it, when an update leaves all of it, and what holds of it from a fresh one on. Assumes nothing.
use Rattle.std.specs.Prelude.{None, Some}
use mathlib.Core.Path.{◌≡◌, ◌∙◌}
use mathlib.Core.Bool.{true, false}
use lib.Ieee.{Float, lt}
use lib.Ieee.Scale.{finite}
use Rattle.floats.specs.Ops.{◌⊕◌}
use Rattle.wind.specs.declared.state.VehicleState.{VehicleState}
use Rattle.wind.specs.declared.drag.WindConfig.{WindConfig}
use Rattle.heading.specs.declared.hover_wind.HoverWind.{HoverWind}
use Rattle.wind.specs.Drag.{is_on}
use Rattle.wind.specs.Wind as wind
use Rattle.heading.specs.HoverWind.{FiniteGround, latched, above, airborne, fresh, prime, update}
use Rattle.math.proofs.Laws.Cases.{cond_holds}
use Rattle.wind.proofs.Laws.Sample.{either_way, Unusable, unusable_skipped}
use Rattle.controllers.specs.RateDivider.{Accepted}
use Rattle.wind.specs.Window.{OpenWindow}
use Rattle.wind.proofs.Laws.Window.{fresh_open, update_open}

-- ---- in the air

pub unprimed_not_airborne : (self : HoverWind) (height : Float) (state : VehicleState) → self.ground_altitude_m ≡ None
    → airborne self height state ≡ false
unfolding airborne
unprimed_not_airborne self height state e = rw e

pub airborne_above : (self : HoverWind) (height : Float) (state : VehicleState) (ground : Float) → self.ground_altitude_m ≡ Some ground
    → airborne self height state ≡ lt (ground ⊕ height) state.position_m.z
unfolding airborne
airborne_above self height state ground e = rw e

-- ---- a priming

-- in the air it keeps all
pub prime_airborne : (self : HoverWind) (height : Float) (state : VehicleState) → airborne self height state ≡ true → prime self height state ≡ self
unfolding prime
prime_airborne self height state e = rw e

-- on the ground it leaves what a fresh memory has after it
pub prime_grounded : (self : HoverWind) (height : Float) (state : VehicleState) → airborne self height state ≡ false
    → prime self height state ≡ prime fresh height state
unfolding prime fresh airborne above
prime_grounded self height state e = rw e

pub prime_above : (self : HoverWind) (height : Float) (state : VehicleState) (ground : Float) → self.ground_altitude_m ≡ Some ground
    → lt (ground ⊕ height) state.position_m.z ≡ true → prime self height state ≡ self
prime_above self height state ground g e = prime_airborne self height state (airborne_above self height state ground g ∙ e)

pub prime_not_above : (self : HoverWind) (height : Float) (state : VehicleState) (ground : Float) → self.ground_altitude_m ≡ Some ground
    → lt (ground ⊕ height) state.position_m.z ≡ false → prime self height state ≡ prime fresh height state
prime_not_above self height state ground g e = prime_grounded self height state (airborne_above self height state ground g ∙ e)

pub prime_unprimed : (self : HoverWind) (height : Float) (state : VehicleState) → self.ground_altitude_m ≡ None
    → prime self height state ≡ prime fresh height state
prime_unprimed self height state e = prime_grounded self height state (unprimed_not_airborne self height state e)

-- ---- an update that changes nothing

pub update_grounded : (self : HoverWind) (dt : Float) (config : WindConfig) (height : Float) (state : VehicleState) → airborne self height state ≡ false
    → update self dt config height state ≡ self
unfolding update
update_grounded self dt config height state e = rw e

kept : (self : HoverWind) (dt : Float) (config : WindConfig) (height : Float) (state : VehicleState)
    → wind.update self.estimator dt config state ≡ self.estimator → update self dt config height state ≡ self
unfolding update
kept self dt config height state e = rw e (either_way (airborne self height state) self)

-- with no drag coefficient
pub update_off : (self : HoverWind) (dt : Float) (config : WindConfig) (height : Float) (state : VehicleState) → is_on config ≡ false
    → update self dt config height state ≡ self
unfolding wind.update
update_off self dt config height state e = kept self dt config height state (rw e)

-- with a sample that is too far tilted, too fast along the thrust axis or not finite
pub update_unusable : (self : HoverWind) (dt : Float) (config : WindConfig) (height : Float) (state : VehicleState)
    → Unusable state config.max_axial_speed_mps → update self dt config height state ≡ self
unfolding wind.update wind.taken
update_unusable self dt config height state u =
    kept self dt config height state
    (rw (unusable_skipped state config.max_axial_speed_mps u) (either_way (is_on config) self.estimator))

-- ---- what holds of wind memory

-- an open window, and ground that is none or a finite height
pub record Sound (self : HoverWind) : Type 0 where
  pub window : OpenWindow self.estimator.window
  pub ground : FiniteGround self.ground_altitude_m

pub latched_finite : (altitude : Float) → FiniteGround (latched altitude)
unfolding latched
latched_finite altitude = cond_holds FiniteGround (finite altitude) (λ t. t) (λ _. tt)

pub fresh_sound : Sound fresh
unfolding fresh
fresh_sound = record { window = fresh_open; ground = tt }

pub prime_sound : (self : HoverWind) (height : Float) (state : VehicleState) → Sound self → Sound (prime self height state)
unfolding prime
prime_sound self height state s =
    cond_holds Sound (airborne self height state) (λ _. s) (λ _. record { window = fresh_open; ground = latched_finite state.position_m.z })

pub update_sound : (self : HoverWind) (dt : Float) (config : WindConfig) (height : Float) (state : VehicleState) → Sound self → Accepted dt
    → Sound (update self dt config height state)
unfolding update
update_sound self dt config height state s a =
    cond_holds Sound (airborne self height state)
    (λ _. record { window = update_open self.estimator dt config state s.window a; ground = s.ground })
    (λ _. s)

-- the memories that primings and updates with accepted time steps lead to
pub data Reached : HoverWind → Type 0 where
  start : Reached fresh
  primed : {self : HoverWind} (height : Float) (state : VehicleState) → Reached self → Reached (prime self height state)
  updated : {self : HoverWind} (dt : Float) (config : WindConfig) (height : Float) (state : VehicleState) → Accepted dt → Reached self
      → Reached (update self dt config height state)

pub reached_sound : {self : HoverWind} → Reached self → Sound self
reached_sound start = fresh_sound
reached_sound (primed {self} height state r) = prime_sound self height state (reached_sound r)
reached_sound (updated {self} dt config height state a r) = update_sound self dt config height state (reached_sound r) a
