-- Where the divider is due from a reset, the stored tilt and capped cannot be read before they are overwritten. `norm` sets them to their fresh values
-- there and only there. Every call answers the same from a craft and from its `norm`, and leaves the same but for what `norm` sets. Assumes nothing.
use Rattle.std.specs.Prelude.{None, Option, Some, is_none}
use mathlib.Core.Path.{◌≡◌, refl, sym, ap, ◌∙◌}
use mathlib.Core.Bool.{Bool, false, not, cond, ◌&&◌}
use mathlib.Core.Logic.{⊎_elim}
use lib.Dec.{T, eqb, eqb→eq}
use lib.IntN.{pos, negsuc}
use lib.Ieee.{Float, nan, inf, fin, of_bits}
use lib.Ieee.Bits.{is_true, is_false}
use lib.Ieee.Fits.{and_l, and_r}
use Rattle.floats.specs.Ops.{f32}
use Rattle.math.specs.Vectors.{zeros}
use Rattle.math.proofs.Laws.Cases.{by_test}
use Rattle.controllers.specs.declared.rate_divider.RateDivider.{RateDivider}
use Rattle.wind.specs.declared.state.VehicleState.{VehicleState}
use Rattle.heading.specs.HoverWind as hover
use Rattle.heading.specs.LegHeading as leg
use Rattle.heading.specs.declared.hover_wind.HoverWind.{HoverWind}
use Rattle.heading.specs.declared.leg_heading.Turn.{Turn}
use Rattle.controllers.specs.RateDivider.{never_ran}
use Rattle.copter.specs.declared.config.CopterGuidanceConfig.{CopterGuidanceConfig}
use Rattle.copter.specs.declared.memory.LateralMemory.{LateralMemory}
use Rattle.copter.specs.declared.memory.Memory.{Memory}
use Rattle.copter.specs.declared.memory.CopterGuidance.{CopterGuidance}
use Rattle.copter.specs.declared.descent.Descended.{Descended}
use Rattle.copter.specs.declared.tilt.Course.{Course}
use Rattle.copter.specs.declared.tilt.Tilted.{Tilted}
use Rattle.copter.specs.declared.guide.Guided.{Guided}
use Rattle.copter.specs.Memory.{fresh_vertical, fresh_lateral, reset_lateral}
use Rattle.copter.specs.Tilt.{tilt_toward}
use Rattle.copter.specs.Guide.{wind_updated, piloted, fly_to, waypoint_call, land_call, prime, wind_reading}
use Rattle.copter.proofs.Laws.Calls.{Piloted, waypoint, land, Call, pilot, guide, course}
use Rattle.copter.proofs.Laws.Calls as calls
use Rattle.copter.proofs.Laws.Navigation.{FromReset, Agree, AgreeAfter, stored_tilt_unread}
use Rattle.wind.specs.declared.estimate.WindEstimate.{WindEstimate}
use Rattle.copter.proofs.Laws.Piloted.{with_lateral, lateral_unread}

-- ---- due from a reset, as a test

-- whether a float is +0
unfoldable pub is_zero : Float → Bool
is_zero nan = false
is_zero (inf s) = false
is_zero (fin s m (negsuc k)) = false
is_zero (fin s m (pos k)) = not s && eqb m 0 && eqb k 0

is_zero→zero : (x : Float) → T (is_zero x) → x ≡ f32 0
unfolding is_zero of_bits
is_zero→zero nan t = absurd t
is_zero→zero (inf s) t = absurd t
is_zero→zero (fin s m (negsuc k)) t = absurd t
is_zero→zero (fin s m (pos k)) t =
    let h = and_l (not s && eqb m 0) (eqb k 0) t in
    let s_false : s ≡ false = is_false s (and_l (not s) (eqb m 0) h) in
    let m_zero : m ≡ 0 = eqb→eq m 0 (and_r (not s) (eqb m 0) h) in
    let k_zero : k ≡ 0 = eqb→eq k 0 (and_r (not s && eqb m 0) (eqb k 0) t) in
    rw (s_false, m_zero, k_zero)

unfoldable pub has_never_ran : RateDivider → Bool
has_never_ran rate = is_none rate.elapsed_s

none_never_ran : (since : Option Float) → T (is_none since) → record { elapsed_s = since } ≡ never_ran
none_never_ran None t = refl
none_never_ran (Some e) t = absurd t

has_never_ran→ : (rate : RateDivider) → T (has_never_ran rate) → rate ≡ never_ran
unfolding has_never_ran
has_never_ran→ rate = none_never_ran rate.elapsed_s

unfoldable pub due_from_reset : LateralMemory → Bool
due_from_reset self = has_never_ran self.rate && (is_zero self.requested_accel_mps2.x && is_zero self.requested_accel_mps2.y)

pub due_from_reset→ : (self : LateralMemory) → T (due_from_reset self) → FromReset self
unfolding due_from_reset
due_from_reset→ self t =
    let request = self.requested_accel_mps2 in
    let zero_request = and_r (has_never_ran self.rate) (is_zero request.x && is_zero request.y) t in
    let x_zero : request.x ≡ f32 0 = is_zero→zero request.x (and_l (is_zero request.x) (is_zero request.y) zero_request) in
    let y_zero : request.y ≡ f32 0 = is_zero→zero request.y (and_r (is_zero request.x) (is_zero request.y) zero_request) in
    record {
      never_ran = has_never_ran→ self.rate (and_l (has_never_ran self.rate) (is_zero request.x && is_zero request.y) t);
      no_request = λ i. record { x = x_zero i; y = y_zero i };
    }

pub due_from_reset← : (self : LateralMemory) → FromReset self → T (due_from_reset self)
unfolding due_from_reset has_never_ran is_zero of_bits
due_from_reset← self r = rw (r.never_ran, r.no_request) tt

-- ---- what cannot be read set to its fresh value

unfoldable pub quieted : LateralMemory → LateralMemory
quieted self =
    record {
      controller = self.controller;
      rate = self.rate;
      tilt_rad = zeros;
      tilt_capped = false;
      requested_accel_mps2 = self.requested_accel_mps2;
    }

unfoldable pub norm_lateral : LateralMemory → LateralMemory
norm_lateral self = cond (due_from_reset self) (quieted self) self

unfoldable pub norm : Memory → Memory
norm self =
    record {
      vertical = self.vertical;
      lateral = norm_lateral self.lateral;
      heading_rad = self.heading_rad;
      leg_heading = self.leg_heading;
      wind = self.wind;
    }

unfoldable pub norm_craft : CopterGuidance → CopterGuidance
norm_craft self = record { config = self.config; memory = norm self.memory }

-- an answer, with what it leaves normed
unfoldable pub norm_guided : Guided → Guided
norm_guided guided = record { craft = norm_craft guided.craft; setpoint = guided.setpoint; flags = guided.flags }

-- ---- the lateral loop

norm_of_reset : (self : LateralMemory) → FromReset self → norm_lateral self ≡ quieted self
unfolding norm_lateral
norm_of_reset self r = rw (is_true (due_from_reset self) (due_from_reset← self r))

norm_else : (self : LateralMemory) → T (not (due_from_reset self)) → norm_lateral self ≡ self
unfolding norm_lateral
norm_else self t = rw (is_false (due_from_reset self) t)

agree_with_quieted : (self : LateralMemory) → FromReset self → Agree self (quieted self)
unfolding quieted
agree_with_quieted self r = record { first = r; second = record { never_ran = r.never_ran; no_request = r.no_request }; same_controller = refl }

agree_same_norm : (a b : LateralMemory) → Agree a b → norm_lateral a ≡ norm_lateral b
unfolding quieted
agree_same_norm a b h =
    norm_of_reset a h.first
    ∙ rw (h.same_controller, h.first.never_ran, h.second.never_ran, h.first.no_request, h.second.no_request) refl
    ∙ sym (norm_of_reset b h.second)

-- the same answer and flag, and the same memory but for what `norm` sets
record SameTilt (t u : Tilted) : Type 0 where
  pub same_tilt : t.tilt_rad ≡ u.tilt_rad
  pub same_capped : t.memory.tilt_capped ≡ u.memory.tilt_capped
  pub same_norm : norm_lateral t.memory ≡ norm_lateral u.memory

agree_after_same : (t u : Tilted) → AgreeAfter t u → SameTilt t u
agree_after_same t u h =
    record {
      same_tilt = h.same_tilt;
      same_capped = h.same_capped;
      same_norm = ⊎_elim (λ e. ap norm_lateral e) (λ a. agree_same_norm t.memory u.memory a.0) h.memories;
    }

module _ (config : CopterGuidanceConfig) (dt : Float) (course : Course) (estimate : Option WindEstimate) (state : VehicleState) where
  abbrev after : LateralMemory → Tilted
  after self = tilt_toward self config dt course estimate state

  tilt_from_norm : (self : LateralMemory) → SameTilt (after self) (after (norm_lateral self))
  tilt_from_norm self =
      by_test (due_from_reset self)
      (λ t.
      let r = due_from_reset→ self t in
      rw (norm_of_reset self r)
      (agree_after_same (after self) (after (quieted self))
      (stored_tilt_unread config dt course estimate state self (quieted self) (agree_with_quieted self r))))
      (λ t. rw (norm_else self t) (record { same_tilt = refl; same_capped = refl; same_norm = refl }))

-- ---- each call

fly_to_from_norm : (self : CopterGuidance) (dt : Float) (state : VehicleState) (course : Course) (descended : Descended) (turn : Turn) (wind : HoverWind)
    → norm_guided (fly_to self dt state course descended turn wind) ≡ norm_guided (fly_to (norm_craft self) dt state course descended turn wind)
unfolding fly_to norm_guided norm_craft norm
fly_to_from_norm self dt state course descended turn wind =
    let h = tilt_from_norm self.config dt course (hover.estimate wind) state self.memory.lateral in
    rw (h.same_norm, h.same_capped, h.same_tilt)

-- the memory that `CopterGuidance::new` sets, with a heading target and a wind memory
unfoldable pub fresh_with : Float → HoverWind → Memory
fresh_with heading wind = record { vertical = fresh_vertical; lateral = fresh_lateral; heading_rad = heading; leg_heading = leg.fresh; wind = wind }

norm_reset_lateral : (self : LateralMemory) → norm_lateral (reset_lateral self) ≡ fresh_lateral
unfolding reset_lateral fresh_lateral quieted
norm_reset_lateral self = norm_of_reset (reset_lateral self) (record { never_ran = refl; no_request = refl })

-- A piloted call leaves the fresh memory, with the heading target that it set and the wind memory that it updated.
pub piloted_leaves_fresh : (self : Memory) (config : CopterGuidanceConfig) (dt : Float) (state : VehicleState) (heading : Float)
    → norm (piloted self config dt state heading) ≡ fresh_with heading (wind_updated self config dt state)
unfolding norm piloted fresh_with
piloted_leaves_fresh self config dt state heading = rw (norm_reset_lateral self.lateral)

-- whatever the lateral memory was, a piloted call answers the same, and leaves the same but for what `norm` sets
norm_piloted : (self : CopterGuidance) (dt : Float) (state : VehicleState) (call : Piloted) (lateral : LateralMemory)
    → norm_guided (pilot (with_lateral self lateral) dt state call)
    ≡ record {
      craft = with_lateral (pilot self dt state call).craft fresh_lateral;
      setpoint = (pilot self dt state call).setpoint;
      flags = (pilot self dt state call).flags;
    }
unfolding norm_guided norm_craft norm with_lateral
norm_piloted self dt state call lateral = rw (lateral_unread self dt state call lateral, norm_reset_lateral lateral)

piloted_from_norm : (self : CopterGuidance) (dt : Float) (state : VehicleState) (call : Piloted)
    → norm_guided (pilot self dt state call) ≡ norm_guided (pilot (norm_craft self) dt state call)
unfolding norm_craft norm with_lateral
piloted_from_norm self dt state call =
    norm_piloted self dt state call self.memory.lateral ∙ sym (norm_piloted self dt state call (norm_lateral self.memory.lateral))

pub call_from_norm : (self : CopterGuidance) (dt : Float) (state : VehicleState) (call : Call)
    → norm_guided (guide self dt state call) ≡ norm_guided (guide (norm_craft self) dt state call)
unfolding norm_craft norm waypoint_call land_call wind_updated
call_from_norm self dt state (calls.piloted call) = piloted_from_norm self dt state call
call_from_norm self dt state (calls.navigated (waypoint command)) = fly_to_from_norm self dt state (course (waypoint command)) _ _ _
call_from_norm self dt state (calls.navigated (land command)) = fly_to_from_norm self dt state (course (land command)) _ _ _

-- ---- configure, priming and the wind reading

pub norm_fresh : (heading : Float) (wind : HoverWind) → norm (fresh_with heading wind) ≡ fresh_with heading wind
unfolding norm fresh_with fresh_lateral quieted
norm_fresh heading wind = rw (norm_of_reset fresh_lateral (record { never_ran = refl; no_request = refl }))

pub prime_from_norm : (self : CopterGuidance) (state : VehicleState) → prime self state ≡ prime (norm_craft self) state
unfolding prime norm_craft norm
prime_from_norm self state = refl

pub wind_from_norm : (self : CopterGuidance) → wind_reading self ≡ wind_reading (norm_craft self)
unfolding wind_reading norm_craft norm
wind_from_norm self = refl
