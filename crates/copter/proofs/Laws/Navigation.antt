-- The lateral loop of a waypoint or land call. A due call with a number that is not finite answers level, keeps the stored tilt, clears capped and does not
-- restart the divider. While the divider is due from a reset, the stored tilt and capped reach no answer. Assumes nothing.
use Rattle.std.specs.Prelude.{None, Option, Some}
use mathlib.Core.Path.{◌≡◌, refl, sym, ap, ◌∙◌}
use mathlib.Core.Bool.{Bool, true, false, not, cond}
use mathlib.Core.Logic.{◌⊎◌, inl, inr}
use lib.Dec.{T}
use lib.Ieee.{Float}
use lib.Ieee.Bits.{is_true, is_false}
use Rattle.math.specs.Vectors.{zeros}
use Rattle.math.specs.declared.vectors.Vec2.{Vec2}
use Rattle.math.proofs.Laws.Cases.{by_test}
use Rattle.controllers.specs.RateDivider.{never_ran, due_since, due, Accepted, Bounded}
use Rattle.controllers.specs.declared.rate_divider.Paced.{Paced}
use Rattle.controllers.proofs.Laws.Divider.{first_call_due, step_is_legal}
use Rattle.lateral.specs.declared.LateralTarget.{LateralTarget}
use Rattle.lateral.specs.declared.LateralEstimate.{LateralEstimate}
use Rattle.wind.specs.declared.state.VehicleState.{VehicleState}
use Rattle.heading.specs.HoverWind as hover
use Rattle.heading.specs.declared.hover_wind.HoverWind.{HoverWind}
use Rattle.heading.specs.declared.leg_heading.Turn.{Turn}
use Rattle.copter.specs.declared.config.CopterGuidanceConfig.{CopterGuidanceConfig}
use Rattle.copter.specs.declared.memory.LateralMemory.{LateralMemory}
use Rattle.copter.specs.declared.memory.CopterGuidance.{CopterGuidance}
use Rattle.copter.specs.declared.descent.Descended.{Descended}
use Rattle.copter.specs.declared.tilt.Course.{Course}
use Rattle.copter.specs.declared.tilt.Tilted.{Tilted}
use Rattle.copter.specs.Tilt.{lateral_target, lateral_estimate, navigable, limit, run, held, levelled, wind_or_zero, tilted_when, tilt_toward}
use Rattle.copter.specs.Guide.{fly_to, waypoint_call, land_call}
use Rattle.copter.specs.Calls.{able, paced, NotRun, NotDue, Runs, LateralCall}
use Rattle.wind.specs.declared.estimate.WindEstimate.{WindEstimate}
use Rattle.copter.proofs.Laws.Calls.{Navigated, waypoint, land, navigate, course}

-- ---- what a due call needs

able_navigable : (course : Course) (state : VehicleState)
    → navigable (lateral_target course) (lateral_estimate state) state.heading_rad ≡ able course state
unfolding navigable lateral_target lateral_estimate
able_navigable course state = refl

-- ---- the lateral loop of a call

module _ (self : LateralMemory) (config : CopterGuidanceConfig) (dt : Float) (course : Course) (estimate : Option WindEstimate) (state : VehicleState) where
  abbrev pace : Paced
  pace = due self.rate dt config.guidance.navigation_period_s

  -- a due call with a number that is not finite
  pub not_able_is_level : (step : Float) → pace.due ≡ Some step → T (not (able course state))
      → tilt_toward self config dt course estimate state ≡ levelled self pace.divider
  unfolding tilt_toward tilted_when
  not_able_is_level step d n = rw (d, able_navigable course state, is_false (able course state) n)

  -- a call that is not due
  pub not_due_is_held : pace.due ≡ None → tilt_toward self config dt course estimate state ≡ held self pace.divider
  unfolding tilt_toward tilted_when
  not_due_is_held d = rw d

  -- a due call whose numbers are finite
  pub able_runs : (step : Float) → pace.due ≡ Some step → T (able course state)
      → tilt_toward self config dt course estimate state
      ≡ run self config step (lateral_target course) (lateral_estimate state) (wind_or_zero estimate) state.heading_rad
  unfolding tilt_toward tilted_when
  able_runs step d t = rw (d, able_navigable course state, is_true (able course state) t)

  -- a first call leaves the next one due
  pub first_call_leaves_due : self.rate ≡ never_ran → T (not (able course state)) → (next period : Float)
      → due (tilt_toward self config dt course estimate state).memory.rate next period ≡ record { divider = never_ran; due = Some next }
  unfolding tilt_toward tilted_when levelled
  first_call_leaves_due e n next period =
      rw (
        e,
        first_call_due dt config.guidance.navigation_period_s,
        able_navigable course state,
        is_false (able course state) n,
        first_call_due next period,
      )

module _ (self : CopterGuidance) (dt : Float) (state : VehicleState) where
  module _ (course : Course) (descended : Descended) (turn : Turn) (wind : HoverWind) where
    fly_to_not_run : (step : Float) → (paced self dt).due ≡ Some step → T (not (able course state))
        → NotRun self.memory.lateral (paced self dt).divider (fly_to self dt state course descended turn wind)
    unfolding fly_to levelled
    fly_to_not_run step d n =
        rw (not_able_is_level self.memory.lateral self.config dt course (hover.estimate wind) state step d n)
        (record {
          level = (refl, refl);
          not_flagged = refl;
          tilt_kept = refl;
          capped_cleared = refl;
          not_restarted = refl;
          controller_kept = refl;
          request_kept = refl;
        })

    fly_to_not_due : (paced self dt).due ≡ None
        → NotDue self.memory.lateral (paced self dt).divider (fly_to self dt state course descended turn wind)
    unfolding fly_to held
    fly_to_not_due d =
        rw (not_due_is_held self.memory.lateral self.config dt course (hover.estimate wind) state d)
        (record {
          stored = (refl, refl);
          goes_on = refl;
          tilt_kept = refl;
          capped_kept = refl;
          controller_kept = refl;
          request_kept = refl;
        })

    fly_to_runs : (step : Float) → (paced self dt).due ≡ Some step → T (able course state) → Runs (fly_to self dt state course descended turn wind)
    unfolding fly_to run
    fly_to_runs step d t =
        rw (able_runs self.memory.lateral self.config dt course (hover.estimate wind) state step d t)
        (record { restarted = refl; stored = (refl, refl) })

    fly_to_lateral : Bounded self.memory.lateral.rate → Accepted dt
        → LateralCall self dt state course (fly_to self dt state course descended turn wind)
    unfolding fly_to due_since
    fly_to_lateral b a =
        record {
          first_due = λ e. rw e;
          later_due = λ before e. rw e;
          legal = λ step. step_is_legal self.memory.lateral.rate dt self.config.guidance.navigation_period_s step b a;
          not_due = fly_to_not_due;
          runs = fly_to_runs;
          not_run = fly_to_not_run;
          first_leaves_due =
              λ e n next period.
              ap (λ (p : Paced). p.due)
              (first_call_leaves_due self.memory.lateral self.config dt course (hover.estimate wind) state e n next period);
          flags_capped = refl;
        }

  pub lateral_call : (call : Navigated) → Bounded self.memory.lateral.rate → Accepted dt
      → LateralCall self dt state (course call) (navigate self dt state call)
  unfolding waypoint_call land_call
  lateral_call (waypoint command) = fly_to_lateral (course (waypoint command)) _ _ _
  lateral_call (land command) = fly_to_lateral (course (land command)) _ _ _

-- ---- a call that is due from a reset

-- the divider and the requested acceleration as a reset leaves them
pub record FromReset (self : LateralMemory) : Type 0 where
  pub never_ran : self.rate ≡ never_ran
  pub no_request : self.requested_accel_mps2 ≡ zeros

pub no_request_no_limit : (self : LateralMemory) → self.requested_accel_mps2 ≡ zeros → limit self ≡ zeros
unfolding limit
no_request_no_limit self e = go self.tilt_capped
  where
    go : (b : Bool) → cond b self.requested_accel_mps2 zeros ≡ zeros
    go true = e
    go false = refl

-- a run reads the controller and the limit, and nothing else of the memory
run_reads : (a b : LateralMemory) (config : CopterGuidanceConfig) (step : Float) (target : LateralTarget) (own : LateralEstimate) (wind : Vec2)
    (heading : Float) → a.controller ≡ b.controller → limit a ≡ limit b → run a config step target own wind heading ≡ run b config step target own wind heading
unfolding run
run_reads a b config step target own wind heading p q = rw (q, p)

-- two memories that are due from a reset and differ in no more than the stored tilt and capped
pub record Agree (a b : LateralMemory) : Type 0 where
  pub first : FromReset a
  pub second : FromReset b
  pub same_controller : a.controller ≡ b.controller

-- What they answer, and what they leave: the same memory, or two that differ in no more than the stored tilt again.
pub record AgreeAfter (t u : Tilted) : Type 0 where
  pub same_tilt : t.tilt_rad ≡ u.tilt_rad
  pub same_capped : t.memory.tilt_capped ≡ u.memory.tilt_capped
  pub memories : (t.memory ≡ u.memory) ⊎ (Agree t.memory u.memory × (t.memory.tilt_capped ≡ false))

same_agree : (t u : Tilted) → t ≡ u → AgreeAfter t u
same_agree t u e = rw e (record { same_tilt = refl; same_capped = refl; memories = inl refl })

both_levelled : (a b : LateralMemory) → Agree a b
    → AgreeAfter (levelled a never_ran) (levelled b never_ran)
unfolding levelled
both_levelled a b h =
    record {
      same_tilt = refl;
      same_capped = refl;
      memories =
          inr (
            record {
              first = record { never_ran = refl; no_request = h.first.no_request };
              second = record { never_ran = refl; no_request = h.second.no_request };
              same_controller = h.same_controller;
            },
            refl,
          );
    }

module _ (config : CopterGuidanceConfig) (dt : Float) (course : Course) (estimate : Option WindEstimate) (state : VehicleState) where
  abbrev after : LateralMemory → Tilted
  after self = tilt_toward self config dt course estimate state

  able_from_reset_runs : (self : LateralMemory) → FromReset self → T (able course state)
      → after self ≡ run self config dt (lateral_target course) (lateral_estimate state) (wind_or_zero estimate) state.heading_rad
  unfolding tilt_toward tilted_when
  able_from_reset_runs self r t =
      rw (r.never_ran, first_call_due dt config.guidance.navigation_period_s, able_navigable course state, is_true (able course state) t)

  not_able_from_reset : (self : LateralMemory) → FromReset self → T (not (able course state))
      → after self ≡ levelled self never_ran
  unfolding tilt_toward tilted_when
  not_able_from_reset self r t =
      rw (r.never_ran, first_call_due dt config.guidance.navigation_period_s, able_navigable course state, is_false (able course state) t)

  able_run_same : (a b : LateralMemory) → Agree a b → T (able course state) → after a ≡ after b
  able_run_same a b h t =
      able_from_reset_runs a h.first t
      ∙ run_reads a b config dt (lateral_target course) (lateral_estimate state) (wind_or_zero estimate) state.heading_rad h.same_controller
      (no_request_no_limit a h.first.no_request ∙ sym (no_request_no_limit b h.second.no_request))
      ∙ sym (able_from_reset_runs b h.second t)

  -- neither the stored tilt nor capped reaches an answer while the divider is due from a reset
  pub stored_tilt_unread : (a b : LateralMemory) → Agree a b → AgreeAfter (after a) (after b)
  stored_tilt_unread a b h =
      by_test (able course state) (λ t. same_agree (after a) (after b) (able_run_same a b h t))
      (λ t. rw (not_able_from_reset a h.first t, not_able_from_reset b h.second t) (both_levelled a b h))
