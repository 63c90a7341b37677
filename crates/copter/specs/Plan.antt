-- How the port divides a call: what its inner functions give. Nothing here has to be believed, since the calls are stated without it. Assumes nothing.
use Rattle.std.specs.Prelude.{Float}
use Rattle.wind.specs.declared.state.VehicleState.{VehicleState}
use Rattle.heading.specs.HoverWind as hover
use Rattle.heading.specs.Inner.{toward}
use Rattle.heading.specs.declared.hover_wind.HoverWind.{HoverWind}
use Rattle.heading.specs.declared.leg_heading.Goal.{Goal}
use Rattle.heading.specs.declared.leg_heading.Turn.{Turn}
use Rattle.copter.specs.declared.call.GuidanceCall.{GuidanceCall}
use Rattle.copter.specs.declared.memory.CopterGuidance.{CopterGuidance}
use Rattle.copter.specs.declared.memory.Memory.{Memory}
use Rattle.copter.specs.declared.guide.Guided.{Guided}
use Rattle.copter.specs.declared.guide.Steered.{Steered}
use Rattle.copter.specs.declared.guide.Plan.{Plan}
use Rattle.copter.specs.declared.guide.Plan.TheVariants as plans
use Rattle.copter.specs.Guide.{wind_updated, released, fly_to}

-- the craft of a call: the configuration that it flies by, and a memory
abbrev pub craft_of : GuidanceCall → Memory → CopterGuidance
craft_of call memory = record { config = call.config; memory = memory }

-- what a piloted call answers, and the heading target that it leaves
unfoldable pub steered : Guided → Steered
steered guided = record { heading_rad = guided.craft.memory.heading_rad; setpoint = guided.setpoint; flags = guided.flags }

-- a piloted call, with the wind updated
unfoldable pub steer : CopterGuidance → Steered → HoverWind → Guided
steer self s wind =
    record {
      craft = record { config = self.config; memory = released self.memory.lateral s.heading_rad wind };
      setpoint = s.setpoint;
      flags = s.flags;
    }

-- the heading turned for a goal, with the wind updated
unfoldable pub turn_for : CopterGuidance → Float → VehicleState → Goal → HoverWind → Turn
turn_for self dt state goal wind =
    let before = self.memory in
    toward before.leg_heading dt self.config.guidance.heading before.heading_rad goal (hover.estimate wind) state

-- what a plan gives: the wind is updated first
unfoldable pub flown : CopterGuidance → Float → VehicleState → Plan → Guided
flown self dt state (plans.Navigated course descended goal) =
    let wind = wind_updated self.memory self.config dt state in
    fly_to self dt state course descended (turn_for self dt state goal wind) wind
flown self dt state (plans.Piloted s) = steer self s (wind_updated self.memory self.config dt state)
