-- The words of a craft's memory, in the order that tests/oracle/README.md gives. Assumes nothing.
use Rattle.std.specs.Prelude.{ℕ, ◌-◌, true, List, ◌++◌, [], Option, Some, None, length, take, replicate}
use Rattle.floats.specs.Ops.{f32}
use Rattle.copter.specs.declared.commands.Flags.{Flags}
use Rattle.copter.specs.declared.memory.Memory.{Memory}
use Rattle.copter.specs.declared.memory.CopterGuidance.{CopterGuidance}
use Rattle.records.specs.declared.craft.Craft.{Craft}
use Rattle.words.specs.Words.{flag, none_or}
use Rattle.words.specs.Types.{float, vec2, hover_wind, leg_heading, lateral}

abbrev pub memory_words : Memory → List ℕ
memory_words m =
    (vec2 m.lateral.tilt_rad ++ flag m.lateral.tilt_capped ++ vec2 m.lateral.requested_accel_mps2)
    ++ (none_or float (f32 0) m.vertical.target ++ float m.vertical.descent_speed_mps)
    ++ (none_or float (f32 0) m.lateral.rate.elapsed_s ++ float m.heading_rad) ++ (leg_heading m.leg_heading ++ hover_wind m.wind)
    ++ (float m.vertical.controller.integrated_error ++ lateral m.lateral.controller)

-- none with no craft configured
abbrev pub craft_words : Option CopterGuidance → Flags → List ℕ
craft_words None flags = []
craft_words (Some guidance) flags = (flag true ++ flag flags.tilt ++ flag flags.thrust) ++ memory_words guidance.memory

-- 63 words, the missing ones 0
abbrev pub memory_bytes : Craft → Flags → List ℕ
memory_bytes craft flags = let words = take 252 (craft_words craft.guidance flags) in words ++ replicate (252 - length words) 0
