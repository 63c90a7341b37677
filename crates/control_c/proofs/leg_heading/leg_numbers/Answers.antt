-- `control_c::leg_heading::leg_numbers` meets its contract. Assumes nothing.
use Rattle.std.proofs.Common.{rules, ◌≡◌}
use Rattle.control_c.specs.Missing.{no_estimate}
use Rattle.control_c.specs.LegHeading.{no_leg, yielding_flag}
use Rattle.control_c.proofs.Flags.{flag_of}
use Rattle.control_c.proofs.leg_heading.leg_numbers.Goals as goal

pub returns : goal.returns
unfolding yielding_flag
returns c =
    let leg : c.default.result ≡ no_leg = search rules in
    let blank : c.default-2.result ≡ no_estimate = search rules in
    rw (c.of-bearing.ensures, c.of-held.ensures, c.of-side.ensures, c.of-target.ensures, c.of-last.ensures, leg, blank, c.from.ensures, flag_of)
