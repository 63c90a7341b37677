-- `control_c::hover_wind::wind_numbers` meets its contract. Assumes nothing.
use Rattle.std.proofs.Common.{rules, ◌≡◌}
use Rattle.control_c.specs.Missing.{no_estimate}
use Rattle.control_c.proofs.hover_wind.wind_numbers.Goals as goal

pub returns : goal.returns
returns c =
    let blank : c.default.result ≡ no_estimate = search rules in
    rw (c.of-held.ensures, c.of-ground.ensures, blank)
