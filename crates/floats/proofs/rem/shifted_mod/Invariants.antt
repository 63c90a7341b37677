-- `floats::rem::shifted_mod` meets its contract: after i rounds r is m * 2^i modulo n. Assumes nothing.
use Rattle.std.proofs.Common.{◌≡◌, ◌*◌, ◌%◌, ◌^◌}
use Rattle.floats.proofs.rem.shifted_mod.Given as goal

abbrev pub invariant-loop : goal.invariant-loop
invariant-loop l = l.r ≡ l.fn.m * 2 ^ l.counter % l.fn.n
