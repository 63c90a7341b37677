-- `buffers::fill`: no fewer bytes are held than at first, no more than the buffer has where it had room for those, and those stay.
use Rattle.std.proofs.Common.{◌≡◌, ◌≤◌, length, take}
use Rattle.buffers.proofs.fill.Given as goal

abbrev pub invariant-loop : goal.invariant-loop
invariant-loop g l =
    (l.fn.held ≤ l.filled) × (l.fn.held ≤ length l.fn.bytes → l.filled ≤ length l.fn.bytes) × (length l.bytes ≡ length l.fn.bytes)
    × (take l.fn.held l.bytes ≡ take l.fn.held l.fn.bytes)
