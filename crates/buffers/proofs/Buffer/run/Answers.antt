-- `buffers::Buffer::run` meets its contract. Assumes nothing.
use Rattle.std.proofs.Common.{◌≡◌, arith}
use Rattle.buffers.specs.Turns.{out_of_turns, stopped, at_first, onward}
use Rattle.buffers.proofs.Buffer.run.Goals as goal

pub loop-init : goal.loop-init
loop-init g c = at_first

pub returns : goal.returns
returns g c =
    let all : c.loop.counter ≡ 18446744073709551615 = omega arith in
    out_of_turns _ (rw all at c.loop.invariant)

pub returns-in_default : goal.returns-in_default
returns-in_default g c =
    let read = c.read_more-got.ensures in
    let turn = rw (c.held.ensures.bytes, c.ok.ensures.value) at c.in_default.ensures in
    stopped c.loop.invariant (read.reads, read.gives, turn.within, turn.met)

pub loop-preserved : goal.loop-preserved
loop-preserved g c =
    let read = c.read_more-got.ensures in
    let turn = rw (c.held.ensures.bytes, c.ok.ensures.value) at c.in-Some.ensures in
    rw c.drop_front.ensures (onward c.in-Some.taken c.loop.invariant (read.reads, read.gives, turn.within, turn.met))
