-- `read_u8_after` meets its contract.
-- Assumes nothing.
use Rattle.std.proofs.Common.{take_all}
use Rattle.memory.specs.Writes.{stored}
use Rattle.memory.proofs.Folds.{turn-read}
use Rattle.memory.proofs.writes.read_u8_after.Goals as goal

pub loop-one-init : goal.loop-one-init
unfolding stored
loop-one-init c = c.read_u8-b.ensures

pub loop-one-preserved : goal.loop-one-preserved
loop-one-preserved c =
    let l = c.loop-one in
    let a = c.args in
    let p = c.place-place.ensures in
    turn-read _ c.as_slice-one-items.result.now l.one-index _ c.loop-one-test.true a.mem.now a.at l.b _ l.invariant (rw p at c.over-b.ensures)

pub returns : goal.returns
returns c =
    let l = c.loop-one in
    rw (← c.as_slice-one-items.ensures.writes, ← (take_all l.one-index c.as_slice-one-items.result.now c.loop-one-test.false)) l.invariant
