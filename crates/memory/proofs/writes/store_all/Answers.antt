-- `store_all` meets its contract.
-- Assumes nothing.
use Rattle.std.proofs.Common.{refl, ◌∙◌, take_all}
use Rattle.memory.specs.Writes.{stored, reported}
use Rattle.memory.proofs.Folds.{turn-mem, turn-device, turn-other}
use Rattle.memory.proofs.writes.store_all.Goals as goal
use Rattle.memory.proofs.writes.store_all.Goals.{then-store, else-store}

pub loop-one-init : goal.loop-one-init
unfolding stored reported
loop-one-init c = (refl, c.none-devices.ensures)

pub loop-one-preserved : goal.loop-one-preserved
loop-one-preserved c =
    let l = c.loop-one in
    let few = c.as_slice-one-items.ensures.few in
    let t = c.loop-one-test.true in
    let s = c.store.ensures in (
      s.1 ∙ turn-mem _ _ l.one-index _ t _ _ l.invariant.0,
      elim c.if-store.branch [
        | then-store w ↦ w.devices-is ∙ w.add-devices.ensures ∙ turn-device _ _ l.one-index _ t _ few l.invariant.1 (rw w.if-store.true at s.0)
        | else-store w ↦ w.devices-is ∙ turn-other _ _ l.one-index _ t _ l.invariant.1 (rw w.if-store.false at s.0)
      ],
    )

pub returns : goal.returns
returns c =
    let l = c.loop-one in
    rw (← c.as_slice-one-items.ensures.writes, ← (take_all l.one-index c.as_slice-one-items.result.now c.loop-one-test.false)) (l.invariant.1, l.invariant.0)
