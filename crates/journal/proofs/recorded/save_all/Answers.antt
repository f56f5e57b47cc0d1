-- After so many turns the entries of so many writes are laid.
-- Assumes nothing.
use Rattle.std.proofs.Common.{◌≡◌, ◌+◌, ◌*◌, ◌≤◌, length, take, refl, ◌∙◌, arith, take_all}
use Rattle.journal.specs.Record.{entries, entries_at, entry_length}
use Rattle.journal.specs.Recorded.{saved_for}
use Rattle.journal.proofs.Laying.{saved-first, save-fits, turn-count, turn-laid}
use Rattle.journal.proofs.recorded.save_all.Goals as goal

pub loop-one-init : goal.loop-one-init
unfolding saved_for entries
loop-one-init c = (refl, refl)

pub save-n-requires : goal.save-n-requires
save-n-requires c =
    let l = c.loop-one in
    let a = c.args in
    let p = c.requires in
    let ws = c.as_slice-one-items.result.now in
    let room : entries_at + length (saved_for a.ram_top ws a.mem.now) * entry_length ≤ length a.rest.now = rw c.as_slice-one-items.ensures.writes p.0 in
    let s = saved-first a.ram_top ws l.one-index a.mem.now in (
      omega (arith, s, l.invariant.0, c.loop-one-test.true, c.as_slice-one-items.ensures.few),
      (save-fits a.ram_top ws l.one-index _ c.loop-one-test.true a.mem.now l.n _ l.invariant.0 (omega (arith, room, l.auto.rest)), p.1),
    )

pub loop-one-preserved : goal.loop-one-preserved
loop-one-preserved c =
    let l = c.loop-one in
    let a = c.args in
    let ws = c.as_slice-one-items.result.now in
    let s = c.save-n.ensures in (
      s.0 ∙ turn-count a.ram_top ws l.one-index _ c.loop-one-test.true a.mem.now l.n l.invariant.0,
      s.1 ∙ rw l.invariant.1 (turn-laid a.ram_top ws l.one-index _ c.loop-one-test.true a.mem.now l.n a.rest.now l.invariant.0),
    )

pub returns : goal.returns
returns c =
    let l = c.loop-one in
    rw (← c.as_slice-one-items.ensures.writes, ← (take_all l.one-index c.as_slice-one-items.result.now c.loop-one-test.false)) l.invariant.1
