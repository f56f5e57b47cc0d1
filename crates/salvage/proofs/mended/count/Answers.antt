-- The loop's invariant: what is counted and what is left make the whole (`Counted`).
-- Assumes nothing.
use native.Mathlib.Omega.{arith}
use Rattle.salvage.proofs.Walk.{start_is, Turned, turned}
use Rattle.salvage.proofs.Tallies.{at_first, keeps, drops, at_last}
use Rattle.salvage.proofs.mended.count.Goals as goal
use Rattle.salvage.proofs.mended.count.Goals.{After-next-turned, in-None, in-Some}

-- the turn at hand
here : (c : After-next-turned) → Turned c.args.file.now c.loop-at.at c.next-turned.result
here c = turned _ _ _ c.loop-at-test.true c.next-turned.ensures

pub loop-at-init : goal.loop-at-init
loop-at-init c = at_first _ _ (start_is _ c.default-at.ensures)

pub next-turned-requires : goal.next-turned-requires
next-turned-requires c = (c.loop-at-test.true, c.loop-at.invariant.few)

pub overflow_sub-bytes : goal.overflow_sub-bytes
overflow_sub-bytes c = let w = here (goal.at.overflow_sub-bytes c).After-next-turned in omega (arith, w.on)

pub overflow_add-bytes : goal.overflow_add-bytes
overflow_add-bytes c = let w = here (goal.at.overflow_add-bytes c).After-next-turned in let k = c.loop-at.invariant in omega (arith, w.on, w.fits, k.less)

pub overflow_add-numbers : goal.overflow_add-numbers
overflow_add-numbers c = let w = here (goal.at.overflow_add-numbers c).After-next-turned in let k = c.loop-at.invariant in omega (arith, w.on, w.fits, k.few, k.fewer)

pub loop-at-smaller : goal.loop-at-smaller
loop-at-smaller c = let w = here (goal.at.loop-at-smaller c).After-next-turned in omega (arith, w.on, w.fits)

pub loop-at-preserved : goal.loop-at-preserved
loop-at-preserved c =
    let t = here (goal.at.loop-at-preserved c).After-next-turned in
    elim c.match-turned.branch [
      | in-None w ↦ rw (w.bytes-is, w.numbers-is) (keeps _ _ _ _ _ t c.loop-at.invariant w.in-None.is)
      | in-Some w ↦ rw (w.bytes-is, w.numbers-is) (drops _ _ _ _ _ t c.loop-at.invariant _ w.in-Some.is)
    ]

pub returns : goal.returns
returns c = at_last _ _ _ _ c.loop-at.invariant c.loop-at-test.false
