-- The loop's invariant: what is laid, and then what is left, is the whole (`Laid`).
-- Assumes nothing.
use mathlib.Core.Path.{◌∙◌}
use native.Mathlib.Omega.{arith}
use Rattle.salvage.proofs.Walk.{start_is, Turned, turned}
use Rattle.salvage.proofs.Laying.{at_first, keeps, room-left, drops, at_last}
use Rattle.salvage.proofs.mended.put_lines.Goals as goal
use Rattle.salvage.proofs.mended.put_lines.Goals.{After-next-turned}

-- the turn at hand
here : (c : After-next-turned) → Turned c.args.file.now c.loop-at.at c.next-turned.result
here c = turned _ _ _ c.loop-at-test.true c.next-turned.ensures

pub loop-at-init : goal.loop-at-init
loop-at-init c = at_first _ _ _ _ (start_is _ c.default-at.ensures) c.requires

pub next-turned-requires : goal.next-turned-requires
next-turned-requires c = (c.loop-at-test.true, c.loop-at.invariant.few)

pub slice_bounds-put-count : goal.slice_bounds-put-count
slice_bounds-put-count c = let w = here (goal.at.slice_bounds-put-count c).After-next-turned in omega (arith, w.on, w.fits)

pub slice_bounds-put-start : goal.slice_bounds-put-start
slice_bounds-put-start c = let w = here (goal.at.slice_bounds-put-start c).After-next-turned in omega (arith, w.on, w.fits)

pub slice_bounds-put-end : goal.slice_bounds-put-end
slice_bounds-put-end c = let w = here (goal.at.slice_bounds-put-end c).After-next-turned in omega (arith, w.on, w.fits)

pub overflow_sub-bytes : goal.overflow_sub-bytes
overflow_sub-bytes c = let w = here (goal.at.overflow_sub-bytes c).After-next-turned in omega (arith, w.on)

pub overflow_add-bytes : goal.overflow_add-bytes
overflow_add-bytes c = let w = here (goal.at.overflow_add-bytes c).After-next-turned in let k = c.loop-at.invariant in omega (arith, w.on, w.fits, k.less)

pub overflow_add-listed : goal.overflow_add-listed
overflow_add-listed c =
    let m = room-left _ _ _ _ _ _ _ _ _ (here (goal.at.overflow_add-listed c).After-next-turned) c.loop-at.invariant _ c.in-Some.is in
    omega arith

pub loop-at-smaller-in-None : goal.loop-at-smaller-in-None
loop-at-smaller-in-None c = let w = here (goal.at.loop-at-smaller-in-None c).After-next-turned in omega (arith, w.on, w.fits)

pub loop-at-preserved-in-None : goal.loop-at-preserved-in-None
loop-at-preserved-in-None c = keeps _ _ _ _ _ _ _ _ _ (here (goal.at.loop-at-preserved-in-None c).After-next-turned) c.loop-at.invariant _ c.in-None.is c.put.ensures

pub loop-at-smaller : goal.loop-at-smaller
loop-at-smaller c = let w = here (goal.at.loop-at-smaller c).After-next-turned in omega (arith, w.on, w.fits)

pub loop-at-preserved : goal.loop-at-preserved
loop-at-preserved c =
    drops _ _ _ _ _ _ _ _ _ (here (goal.at.loop-at-preserved c).After-next-turned) c.loop-at.invariant _ _ c.in-Some.is (c.put-in-Some.ensures ∙ rw c.counter_of.ensures)

pub shape_of-out : goal.shape_of-out
shape_of-out c = c.loop-at.invariant.out-same

pub shape_of-list : goal.shape_of-list
shape_of-list c = c.loop-at.invariant.list_same

pub returns : goal.returns
returns c = at_last _ _ _ _ _ _ _ _ c.loop-at.invariant c.loop-at-test.false
