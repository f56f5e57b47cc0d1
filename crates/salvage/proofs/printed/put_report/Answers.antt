-- The loop's invariant: what is told, and then what is left to tell, is the report (`Told`).
-- Assumes nothing.
use mathlib.Core.Bool.{not}
use native.Mathlib.Omega.{arith}
use Rattle.salvage.proofs.Walk.{kept, start_is, Turned, turned}
use Rattle.salvage.proofs.Telling.{line-fits, added-short, at_first, keeps, drops, at_last}
use Rattle.salvage.proofs.printed.put_report.Goals as goal
use Rattle.salvage.proofs.printed.put_report.Goals.{After-next-turned, in-Some, in_default}

-- the turn at hand
here : (c : After-next-turned) → Turned c.args.file.now c.loop-at.at c.next-turned.result
here c = turned _ _ _ c.loop-at-test.true c.next-turned.ensures

pub loop-at-init : goal.loop-at-init
loop-at-init c = at_first _ _ _ (start_is _ c.default-at.ensures)

pub next-turned-requires : goal.next-turned-requires
next-turned-requires c = (c.loop-at-test.true, c.loop-at.invariant.few)

pub put_dropped-used-requires : goal.put_dropped-used-requires
put_dropped-used-requires c = let k = c.loop-at.invariant in omega (arith, k.within, k.few, k.small, c.requires)

pub overflow_add-used : goal.overflow_add-used
overflow_add-used c =
    let k = c.loop-at.invariant in
    omega (arith, k.within, k.few, k.small, c.requires, c.put_dropped-used.ensures.0, line-fits _ _ _ c.put_dropped-used.ensures.0)

pub loop-at-smaller : goal.loop-at-smaller
loop-at-smaller c = let w = here (goal.at.loop-at-smaller c).After-next-turned in omega (arith, w.on, w.fits)

pub loop-at-preserved : goal.loop-at-preserved
loop-at-preserved c =
    let t = here (goal.at.loop-at-preserved c).After-next-turned in
    elim c.match-turned.branch [
      | in-Some w ↦ let p = w.put_dropped-used.ensures in rw (w.used-is, w.out-is) (drops _ _ _ _ _ _ t c.loop-at.invariant _ _ _ w.in-Some.is p.0 p.1)
      | in_default w ↦ rw (w.used-is, w.out-is) (keeps _ _ _ _ _ _ t c.loop-at.invariant (kept _ w.in_default.not-Some))
    ]

pub overflow_add-result : goal.overflow_add-result
overflow_add-result c =
    let k = c.loop-at.invariant in
    omega (arith, k.within, k.few, k.small, c.requires, c.put_added.ensures.0, added-short (not c.loop-at.at.ended))

pub shape_of-out : goal.shape_of-out
shape_of-out c = omega (arith, c.put_added.auto, c.loop-at.invariant.same)

pub returns : goal.returns
returns c =
    let p = c.put_added.ensures in
    at_last _ _ _ _ _ c.loop-at.invariant c.loop-at-test.false _ _ p.0 p.1
