-- The invariant: the lines left, laid after the text so far, make the whole text. The measure is the number of lines left.
-- Assumes nothing.
use mathlib.Core.Path.{sym, ap, ◌∙◌}
use native.Mathlib.Omega.{arith}
use lib.ListN.{length}
use Rattle.listing.specs.Listing.{listing}
use Rattle.listing.proofs.Lines.{line-of-49}
use Rattle.listing.proofs.Going.{at_first, turn, finished, fewer}
use Rattle.listing.proofs.put_lines.Goals as goal

pub loop-left-init : goal.loop-left-init
loop-left-init c = let a = c.args in (omega arith, at_first a.mem.now a.out.now a.count a.from (omega arith))

pub slice_bounds-put-end : goal.slice_bounds-put-end
slice_bounds-put-end c =
    let l = c.loop-left in
    sym (ap length c.line_at-told.ensures.0 ∙ line-of-49 c.args.mem.now l.at c.requires (λ k. omega (arith, c.type_inv.mem k)) l.invariant.0)

pub overflow_add-used-in-loop-left : goal.overflow_add-used-in-loop-left
overflow_add-used-in-loop-left c = omega (arith, c.loop-left.invariant.1.room, c.loop-left-test.true)

pub loop-left-smaller : goal.loop-left-smaller
loop-left-smaller c = omega (arith, c.left_after-left.ensures, fewer c.loop-left.left c.line_at-told.result.next, c.loop-left-test.true)

pub loop-left-preserved : goal.loop-left-preserved
loop-left-preserved c =
    let l = c.loop-left in
    let t = c.line_at-told.ensures in (
      omega arith,
      turn c.args.mem.now c.requires (λ k. omega (arith, c.type_inv.mem k)) c.args.out.now (listing c.args.count c.args.mem.now c.args.from)
          l.left l.used l.out l.at l.invariant.0 l.invariant.1 c.loop-left-test.true t.0 t.1 c.put.ensures c.left_after-left.ensures,
    )

pub shape_of-out : goal.shape_of-out
shape_of-out c = c.loop-left.invariant.1.long

pub returns : goal.returns
returns c =
    let l = c.loop-left in
    let f = finished c.args.mem.now c.args.out.now (listing c.args.count c.args.mem.now c.args.from) l.left l.used l.out l.at l.invariant.1 c.loop-left-test.false in
    (f.0, (f.1, omega (arith, l.invariant.1.room)))
