-- An undo that is refused, one that is accepted, and the last that is made.
-- Assumes nothing.
use Rattle.std.proofs.Common.{sym, ◌∙◌, arith}
use Rattle.scenery.proofs.Undoing.{goes, ends, used-up}
use Rattle.scenery.proofs.start.undo_all.Goals as goal

pub returns-then-is_err-clause-leaves : goal.returns-then-is_err-clause-leaves
returns-then-is_err-clause-leaves c =
    let l = c.loop-undos in
    ends _ c.undo-last.new.mem c.args.journal.now 100000 l.undos _ l.invariant c.undo-last.result c.undo-last.ensures.leaves c.loop-undos-test.true (sym c.is_err.ensures.value ∙ c.if-is_err.true)

pub loop-undos-preserved : goal.loop-undos-preserved
loop-undos-preserved c =
    let l = c.loop-undos in
    goes _ c.undo-last.new.mem c.args.journal.now 100000 l.undos _ l.invariant c.undo-last.result c.undo-last.ensures.leaves c.loop-undos-test.true (sym c.is_err.ensures.value ∙ c.if-is_err.false)

pub returns-clause-leaves : goal.returns-clause-leaves
returns-clause-leaves c =
    let l = c.loop-undos in
    used-up _ l.mem c.args.journal.now 100000 l.undos l.last l.invariant (omega arith)
