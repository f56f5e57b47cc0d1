-- Too long, refused, done.
-- Assumes nothing.
use mathlib.Core.Path.{sym, ◌∙◌}
use Rattle.salvage.proofs.Mending.{too_long, told}
use Rattle.salvage.proofs.printed.mend.Goals as goal

pub returns-then-file-gt-LONGEST : goal.returns-then-file-gt-LONGEST
returns-then-file-gt-LONGEST c = too_long _ c.args.out.now _ c.if-file-gt-LONGEST.true _ _ c.put_refusal.ensures

pub returns-in-Err : goal.returns-in-Err
returns-in-Err c =
    let s = c.salvage.ensures in
    told _ _ _ c.if-file-gt-LONGEST.false _ c.no_numbers-list.ensures _ _ (sym c.in-Err.is ∙ s.0) s.1.0 _ _ c.put_refusal-in-Err.ensures

pub returns-in-Ok : goal.returns-in-Ok
returns-in-Ok c =
    let s = c.salvage.ensures in
    told _ _ _ c.if-file-gt-LONGEST.false _ c.no_numbers-list.ensures _ _ (sym c.in-Ok.is ∙ s.0) s.1.0 _ _ c.put_report.ensures
