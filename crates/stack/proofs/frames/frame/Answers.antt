-- `frame`: E first, then the push; a refusal leaves E as it came.
-- Assumes nothing.
use Rattle.std.proofs.Common.{◌≡◌, true, ◌∙◌}
use Rattle.registers.specs.ConditionCodes.{put}
use Rattle.registers.specs.declared.CCBit.TheVariants.{E}
use Rattle.registers.specs.declared.Stack.TheVariants.{S}
use Rattle.operations.specs.Codes.{with_codes}
use Rattle.stack.specs.Pushing.{pushed}
use Rattle.stack.specs.Frames.{stacked_by, framed}
use Rattle.stack.proofs.frames.frame.Goals as goal
use Rattle.stack.proofs.frames.frame.Goals.{then-entire, else-entire, After-push-pushed}

stacked : (c : After-push-pushed) → c.push-pushed.result ≡ pushed (with_codes c.args.regs (put E c.args.entire c.args.regs.cc)) S (stacked_by c.args.entire) true
stacked c =
    c.push-pushed.ensures
    ∙ rw (c.with_codes.ensures, c.set-codes.ensures) (elim c.if-entire.branch [ then-entire w ↦ rw (w.mask-is, w.if-entire.true) | else-entire w ↦ rw (w.mask-is, w.if-entire.false) ])

pub returns-in-Err : goal.returns-in-Err
unfolding framed
returns-in-Err c = rw (c.refuses.ensures, ← (stacked (goal.at.returns-in-Err c).After-push-pushed), c.in-Err.is)

pub returns-in-Ok : goal.returns-in-Ok
unfolding framed
returns-in-Ok c = rw (← (stacked (goal.at.returns-in-Ok c).After-push-pushed), c.in-Ok.is)
