-- Barred, or as it was.
-- Assumes nothing.
use Rattle.std.proofs.Common.{sym, ◌∙◌}
use Rattle.calls.proofs.steps.fence.Goals as goal

pub returns-then-bars : goal.returns-then-bars
returns-then-bars c = rw (c.refused.ensures, sym c.bars.ensures ∙ c.if-bars.true)

pub returns : goal.returns
returns c = rw (sym c.bars.ensures ∙ c.if-bars.false)
