-- The line that is added is told by its text.
-- Assumes nothing.
use borrow.Author.Rules.{rules}
use mathlib.Core.Path.{◌∙◌}
use Rattle.srecord.specs.Layout.{pairs, total, line_text}
use Rattle.salvage.proofs.printed.put_added.Goals as goal

pub returns-then-ended : goal.returns-then-ended
returns-then-ended c = search rules

pub returns : goal.returns
unfolding line_text pairs total
returns c = let e = c.if-ended.false in (rw e, c.put.ensures ∙ rw e)
