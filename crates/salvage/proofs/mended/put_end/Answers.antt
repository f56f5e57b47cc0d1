-- The text that is added is the line's.
-- Assumes nothing.
use mathlib.Core.Path.{◌∙◌}
use Rattle.srecord.specs.Layout.{pairs, total, line_text}
use Rattle.salvage.proofs.mended.put_end.Goals as goal

pub returns-then-not-ended : goal.returns-then-not-ended
unfolding line_text pairs total
returns-then-not-ended c = c.put.ensures ∙ rw c.if-not-ended.true
