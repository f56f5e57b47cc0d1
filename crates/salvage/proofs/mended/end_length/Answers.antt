-- The line that is added has 11 bytes.
-- Assumes nothing.
use borrow.Author.Rules.{rules}
use Rattle.srecord.specs.Layout.{pairs, line_text}
use Rattle.salvage.proofs.mended.end_length.Goals as goal

pub returns-then-ended : goal.returns-then-ended
unfolding line_text pairs
returns-then-ended c = search rules

pub returns-else-ended : goal.returns-else-ended
unfolding line_text pairs
returns-else-ended c = search rules
