-- `put_end`: the fixed text is that of the start 0000, computed.
-- Assumes nothing.
use Rattle.std.proofs.Common.{◌∙◌}
use Rattle.srecord.specs.Layout.{line_text, pairs, total}
use Rattle.srecord.proofs.written.put_end.Goals as goal

pub returns-then-start-eq0 : goal.returns-then-start-eq0
unfolding line_text pairs total
returns-then-start-eq0 c = c.put.ensures ∙ rw c.if-start-eq0.true
