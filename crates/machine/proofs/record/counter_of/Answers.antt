-- The eight bytes, high byte first.
-- Assumes nothing.
use mathlib.Core.Path.{sym, ◌∙◌}
use Rattle.machine.proofs.Header.{eight}
use Rattle.machine.proofs.record.counter_of.Goals as goal

pub returns : goal.returns
returns c = c.to_be_bytes.ensures ∙ sym (eight c.args.n)
