-- The two bytes' number.
-- Assumes nothing.
use mathlib.Core.Path.{sym, ◌∙◌}
use Rattle.machine.proofs.Header.{number_two}
use Rattle.machine.proofs.record.word_at.Goals as goal

pub returns : goal.returns
returns c = c.from_be_bytes.ensures ∙ rw (c.byte_at.ensures, c.byte_at-2.ensures) (sym (number_two c.args.r.now c.args.at))
