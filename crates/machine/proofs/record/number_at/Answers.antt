-- The eight bytes' number.
-- Assumes nothing.
use mathlib.Core.Path.{sym, ◌∙◌}
use Rattle.machine.proofs.Header.{number_eight}
use Rattle.machine.proofs.record.number_at.Goals as goal

pub returns : goal.returns
returns c =
    c.from_be_bytes.ensures
    ∙ rw (
      c.byte_at.ensures,
      c.byte_at-2.ensures,
      c.byte_at-3.ensures,
      c.byte_at-4.ensures,
      c.byte_at-5.ensures,
      c.byte_at-6.ensures,
      c.byte_at-7.ensures,
      c.byte_at-8.ensures,
    )
    (sym (number_eight c.args.r.now c.args.at))
