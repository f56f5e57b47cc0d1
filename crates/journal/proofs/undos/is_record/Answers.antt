-- Test by test.
-- Assumes nothing.
-- the count is a byte
use mathlib.Core.Path.{◌≡◌, refl, sym, ◌∙◌}
use native.Mathlib.Omega.{arith}
use lib.ListN.{length}
use Rattle.journal.specs.Record.{count_at, count_of, wait_at, mark_at}
use Rattle.journal.proofs.Answers.{many-entries, few-entries}
use Rattle.journal.proofs.undos.is_record.Goals as goal

pub overflow_cast-n : goal.overflow_cast-n
overflow_cast-n c = omega (arith, c.type_inv.r count_at)

pub returns-then-n-gt-MOST : goal.returns-then-n-gt-MOST
unfolding count_of
returns-then-n-gt-MOST c = many-entries c.args.r.now c.if-n-gt-MOST.true

pub returns : goal.returns
unfolding count_of wait_at mark_at
returns c = few-entries c.args.r.now _ c.if-n-gt-MOST.false c.record_length.ensures
