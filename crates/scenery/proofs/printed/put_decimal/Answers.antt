-- With room to the left of the place, and without.
-- Assumes nothing.
use Rattle.std.proofs.Common.{◌∙◌}
use Rattle.scenery.proofs.Laying.{with-room, without-room}
use Rattle.scenery.proofs.printed.put_decimal.Goals as goal

pub returns-then-number-end : goal.returns-then-number-end
returns-then-number-end c = c.put.ensures.1 ∙ with-room c.args.out.now c.args.end c.args.n _ c.decimal-number.ensures c.if-number-end.true

pub returns-else-number-end : goal.returns-else-number-end
returns-else-number-end c = without-room c.args.out.now c.args.end c.args.n _ c.decimal-number.ensures c.if-number-end.false
