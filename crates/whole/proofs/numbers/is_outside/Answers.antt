-- Below -h or from h on (`out_of_range`).
-- Assumes nothing.
use Rattle.whole.proofs.Signed.{turned-fit, out_of_range}
use Rattle.whole.proofs.numbers.is_outside.Goals as goal

pub overflow_sub-result : goal.overflow_sub-result
overflow_sub-result c = turned-fit c.args.half c.requires.most

pub returns : goal.returns
returns c = out_of_range c.args.half c.requires.most c.args.z c.ranges.z
