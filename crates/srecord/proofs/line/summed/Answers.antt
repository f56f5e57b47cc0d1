-- `summed` compares the last byte with the sum of the others.
-- Assumes nothing.
use Rattle.std.proofs.Common.{arith}
use Rattle.srecord.specs.Line.{is_summed}
use Rattle.srecord.proofs.Shapes.{is-shaped}
use Rattle.srecord.proofs.line.summed.Goals as goal

pub overflow_sub-n : goal.overflow_sub-n
overflow_sub-n c = omega (arith, (is-shaped c.args.text.now c.requires).room)

pub sum_bytes-requires : goal.sum_bytes-requires
sum_bytes-requires c = omega (arith, (is-shaped c.args.text.now c.requires).room)

pub returns : goal.returns
unfolding is_summed
returns c = rw (c.byte.ensures, c.sum_bytes.ensures, c.size-n.ensures)
