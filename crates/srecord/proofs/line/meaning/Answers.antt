-- `meaning` by the kind: S0, S9, and S1 with its last address tested.
-- Assumes nothing.
use Rattle.std.proofs.Common.{arith}
use Rattle.srecord.proofs.Shapes.{is-shaped}
use Rattle.srecord.proofs.line.meaning.Goals as goal

pub overflow_sub-count : goal.overflow_sub-count
overflow_sub-count c = omega (arith, (is-shaped c.args.text.now c.requires).room)

pub bounds-text-1 : goal.bounds-text-1
bounds-text-1 c = omega (arith, (is-shaped c.args.text.now c.requires).size)

pub overflow_add-address : goal.overflow_add-address
overflow_add-address c = omega (arith, (is-shaped c.args.text.now c.requires).size)
