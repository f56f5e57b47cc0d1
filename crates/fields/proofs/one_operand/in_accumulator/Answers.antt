-- The place follows from what the column stands for.
-- Assumes nothing.
use Rattle.fields.specs.OneOperand.{in_accumulator}
use Rattle.fields.proofs.one_operand.in_accumulator.Goals as goal

pub returns-in_err-unary : goal.returns-in_err-unary
unfolding in_accumulator
returns-in_err-unary c = rw (c.from_residual.ensures, ← c.operation.ensures, c.in_err-unary.was)

pub returns-in-Change : goal.returns-in-Change
unfolding in_accumulator
returns-in-Change c = rw (c.entry_at.ensures, ← c.operation.ensures, c.in_ok-unary.was, c.in-Change.is)

pub returns-in-Test : goal.returns-in-Test
unfolding in_accumulator
returns-in-Test c = rw (c.entry_at-in-Test.ensures, ← c.operation.ensures, c.in_ok-unary.was, c.in-Test.is)

pub returns-in-Jump : goal.returns-in-Jump
unfolding in_accumulator
returns-in-Jump c = rw (← c.operation.ensures, c.in_ok-unary.was, c.in-Jump.is)
