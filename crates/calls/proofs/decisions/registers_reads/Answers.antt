-- A byte holds the sum.
-- Assumes nothing.
use Rattle.std.proofs.Common.{ap, ◌∙◌, arith}
use Rattle.bus.specs.Sums.{operand_count}
use Rattle.opcodes.specs.declared.Op.TheVariants.{Registers}
use Rattle.calls.proofs.Decided.{operand-most}
use Rattle.calls.proofs.decisions.registers_reads.Goals as goal

pub overflow_add-result : goal.overflow_add-result
overflow_add-result c =
    let a = c.args in
    let h = c.requires in
    let k = operand-most (Registers a.on) a.mode (c.operand_count.ensures ∙ ap (operand_count a.mode) c.registers_take.ensures) in
    omega arith

pub returns : goal.returns
returns c = rw (c.operand_count.ensures, c.registers_take.ensures)
