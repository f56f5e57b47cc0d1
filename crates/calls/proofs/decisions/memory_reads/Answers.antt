-- A byte holds the sum.
-- Assumes nothing.
use Rattle.std.proofs.Common.{ap, ◌∙◌, arith}
use Rattle.bus.specs.Sums.{operand_count}
use Rattle.opcodes.specs.declared.Op.TheVariants.{Memory}
use Rattle.calls.proofs.Decided.{operand-most, fetched-most}
use Rattle.calls.proofs.decisions.memory_reads.Goals as goal

pub overflow_add-result : goal.overflow_add-result
overflow_add-result c =
    let a = c.args in
    let k = operand-most (Memory a.on) a.mode (c.operand_count-operand.ensures ∙ ap (operand_count a.mode) c.memory_takes.ensures) in
    let g = fetched-most (Memory a.on) a.mem.now a.regs a.ea c.memory_count.ensures in
    omega arith

pub overflow_add-result-2 : goal.overflow_add-result-2
overflow_add-result-2 c =
    let a = c.args in
    let h = c.requires in
    let k = operand-most (Memory a.on) a.mode (c.operand_count-operand.ensures ∙ ap (operand_count a.mode) c.memory_takes.ensures) in
    let g = fetched-most (Memory a.on) a.mem.now a.regs a.ea c.memory_count.ensures in
    omega arith

pub returns : goal.returns
returns c = rw (c.operand_count-operand.ensures, c.memory_takes.ensures, c.memory_count.ensures)
