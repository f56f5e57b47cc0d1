-- By the class of the operation.
-- Assumes nothing.
use Rattle.std.proofs.Common.{◌∙◌}
use Rattle.calls.proofs.Decided.{billed-effect, fetches-none}
use Rattle.calls.proofs.decisions.operate.Goals as goal

pub registers_reads-reads-requires : goal.registers_reads-reads-requires
registers_reads-reads-requires c = c.requires

pub memory_reads-reads-requires : goal.memory_reads-reads-requires
memory_reads-reads-requires c = c.requires

pub returns-in-Registers : goal.returns-in-Registers
returns-in-Registers c =
    let a = c.args in
    let d = c.decide_registers-decision in
    record {
      effect = rw (c.bill.ensures, c.in-Registers.is) (billed-effect a.settings a.mem.now d.result _ _ _ ∙ d.ensures);
      cycles = rw (c.bill.ensures, c.cost-cycles.ensures, c.registers_extra.ensures, c.in-Registers.is);
      reads = rw (c.bill.ensures, c.registers_reads-reads.ensures, c.in-Registers.is) (fetches-none _ _);
      arms = rw (c.bill.ensures, c.registers_arm-arms.ensures, c.in-Registers.is);
    }

pub returns-in-Memory : goal.returns-in-Memory
returns-in-Memory c =
    let a = c.args in
    let d = c.decide_memory-decision in
    record {
      effect = rw (c.bill-in-Memory.ensures, c.in-Memory.is) (billed-effect a.settings a.mem.now d.result _ _ _ ∙ d.ensures);
      cycles = rw (c.bill-in-Memory.ensures, c.cost-cycles-in-Memory.ensures, c.memory_extra.ensures, c.in-Memory.is);
      reads = rw (c.bill-in-Memory.ensures, c.memory_reads-reads.ensures, c.in-Memory.is);
      arms = rw (c.bill-in-Memory.ensures, c.memory_arms-arms.ensures, c.in-Memory.is);
    }
