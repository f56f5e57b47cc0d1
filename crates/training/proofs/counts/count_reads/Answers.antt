-- The sum of the parts.
-- Assumes nothing.
use native.Mathlib.Omega.{arith}
use Rattle.training.proofs.Counted.{small, summed}
use Rattle.training.proofs.counts.count_reads.Goals as goal

pub overflow_sub-own : goal.overflow_sub-own
overflow_sub-own c = let h = c.requires.0 in omega arith

pub overflow_cast-own-2 : goal.overflow_cast-own-2
overflow_cast-own-2 c = let h = c.requires.1 in omega arith

pub overflow_add-result : goal.overflow_add-result
overflow_add-result c =
    let a = c.args in
    let k = small a.instruction a.mem.now a.regs a.ea c.pointer_count-pointer.ensures c.taken.ensures c.operand_count-read.ensures c.fetched.ensures in
    omega (arith, k.1.0, k.1.1)

pub overflow_add-result-2 : goal.overflow_add-result-2
overflow_add-result-2 c =
    let a = c.args in
    let k = small a.instruction a.mem.now a.regs a.ea c.pointer_count-pointer.ensures c.taken.ensures c.operand_count-read.ensures c.fetched.ensures in
    omega (arith, k.0, k.1.0, k.1.1)

pub overflow_add-result-3 : goal.overflow_add-result-3
overflow_add-result-3 c =
    let a = c.args in
    let h = c.requires.1 in
    let k = small a.instruction a.mem.now a.regs a.ea c.pointer_count-pointer.ensures c.taken.ensures c.operand_count-read.ensures c.fetched.ensures in
    omega (arith, k.0, k.1.0, k.1.1)

pub returns : goal.returns
returns c s =
    let a = c.args in
    summed a.instruction a.mem.now a.regs a.ea c.pointer_count-pointer.ensures c.taken.ensures c.operand_count-read.ensures c.fetched.ensures s a.was
