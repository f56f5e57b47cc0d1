-- The address, then the operation.
-- Assumes nothing.
use Rattle.std.proofs.Common.{ℕ, ◌+◌, ◌-◌, ap, ◌∙◌, arith}
use Rattle.cycles.specs.Cycles.{cycles_of}
use Rattle.calls.specs.Steps.{finished}
use Rattle.calls.proofs.Decided.{decides-plan, reads-told, pointer-most}
use Rattle.calls.proofs.decisions.execute.Goals as goal

pub overflow_sub-own : goal.overflow_sub-own
overflow_sub-own c = let h = c.requires.0 in omega arith

pub overflow_cast-own-2 : goal.overflow_cast-own-2
overflow_cast-own-2 c = let h = c.requires.1 in omega arith

pub overflow_add-program : goal.overflow_add-program
overflow_add-program c =
    let h = c.requires.1 in
    let k = pointer-most c.args.instruction.operand c.pointer_count.ensures in
    omega arith

pub operate-requires : goal.operate-requires
operate-requires c =
    let h = c.requires.1 in
    let k = pointer-most c.args.instruction.operand c.pointer_count.ensures in
    omega arith

pub returns-in-Err : goal.returns-in-Err
unfolding finished
returns-in-Err c = rw (c.refuse.ensures, ← c.resolve.ensures, c.in-Err.is)

pub returns-in-Ok : goal.returns-in-Ok
unfolding cycles_of
returns-in-Ok c =
    let a = c.args in
    let i = a.instruction in
    let f = c.in-Ok.found in
    let told = reads-told i a.mem.now a.settings a.machine.regs f.regs f.ea _ (ap (λ (n : ℕ). (i.next - a.machine.regs.pc) + n) c.pointer_count.ensures) in
    decides-plan a.machine a.settings a.mem.now c.operate.result c.operate.ensures
    ∙ rw (told, c.operand_extra-extra.ensures, ← c.resolve.ensures, c.in-Ok.is)
