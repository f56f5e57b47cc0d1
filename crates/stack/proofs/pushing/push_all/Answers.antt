-- `push_all` fills the list as `pushes` lists it: the invariant says so of the registers that the loops have passed.
-- Assumes nothing.
use Rattle.std.proofs.Common.{◌≡◌, ◌-◌, ◌/◌, ◌%◌, get_or, length, sym, ap, ◌∙◌, arith, length-set, rules}
use Rattle.u8oru16.specs.Value.{value_of}
use Rattle.registers.specs.RegisterSet.{read}
use Rattle.memory.specs.Writes.{twelve}
use Rattle.memory.specs.declared.writes.Writes.{Writes}
use Rattle.stack.proofs.Filling.{empty, turn-off, word_room, byte-room, turn-word, turn_byte, all-filled, lowest, name_at}
use Rattle.stack.proofs.pushing.push_all.Goals as goal

pub loop-k-init : goal.loop-k-init
unfolding twelve
loop-k-init c =
    let e = c.none.ensures in
    let a = c.args in
    ((omega arith, omega arith), (ap (λ (w : Writes). length w.list) e, rw (ap (λ (w : Writes). w.list) e) (empty a.regs a.stack a.pointer a.mask a.system)))

pub overflow_sub-at : goal.overflow_sub-at
overflow_sub-at c =
    let l = c.loop-k in
    let a = c.args in
    omega (arith, l.invariant.1.1.low, word_room a.regs a.stack a.pointer a.mask a.system l.k l.list l.count l.at l.invariant.1.1 (omega arith) (omega arith) (sym c.bit.ensures ∙ c.if-bit.true) c.requires (omega arith))

pub loop-k-preserved-then-bit : goal.loop-k-preserved-then-bit
loop-k-preserved-then-bit c =
    let l = c.loop-k in
    let a = c.args in
    let b = sym c.bit.ensures ∙ c.if-bit.true in
    let w : c.u16-word.result ≡ value_of (read a.regs (name_at a.stack (7 - (l.k - 1)))) = c.u16-word.ensures ∙ rw (c.get_register.ensures, c.named.ensures) in
    let h : get_or c.to_be_bytes.result 0 0 ≡ c.u16-word.result / 256 = rw c.to_be_bytes.ensures (search rules) in
    let o : get_or c.to_be_bytes.result 1 0 ≡ c.u16-word.result % 256 = rw c.to_be_bytes.ensures (search rules) in (
      (omega arith, omega arith),
      (
        simp length-set l.invariant.1.0,
        rw (h, o) (turn-word a.regs a.stack a.pointer a.mask a.system l.k l.list l.count l.at l.invariant.1.1 (omega arith) (omega arith) b c.requires (omega arith) (search rules) (omega arith) c.u16-word.result w),
      ),
    )

pub loop-k-preserved : goal.loop-k-preserved
loop-k-preserved c =
    let l = c.loop-k in
    let a = c.args in (
      (omega arith, omega arith),
      (
        l.invariant.1.0,
        turn-off a.regs a.stack a.pointer a.mask a.system l.k l.list l.count l.at l.invariant.1.1 (omega arith) (omega arith) (sym c.bit.ensures ∙ c.if-bit.false),
      ),
    )

pub loop-k-2-init : goal.loop-k-2-init
loop-k-2-init c =
    let l = c.loop-k in
    let e : l.k ≡ 4 = omega (arith, l.invariant.0.0) in
    (omega (arith, l.invariant.0.1), (l.invariant.1.0, rw e at l.invariant.1.1))

pub overflow_sub-at-then-bit-2 : goal.overflow_sub-at-then-bit-2
overflow_sub-at-then-bit-2 c =
    let l = c.loop-k-2 in
    let a = c.args in
    omega (arith, l.invariant.1.1.low, byte-room a.regs a.stack a.pointer a.mask a.system l.k l.list l.count l.at l.invariant.1.1 (omega arith) (omega arith) (sym c.bit-in-loop-k-2.ensures ∙ c.if-bit-2.true) c.requires (omega arith))

pub loop-k-2-preserved-then-bit-2 : goal.loop-k-2-preserved-then-bit-2
loop-k-2-preserved-then-bit-2 c =
    let l = c.loop-k-2 in
    let a = c.args in
    let b = sym c.bit-in-loop-k-2.ensures ∙ c.if-bit-2.true in
    let v : c.lsb-byte.result ≡ value_of (read a.regs (name_at a.stack (7 - (l.k - 1)))) = c.lsb-byte.ensures ∙ rw (c.get_register-then-bit-2.ensures, c.named-then-bit-2.ensures) (lowest a.regs a.stack l.k (omega arith) (omega arith)) in (
      omega arith,
      (
        simp length-set l.invariant.1.0,
        turn_byte a.regs a.stack a.pointer a.mask a.system l.k l.list l.count l.at l.invariant.1.1 (omega arith) (omega arith) b c.requires (omega arith) (search rules) (omega arith) c.lsb-byte.result v,
      ),
    )

pub loop-k-2-preserved : goal.loop-k-2-preserved
loop-k-2-preserved c =
    let l = c.loop-k-2 in
    let a = c.args in (
      omega arith,
      (
        l.invariant.1.0,
        turn-off a.regs a.stack a.pointer a.mask a.system l.k l.list l.count l.at l.invariant.1.1 (omega arith) (omega arith) (sym c.bit-in-loop-k-2.ensures ∙ c.if-bit-2.false),
      ),
    )

pub returns : goal.returns
returns c =
    let l = c.loop-k-2 in
    let a = c.args in
    let z : 8 - l.k ≡ 8 = omega arith in
    all-filled a.regs a.stack a.pointer a.mask a.system l.list l.count l.at (rw z at l.invariant.1.1)
