-- What is left to push comes, at every turn of the loop, to what the whole push comes to.
-- Assumes nothing.
use Rattle.std.proofs.Common.{◌≡◌, ◌<◌, sym, ◌∙◌, arith, rules}
use Rattle.calls.proofs.PlainWrites.{all-left, none-left, turn-off, turn-room, turn-on}
use Rattle.calls.proofs.plain.push.Goals as goal

pub loop-k-init : goal.loop-k-init
loop-k-init c = let a = c.args in all-left a.regs a.own a.mask a.pointer a.mem.now (search rules)

pub overflow_sub-p : goal.overflow_sub-p
overflow_sub-p c =
    let l = c.loop-k in
    let a = c.args in
    let t : 0 < l.k = omega arith in
    turn-room a.regs a.own a.mask a.pointer a.mem.now l.k l.p l.mem l.invariant t (omega arith) (sym c.bit.ensures ∙ c.if-bit.true) c.requires.1 c.get_register-value.result (c.get_register-value.ensures ∙ rw c.named.ensures) c.size-p.result c.size-p.ensures

pub put-requires : goal.put-requires
put-requires c =
    let l = c.loop-k in
    (l.invariant.full, omega (arith, c.size-p.ensures, c.size-p.type_inv, l.invariant.reached, c.requires.0.1))

pub loop-k-preserved-then-bit : goal.loop-k-preserved-then-bit
loop-k-preserved-then-bit c =
    let l = c.loop-k in
    let a = c.args in
    let t : 0 < l.k = omega arith in
    rw c.put.ensures
    (turn-on a.regs a.own a.mask a.pointer a.mem.now l.k l.p l.mem l.invariant t (omega arith) (sym c.bit.ensures ∙ c.if-bit.true) c.requires.1 c.get_register-value.result (c.get_register-value.ensures ∙ rw c.named.ensures) c.size-p.result c.size-p.ensures c.requires.0.1)

pub loop-k-preserved : goal.loop-k-preserved
loop-k-preserved c =
    let l = c.loop-k in
    let a = c.args in
    let t : 0 < l.k = omega arith in
    turn-off a.regs a.own a.mask a.pointer a.mem.now l.k l.p l.mem l.invariant t (omega arith) (sym c.bit.ensures ∙ c.if-bit.false)

pub returns : goal.returns
returns c =
    let l = c.loop-k in
    let a = c.args in
    let e : l.k ≡ 0 = omega arith in
    none-left a.regs a.own a.mask a.pointer a.mem.now l.p l.mem (rw e at l.invariant)
