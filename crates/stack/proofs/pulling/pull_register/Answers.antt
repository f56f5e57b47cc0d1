-- A turn of the loop in `pull_all`, where the pointer does not wrap.
-- Assumes nothing.
use Rattle.std.proofs.Common.{◌≡◌, ◌+◌, ◌%◌, ◌≤◌, sym, ◌∙◌, arith}
use Rattle.stack.proofs.Emptying.{size_small, turn-off, turn-on}
use Rattle.stack.proofs.pulling.pull_register.Goals as goal

pub returns-then-not-bit : goal.returns-then-not-bit
returns-then-not-bit c =
    let a = c.args in
    (omega arith, turn-off a.mem.now a.stack a.mask a.k (omega arith) (sym c.bit.ensures ∙ c.if-not-bit.true) a.p)

pub returns : goal.returns
returns c =
    let a = c.args in
    let few : c.reg_size-size.result ≤ 2 = rw c.reg_size-size.ensures (size_small c.named-name.result) in
    let e : a.p.pointer + c.reg_size-size.result ≡ (a.p.pointer + c.reg_size-size.result) % 65536 = omega arith in (
      omega arith,
      rw (c.set_register.ensures, c.plain_value-value.ensures, e, c.reg_size-size.ensures, c.named-name.ensures)
          (turn-on a.mem.now a.stack a.mask a.k (omega arith) (sym c.bit.ensures ∙ c.if-not-bit.false) a.p),
    )
