-- `CCBits::set` meets its contract: an `|` with the flag's mask sets it, an `&` with the mask's complement clears it.
-- Assumes nothing.
use Rattle.std.proofs.Common.{rules}
use Rattle.registers.proofs.Masks.{set_on, set-off}
use Rattle.registers.proofs.CCBits.set.Goals as goal

pub returns-then-val : goal.returns-then-val
returns-then-val c =
    let x = c.args in
    let m = c.mask-m in
    set_on x.bit x.val x.self m.result m.ensures c.if-val.true

pub returns-else-val : goal.returns-else-val
returns-else-val c =
    let x = c.args in
    let m = c.mask-m in
    set-off x.bit x.val x.self m.result (search rules) m.ensures c.if-val.false
