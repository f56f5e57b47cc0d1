-- A word below S, or no room.
-- Assumes nothing.
use Rattle.std.proofs.Common.{sym, arith}
use Rattle.calls.proofs.Decided.{called, no_room}
use Rattle.calls.proofs.decisions.call.Goals as goal

pub returns-in_default : goal.returns-in_default
returns-in_default c =
    let a = c.args in
    let h = c.in_default.ensures in
    rw c.refuse.ensures (sym (no_room a.regs a.ea (omega arith)))

pub returns : goal.returns
returns c =
    let a = c.args in
    let h = c.in-Some.ensures in
    rw (c.tell_word.ensures, c.jump.ensures, c.with_word.ensures, h.1) (sym (called a.regs a.ea (omega (arith, h.0))))
