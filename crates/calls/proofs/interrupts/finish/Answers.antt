-- By the effect's answer.
-- Assumes nothing.
use Rattle.calls.proofs.Decided.{ended-interrupt}
use Rattle.calls.proofs.interrupts.finish.Goals as goal

pub returns : goal.returns
returns c = let a = c.args in rw (c.by_effect.ensures, c.with_registers-after.ensures) (ended-interrupt a.effect.answer a.machine a.reads a.effect)
