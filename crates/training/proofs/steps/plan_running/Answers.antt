-- Decoding, then the instruction.
-- Assumes nothing.
use mathlib.Core.Path.{sym, ◌∙◌}
use Rattle.bus.proofs.Small.{five-bytes}
use Rattle.calls.specs.Steps.{decoded_to}
use Rattle.training.proofs.steps.plan_running.Goals as goal

pub execute-requires : goal.execute-requires
execute-requires c =
    let a = c.args in
    five-bytes a.mem.now a.machine.regs.pc _ (sym c.decode.ensures ∙ c.in-Ok.is)

pub returns-in-Err : goal.returns-in-Err
unfolding decoded_to
returns-in-Err c = rw (c.refused.ensures, ← c.decode.ensures, c.in-Err.is)

pub returns-in-Ok : goal.returns-in-Ok
unfolding decoded_to
returns-in-Ok c = rw (← c.decode.ensures, c.in-Ok.is) c.execute.ensures
