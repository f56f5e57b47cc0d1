-- Decoding, then the instruction.
-- Assumes nothing.
use Rattle.std.proofs.Common.{sym, ◌∙◌}
use Rattle.bus.proofs.Small.{five-bytes}
use Rattle.calls.specs.Steps.{finished, decoded_to}
use Rattle.calls.proofs.decisions.decide.Goals as goal

pub execute-requires : goal.execute-requires
execute-requires c = five-bytes c.args.mem.now c.args.machine.regs.pc _ (sym c.decode.ensures ∙ c.in-Ok.is)

pub returns-in-Err : goal.returns-in-Err
unfolding finished decoded_to
returns-in-Err c = rw (c.refuse.ensures, ← c.decode.ensures, c.in-Err.is)

pub returns-in-Ok : goal.returns-in-Ok
unfolding decoded_to
returns-in-Ok c = rw (← c.decode.ensures, c.in-Ok.is) c.execute.ensures
