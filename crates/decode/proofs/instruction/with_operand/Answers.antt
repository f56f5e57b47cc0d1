-- The operand of the entry's mode, or its refusal.
-- Assumes nothing.
use Rattle.std.proofs.lemmas.Result.{err_from_is_err_and}
use Rattle.decode.specs.Decode.{decoded_as}
use Rattle.decode.proofs.instruction.with_operand.Goals as goal

pub returns : goal.returns
unfolding decoded_as
returns c = rw (← c.operand_at.ensures, c.in_ok-operand.was)

pub returns-in_err-operand : goal.returns-in_err-operand
unfolding decoded_as
returns-in_err-operand c =
    let p = err_from_is_err_and c.from_residual.result c.from_residual.ensures.1 in
    rw (p.1, p.2, ← c.operand_at.ensures, c.in_err-operand.was)
