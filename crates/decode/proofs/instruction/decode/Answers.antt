-- The opcode is located, then looked up.
-- Assumes nothing.
use Rattle.std.proofs.lemmas.Result.{err_from_is_err_and}
use Rattle.decode.specs.Decode.{decoded_at}
use Rattle.decode.proofs.instruction.decode.Goals as goal

pub returns : goal.returns
unfolding decoded_at
returns c = rw (c.look_up.ensures, ← c.locate.ensures, c.in_ok-page.was)

pub returns-in_err-page : goal.returns-in_err-page
unfolding decoded_at
returns-in_err-page c =
    let p = err_from_is_err_and c.from_residual.result c.from_residual.ensures.1 in
    rw (p.1, p.2, ← c.locate.ensures, c.in_err-page.was)
