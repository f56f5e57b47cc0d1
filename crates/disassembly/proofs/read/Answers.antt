-- What is decoded is judged.
-- Assumes nothing.
use Rattle.std.proofs.lemmas.Result.{err_from_is_err_and}
use Rattle.disassembly.specs.Disassembly.{legible}
use Rattle.disassembly.proofs.read.Goals as goal

pub returns : goal.returns
unfolding legible
returns c = rw (c.judge.ensures, ← c.decode.ensures, c.in_ok-decode.was)

pub returns-in_err-decode : goal.returns-in_err-decode
unfolding legible
returns-in_err-decode c =
    let p = err_from_is_err_and c.from_residual.result c.from_residual.ensures.1 in
    rw (p.1, p.2, ← c.decode.ensures, c.in_err-decode.was)
