-- N is the sign of the number read as signed (`negative`).
-- Assumes nothing.
use native.Mathlib.Omega.{arith}
use Rattle.whole.proofs.Signed.{back, negative}
use Rattle.whole.proofs.numbers.sign_and_zero.Goals as goal

pub returns : goal.returns
returns c =
    let x = c.args in
    let s = c.signed in
    rw (c.put-2.ensures, back s.result (omega (arith, s.ensures.result_bound, c.requires.0.most)), s.ensures.value, negative x.half x.value c.requires.1, c.put.ensures)
