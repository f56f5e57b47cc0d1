-- The line at the front of 33 bytes, which hold it whole.
-- Assumes nothing.
use Prim.Native.Nat.{◌+◌, min}
use mathlib.Core.Path.{◌≡◌}
use native.Mathlib.Omega.{arith}
use lib.ListN.{length}
use Rattle.text.specs.Lines.{line, text_of}
use Rattle.text.proofs.Texts.{line-fits}
use Rattle.text.proofs.lines.line.Goals as goal

pub returns : goal.returns
unfolding text_of
returns c =
    let a = c.args in
    let n = length (line a.answer a.pc a.cc a.cycles) in
    let e : 0 + n ≡ min n 33 = omega (arith, line-fits a.answer a.pc a.cc a.cycles (omega arith)) in
    rw (c.lay_line-len.ensures.0, c.lay_line-len.ensures.1, e)
