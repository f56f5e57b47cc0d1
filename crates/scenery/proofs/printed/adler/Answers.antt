-- One byte more, and the sum when none is left.
-- Assumes nothing.
use Rattle.std.proofs.Common.{sym, ◌∙◌, arith}
use Rattle.scenery.proofs.Sums.{one-more, at-end}
use Rattle.scenery.proofs.printed.adler.Goals as goal

pub loop-b-preserved : goal.loop-b-preserved
loop-b-preserved c =
    let l = c.loop-b in
    (omega arith, omega arith, sym (one-more l.low l.high c.args.bytes.now l.b-index c.loop-b-test.true) ∙ l.invariant.2)

pub returns : goal.returns
returns c =
    let l = c.loop-b in
    sym (at-end l.low l.high c.args.bytes.now l.b-index c.loop-b-test.false) ∙ l.invariant.2
