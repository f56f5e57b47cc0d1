-- `sum_bytes` adds byte i in turn i.
-- Assumes nothing.
use Rattle.std.proofs.Common.{◌≡◌, refl, ◌∙◌, arith}
use Rattle.srecord.proofs.Scan.{sum_more}
use Rattle.srecord.specs.Layout.{total}
use Rattle.srecord.specs.Line.{line_bytes}
use Rattle.srecord.proofs.line.sum_bytes.Goals as goal

pub loop-i-init : goal.loop-i-init
unfolding total
loop-i-init c = refl

pub loop-i-preserved : goal.loop-i-preserved
loop-i-preserved c =
    let l = c.loop-i in
    sum_more (line_bytes c.args.text.now) l.i _ _ (omega arith) l.invariant c.byte-sum.ensures

pub returns : goal.returns
returns c = let e : c.loop-i.i ≡ c.args.n = omega arith in c.loop-i.invariant ∙ rw e
