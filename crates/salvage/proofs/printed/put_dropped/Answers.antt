-- Its four parts, one after the other.
-- Assumes nothing.
use Rattle.salvage.proofs.Telling.{said-decimal, said-alone, dropped-put}
use Rattle.salvage.proofs.printed.put_dropped.Goals as goal

pub returns : goal.returns
returns c =
    let a = c.args in
    let d = said-decimal a.number _ c.decimal.ensures in
    let n = said-alone a.refusal _ _ c.number.ensures c.alone.ensures in
    let p = rw d at c.put-digits.ensures in
    let q = rw n at c.put-3.ensures in
    dropped-put a.number a.refusal _ _ _ _ _ _ _ _ c.put.ensures p.0 p.1 c.put-2.ensures q.0 q.1
