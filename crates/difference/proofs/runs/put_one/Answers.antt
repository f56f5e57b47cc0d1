-- An entry where the run has an address.
-- Assumes nothing.
use mathlib.Core.List.{append-nil}
use mathlib.Core.Path.{refl}
use native.Mathlib.Omega.{arith}
use Rattle.difference.specs.Compare.{laid_out}
use Rattle.difference.proofs.EachAddress.{up_none, up_one}
use Rattle.difference.proofs.runs.put_one.Goals as goal

pub returns-then-first-end : goal.returns-then-first-end
unfolding laid_out
returns-then-first-end c =
    let a = c.args in
    rw (up_one a.first a.end c.if-first-end.true, append-nil) (refl, c.put.ensures)

pub returns : goal.returns
unfolding laid_out
returns c =
    let a = c.args in
    rw (up_none a.first a.end (omega arith)) (omega arith, refl)
