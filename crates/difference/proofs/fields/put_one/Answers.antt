-- Nothing where the values are equal, an entry where they are not.
-- Assumes nothing.
use borrow.Author.Tests.{eq-eqb, ne_eqb}
use mathlib.Core.Path.{refl}
use native.Mathlib.Omega.{arith}
use Rattle.difference.proofs.fields.put_one.Goals as goal

pub returns-then-entry : goal.returns-then-entry
returns-then-entry c =
    let a = c.args in
    rw (eq-eqb a.entry.left a.entry.right c.if-entry.true) (omega arith, refl)

pub returns : goal.returns
returns c =
    let a = c.args in
    rw (ne_eqb a.entry.left a.entry.right c.if-entry.false) (refl, c.put.ensures)
