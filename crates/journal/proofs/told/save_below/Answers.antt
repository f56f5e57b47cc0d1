-- Two entries, one or none.
-- Assumes nothing.
use mathlib.Core.Path.{◌≡◌, refl, sym, ap, ◌∙◌}
use native.Mathlib.Omega.{arith}
use Prim.Native.Nat.{◌-◌}
use Rattle.journal.proofs.ToldEntries.{one-laid, two-laid, none-laid}
use Rattle.journal.proofs.told.save_below.Goals as goal

pub entry-requires : goal.entry-requires
entry-requires c = (omega arith, c.requires.1.1.1)

pub entry-requires-then-size-eq2 : goal.entry-requires-then-size-eq2
entry-requires-then-size-eq2 c = (omega (arith, c.entry.auto.rest), c.requires.1.1.1)

pub shape_of-rest-then-size-eq2 : goal.shape_of-rest-then-size-eq2
shape_of-rest-then-size-eq2 c = c.entry-then-size-eq2.auto.rest ∙ c.entry.auto.rest

pub returns-then-size-eq2 : goal.returns-then-size-eq2
returns-then-size-eq2 c =
    let a = c.args in
    let t = c.if-size-eq2.true in
    (omega arith, c.entry-then-size-eq2.ensures ∙ rw (c.entry.ensures, t) (two-laid _ _ _ _))

pub entry-requires-then-size-eq1 : goal.entry-requires-then-size-eq1
entry-requires-then-size-eq1 c = (omega arith, c.requires.1.1.1)

pub shape_of-rest : goal.shape_of-rest
shape_of-rest c = c.entry-then-size-eq1.auto.rest

pub returns-then-size-eq1 : goal.returns-then-size-eq1
returns-then-size-eq1 c =
    let t = c.if-size-eq1.true in
    (omega arith, c.entry-then-size-eq1.ensures ∙ rw t (one-laid _ _ _ _))

pub returns-else-size-eq1 : goal.returns-else-size-eq1
returns-else-size-eq1 c =
    let a = c.args in
    let z : a.size ≡ 0 = omega arith in
    (omega arith, rw z (none-laid _ _ _ _))
