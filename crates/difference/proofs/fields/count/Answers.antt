-- The pairs of values that are not equal.
-- Assumes nothing.
use mathlib.Core.Bool.{not}
use mathlib.Core.Path.{◌∙◌}
use lib.Dec.{eqb}
use Prim.Native.Nat.{ℕ}
use borrow.Author.Tests.{tests}
use borrow.Author.Rules.{rules}
use Rattle.std.proofs.lemmas.Iterator.{YieldsList-from_slice, YieldsList-from_zip}
use Rattle.std.proofs.lemmas.Iterator.Consumers.{YieldsList-at, YieldsList-from_filter, count_from_yields_List}
use Rattle.machine.specs.Record.{fields}
use Rattle.difference.proofs.Turns.{apart-counted}
use Rattle.difference.proofs.fields.count.Goals as goal

pub returns : goal.returns
returns c =
    let a = c.args in
    let counted = apart-counted fields a.left a.right in
    count_from_yields_List c.filter.result _ c.count.ensures.ran
    (YieldsList-from_filter _ (λ (p : ℕ × ℕ). not (eqb p.0 p.1)) (YieldsList-at c.filter.ensures.source (YieldsList-from_zip (YieldsList-from_slice c.values_of-left.result cc) (YieldsList-from_slice c.values_of-right.result cc))) c.filter.ensures.closure (λ x r q k. search (rules, tests)))
    ∙ rw (c.values_of-left.ensures, c.values_of-right.ensures) counted
