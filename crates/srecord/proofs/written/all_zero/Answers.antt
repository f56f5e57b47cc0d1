-- `all` of the test that a byte is 0 recurses as `is_zero` does.
-- Assumes nothing.
use Rattle.std.proofs.Common.{eqb, ◌&&◌, refl, ◌∙◌, rules}
use borrow.Author.Tests.{tests}
use Rattle.std.specs.List.{list_all}
use Rattle.std.proofs.lemmas.Iterator.{YieldsList-from_slice}
use Rattle.std.proofs.lemmas.Iterator.Search.{all_from_yields_List}
use Rattle.std.proofs.lemmas.List.Recursion.{same_from_clauses}
use Rattle.srecord.specs.Written.{is_zero}
use Rattle.srecord.proofs.written.all_zero.Goals as goal

pub returns : goal.returns
unfolding is_zero
returns c =
    let row = c.args.row.now in
    all_from_yields_List (λ b. eqb b 0) _ _ _ c.all.ensures.ran (YieldsList-from_slice row cc) (λ x b q k. search (rules, tests))
    ∙ same_from_clauses (list_all (λ b. eqb b 0)) is_zero (λ b r. eqb b 0 && r) refl (λ _ _. refl) (λ _ _. refl) row
