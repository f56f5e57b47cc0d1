-- The loop fills the page from its start: `code` places are written.
-- Assumes nothing.
use Rattle.std.proofs.Common.{◌≡◌, ap, ◌∙◌, arith}
use Rattle.pages.proofs.Reading.{filled, at_first, one_more, at_last}
use Rattle.pages.proofs.table.places_of.Goals as goal

pub loop-code-init : goal.loop-code-init
loop-code-init c = at_first c.args.page

pub loop-code-preserved : goal.loop-code-preserved
loop-code-preserved c = rw (c.loop-code.invariant, c.lookup.ensures) (one_more c.args.page c.loop-code.code c.loop-code-test.true)

pub returns : goal.returns
returns c =
    let e : c.loop-code.code ≡ 256 = omega arith in
    c.loop-code.invariant ∙ ap (filled c.args.page) e ∙ at_last c.args.page
