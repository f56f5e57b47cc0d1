-- The length first, then the two bytes.
-- Assumes nothing.
use mathlib.Core.Bool.{true, false}
use mathlib.Core.Path.{◌≡◌, sym, ◌∙◌}
use lib.Dec.{ltb}
use lib.ListN.{length, get_or}
use borrow.Author.Tests.{ne_eqb}
use Rattle.dump.proofs.Writing.{not-whole, judged}
use Rattle.dump.proofs.is_dump.Goals as goal
use Rattle.dump.proofs.is_dump.Goals.{then-d-eq-DUMP, else-d-eq-DUMP}

pub returns-then-d-lt3 : goal.returns-then-d-lt3
returns-then-d-lt3 c =
    elim c.if-d-eq-DUMP.branch [
      | then-d-eq-DUMP w ↦ let t : ltb (get_or c.args.d.now 14 0) 3 ≡ true = sym w.value-is ∙ c.if-d-lt3.true in rw (← judged c.args.d.now w.if-d-eq-DUMP.true, t)
      | else-d-eq-DUMP w ↦ let f : false ≡ true = sym (ne_eqb (length c.args.d.now) 65568 w.if-d-eq-DUMP.false) ∙ sym w.value-is ∙ c.if-d-lt3.true in cc
    ]

pub returns-else-d-lt3 : goal.returns-else-d-lt3
returns-else-d-lt3 c =
    elim c.if-d-eq-DUMP.branch [
      | then-d-eq-DUMP w ↦ let t : ltb (get_or c.args.d.now 14 0) 3 ≡ false = sym w.value-is ∙ c.if-d-lt3.false in rw (← judged c.args.d.now w.if-d-eq-DUMP.true, t) c.if-d-lt3.false
      | else-d-eq-DUMP w ↦ c.if-d-lt3.false ∙ not-whole c.args.d.now w.if-d-eq-DUMP.false
    ]
