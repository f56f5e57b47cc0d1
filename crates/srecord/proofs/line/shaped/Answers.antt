-- `shaped` goes through the tests in the definition's order.
-- Assumes nothing.
use Rattle.std.proofs.Common.{◌-◌, sym, ◌∙◌, arith, ne_eqb}
use Rattle.srecord.proofs.Shapes.{shape-short, shape-first, shape-paired, shape-few, shape-count, shape-kind}
use Rattle.srecord.proofs.line.shaped.Goals as goal

pub returns-in_default : goal.returns-in_default
returns-in_default c = shape-short c.args.text.now (omega arith)

pub returns-in_default-2 : goal.returns-in_default-2
returns-in_default-2 c = shape-first c.args.text.now (omega arith)

pub returns-then-not-paired : goal.returns-then-not-paired
returns-then-not-paired c = shape-paired c.args.text.now (sym c.paired.ensures ∙ c.if-not-paired.true)

pub returns-then-n-lt4 : goal.returns-then-n-lt4
returns-then-n-lt4 c = shape-few c.args.text.now (omega arith) (sym c.paired.ensures ∙ c.if-not-paired.false) (omega arith)

pub returns-else-byte-n : goal.returns-else-byte-n
returns-else-byte-n c =
    rw (ne_eqb c.byte.result (c.size-n.result - 1) c.if-byte-n.false)
    (shape-count c.args.text.now (omega arith) (sym c.paired.ensures ∙ c.if-not-paired.false) (omega arith) (λ e. omega arith))

pub returns-then-byte-n : goal.returns-then-byte-n
returns-then-byte-n c =
    rw (c.may_hold.ensures, c.size-n.ensures)
    (shape-kind c.args.text.now (omega arith) (sym c.paired.ensures ∙ c.if-not-paired.false) (omega arith) (omega arith))
