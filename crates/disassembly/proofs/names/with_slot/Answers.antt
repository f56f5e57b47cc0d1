-- Nothing, the name, or a comma and the name.
-- Assumes nothing.
use Rattle.std.proofs.Common.{◌/◌, ◌%◌, eq-eqb, ne_eqb}
use Rattle.disassembly.specs.Names.{slot_text}
use Rattle.disassembly.proofs.Growing.{grown-none}
use Rattle.disassembly.proofs.names.with_slot.Goals as goal

pub returns-then-post-weight-eq0 : goal.returns-then-post-weight-eq0
unfolding slot_text
returns-then-post-weight-eq0 c =
    let a = c.args in
    rw (eq-eqb (a.post / a.weight % 2) 0 c.if-post-weight-eq0.true) (grown-none a.text)

pub returns-then-post-weight-eq0-2 : goal.returns-then-post-weight-eq0-2
unfolding slot_text
returns-then-post-weight-eq0-2 c =
    let a = c.args in
    rw (c.with_name.ensures, ne_eqb (a.post / a.weight % 2) 0 c.if-post-weight-eq0.false, eq-eqb (a.post % a.weight) 0 c.if-post-weight-eq0-2.true)

pub returns-else-post-weight-eq0-2 : goal.returns-else-post-weight-eq0-2
unfolding slot_text
returns-else-post-weight-eq0-2 c =
    let a = c.args in
    rw (c.with_index.ensures, ne_eqb (a.post / a.weight % 2) 0 c.if-post-weight-eq0.false, ne_eqb (a.post % a.weight) 0 c.if-post-weight-eq0-2.false)
