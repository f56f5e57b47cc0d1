-- The call wanted by an operation is the recorded call of its name.
-- Assumes nothing.
use Rattle.journal.specs.Recorded.{in_hand}
use Rattle.player.proofs.Playing.{acts}
use Rattle.player.proofs.plays.act.Goals as goal

pub returns-in-Call : goal.returns-in-Call
returns-in-Call g c =
    let a = c.args in
    let w = c.wanted_by in
    acts
    a.settings
    a.operation
    (in_hand a.mem.now a.journal.now a.twin)
    w.result
    c.call.result
    _
    _
    _
    w.ensures
    (rw c.in-Call.is c.call.ensures.leaves)
    c.shown_of.ensures

pub returns-in-Undo : goal.returns-in-Undo
returns-in-Undo g c =
    let a = c.args in
    let w = c.wanted_by in
    acts
    a.settings
    a.operation
    (in_hand a.mem.now a.journal.now a.twin)
    w.result
    c.undo.result
    _
    _
    _
    w.ensures
    (rw c.in-Undo.is c.undo.ensures.leaves)
    c.shown_of-in-Undo.ensures
