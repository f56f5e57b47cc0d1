-- What is left of the undos is all of them.
-- Assumes nothing.
use Rattle.std.proofs.Common.{◌≡◌, ◌-◌}
use Rattle.journal.specs.Recorded.{in_hand}
use Rattle.scenery.specs.Undos.{undoing, undone_from}
use Rattle.scenery.proofs.Undoing.{end_of}
use Rattle.scenery.proofs.start.undo_all.Given as goal

abbrev pub invariant-loop-undos : goal.invariant-loop-undos
invariant-loop-undos l = undoing (100000 - l.undos) l.undos (end_of l.mem l.journal l.last) ≡ undone_from (in_hand l.initial.mem l.journal l.initial.last.twin)
