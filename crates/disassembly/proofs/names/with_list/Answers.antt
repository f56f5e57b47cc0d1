-- The eight slots in their order.
-- Assumes nothing.
use Rattle.std.proofs.Common.{append_assoc}
use Rattle.text.proofs.Texts.{grown-grown}
use Rattle.disassembly.proofs.names.with_list.Goals as goal

pub returns : goal.returns
returns c =
    rw (c.with_slot.ensures, c.with_slot-text-7.ensures, c.with_slot-text-6.ensures, c.with_slot-text-5.ensures, c.with_slot-text-4.ensures, c.with_slot-text-3.ensures, c.with_slot-text-2.ensures, c.with_slot-text.ensures, c.name-other.ensures, c.word.ensures, c.other.ensures)
    (simp (grown-grown, append_assoc))
