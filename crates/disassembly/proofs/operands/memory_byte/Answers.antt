-- The list of PSH and PUL, or a number.
-- Assumes nothing.
use Rattle.std.proofs.Common.{inl, inr}
use Rattle.text.proofs.Texts.{text-grows}
use Rattle.disassembly.proofs.operands.memory_byte.Goals as goal

pub returns-in-Push : goal.returns-in-Push
returns-in-Push c =
    elim c.in-Push.is [
      | inl e ↦ rw (c.with_list.ensures, c.empty.ensures, e) (simp text-grows)
      | inr e ↦ rw (c.with_list.ensures, c.empty.ensures, e) (simp text-grows)
    ]
