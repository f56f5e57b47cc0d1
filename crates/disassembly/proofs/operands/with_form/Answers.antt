-- An arm for each form.
-- Assumes nothing.
use Rattle.std.proofs.Common.{append_assoc, inl, inr}
use Rattle.text.proofs.Texts.{grown-grown}
use Rattle.disassembly.proofs.operands.with_form.Goals as goal

pub returns-in-Offset5 : goal.returns-in-Offset5
returns-in-Offset5 c =
    elim c.in-Offset5.is [
      | inl e ↦ rw (c.with_index.ensures, c.with_short_offset.ensures, e) (simp (grown-grown, append_assoc))
      | inr e ↦ rw (c.with_index.ensures, c.with_short_offset.ensures, e) (simp (grown-grown, append_assoc))
    ]

pub returns-in-Increment1 : goal.returns-in-Increment1
returns-in-Increment1 c = rw (c.with_byte.ensures, c.with_index-in-Increment1.ensures, c.in-Increment1.is) (simp (grown-grown, append_assoc))

pub returns-in-Increment2 : goal.returns-in-Increment2
returns-in-Increment2 c = rw (c.with_byte-in-Increment2-2.ensures, c.with_byte-in-Increment2.ensures, c.with_index-in-Increment2.ensures, c.in-Increment2.is) (simp (grown-grown, append_assoc))

pub returns-in-Decrement1 : goal.returns-in-Decrement1
returns-in-Decrement1 c = rw (c.with_name.ensures, c.with_byte-in-Decrement1-2.ensures, c.with_byte-in-Decrement1.ensures, c.in-Decrement1.is) (simp (grown-grown, append_assoc))

pub returns-in-Decrement2 : goal.returns-in-Decrement2
returns-in-Decrement2 c = rw (c.with_name-in-Decrement2.ensures, c.with_byte-in-Decrement2-3.ensures, c.with_byte-in-Decrement2-2.ensures, c.with_byte-in-Decrement2.ensures, c.in-Decrement2.is) (simp (grown-grown, append_assoc))

pub returns-in-NoOffset : goal.returns-in-NoOffset
returns-in-NoOffset c = rw (c.with_index-in-NoOffset.ensures, c.in-NoOffset.is)

pub returns-in-OffsetB : goal.returns-in-OffsetB
returns-in-OffsetB c = rw (c.with_index-in-OffsetB.ensures, c.with_byte-in-OffsetB.ensures, c.in-OffsetB.is) (simp (grown-grown, append_assoc))

pub returns-in-OffsetA : goal.returns-in-OffsetA
returns-in-OffsetA c = rw (c.with_index-in-OffsetA.ensures, c.with_byte-in-OffsetA.ensures, c.in-OffsetA.is) (simp (grown-grown, append_assoc))

pub returns-in-Offset16 : goal.returns-in-Offset16
returns-in-Offset16 c = rw (c.with_index-in-Offset16.ensures, c.with_long_offset.ensures, c.in-Offset16.is) (simp (grown-grown, append_assoc))

pub returns-in-OffsetD : goal.returns-in-OffsetD
returns-in-OffsetD c = rw (c.with_index-in-OffsetD.ensures, c.with_byte-in-OffsetD.ensures, c.in-OffsetD.is) (simp (grown-grown, append_assoc))

pub returns-in-Program8 : goal.returns-in-Program8
returns-in-Program8 c =
    elim c.in-Program8.is [
      | inl e ↦ rw (c.with_program.ensures, e)
      | inr e ↦ rw (c.with_program.ensures, e)
    ]

pub returns-in-Address : goal.returns-in-Address
returns-in-Address c = rw (c.with_word.ensures, c.in-Address.is)
