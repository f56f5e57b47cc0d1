-- By the wait state.
-- Assumes nothing.
use Rattle.std.proofs.Common.{inl, inr}
use Rattle.calls.proofs.interrupts.take.Goals as goal

pub returns-in-Running : goal.returns-in-Running
returns-in-Running c = elim c.in-Running.is [ inl e ↦ rw (c.serve.ensures, e) | inr e ↦ rw (c.serve.ensures, e) ]

pub returns-in-Cwai : goal.returns-in-Cwai
returns-in-Cwai c = rw (c.take_vector.ensures, c.changes.ensures, c.in-Cwai.is)
