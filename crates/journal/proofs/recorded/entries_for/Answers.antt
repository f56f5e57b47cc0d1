-- A write has one entry where it is stored, and none elsewhere.
-- Assumes nothing.
use mathlib.Core.Path.{refl, sym, ◌∙◌}
use mathlib.Core.Logic.{inl, inr}
use Rattle.journal.proofs.recorded.entries_for.Goals as goal

pub returns-in-Stored : goal.returns-in-Stored
returns-in-Stored c = λ mem. rw (sym c.lands.ensures ∙ c.in-Stored.is)

pub returns-in-Device : goal.returns-in-Device
returns-in-Device c = elim c.in-Device.is [
  | inl e ↦ λ mem. rw (sym c.lands.ensures ∙ e)
  | inr e ↦ λ mem. rw (sym c.lands.ensures ∙ e)
]
