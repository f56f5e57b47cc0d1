-- The entry is laid where the write is stored.
-- Assumes nothing.
use mathlib.Core.Path.{◌≡◌, refl, sym, ap, ◌∙◌}
use mathlib.Core.Logic.{inl, inr}
use native.Mathlib.Nat.{add-zero}
use native.Mathlib.Omega.{arith}
use lib.ListN.{length}
use Rattle.memory.specs.Map.{landing_of}
use Rattle.journal.specs.Record.{entries}
use Rattle.journal.specs.Recorded.{saved_at}
use Rattle.journal.proofs.recorded.save.Goals as goal

pub entry-requires : goal.entry-requires
entry-requires c =
    let a = c.args in
    let e = sym c.lands.ensures ∙ c.in-Stored.is in
    let n : length (saved_at a.mem.now (landing_of a.one.at a.ram_top a.one.system)) ≡ 1 = rw e in
    (omega (arith, c.requires.1.0, n), c.requires.1.1)

pub returns-in-Stored : goal.returns-in-Stored
unfolding entries
returns-in-Stored c =
    let e = sym c.lands.ensures ∙ c.in-Stored.is in
    rw e (refl, c.entry.ensures)

pub returns-in-Device : goal.returns-in-Device
unfolding entries
returns-in-Device c = elim c.in-Device.is [
  | inl e ↦ rw (sym c.lands.ensures ∙ e) (sym (add-zero _), refl)
  | inr e ↦ rw (sym c.lands.ensures ∙ e) (sym (add-zero _), refl)
]
