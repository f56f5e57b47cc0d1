-- `store` meets its contract.
-- Assumes nothing.
use Rattle.std.proofs.Common.{sym, refl, ◌∙◌}
use lib.Seq.{set_out}
use Rattle.memory.proofs.writes.store.Goals as goal

pub returns-then-q-mem : goal.returns-then-q-mem
returns-then-q-mem c = let e = sym c.lands.ensures ∙ c.in-Stored.is in (rw e refl, rw e refl)

pub returns-else-q-mem : goal.returns-else-q-mem
returns-else-q-mem c = let e = sym c.lands.ensures ∙ c.in-Stored.is in (rw e refl, rw e (sym (set_out _ _ _ c.if-q-mem.false)))

pub returns-in-Device : goal.returns-in-Device
returns-in-Device c = let e = sym c.lands.ensures ∙ c.in-Device.is in (rw e refl, rw e refl)

pub returns-in-Ignored : goal.returns-in-Ignored
returns-in-Ignored c = let e = sym c.lands.ensures ∙ c.in-Ignored.is in (rw e refl, rw e refl)
