-- No second answer fits a public function's contract.
-- Assumes nothing.
use mathlib.Core.Path.{refl, sym, ◌∙◌}
use Rattle.answers.proofs.Determined.{Determines}
use Rattle.machine.proofs.Effect
use Rattle.machine.proofs.Machine
use Rattle.machine.proofs.Settings
use Rattle.machine.proofs.fence
use Rattle.machine.proofs.record

pub fresh : Determines 0 Machine.fresh.Kinds.ps Machine.fresh.Kinds.r Machine.fresh.Reads.Post
fresh κs a x y ws vs p q = (p ∙ sym q, refl)

pub with-registers : Determines 0 Machine.with_registers.Kinds.ps Machine.with_registers.Kinds.r Machine.with_registers.Reads.Post
with-registers κs a x y ws vs p q = (p ∙ sym q, refl)

pub marked : Determines 0 Machine.marked.Kinds.ps Machine.marked.Kinds.r Machine.marked.Reads.Post
marked κs a x y ws vs p q = (p ∙ sym q, refl)

pub settings : Determines 0 Settings.new.Kinds.ps Settings.new.Kinds.r Settings.new.Reads.Post
settings κs a x y ws vs p q = (p ∙ sym q, refl)

pub fenced : Determines 0 Settings.fenced.Kinds.ps Settings.fenced.Kinds.r Settings.fenced.Reads.Post
fenced κs a x y ws vs p q = (p ∙ sym q, refl)

pub bars : Determines 0 fence.bars.Kinds.ps fence.bars.Kinds.r fence.bars.Reads.Post
bars κs a x y ws vs p q = (p ∙ sym q, refl)

pub changes : Determines 0 Effect.changes.Kinds.ps Effect.changes.Kinds.r Effect.changes.Reads.Post
changes κs a x y ws vs p q = (p ∙ sym q, refl)

pub stores : Determines 0 Effect.stores.Kinds.ps Effect.stores.Kinds.r Effect.stores.Reads.Post
stores κs a x y ws vs p q = (p ∙ sym q, refl)

pub refuses : Determines 0 Effect.refuses.Kinds.ps Effect.refuses.Kinds.r Effect.refuses.Reads.Post
refuses κs a x y ws vs p q = (p ∙ sym q, refl)

pub front_of : Determines 0 record.front_of.Kinds.ps record.front_of.Kinds.r record.front_of.Reads.Post
front_of κs a x y ws vs p q = (p ∙ sym q, refl)

pub counter-of : Determines 0 record.counter_of.Kinds.ps record.counter_of.Kinds.r record.counter_of.Reads.Post
counter-of κs a x y ws vs p q = (p ∙ sym q, refl)

pub machine-of : Determines 1 record.machine_of.Kinds.ps record.machine_of.Kinds.r record.machine_of.Reads.Post
machine-of κs a x y ws vs p q = (p ∙ sym q, refl)

pub counter_at : Determines 1 record.counter_at.Kinds.ps record.counter_at.Kinds.r record.counter_at.Reads.Post
counter_at κs a x y ws vs p q = (p ∙ sym q, refl)

pub wait-byte : Determines 0 record.wait_byte.Kinds.ps record.wait_byte.Kinds.r record.wait_byte.Reads.Post
wait-byte κs a x y ws vs p q = (p ∙ sym q, refl)

pub mark-byte : Determines 0 record.mark_byte.Kinds.ps record.mark_byte.Kinds.r record.mark_byte.Reads.Post
mark-byte κs a x y ws vs p q = (p ∙ sym q, refl)
