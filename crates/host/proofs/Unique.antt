-- No second answer fits a public function's contract.
-- Assumes nothing.
use mathlib.Core.Path.{refl, sym, ◌∙◌}
use Rattle.answers.proofs.Determined.{Determines}
use Rattle.host.proofs

pub settings-of : Determines 0 proofs.SettingsFromHostSettings.from.Kinds.ps proofs.SettingsFromHostSettings.from.Kinds.r proofs.SettingsFromHostSettings.from.Reads.Post
settings-of κs a x y ws vs p q = (p ∙ sym q, refl)

pub interrupt-type-of : Determines 0 proofs.interrupt_type_of.Kinds.ps proofs.interrupt_type_of.Kinds.r proofs.interrupt_type_of.Reads.Post
interrupt-type-of κs a x y ws vs p q = (p ∙ sym q, refl)

pub is-twin : Determines 0 proofs.is_twin.Kinds.ps proofs.is_twin.Kinds.r proofs.is_twin.Reads.Post
is-twin κs a x y ws vs p q = (p ∙ sym q, refl)

pub is-named : Determines 0 proofs.is_named.Kinds.ps proofs.is_named.Kinds.r proofs.is_named.Reads.Post
is-named κs a x y ws vs p q = (p ∙ sym q, refl)

pub is-interrupt : Determines 0 proofs.is_interrupt.Kinds.ps proofs.is_interrupt.Kinds.r proofs.is_interrupt.Reads.Post
is-interrupt κs a x y ws vs p q = (p ∙ sym q, refl)

pub machine-of : Determines 0 proofs.MachineFromHostTwin.from.Kinds.ps proofs.MachineFromHostTwin.from.Kinds.r proofs.MachineFromHostTwin.from.Reads.Post
machine-of κs a x y ws vs p q = (p ∙ sym q, refl)

pub twin-of : Determines 0 proofs.TwinFromHostTwin.from.Kinds.ps proofs.TwinFromHostTwin.from.Kinds.r proofs.TwinFromHostTwin.from.Reads.Post
twin-of κs a x y ws vs p q = (p ∙ sym q, refl)

pub host-twin : Determines 0 proofs.HostTwinFromTwin.from.Kinds.ps proofs.HostTwinFromTwin.from.Kinds.r proofs.HostTwinFromTwin.from.Reads.Post
host-twin κs a x y ws vs p q = (p ∙ sym q, refl)

pub outcome-of : Determines 0 proofs.HostOutcomeFromOutcome.from.Kinds.ps proofs.HostOutcomeFromOutcome.from.Kinds.r proofs.HostOutcomeFromOutcome.from.Reads.Post
outcome-of κs a x y ws vs p q = (p ∙ sym q, refl)

pub report-of : Determines 0 proofs.report_of.Kinds.ps proofs.report_of.Kinds.r proofs.report_of.Reads.Post
report-of κs a x y ws vs p q = (p ∙ sym q, refl)

pub unnamed : Determines 0 proofs.unnamed.Kinds.ps proofs.unnamed.Kinds.r proofs.unnamed.Reads.Post
unnamed κs a x y ws vs p q = (p ∙ sym q, refl)

pub range-from : Determines 0 proofs.RangeFromHostRange.from.Kinds.ps proofs.RangeFromHostRange.from.Kinds.r proofs.RangeFromHostRange.from.Reads.Post
range-from κs a x y ws vs p q = (p ∙ sym q, refl)

pub write-from : Determines 0 proofs.HostWriteFromWrite.from.Kinds.ps proofs.HostWriteFromWrite.from.Kinds.r proofs.HostWriteFromWrite.from.Reads.Post
write-from κs a x y ws vs p q = (p ∙ sym q, refl)
