-- No second answer, and no second memory, journal or output, fits a contract.
-- Assumes nothing.
use Prim.Native.Nat.{ℕ}
use mathlib.Core.Path.{refl, sym, ap, ◌∙◌}
use mathlib.Core.List.{List, []}
use Rattle.answers.proofs.Determined.{Determines}
use Rattle.host_calls.proofs

pub abi : Determines 0 proofs.doorhawser_abi.Kinds.ps proofs.doorhawser_abi.Kinds.r proofs.doorhawser_abi.Reads.Post
abi κs a x y ws vs p q = (p ∙ sym q, refl)

pub start : Determines 0 proofs.doorhawser_start.Kinds.ps proofs.doorhawser_start.Kinds.r proofs.doorhawser_start.Reads.Post
start κs a x y ws vs p q = (p ∙ sym q, refl)

-- the result, and memory and journal at exit
pub interrupt : Determines 2 proofs.doorhawser_interrupt.Kinds.ps proofs.doorhawser_interrupt.Kinds.r proofs.doorhawser_interrupt.Reads.Post
interrupt κs a x y ws vs p q =
    (p.result ∙ sym q.result, λ i. ((p.memory-is ∙ sym q.memory-is) i, ((p.journal-is ∙ sym q.journal-is) i, (tt, (tt, (tt, tt))))))

pub reset : Determines 2 proofs.doorhawser_reset.Kinds.ps proofs.doorhawser_reset.Kinds.r proofs.doorhawser_reset.Reads.Post
reset κs a x y ws vs p q =
    (p.result ∙ sym q.result, λ i. ((p.memory-is ∙ sym q.memory-is) i, ((p.journal-is ∙ sym q.journal-is) i, (tt, (tt, tt)))))

-- the journal is lent to be read only
pub undo : Determines 2 proofs.doorhawser_undo.Kinds.ps proofs.doorhawser_undo.Kinds.r proofs.doorhawser_undo.Reads.Post
undo κs a x y ws vs p q = (p.result ∙ sym q.result, ap (λ (l : List ℕ). (l, (tt, (tt, tt)))) (p.memory-is ∙ sym q.memory-is))

-- no memory is lent
pub drop : Determines 1 proofs.doorhawser_drop.Kinds.ps proofs.doorhawser_drop.Kinds.r proofs.doorhawser_drop.Reads.Post
drop κs a x y ws vs p q = ((p []).result ∙ sym (q []).result, ap (λ (l : List ℕ). (l, (tt, (tt, tt)))) ((p []).journal-is ∙ sym (q []).journal-is))

pub interrupt-unrecorded : Determines 1 proofs.doorhawser_interrupt_unrecorded.Kinds.ps proofs.doorhawser_interrupt_unrecorded.Kinds.r proofs.doorhawser_interrupt_unrecorded.Reads.Post
interrupt-unrecorded κs a x y ws vs p q = (p.result ∙ sym q.result, ap (λ (l : List ℕ). (l, (tt, (tt, (tt, tt))))) (p.memory-is ∙ sym q.memory-is))

pub reset-unrecorded : Determines 1 proofs.doorhawser_reset_unrecorded.Kinds.ps proofs.doorhawser_reset_unrecorded.Kinds.r proofs.doorhawser_reset_unrecorded.Reads.Post
reset-unrecorded κs a x y ws vs p q = (p.result ∙ sym q.result, ap (λ (l : List ℕ). (l, (tt, (tt, tt)))) (p.memory-is ∙ sym q.memory-is))

pub newest : Determines 1 proofs.doorhawser_newest.Kinds.ps proofs.doorhawser_newest.Kinds.r proofs.doorhawser_newest.Reads.Post
newest κs a x y ws vs p q = (p ∙ sym q, refl)

pub load : Determines 2 proofs.doorhawser_load.Kinds.ps proofs.doorhawser_load.Kinds.r proofs.doorhawser_load.Reads.Post
load κs a x y ws vs p q = (p.0 ∙ sym q.0, ap (λ (l : List ℕ). (l, (tt, tt))) (p.1 ∙ sym q.1))

pub save : Determines 2 proofs.doorhawser_save.Kinds.ps proofs.doorhawser_save.Kinds.r proofs.doorhawser_save.Reads.Post
save κs a x y ws vs p q = (p.0 ∙ sym q.0, ap (λ (l : List ℕ). (tt, (tt, (l, tt)))) (p.1 ∙ sym q.1))

-- the result, and output and list at exit
pub salvage : Determines 3 proofs.doorhawser_salvage.Kinds.ps proofs.doorhawser_salvage.Kinds.r proofs.doorhawser_salvage.Reads.Post
salvage κs a x y ws vs p q = (p.0 ∙ sym q.0, λ i. (tt, ((p.1.0 ∙ sym q.1.0) i, ((p.1.1 ∙ sym q.1.1) i, tt))))
