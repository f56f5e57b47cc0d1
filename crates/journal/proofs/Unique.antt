-- No second answer, and no second memory or journal, fits a public function's contract.
-- Assumes nothing.
use mathlib.Core.Path.{◌≡◌, refl, sym, ap, ◌∙◌}
use mathlib.Core.List.{List, []}
use Prim.Native.Nat.{ℕ}
use contract.Lifetimes.{Lfts}
use denote.Triple.Clauses.{Lasts, at_exit}
use borrow.Fn.Kinds.{Dens, res_t, ended_of}
use Rattle.answers.proofs.Determined.{Determines}
use Rattle.journal.proofs.recorded
use Rattle.journal.proofs.told
use Rattle.journal.proofs.undos
use Rattle.journal.proofs.drops
use Rattle.journal.proofs.Twin

-- the result, and memory and journal at exit
pub step : Determines 2 told.step.Kinds.ps told.step.Kinds.r told.step.Reads.Post
step κs a x y ws vs p q =
    (p.0.result ∙ sym q.0.result, λ i. ((p.0.memory-is ∙ sym q.0.memory-is) i, ((p.0.journal-is ∙ sym q.0.journal-is) i, (tt, (tt, tt)))))

pub record-plan : Determines 2 recorded.record_plan.Kinds.ps recorded.record_plan.Kinds.r recorded.record_plan.Reads.Post
record-plan κs a x y ws vs p q =
    (p.0.result ∙ sym q.0.result, λ i. ((p.0.memory-is ∙ sym q.0.memory-is) i, ((p.0.journal-is ∙ sym q.0.journal-is) i, (tt, (tt, (tt, tt))))))

pub call : Determines 2 recorded.call.Kinds.ps recorded.call.Kinds.r recorded.call.Reads.Post
call κs a x y ws vs p q =
    (p.0.result ∙ sym q.0.result, λ i. ((p.0.memory-is ∙ sym q.0.memory-is) i, ((p.0.journal-is ∙ sym q.0.journal-is) i, (tt, (tt, (tt, tt))))))

pub interrupt : Determines 2 recorded.interrupt.Kinds.ps recorded.interrupt.Kinds.r recorded.interrupt.Reads.Post
interrupt κs a x y ws vs p q =
    (p.0.result ∙ sym q.0.result, λ i. ((p.0.memory-is ∙ sym q.0.memory-is) i, ((p.0.journal-is ∙ sym q.0.journal-is) i, (tt, (tt, (tt, tt))))))

pub reset : Determines 2 recorded.reset.Kinds.ps recorded.reset.Kinds.r recorded.reset.Reads.Post
reset κs a x y ws vs p q =
    (p.0.result ∙ sym q.0.result, λ i. ((p.0.memory-is ∙ sym q.0.memory-is) i, ((p.0.journal-is ∙ sym q.0.journal-is) i, (tt, (tt, tt)))))

-- the journal is lent to be read only
pub undo : Determines 2 undos.undo.Kinds.ps undos.undo.Kinds.r undos.undo.Reads.Post
undo κs a x y ws vs p q = (p.0.result ∙ sym q.0.result, ap (λ (l : List ℕ). (l, (tt, (tt, tt)))) (p.0.memory-is ∙ sym q.0.memory-is))

-- no memory is lent
pub drop : Determines 1 drops.drop.Kinds.ps drops.drop.Kinds.r drops.drop.Reads.Post
drop κs a x y ws vs p q = ((p []).result ∙ sym (q []).result, ap (λ (l : List ℕ). (l, (tt, (tt, tt)))) ((p []).journal-is ∙ sym (q []).journal-is))

-- a returned part is its bytes and its place: no two that differ in either fit
pub newest : (κs : Lfts 1) (a : Dens κs undos.newest.Kinds.ps) (x y : (res_t undos.newest.Kinds.r κs).Denot)
    (ws vs : Lasts (ended_of 1 undos.newest.Kinds.ps undos.newest.Kinds.r) κs a)
    → undos.newest.Reads.Post κs a x (at_exit (ended_of 1 undos.newest.Kinds.ps undos.newest.Kinds.r) κs a ws)
    → undos.newest.Reads.Post κs a y (at_exit (ended_of 1 undos.newest.Kinds.ps undos.newest.Kinds.r) κs a vs) → (x.now ≡ y.now) × ((x.ref_ptr ≡ y.ref_ptr) × (ws ≡ vs))
newest κs a x y ws vs p q = (p.0 ∙ sym q.0, (p.1 ∙ sym q.1, refl))

pub fresh : Determines 0 Twin.fresh.Kinds.ps Twin.fresh.Kinds.r Twin.fresh.Reads.Post
fresh κs a x y ws vs p q = (p ∙ sym q, refl)
