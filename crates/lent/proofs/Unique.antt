-- No second report, and no second twin, memory or journal at exit, fits the contract of `step` or of `undo`. This is said of their `clauses`, in the program logic. Nor
-- do a second report and twin fit an outcome.
-- Assumes nothing.
use mathlib.Core.Path.{refl, sym, ◌∙◌}
use Rattle.answers.proofs.Determined.{Determines, DeterminesIn, facts}
use Rattle.lent.proofs.ReturnedFromOutcome
use Rattle.lent.specs.contracts

pub step : DeterminesIn contracts.step.ended (λ M 𝓤 𝓛 mem run. contracts.step.clauses 𝓛 mem run)
step M 𝓤 𝓛 mem run κs a g x y ws vs =
    facts 𝓤 (λ p q.
    (p.0.result ∙ sym q.0.result, λ i. ((p.0.twin-is ∙ sym q.0.twin-is) i, ((p.0.memory-is ∙ sym q.0.memory-is) i, ((p.0.journal-is ∙ sym q.0.journal-is) i, (tt, tt))))))

-- the journal is lent to be read only
pub undo : DeterminesIn contracts.undo.ended (λ M 𝓤 𝓛 mem run. contracts.undo.clauses 𝓛 mem run)
undo M 𝓤 𝓛 mem run κs a g x y ws vs =
    facts 𝓤 (λ p q. (p.0.result ∙ sym q.0.result, λ i. ((p.0.twin-is ∙ sym q.0.twin-is) i, ((p.0.memory-is ∙ sym q.0.memory-is) i, (tt, tt)))))

pub returned-from : Determines 0 ReturnedFromOutcome.from.Kinds.ps ReturnedFromOutcome.from.Kinds.r ReturnedFromOutcome.from.Reads.Post
returned-from κs a x y ws vs p q = (p ∙ sym q, refl)
