-- What is judged first refuses, or the plan is concluded.
-- Assumes nothing.
use mathlib.Core.Path.{◌≡◌, refl, sym, ap, ◌∙◌}
use Rattle.journal.specs.Recorded.{in_hand}
use Rattle.journal.proofs.Answers.{admitted-done, called-refused, called-done}
use Rattle.journal.proofs.Typed.{typed}
use borrow.Author.Rules.{rules}
use Rattle.journal.proofs.recorded.record_plan.Goals as goal

pub conclude-requires : goal.conclude-requires
conclude-requires c =
    let h = admitted-done _ _ _ _ (sym c.admits.ensures ∙ c.in_default.is) in
    (h.size, (h.within, h.counted))

pub returns-in-Err-clause-leaves : goal.returns-in-Err-clause-leaves
returns-in-Err-clause-leaves c =
    let a = c.args in
    let s = in_hand a.mem.now a.journal.now a.twin in
    called-refused a.settings a.plan s _ c.refused.result (sym c.admits.ensures ∙ c.in-Err.is) c.refused.ensures

pub returns-clause-leaves : goal.returns-clause-leaves
returns-clause-leaves c =
    let a = c.args in
    let s = in_hand a.mem.now a.journal.now a.twin in
    called-done a.settings a.plan s _ _ _ (sym c.admits.ensures ∙ c.in_default.is) c.conclude.ensures

pub returns-clause-typed : goal.returns-clause-typed
returns-clause-typed c = let a = c.args in typed a.mem.now a.journal.now a.twin _ c.well_formed.1.1.0 (λ i. (c.slice_known-1.given i).fits)
