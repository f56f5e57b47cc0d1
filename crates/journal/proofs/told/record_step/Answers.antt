-- 2, or the instruction.
-- Assumes nothing.
use mathlib.Core.Path.{◌≡◌, refl, sym, ap, ◌∙◌}
use mathlib.Core.Logic.{inl, inr}
use lib.ListN.{length}
use Rattle.memory.specs.Writes.{listed, reported}
use Rattle.calls.specs.Plans.{fenced}
use Rattle.calls.specs.Steps.{step_plan, reached}
use Rattle.calls.specs.declared.Plan.{Plan}
use Rattle.journal.specs.Recorded.{in_hand, plan_answer, recorded, Leaves}
use Rattle.journal.specs.Told.{concluded_for}
use Rattle.journal.proofs.Answers.{refused-leaves, plan-refused, running-plan, waiting-plan}
use Rattle.journal.proofs.told.record_step.Goals as goal

pub returns-in-Running : goal.returns-in-Running
returns-in-Running c =
    let a = c.args in
    let s = in_hand a.mem.now a.journal.now a.twin in
    let e = ap (fenced a.settings a.twin.machine) c.decide-decision.ensures ∙ sym (running-plan a.mem.now a.twin.machine a.settings c.requires.0 c.in-Running.is) in
    rw e at c.record_decided.ensures

pub returns-in-Cwai : goal.returns-in-Cwai
returns-in-Cwai c =
    let a = c.args in
    let s = in_hand a.mem.now a.journal.now a.twin in
    let p = step_plan a.mem.now a.twin.machine a.settings in
    refused-leaves (plan_answer a.settings p s) s (recorded a.settings p s) (reported a.settings.ram_top (listed p.writes)) p.reads (length (listed p.writes)) _ c.refused.result
    (plan-refused a.settings p s _ (waiting-plan a.mem.now a.twin.machine a.settings c.requires.0 c.in-Cwai.is)) c.refused.ensures
