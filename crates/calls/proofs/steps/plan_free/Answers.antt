-- By the kind.
-- Assumes nothing.
use Rattle.std.proofs.Common.{◌≡◌, sym, ap, ◌∙◌}
use Rattle.machine.specs.declared.Effect.{Effect}
use Rattle.memory.proofs.Folds.{one-write, two-writes}
use Rattle.calls.specs.Steps.{finished}
use Rattle.calls.specs.Decisions.{effect_as}
use Rattle.calls.specs.declared.decisions.Kind.TheVariants.{Byte, Word, Push, Rest}
use Rattle.calls.proofs.Decided.{plan-as}
use Rattle.calls.proofs.steps.plan_free.Goals as goal
use Rattle.calls.proofs.steps.plan_free.Goals.{in-Byte, in-Word, in-Push, in-Rest}

pub returns-in-Refused : goal.returns-in-Refused
unfolding finished
returns-in-Refused c =
    let a = c.args in
    c.refused.ensures ∙ sym (plan-as a.machine a.settings a.mem.now a.decision c.in-Refused.is)

pub returns : goal.returns
returns c =
    let a = c.args in
    let d = a.decision in
    let after : Effect → _ = finished a.machine d.cycles d.arms d.reads in
    c.finish.ensures
    ∙ elim c.match-decision.branch [
      | in-Byte w ↦
          let e : c.match-decision.effect ≡ effect_as Byte a.settings a.mem.now d = w.effect-is ∙ rw (w.stores-effect.ensures, w.add.ensures, w.none.ensures, one-write) in
          ap after e ∙ sym (plan-as a.machine a.settings a.mem.now d w.in-Byte.is)
      | in-Word w ↦
          let e : c.match-decision.effect ≡ effect_as Word a.settings a.mem.now d = w.effect-is ∙ rw (w.stores-effect-in-Word.ensures, w.add_word.ensures, w.none-in-Word.ensures, two-writes) in
          ap after e ∙ sym (plan-as a.machine a.settings a.mem.now d w.in-Word.is)
      | in-Push w ↦
          let e : c.match-decision.effect ≡ effect_as Push a.settings a.mem.now d = w.effect-is ∙ w.push-effect.ensures in
          ap after e ∙ sym (plan-as a.machine a.settings a.mem.now d w.in-Push.is)
      | in-Rest w ↦
          let e : c.match-decision.effect ≡ effect_as Rest a.settings a.mem.now d = w.effect-is ∙ w.evaluate_memory-effect.ensures in
          ap after e ∙ sym (plan-as a.machine a.settings a.mem.now d w.in-Rest.is)
    ]
