-- By the effect's answer.
-- Assumes nothing.
use Rattle.calls.specs.Steps.{finished}
use Rattle.calls.proofs.Decided.{ended-step}
use Rattle.calls.proofs.steps.finish.Goals as goal

pub returns : goal.returns
unfolding finished
returns c = let a = c.args in rw (c.by_effect.ensures, c.counted-after.ensures) (ended-step a.effect.answer a.machine a.cycles a.arms a.reads a.effect)
