-- `allows` is what `any` finds.
-- Assumes nothing.
use mathlib.Core.Path.{◌∙◌}
use Rattle.std.proofs.Common.{rules, tests}
use Rattle.std.proofs.lemmas.Iterator.{YieldsList-from_slice}
use Rattle.std.proofs.lemmas.Iterator.Search.{any_from_yields_List}
use Rattle.memory.specs.Map.{within}
use Rattle.machine.specs.declared.fence.Range.{Range}
use Rattle.machine.proofs.Fences.{any-allows}
use Rattle.machine.proofs.fence.allows.Goals as goal

pub returns : goal.returns
returns c =
    let x = c.args in
    any_from_yields_List (λ (r : Range). within r.first r.last x.place) _ _ _ c.any.ensures.ran (YieldsList-from_slice x.profile.now cc) (λ x b q k. search (rules, tests))
    ∙ any-allows x.profile.now x.place
