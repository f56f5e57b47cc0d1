-- `bars` is what `any` finds.
-- Assumes nothing.
use mathlib.Core.Path.{◌∙◌}
use Rattle.std.proofs.Common.{rules, tests}
use Rattle.std.proofs.lemmas.Iterator.{YieldsList-from_slice}
use Rattle.std.proofs.lemmas.Iterator.Search.{any_from_yields_List}
use Rattle.memory.specs.Map.{landing_of}
use Rattle.memory.specs.Writes.{listed}
use Rattle.memory.specs.declared.writes.Write.{Write}
use Rattle.machine.specs.Fence.{barred_at}
use Rattle.machine.proofs.Fences.{any-barred}
use Rattle.machine.proofs.fence.bars.Goals as goal

pub returns : goal.returns
returns c =
    let s = c.args.settings in
    any_from_yields_List (λ (w : Write). barred_at s.profile (landing_of w.at s.ram_top w.system)) _ _ _ c.any.ensures.ran (YieldsList-from_slice (listed c.args.writes) cc) (λ x b q k. search (rules, tests))
    ∙ any-barred s.profile s.ram_top (listed c.args.writes)
