-- A host's outcome is made of an outcome.
-- Assumes nothing.
use borrow.Author.Rules.{rules}
use Rattle.host.specs.Structs.{host_outcome, host_write}
use Rattle.host.proofs.Laws.{mapped}
use Rattle.host.proofs.HostOutcomeFromOutcome.from.Goals as goal

pub returns : goal.returns
unfolding host_outcome
returns c =
    let e = mapped _ host_write (λ p q x y k. search rules) _ c.args.o.devices.list c.map.result 12 (search rules) c.map.ensures.items in
    rw (c.from.ensures, c.number.ensures, e)
