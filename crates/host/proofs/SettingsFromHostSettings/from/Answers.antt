-- Settings are made of a host's.
-- Assumes nothing.
use borrow.Author.Rules.{rules}
use Rattle.host.specs.Structs.{range_from}
use Rattle.host.proofs.Laws.{mapped}
use Rattle.host.proofs.SettingsFromHostSettings.from.Goals as goal

pub returns : goal.returns
returns c =
    let e = mapped _ range_from (λ p q x y k. search rules) _ c.args.s.profile c.map.result 8 (search rules) c.map.ensures.items in
    rw (c.fenced.ensures, c.flags_of.ensures, e)
