-- Three parts, each right after the one before.
-- Assumes nothing.
use Rattle.difference.proofs.Listing.{put-parts}
use Rattle.difference.proofs.entries.Entry.put.Goals as goal

pub returns : goal.returns
returns c =
    let a = c.args in
    put-parts a.at a.self a.list.now _ _ _ _ _ c.put.ensures c.counter_of.ensures c.put-2.ensures c.counter_of-2.ensures c.put-3.ensures
