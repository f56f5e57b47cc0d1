-- The numbers at their places in the part from the entry on.
-- Assumes nothing.
use Prim.Native.Nat.{◌/◌}
use mathlib.Core.Path.{◌≡◌}
use lib.ListN.{length}
use borrow.Author.Tests.{le-ltb}
use Rattle.difference.specs.Compare.{entry_at}
use Rattle.difference.proofs.Listing.{entry_here}
use Rattle.difference.proofs.entries.entry_at.Goals as goal

pub returns-then-k-list : goal.returns-then-k-list
returns-then-k-list c = entry_here c.args.list.now c.args.k c.if-k-list.true _ _ c.counter_at.ensures c.counter_at-then-k-list.ensures

pub returns : goal.returns
unfolding entry_at
returns c =
    let d = c.default.ensures in
    let zeros : c.default.result ≡ record { left = 0; right = 0; what = 0 } = λ i. record { left = d.0 i; right = d.1.0 i; what = d.1.1 i } in
    rw (zeros, le-ltb c.args.k (length c.args.list.now / 17) c.if-k-list.false)
