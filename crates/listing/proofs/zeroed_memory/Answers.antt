-- The array is `empty_memory`, which is opened here and nowhere else.
-- Assumes nothing.
use mathlib.Core.Path.{refl}
use Rattle.listing.specs.Listing.{empty_memory}
use Rattle.listing.proofs.zeroed_memory.Goals as goal

pub returns : goal.returns
unfolding empty_memory
returns c = refl
