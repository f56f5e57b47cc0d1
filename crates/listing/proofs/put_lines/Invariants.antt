-- The invariant: the lines left, laid after the text so far, make the whole text. The measure is the number of lines left.
-- Assumes nothing.
use Prim.Native.Nat.{◌<◌}
use Rattle.listing.specs.Listing.{listing}
use Rattle.listing.proofs.Going.{ToGo}
use Rattle.listing.proofs.put_lines.Given as goal

abbrev pub invariant-loop-left : goal.invariant-loop-left
invariant-loop-left l = (l.at < 65536) × ToGo l.mem l.initial.out (listing l.count l.mem l.from) l.left l.used l.out l.at

abbrev pub decreases-loop-left : goal.decreases-loop-left
decreases-loop-left l = l.left
