-- `pull_all`: what is still to be pulled gives, at every turn of the loop, what the whole pull gives.
-- Assumes nothing.
use Rattle.std.proofs.Common.{◌≡◌}
use Rattle.stack.proofs.Emptying.{from}
use Rattle.stack.proofs.pulling.pull_all.Given as goal

abbrev pub invariant-loop-k : goal.invariant-loop-k
invariant-loop-k l = from l.mem l.stack l.mask l.k l.p ≡ from l.mem l.stack l.mask 0 l.initial.p
