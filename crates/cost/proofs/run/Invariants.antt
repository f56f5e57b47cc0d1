-- The measure is the number of steps that are left: a batch has at least one.
use Rattle.cost.proofs.run.Given as goal

abbrev pub decreases-loop-left : goal.decreases-loop-left
decreases-loop-left l = l.left
