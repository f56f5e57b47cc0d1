-- What is left to push comes, at every turn of the loop, to what the whole push comes to.
-- Assumes nothing.
use Rattle.calls.proofs.PlainWrites.{Pushing}
use Rattle.calls.proofs.plain.push.Given as goal

abbrev pub invariant-loop-k : goal.invariant-loop-k
invariant-loop-k l = Pushing l.regs l.own l.mask l.pointer l.initial.mem l.k l.p l.mem
