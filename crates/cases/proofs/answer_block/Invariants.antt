-- An answer takes at most 20 bytes, so those of the lines passed fit.
use Rattle.std.proofs.Common.{◌*◌, ◌≤◌, length}
use Rattle.cases.proofs.answer_block.Given as goal

abbrev pub invariant-loop-line : goal.invariant-loop-line
invariant-loop-line l = (l.end ≤ 20 * length l.yielded) × (l.end ≤ length l.out)
