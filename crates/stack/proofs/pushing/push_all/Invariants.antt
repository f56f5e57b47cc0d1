-- `push_all`: the list is that of the registers which the loops have passed.
-- Assumes nothing.
use Rattle.std.proofs.Common.{◌≡◌, ◌+◌, ◌-◌, ◌*◌, ◌≤◌, length}
use Rattle.stack.proofs.Filling.{Filled}
use Rattle.stack.proofs.pushing.push_all.Given as goal

abbrev pub invariant-loop-k : goal.invariant-loop-k
invariant-loop-k l =
    ((4 ≤ l.k) × (l.count + 2 * l.k ≤ 16)) × ((length l.list ≡ 12) × Filled l.regs l.stack l.pointer l.mask l.system (8 - l.k) l.list l.count l.at)

abbrev pub invariant-loop-k-2 : goal.invariant-loop-k-2
invariant-loop-k-2 l =
    (l.count + l.k ≤ 12) × ((length l.list ≡ 12) × Filled l.regs l.stack l.pointer l.mask l.system (8 - l.k) l.list l.count l.at)
