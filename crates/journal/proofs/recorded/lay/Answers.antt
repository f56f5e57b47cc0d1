-- The bytes before the part, the part, and those after it.
-- Assumes nothing.
use Rattle.std.proofs.Common.{◌≡◌, ◌+◌, ◌-◌, length, arith}
use Rattle.journal.proofs.Laying.{laid_at}
use Rattle.journal.proofs.recorded.lay.Goals as goal

pub returns : goal.returns
returns c =
    let a = c.args in
    let e : a.at + length a.part.now - a.at ≡ length a.part.now = omega arith in
    rw (e, c.copy_from_slice.ensures.after) (laid_at a.rest.now a.part.now a.at c.requires)
