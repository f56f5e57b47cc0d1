-- The parts are laid one after the other.
-- Assumes nothing.
use Rattle.journal.proofs.Laying.{header-laid}
use Rattle.journal.proofs.recorded.write_header.Goals as goal

pub returns : goal.returns
returns c =
    let a = c.args in
    rw (
      c.lay-3.ensures,
      c.lay-2.ensures,
      c.lay.ensures,
      c.counter_of-2.ensures,
      c.counter_of.ensures,
      c.front_of.ensures,
    )
    (header-laid a.machine a.rest.now)
