-- Every text fits (`told-fits`).
-- Assumes nothing.
use Rattle.std.proofs.Common.{arith}
use Rattle.dump.proofs.Bounds.{told-fits}
use Rattle.compare.proofs.tell_into.Goals as goal

pub returns : goal.returns
returns c = omega (arith, c.tell.ensures.0, told-fits c.args.input.now)
