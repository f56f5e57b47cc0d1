-- The array is made of zeros.
-- Assumes nothing.
use Rattle.std.proofs.Common.{rules}
use Rattle.streams.specs.Counts.{IsZeros}
use Rattle.streams.proofs.zeros.Goals as goal

pub returns-clause-bytes : goal.returns-clause-bytes
unfolding IsZeros
returns-clause-bytes c = search rules
