-- `place` meets its contract.
-- Assumes nothing.
use Rattle.std.proofs.Common.{arith}
use Rattle.memory.proofs.Ranges.{place-high, place-low}
use Rattle.memory.proofs.map.place.Goals as goal

pub returns-in_default : goal.returns-in_default
returns-in_default c = place-low _ (omega arith)

pub returns-in-65504-to-65535 : goal.returns-in-65504-to-65535
returns-in-65504-to-65535 c = place-high _ (omega arith) (omega arith)
