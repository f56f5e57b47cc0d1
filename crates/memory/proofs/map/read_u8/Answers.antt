-- `read_u8` meets its contract.
-- Assumes nothing.
use Rattle.std.proofs.lemmas.Option.{gets}
use Rattle.std.proofs.lemmas.Grind.{common_steps}
use Rattle.std.proofs.Common.{arith}
use Rattle.memory.specs.Map.{byte_at}
use Rattle.memory.proofs.map.read_u8.Goals as goal

pub returns : goal.returns
unfolding byte_at
returns c = rw (c.unwrap_or.ensures, c.copied.ensures, ← c.place.ensures) (let h = c.get.ensures in grind (arith, common_steps, gets))
