-- `read_u8_after` meets its contract.
-- Assumes nothing.
use Rattle.std.proofs.Common.{◌≡◌, take}
use Rattle.memory.specs.Map.{byte_at}
use Rattle.memory.specs.Writes.{stored}
use Rattle.memory.proofs.writes.read_u8_after.Given as goal

abbrev pub invariant-loop-one : goal.invariant-loop-one
invariant-loop-one l = l.b ≡ byte_at (stored l.ram_top (take l.one-index l.one-items) l.mem) l.at
