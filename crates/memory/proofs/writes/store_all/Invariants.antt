-- `store_all` meets its contract.
-- Assumes nothing.
use Rattle.std.proofs.Common.{◌≡◌, take}
use Rattle.memory.specs.Writes.{stored, reported, writes_of}
use Rattle.memory.proofs.writes.store_all.Given as goal

abbrev pub invariant-loop-one : goal.invariant-loop-one
invariant-loop-one l =
    (l.mem ≡ stored l.ram_top (take l.one-index l.one-items) l.initial.mem)
    × (l.devices ≡ writes_of (reported l.ram_top (take l.one-index l.one-items)))
