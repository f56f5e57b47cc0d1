-- `sum_of`: the sum of the first bytes, modulo 256.
-- Assumes nothing.
use Rattle.std.proofs.Common.{◌≡◌, ◌%◌, take}
use Rattle.srecord.specs.Layout.{total}
use Rattle.srecord.proofs.layout.sum_of.Given as goal

abbrev pub invariant-loop-b : goal.invariant-loop-b
invariant-loop-b l = l.sum ≡ total (take l.b-index l.list) % 256
