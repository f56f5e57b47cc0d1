-- `lands` meets its contract.
-- Assumes nothing.
use Rattle.std.proofs.Common.{inl, inr, arith}
use Rattle.memory.proofs.Ranges.{first-devices, second-devices, unused, above, kept}
use Rattle.memory.proofs.map.lands.Goals as goal
use Rattle.memory.proofs.map.lands.Goals.{in_default-via-then-at-lt65280, in_default-via-else-at-lt65280+else-at-lt65344+else-at-lt65472+else-at-lt65504}

pub returns-in-65344-to-65471 : goal.returns-in-65344-to-65471
returns-in-65344-to-65471 c = unused _ _ _ (omega arith) (omega arith)

pub returns-in-65280-to-65343 : goal.returns-in-65280-to-65343
returns-in-65280-to-65343 c = first-devices _ _ _ (omega arith) (omega arith)

pub returns-in-65280-to-65343-2 : goal.returns-in-65280-to-65343-2
returns-in-65280-to-65343-2 c = second-devices _ _ _ (omega arith) (omega arith)

pub returns-then-ram_top-at : goal.returns-then-ram_top-at
returns-then-ram_top-at c =
    above _ _ _
    (elim c.in_default.branch [ in_default-via-then-at-lt65280 w ↦ inl (omega arith) | in_default-via-else-at-lt65280+else-at-lt65344+else-at-lt65472+else-at-lt65504 w ↦ inr (omega arith) ])
    c.if-ram_top-at.true

pub returns-else-ram_top-at : goal.returns-else-ram_top-at
returns-else-ram_top-at c =
    rw c.place.ensures (kept _ _ _
    (elim c.in_default.branch [ in_default-via-then-at-lt65280 w ↦ inl (omega arith) | in_default-via-else-at-lt65280+else-at-lt65344+else-at-lt65472+else-at-lt65504 w ↦ inr (omega arith) ])
    c.if-ram_top-at.false)
