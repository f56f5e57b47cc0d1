-- The register is read and written; codes of two sizes refuse.
-- Assumes nothing.
use Rattle.operations.specs.Transfers.{transfer}
use Rattle.operations.proofs.transfers.transfer.Goals as goal

pub returns-then-transferable : goal.returns-then-transferable
unfolding transfer
returns-then-transferable c = rw (c.set_register.ensures, c.transfer_name-then-transferable.ensures, c.get_register-value.ensures, c.transfer_name.ensures, ← c.transferable.ensures, c.if-transferable.true)

pub returns-else-transferable : goal.returns-else-transferable
unfolding transfer
returns-else-transferable c = rw (← c.transferable.ensures, c.if-transferable.false)
