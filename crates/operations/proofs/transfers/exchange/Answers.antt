-- Both registers are read before either is written; codes of two sizes refuse.
-- Assumes nothing.
use Rattle.operations.specs.Transfers.{exchange}
use Rattle.operations.proofs.transfers.exchange.Goals as goal

pub returns-then-transferable : goal.returns-then-transferable
unfolding exchange
returns-then-transferable c = rw (c.set_register-then-transferable.ensures, c.set_register.ensures, c.get_register-two.ensures, c.get_register-one.ensures, c.transfer_name-second.ensures, c.transfer_name-first.ensures, ← c.transferable.ensures, c.if-transferable.true)

pub returns-else-transferable : goal.returns-else-transferable
unfolding exchange
returns-else-transferable c = rw (← c.transferable.ensures, c.if-transferable.false)
