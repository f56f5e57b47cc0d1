-- The form's address, and the word there where the post-byte is indirect.
-- Assumes nothing.
use Rattle.addressing.specs.Address.{indexed_address}
use Rattle.addressing.proofs.indexed_address.Goals as goal

pub returns-then-is_indirect : goal.returns-then-is_indirect
unfolding indexed_address
returns-then-is_indirect c = rw (c.through_pointer.ensures, ← c.is_indirect.ensures, c.if-is_indirect.true, c.form_address-found.ensures)

pub returns-else-is_indirect : goal.returns-else-is_indirect
unfolding indexed_address
returns-else-is_indirect c = rw (← c.is_indirect.ensures, c.if-is_indirect.false, c.form_address-found.ensures)
