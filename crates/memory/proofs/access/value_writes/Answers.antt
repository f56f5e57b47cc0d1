-- `value_writes` meets its contract.
-- Assumes nothing.
use Rattle.memory.proofs.Folds.{one-write, two-writes}
use Rattle.memory.proofs.access.value_writes.Goals as goal

pub returns-in-u8 : goal.returns-in-u8
returns-in-u8 c = rw (c.add.ensures, c.none.ensures, c.in-u8.is) (one-write _)

pub returns-in-u16 : goal.returns-in-u16
returns-in-u16 c = rw (c.add_word.ensures, c.none-in-u16.ensures, c.in-u16.is) (two-writes _ _)
