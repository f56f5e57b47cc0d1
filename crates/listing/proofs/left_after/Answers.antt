-- None past FFFF.
-- Assumes nothing.
use borrow.Author.Tests.{le-leb, lt-leb}
use Rattle.listing.proofs.left_after.Goals as goal

pub returns-then-next-gt65535 : goal.returns-then-next-gt65535
returns-then-next-gt65535 c = rw (lt-leb c.args.next 0xFFFF c.if-next-gt65535.true)

pub returns-else-next-gt65535 : goal.returns-else-next-gt65535
returns-else-next-gt65535 c = rw (le-leb c.args.next 0xFFFF c.if-next-gt65535.false)
