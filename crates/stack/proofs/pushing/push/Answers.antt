-- `push`: 8 by the test of the definition; behind it the pointer holds all bytes, and does not wrap.
-- Assumes nothing.
use Rattle.std.proofs.Common.{le-ltb, lt-ltb}
use Rattle.stack.specs.Pushing.{pushed}
use Rattle.stack.proofs.pushing.push.Goals as goal

pub returns-then-pointer-bytes : goal.returns-then-pointer-bytes
unfolding pushed
returns-then-pointer-bytes c =
    let h = rw (c.bytes_of-bytes.ensures, c.word-pointer.ensures, c.word.ensures) at c.if-pointer-bytes.true in
    rw (c.refuses.ensures, lt-ltb _ _ h)

pub push_all-writes-requires : goal.push_all-writes-requires
push_all-writes-requires c = rw (← c.bytes_of-bytes.ensures) c.if-pointer-bytes.false

pub returns : goal.returns
unfolding pushed
returns c =
    let h = rw (c.bytes_of-bytes.ensures, c.word-pointer.ensures, c.word.ensures) at c.if-pointer-bytes.false in
    rw (
      c.stores.ensures,
      c.with_word.ensures,
      c.word-2.ensures,
      c.push_all-writes.ensures,
      c.bytes_of-bytes.ensures,
      c.word-pointer.ensures,
      c.word.ensures,
      le-ltb _ _ h,
    )
