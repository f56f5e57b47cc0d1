-- The header's four bytes, then the piece's own bytes; no sum wraps, since each place is in the file.
-- Assumes nothing.
use Prim.Native.Nat.{◌+◌}
use native.Mathlib.Omega.{arith}
use borrow.Author.Tests.{le-leb, lt-leb}
use Rattle.runfile.proofs.Reading.{in-room, no_room, piece-headed, piece-missing}
use Rattle.runfile.proofs.piece_end.Goals as goal
use Rattle.runfile.proofs.piece_end.Goals.{else-has-via-then-has+else-address-size-le65536, else-has-via-else-has}

pub returns-then-not-has : goal.returns-then-not-has
returns-then-not-has c =
    let a = c.args in
    rw (piece-missing a.file.now a.at (no_room a.file.now a.at 4 c.has.ensures c.if-not-has.true))

pub overflow_add-at : goal.overflow_add-at
overflow_add-at c =
    let a = c.args in
    omega (arith, in-room a.file.now a.at 4 c.has.ensures c.if-not-has.false)

pub overflow_add-from : goal.overflow_add-from
overflow_add-from c =
    let a = c.args in
    omega (arith, in-room a.file.now a.at 4 c.has.ensures c.if-not-has.false)

pub overflow_add-result-then-address-size-le65536 : goal.overflow_add-result-then-address-size-le65536
overflow_add-result-then-address-size-le65536 c =
    let a = c.args in
    omega (arith, in-room a.file.now a.at 4 c.has.ensures c.if-not-has.false)

pub returns-then-address-size-le65536 : goal.returns-then-address-size-le65536
returns-then-address-size-le65536 c =
    let a = c.args in
    rw (piece-headed a.file.now a.at (in-room a.file.now a.at 4 c.has.ensures c.if-not-has.false), ← c.word-size.ensures, ← c.word-address.ensures, ← c.has-2.ensures, c.if-has.true, le-leb (c.word-address.result + c.word-size.result) 0x10000 c.if-address-size-le65536.true)

pub returns-else-has : goal.returns-else-has
returns-else-has c =
    let a = c.args in
    let h = piece-headed a.file.now a.at (in-room a.file.now a.at 4 c.has.ensures c.if-not-has.false) in
    elim c.else-has.branch [
      | else-has-via-then-has+else-address-size-le65536 w ↦
          rw (h, ← c.word-size.ensures, ← c.word-address.ensures, ← c.has-2.ensures, w.if-has.true, lt-leb (c.word-address.result + c.word-size.result) 0x10000 w.if-address-size-le65536.false)
      | else-has-via-else-has w ↦ rw (h, ← c.word-size.ensures, ← c.word-address.ensures, ← c.has-2.ensures, w.if-has.false)
    ]
