-- Each test rules out one way to be malformed; after the last one the file is sound.
-- Assumes nothing.
use Prim.Native.Nat.{◌+◌}
use mathlib.Core.Path.{refl, sym, ◌∙◌}
use native.Mathlib.Omega.{arith}
use Rattle.runfile.specs.Format.{pieces_at}
use Rattle.runfile.proofs.Reading.{in-room, no_room, word_got, word-missing}
use Rattle.runfile.proofs.Sections.{short-after, spare-after, whole-after}
use Rattle.runfile.proofs.load_after.Goals as goal

pub returns-then-not-has : goal.returns-then-not-has
returns-then-not-has c =
    let a = c.args in
    rw (word-missing a.file.now a.at (no_room a.file.now a.at 2 c.has.ensures c.if-not-has.true)) (refl, refl)

pub overflow_add-from : goal.overflow_add-from
overflow_add-from c =
    let a = c.args in
    omega (arith, in-room a.file.now a.at 2 c.has.ensures c.if-not-has.false)

pub returns-then-not-has-2 : goal.returns-then-not-has-2
returns-then-not-has-2 c =
    let a = c.args in
    let f = a.file.now in
    let n = rw c.pieces_end-next.ensures at (no_room f c.pieces_end-next.result 2 c.has-2.ensures c.if-not-has-2.true) in
    rw (word_got f a.at (in-room f a.at 2 c.has.ensures c.if-not-has.false), ← c.word-count.ensures, short-after f a.settings (pieces_at f c.word-count.result (a.at + 2)) n) (refl, refl)

pub overflow_add-operations : goal.overflow_add-operations
overflow_add-operations c =
    let f = c.args.file.now in
    omega (arith, in-room f c.pieces_end-next.result 2 c.has-2.ensures c.if-not-has-2.false)

pub returns-then-operations_end-file : goal.returns-then-operations_end-file
returns-then-operations_end-file c =
    let a = c.args in
    let f = a.file.now in
    let p = c.pieces_end-next.ensures in
    let n = rw p at (in-room f c.pieces_end-next.result 2 c.has-2.ensures c.if-not-has-2.false) in
    let e = rw (c.word.ensures, p) at c.operations_end.ensures in
    rw (word_got f a.at (in-room f a.at 2 c.has.ensures c.if-not-has.false), ← c.word-count.ensures, spare-after f a.settings (pieces_at f c.word-count.result (a.at + 2)) n (λ q. c.if-operations_end-file.true (e ∙ q))) (refl, refl)

pub place-requires : goal.place-requires
place-requires c =
    let f = c.args.file.now in
    omega (arith, in-room f c.pieces_end-next.result 2 c.has-2.ensures c.if-not-has-2.false, c.pieces_end-next.ensures)

pub returns : goal.returns
returns c =
    let a = c.args in
    let f = a.file.now in
    let p = c.pieces_end-next.ensures in
    let n = rw p at (in-room f c.pieces_end-next.result 2 c.has-2.ensures c.if-not-has-2.false) in
    let e = rw (c.word.ensures, p) at c.operations_end.ensures in
    let w = whole-after f a.settings (pieces_at f c.word-count.result (a.at + 2)) a.mem.now n (sym e ∙ c.if-operations_end-file.false) in
    rw (word_got f a.at (in-room f a.at 2 c.has.ensures c.if-not-has.false), ← c.word-count.ensures, p) (w.0, c.place.ensures ∙ w.1)
