-- The length, then the first section; the other two are `load_after`'s.
-- Assumes nothing.
use mathlib.Core.Path.{refl}
use Rattle.std.proofs.Common.{◌≢◌}
use native.Mathlib.Omega.{arith}
use borrow.Author.Tests.{le-leb, lt-leb, ne_eqb}
use lib.ListN.{length}
use Rattle.runfile.specs.Format.{parsed}
use Rattle.runfile.proofs.Reading.{in-room, no_room, headed, headless}
use Rattle.runfile.proofs.load.Goals as goal

pub returns-then-file-gt-LONGEST : goal.returns-then-file-gt-LONGEST
unfolding parsed
returns-then-file-gt-LONGEST c = rw (lt-leb (length c.args.file.now) 32768 c.if-file-gt-LONGEST.true) (refl, refl)

pub returns-then-not-has : goal.returns-then-not-has
unfolding parsed
returns-then-not-has c =
    let f = c.args.file.now in
    rw (le-leb (length f) 32768 c.if-file-gt-LONGEST.false, headless f (no_room f 0 4 c.has.ensures c.if-not-has.true)) (refl, refl)

pub returns-in-2 : goal.returns-in-2
unfolding parsed
returns-in-2 c =
    let f = c.args.file.now in
    rw (le-leb (length f) 32768 c.if-file-gt-LONGEST.false, headed f (in-room f 0 4 c.has.ensures c.if-not-has.false), ← c.word-ram_top.ensures, ← c.word.ensures, c.in-2.is)
    (rw c.new.ensures at c.load_after.ensures)

pub returns-in-3 : goal.returns-in-3
unfolding parsed
returns-in-3 c =
    let f = c.args.file.now in
    rw (le-leb (length f) 32768 c.if-file-gt-LONGEST.false, headed f (in-room f 0 4 c.has.ensures c.if-not-has.false), ← c.word-ram_top.ensures, ← c.word.ensures, c.in-3.is)
    c.load_flagged.ensures

pub returns-in_default : goal.returns-in_default
unfolding parsed
returns-in_default c =
    let f = c.args.file.now in
    let n = c.word.result in
    let m : n ≢ 2 = omega arith in
    let o : n ≢ 3 = omega arith in
    rw (le-leb (length f) 32768 c.if-file-gt-LONGEST.false, headed f (in-room f 0 4 c.has.ensures c.if-not-has.false), ← c.word.ensures, ne_eqb n 2 m, ne_eqb n 3 o) (refl, refl)
