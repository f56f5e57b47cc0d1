-- A flag byte of 0 or 1.
-- Assumes nothing.
use mathlib.Core.Path.{refl}
use Rattle.std.proofs.Common.{◌≢◌}
use native.Mathlib.Omega.{arith}
use borrow.Author.Tests.{lt-leb, ne_eqb}
use lib.ListN.{length, get_or}
use Rattle.runfile.specs.Format.{flag_at}
use Rattle.runfile.proofs.Reading.{one_byte}
use Rattle.runfile.proofs.load_flagged.Goals as goal

pub returns-then-file-le4 : goal.returns-then-file-le4
unfolding flag_at
returns-then-file-le4 c = rw (lt-leb 5 (length c.args.file.now) (omega arith)) (refl, refl)

pub returns-in-0 : goal.returns-in-0
unfolding flag_at
returns-in-0 c =
    rw (one_byte c.if-file-le4.false, c.in-0.is) (rw c.new.ensures at c.load_after.ensures)

pub returns-in-1 : goal.returns-in-1
unfolding flag_at
returns-in-1 c =
    rw (one_byte c.if-file-le4.false, c.in-1.is) (rw c.new-in-1.ensures at c.load_after-in-1.ensures)

pub returns-in_default : goal.returns-in_default
unfolding flag_at
returns-in_default c =
    let b = get_or c.args.file.now 4 0 in
    let m : b ≢ 0 = omega arith in
    let o : b ≢ 1 = omega arith in
    rw (one_byte c.if-file-le4.false, ne_eqb b 0 m, ne_eqb b 1 o) (refl, refl)
