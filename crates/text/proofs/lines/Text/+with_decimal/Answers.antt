-- One digit is the whole number; more are those of the tenth part, and the last one.
-- Assumes nothing.
use Prim.Native.Nat.{◌+◌, ◌/◌, ◌%◌}
use mathlib.Core.List.{[], ◌∷◌}
use native.Mathlib.Omega.{arith}
use Rattle.text.specs.Lines.{decimal}
use Rattle.text.proofs.Decimals.{short, long}
use Rattle.text.proofs.Texts.{grown-grown}
use Rattle.text.proofs.lines.Text.+with_decimal.Goals as goal

pub returns-then-n-lt10 : goal.returns-then-n-lt10
returns-then-n-lt10 t c = rw (short c.args.n c.if-n-lt10.true) c.with_byte.ensures

pub returns : goal.returns
returns t c =
    let a = c.args in
    rw (long a.n (omega arith) (omega arith), ← (grown-grown a.self (decimal (a.n / 10)) ((48 + a.n % 10) ∷ [])), ← c.with_decimal.ensures) c.with_byte-2.ensures
