-- The five ranges of a character: below the figures, figures, between, capitals, above.
-- Assumes nothing.
use Prim.Native.Nat.{◌+◌, ◌-◌}
use mathlib.Core.Path.{◌≡◌}
use native.Mathlib.Omega.{arith}
use Rattle.text.proofs.Digits.{value-figure, value-capital, value-below, value-between, value-above}
use Rattle.text.proofs.hex.value.Goals as goal

pub returns-in-48-to-57 : goal.returns-in-48-to-57
returns-in-48-to-57 c = (value-figure _ (omega arith) (omega arith), omega arith)

pub returns-in-65-to-70 : goal.returns-in-65-to-70
returns-in-65-to-70 c =
    let e : c.args.c - 65 + 10 ≡ c.args.c - 55 = omega arith in
    rw e (value-capital _ (omega arith) (omega arith), omega arith)

pub returns-in_default : goal.returns-in_default
returns-in_default c = (value-below _ (omega arith), omega arith)

pub returns-in_default-2 : goal.returns-in_default-2
returns-in_default-2 c = (value-between _ (omega arith) (omega arith), omega arith)

pub returns-in_default-3 : goal.returns-in_default-3
returns-in_default-3 c = (value-above _ (omega arith), omega arith)
