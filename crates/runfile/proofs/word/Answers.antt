-- Past the end both bytes are 0.
-- Assumes nothing.
use Prim.Native.Nat.{◌+◌}
use native.Mathlib.Omega.{arith}
use lib.ListN.{get_or-eq_default}
use Rattle.runfile.proofs.word.Goals as goal

pub returns-else-at-file : goal.returns-else-at-file
returns-else-at-file c =
    let a = c.args in
    omega (arith, get_or-eq_default a.file.now 0 {n = a.at} (omega arith), get_or-eq_default a.file.now 0 {n = a.at + 1} (omega arith))
