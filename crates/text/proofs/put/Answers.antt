-- A part that fits is written whole, and of another as much as fits.
-- Assumes nothing.
use Prim.Native.Nat.{◌-◌}
use mathlib.Core.Path.{sym, ◌∙◌}
use native.Mathlib.Omega.{arith}
use lib.ListN.{length}
use Rattle.text.proofs.Stores.{sets-out, cut}
use Rattle.text.proofs.put.Goals as goal

pub returns-else-part-room : goal.returns-else-part-room
returns-else-part-room c =
    let a = c.args in
    c.lay-else-part-room.ensures ∙ cut a.out.now a.part.now a.at (length a.out.now - a.at) (omega arith) (omega arith)

pub returns-else-at-out : goal.returns-else-at-out
returns-else-at-out c =
    let a = c.args in
    sym (sets-out a.out.now a.part.now a.at (omega arith))
