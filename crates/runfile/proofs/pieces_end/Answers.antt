-- The invariant: the pieces that are left end where all end.
-- Assumes nothing.
use Prim.Native.Nat.{◌+◌, suc, ◌-◌}
use mathlib.Core.Path.{◌≡◌, sym, ◌∙◌}
use native.Mathlib.Omega.{arith}
use Rattle.runfile.specs.Format.{pieces_at}
use Rattle.runfile.proofs.Sections.{piece-end}
use Rattle.runfile.proofs.pieces_end.Goals as goal

pub loop-passed-init : goal.loop-passed-init
loop-passed-init c = let z : c.args.count - 0 ≡ c.args.count = omega arith in rw z

pub loop-passed-preserved : goal.loop-passed-preserved
loop-passed-preserved c =
    let f = c.args.file.now in
    let l = c.loop-passed in
    let left = c.args.count - l._passed in
    let s : left ≡ suc (left - 1) = omega arith in
    let o : c.args.count - (l._passed + 1) ≡ left - 1 = omega arith in
    rw (o, c.piece_end-next.ensures) (sym (piece-end f (left - 1) l.next) ∙ (rw s at l.invariant))

pub returns : goal.returns
unfolding pieces_at
returns c =
    let l = c.loop-passed in
    let left = c.args.count - l._passed in
    let z : left ≡ 0 = omega arith in
    rw z at l.invariant
