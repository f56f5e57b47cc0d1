-- A byte's digits after those before it; where the place saturates, both are past the end.
-- Assumes nothing.
use Rattle.std.proofs.Common.{◌*◌, get_or, ◌∙◌, arith}
use Rattle.text.specs.Hex.{hex2}
use Rattle.scenery.proofs.Laying.{turn}
use Rattle.scenery.proofs.Saturating.{laid}
use Rattle.scenery.proofs.printed.put_bytes.Goals as goal

pub loop-i-preserved : goal.loop-i-preserved
loop-i-preserved c =
    let l = c.loop-i in
    let bytes = c.args.bytes.now in
    c.put_byte.ensures
    ∙ rw c.saturating_add.ensures (laid l.out c.args.at (2 * l.i) (omega arith) (hex2 (get_or bytes l.i 0)) ∙ rw l.invariant (turn c.args.out.now c.args.at bytes l.i (omega arith)))
