-- The digits of a byte after those before it.
-- Assumes nothing.
use mathlib.Core.Path.{refl}
use native.Mathlib.Omega.{arith}
use lib.ListN.{take}
use lib.Seq.{length-take-le}
use Rattle.dump.specs.Told.{hex_bytes}
use Rattle.dump.proofs.Parts.{put-then, part-is, hex-length, hex-more}
use Rattle.dump.proofs.lines.put_hex.Goals as goal

pub loop-b-init : goal.loop-b-init
unfolding hex_bytes
loop-b-init c = record { ends = omega arith; laid = refl }

pub put_text-end-requires : goal.put_text-end-requires
put_text-end-requires c =
    let l = c.loop-b in
    let b = c.args.bytes.now in
    omega (arith, l.invariant.ends, hex-length (take l.b-index b), length-take-le l.b-index b (omega arith))

pub loop-b-preserved : goal.loop-b-preserved
loop-b-preserved c = part-is (hex-more c.args.bytes.now c.loop-b.b-index (omega arith)) (put-then c.loop-b.invariant (part-is c.hex2.ensures c.put_text-end.ensures))
