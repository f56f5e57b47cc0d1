-- The lines of the first k entries are written, and those from the k-th on are still to come.
-- Assumes nothing.
use Prim.Native.Nat.{◌-◌}
use mathlib.Core.Path.{◌≡◌, ap, ◌∙◌}
use native.Mathlib.Omega.{arith}
use lib.ListN.{length}
use lib.Seq.{length-sets}
use Rattle.difference.specs.Compare.{entry_at}
use Rattle.dump.specs.Told.{entry_line, list_lines}
use Rattle.dump.proofs.Parts.{line-short}
use Rattle.dump.proofs.Listed.{line-counted, line-written}
use Rattle.dump.proofs.tells.put_lines.Goals as goal

pub loop-k-preserved : goal.loop-k-preserved
loop-k-preserved c =
    let l = c.loop-k in
    let a = c.args in
    let put = rw c.entry_at.ensures at c.put_line-at.ensures in (
      omega (arith, put.ends, line-short (entry_at a.list.now l.k)),
      (
        ap length put.laid ∙ length-sets l.out l.at (entry_line (entry_at a.list.now l.k)) ∙ l.invariant.1.0,
        (
          rw put.ends (line-counted a.list.now a.count l.k (omega arith) l.at ∙ l.invariant.1.1.0),
          rw (put.ends, put.laid) (line-written a.list.now a.count l.k (omega arith) l.at l.out ∙ l.invariant.1.1.1),
        ),
      ),
    )

pub returns : goal.returns
unfolding list_lines
returns c =
    let l = c.loop-k in
    let z : c.args.count - l.k ≡ 0 = omega arith in
    (omega (arith, rw z at l.invariant.1.1.0), rw z at l.invariant.1.1.1)
