-- The entries of the fields before the one numbered `what` are written, and those from it on are still to come.
-- Assumes nothing.
use mathlib.Core.Path.{◌≡◌, ap, ◌∙◌}
use native.Mathlib.Omega.{arith}
use lib.Dec.{eqb}
use lib.ListN.{length, get_or}
use Rattle.difference.specs.Differences.{fields_apart}
use Rattle.difference.specs.Compare.{entry_bytes, laid_out}
use Rattle.difference.proofs.Turns.{width-field, put-field, width-at-most, length-put}
use Rattle.difference.proofs.fields.put.Goals as goal

pub loop-what-preserved : goal.loop-what-preserved
loop-what-preserved c =
    let l = c.loop-what in
    let v = c.values_of-l.result in
    let w = c.values_of-r.result in
    let t = eqb (get_or v l.what 0) (get_or w l.what 0) in
    let put = c.put_one-at.ensures in (
      omega (arith, width-at-most t, put.0),
      (
        ap length put.1 ∙ length-put t l.at l.list (entry_bytes (record { what = l.what; left = get_or v l.what 0; right = get_or w l.what 0 })) ∙ l.invariant.1.0,
        λ x y p q. let i = l.invariant.1.1 x y p q in (
          rw put.0 (width-field x y l.what (omega arith) v w p q l.at ∙ i.0),
          rw (put.0, put.1) (put-field x y l.what (omega arith) v w p q l.at l.list ∙ i.1),
        ),
      ),
    )

pub returns : goal.returns
unfolding fields_apart laid_out
returns c =
    let l = c.loop-what in
    let a = c.args in
    let e : l.what ≡ 13 = omega arith in
    let i = rw e at (l.invariant.1.1 a.left a.right c.values_of-l.ensures c.values_of-r.ensures) in
    (omega (arith, i.0), i.1)
