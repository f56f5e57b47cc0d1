-- `rows_length`: 75 characters for each row of the first k that is not all zero.
-- Assumes nothing.
use Rattle.std.proofs.Common.{◌≡◌, length, sym, refl, ap, ◌∙◌, arith}
use Rattle.srecord.proofs.Rows.{row-part, row-length, row-skip}
use Rattle.srecord.specs.Written.{is_zero, rows_text}
use Rattle.srecord.proofs.written.rows_length.Goals as goal
use Rattle.srecord.proofs.written.rows_length.Goals.{then-not-all_zero, else-not-all_zero}

pub loop-k-init : goal.loop-k-init
unfolding rows_text
loop-k-init c = (omega arith, refl)

pub loop-k-preserved : goal.loop-k-preserved
loop-k-preserved c =
    let m = c.args.mem.now in
    let k = c.loop-k.k in
    let z = sym (c.all_zero.ensures ∙ ap is_zero (row-part m k)) in
    elim c.if-not-all_zero.branch [
      | then-not-all_zero w ↦
          let r = row-length m k c.requires c.loop-k-test.true (z ∙ w.if-not-all_zero.true) in
          (omega arith, omega arith)
      | else-not-all_zero w ↦
          let r = ap length (row-skip m k (z ∙ w.if-not-all_zero.false)) in
          (omega arith, omega arith)
    ]

pub returns : goal.returns
returns c = let e : c.loop-k.k ≡ 2048 = omega arith in c.loop-k.invariant.1 ∙ rw e
