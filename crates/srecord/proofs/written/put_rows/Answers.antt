-- `put_rows`: the text of the first k rows is stored, and `at` is its length.
-- Assumes nothing.
use Rattle.std.proofs.Common.{◌≡◌, ℕ, ◌+◌, ◌≤◌, Bool, false, List, length, sym, refl, ap, ◌∙◌, arith}
use Rattle.srecord.proofs.Rows.{row-part, row-width, row-length, rows_none, rows_grow, Turned, turn_more, turn-skip}
use Rattle.srecord.specs.Written.{bytes_of_row, is_zero, rows_text}
use lib.Seq.{sets}
use Rattle.srecord.proofs.written.put_rows.Goals as goal
use Rattle.srecord.proofs.written.put_rows.Goals.{After-all_zero, then-not-all_zero, else-not-all_zero}

row_is : (c : After-all_zero) {w : Bool} → c.all_zero.result ≡ w → is_zero (bytes_of_row c.args.mem.now c.loop-k.k) ≡ w
row_is c e = sym (c.all_zero.ensures ∙ ap is_zero (row-part c.args.mem.now c.loop-k.k)) ∙ e

-- the text of all rows has room for the row at hand
room : (c : After-all_zero) → c.all_zero.result ≡ false → c.loop-k.at + 75 ≤ length (rows_text c.args.mem.now 2048)
room c e =
    let m = c.args.mem.now in
    let l = c.loop-k in
    let r = row-length m l.k c.requires.0 c.loop-k-test.true (row_is c e) in
    let g = rows_grow m (l.k + 1) 2048 (omega arith) in
    omega arith

pub loop-k-init : goal.loop-k-init
loop-k-init c = (ap length (sym (rows_none _)), (refl, sym (ap (λ (l : List ℕ). sets c.args.out.now 0 l) (rows_none _))))

pub put_line-requires : goal.put_line-requires
put_line-requires c =
    let m = c.args.mem.now in
    let k = c.loop-k.k in
    let n = ap length (row-part m k) in
    let w = row-width m k c.requires.0 c.loop-k-test.true in
    let r = room (goal.at.put_line-requires c).After-all_zero c.if-not-all_zero.true in
    (omega arith, omega arith)

pub overflow_add-at : goal.overflow_add-at
overflow_add-at c = omega (arith, room (goal.at.overflow_add-at c).After-all_zero c.if-not-all_zero.true)

pub loop-k-preserved : goal.loop-k-preserved
loop-k-preserved c =
    let l = c.loop-k in
    let a = c.args in
    let z = (goal.at.loop-k-preserved c).After-all_zero in
    let done : Turned a.mem.now l.k l.at l.out a.out.now l.invariant.0 l.invariant.1.0 l.invariant.1.1 c.if-not-all_zero.at c.if-not-all_zero.out =
    elim c.if-not-all_zero.branch [
      | then-not-all_zero w ↦
          turn_more a.mem.now l.k l.at l.out a.out.now l.invariant.0 l.invariant.1.0 l.invariant.1.1 c.if-not-all_zero.at c.if-not-all_zero.out w.at-is (w.out-is ∙ rw (row-part a.mem.now l.k) at w.put_line.ensures) c.requires.0 c.loop-k-test.true (row_is z w.if-not-all_zero.true)
      | else-not-all_zero w ↦
          turn-skip a.mem.now l.k l.at l.out a.out.now l.invariant.0 l.invariant.1.0 l.invariant.1.1 c.if-not-all_zero.at c.if-not-all_zero.out w.at-is w.out-is (row_is z w.if-not-all_zero.false)
    ] in
    (done.ends, (done.keeps, done.holds))

pub shape_of-out : goal.shape_of-out
shape_of-out c = c.loop-k.invariant.1.0

pub returns : goal.returns
returns c = let e : c.loop-k.k ≡ 2048 = omega arith in (rw (← e) c.loop-k.invariant.0, rw (← e) c.loop-k.invariant.1.1)
