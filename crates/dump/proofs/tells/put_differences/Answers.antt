-- The list has room for all entries, and their lines are those of the differences.
-- Assumes nothing.
use Prim.Native.Nat.{◌-◌}
use mathlib.Core.Path.{sym, ◌∙◌}
use native.Mathlib.Omega.{arith}
use lib.ListN.{length, take, drop}
use Rattle.dump.proofs.Writing.{dump-length}
use Rattle.dump.proofs.Telling.{memory-part, not-refused, count-few, lines-told}
use Rattle.dump.proofs.tells.put_differences.Goals as goal

pub slice_bounds-compare-count : goal.slice_bounds-compare-count
slice_bounds-compare-count c = omega (arith, dump-length c.args.left.now c.requires.0)

pub slice_bounds-compare-start : goal.slice_bounds-compare-start
slice_bounds-compare-start c = omega (arith, dump-length c.args.left.now c.requires.0)

pub slice_bounds-compare-count-2 : goal.slice_bounds-compare-count-2
slice_bounds-compare-count-2 c = omega (arith, dump-length c.args.right.now c.requires.1)

pub slice_bounds-compare-start-2 : goal.slice_bounds-compare-start-2
slice_bounds-compare-start-2 c = omega (arith, dump-length c.args.right.now c.requires.1)

pub unreachable-requires : goal.unreachable-requires
unreachable-requires c =
    not-refused c.args.left.now c.args.right.now c.room-list.result c.requires.0 c.requires.1 c.room-list.ensures c.machine_of.result c.machine_of-2.result (take (length c.args.left.now - 32) (drop 32 c.args.left.now)) (take (length c.args.right.now - 32) (drop 32 c.args.right.now)) c.machine_of.ensures c.machine_of-2.ensures (memory-part c.args.left.now c.requires.0) (memory-part c.args.right.now c.requires.1) c.in_default.field-0
    (sym c.in_default.is ∙ c.compare-compared.ensures.0)

pub put_lines-requires : goal.put_lines-requires
put_lines-requires c =
    count-few c.args.left.now c.args.right.now c.room-list.result c.requires.0 c.requires.1 c.room-list.ensures c.machine_of.result c.machine_of-2.result (take (length c.args.left.now - 32) (drop 32 c.args.left.now)) (take (length c.args.right.now - 32) (drop 32 c.args.right.now)) c.machine_of.ensures c.machine_of-2.ensures (memory-part c.args.left.now c.requires.0) (memory-part c.args.right.now c.requires.1) c.in-Ok.count c.compare-compared.new.list
    (sym c.in-Ok.is ∙ c.compare-compared.ensures.0)
    c.compare-compared.ensures.1

pub returns : goal.returns
returns c =
    rw
    (← lines-told c.args.left.now c.args.right.now c.room-list.result c.requires.0 c.requires.1 c.room-list.ensures c.machine_of.result c.machine_of-2.result (take (length c.args.left.now - 32) (drop 32 c.args.left.now)) (take (length c.args.right.now - 32) (drop 32 c.args.right.now)) c.machine_of.ensures c.machine_of-2.ensures (memory-part c.args.left.now c.requires.0) (memory-part c.args.right.now c.requires.1) c.in-Ok.count c.compare-compared.new.list
    (sym c.in-Ok.is ∙ c.compare-compared.ensures.0)
    c.compare-compared.ensures.1 (λ i. omega (arith, c.type_inv.left i)) (λ i. omega (arith, c.type_inv.right i)))
    c.put_lines.ensures
