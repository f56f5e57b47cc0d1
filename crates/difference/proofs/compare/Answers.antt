-- Both lengths, then the room for the entries, which are counted; then they are written.
-- Assumes nothing.
use native.Mathlib.Omega.{arith}
use Rattle.machine.specs.Record.{fields}
use Rattle.difference.proofs.EachAddress.{runs-few}
use Rattle.difference.proofs.EachField.{fields-few}
use Rattle.difference.proofs.Calls.{left-refused, right-refused, list-refused, list_written}
use Rattle.difference.proofs.compare.Goals as goal
use Rattle.difference.proofs.compare.Goals.{then-left_mem-ne-MEMORY-via-then-left_mem-ne-MEMORY, then-left_mem-ne-MEMORY-via-else-left_mem-ne-MEMORY+then-right_mem-ne-MEMORY}

pub returns-then-left_mem-ne-MEMORY : goal.returns-then-left_mem-ne-MEMORY
returns-then-left_mem-ne-MEMORY c =
    let a = c.args in
    elim c.then-left_mem-ne-MEMORY.branch [
      | then-left_mem-ne-MEMORY-via-then-left_mem-ne-MEMORY w ↦ left-refused a.left a.right a.left_mem.now a.right_mem.now a.list.now w.if-left_mem-ne-MEMORY.true
      | then-left_mem-ne-MEMORY-via-else-left_mem-ne-MEMORY+then-right_mem-ne-MEMORY w ↦
          right-refused a.left a.right a.left_mem.now a.right_mem.now a.list.now w.if-left_mem-ne-MEMORY.false w.if-right_mem-ne-MEMORY.true
    ]

-- both counts are small
pub overflow_add-count : goal.overflow_add-count
overflow_add-count c =
    let a = c.args in
    record { fits = omega (arith, c.count.ensures, c.count-2.ensures, fields-few a.left a.right fields, runs-few a.left_mem.now a.right_mem.now) }

pub overflow_mul-count : goal.overflow_mul-count
overflow_mul-count c =
    let a = c.args in
    record { fits = omega (arith, c.count.ensures, c.count-2.ensures, fields-few a.left a.right fields, runs-few a.left_mem.now a.right_mem.now) }

pub returns-then-list-count : goal.returns-then-list-count
returns-then-list-count c =
    list-refused c.args.left c.args.right c.args.left_mem.now c.args.right_mem.now c.args.list.now c.if-left_mem-ne-MEMORY.false c.if-right_mem-ne-MEMORY.false _ (rw (c.count.ensures, c.count-2.ensures)) c.if-list-count.true

pub put-requires : goal.put-requires
put-requires c =
    let a = c.args in
    (omega (arith, c.put-at.ensures.0, fields-few a.left a.right fields), (c.if-left_mem-ne-MEMORY.false, c.if-right_mem-ne-MEMORY.false))

pub returns : goal.returns
returns c =
    list_written c.args.left c.args.right c.args.left_mem.now c.args.right_mem.now c.args.list.now c.if-left_mem-ne-MEMORY.false c.if-right_mem-ne-MEMORY.false _ (rw (c.count.ensures, c.count-2.ensures)) c.if-list-count.false _ _ _ c.put-at.ensures.0 c.put-at.ensures.1 c.put.ensures
