-- By the answer: a memory of another length, no dump, and the memory of the dump in place of all bytes.
-- Assumes nothing.
use mathlib.Core.Path.{sym, ◌∙◌}
use native.Mathlib.Omega.{arith}
use Rattle.dump.proofs.Writing.{dump-length, read_length, read-malformed, read_done}
use Rattle.dump.proofs.read.Goals as goal

pub returns-then-mem-ne-MEMORY : goal.returns-then-mem-ne-MEMORY
returns-then-mem-ne-MEMORY c = read_length c.args.d.now c.args.mem.now c.if-mem-ne-MEMORY.true

pub returns-then-not-is_dump : goal.returns-then-not-is_dump
returns-then-not-is_dump c = read-malformed c.args.d.now c.args.mem.now c.if-mem-ne-MEMORY.false (sym c.is_dump.ensures ∙ c.if-not-is_dump.true)

pub slice_bounds-put-count : goal.slice_bounds-put-count
slice_bounds-put-count c = omega (arith, dump-length c.args.d.now (sym c.is_dump.ensures ∙ c.if-not-is_dump.false))

pub slice_bounds-put-start : goal.slice_bounds-put-start
slice_bounds-put-start c = omega (arith, dump-length c.args.d.now (sym c.is_dump.ensures ∙ c.if-not-is_dump.false))

pub returns : goal.returns
returns c =
    read_done c.args.d.now c.args.mem.now c.if-mem-ne-MEMORY.false (sym c.is_dump.ensures ∙ c.if-not-is_dump.false) _ _ c.machine_of.ensures c.put.ensures
