-- 1, then the vector.
-- Assumes nothing.
use Rattle.std.proofs.Common.{eq-eqb, ne_eqb}
use Rattle.bus.specs.Reads.{bytes_from}
use Rattle.calls.specs.Resets.{reset_plan}
use Rattle.calls.proofs.resets.plan_reset.Goals as goal

pub returns-then-mem-ne65536 : goal.returns-then-mem-ne65536
unfolding reset_plan
returns-then-mem-ne65536 c = rw (c.refused.ensures, ne_eqb _ 65536 c.if-mem-ne65536.true)

pub returns : goal.returns
unfolding reset_plan bytes_from
returns c =
    rw (
      c.accept.ensures,
      c.marked.ensures,
      c.with_registers.ensures,
      c.jump-regs.ensures,
      c.reset.ensures,
      c.read_u16-pc.ensures,
      c.address.ensures,
      eq-eqb _ 65536 c.if-mem-ne65536.false,
    )
