-- The bytes of the fields, one after the other.
-- Assumes nothing.
use mathlib.Core.Path.{sym}
use native.Mathlib.Omega.{arith}
use Rattle.registers.specs.Fits.{Fits}
use Rattle.machine.proofs.Header.{spelled}
use Rattle.machine.proofs.record.front_of.Goals as goal

pub returns : goal.returns
returns c =
    let m = c.args.machine in
    let f : Fits m.regs =
    record {
      x = omega arith;
      y = omega arith;
      u = omega arith;
      s = omega arith;
      pc = omega arith;
      a = omega arith;
      b = omega arith;
      dp = omega arith;
      cc = omega (arith, c.get_as_byte-cc.ensures);
    } in
    rw (
      c.to_be_bytes-x.ensures,
      c.to_be_bytes-y.ensures,
      c.to_be_bytes-u.ensures,
      c.to_be_bytes-s.ensures,
      c.to_be_bytes-pc.ensures,
      c.wait_byte-wait.ensures,
      c.mark_byte-mark.ensures,
      c.get_as_byte-cc.ensures,
    )
    (sym (spelled m f))
