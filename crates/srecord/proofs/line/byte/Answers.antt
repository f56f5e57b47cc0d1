-- Both digits are found in the text: i is below the number of bytes.
-- Assumes nothing.
use Rattle.std.proofs.Common.{sym, ◌∙◌, arith}
use Rattle.srecord.specs.Line.{line_bytes}
use Rattle.srecord.proofs.Bytes.{line-bytes, byte-of, past_end}
use Rattle.srecord.proofs.line.byte.Goals as goal

pub overflow_mul-i : goal.overflow_mul-i
overflow_mul-i c = omega (arith, line-bytes c.args.text.now)

pub overflow_add-i : goal.overflow_add-i
overflow_add-i c = omega (arith, line-bytes c.args.text.now)

pub bounds-text-i : goal.bounds-text-i
bounds-text-i c = omega (arith, line-bytes c.args.text.now)

pub overflow_mul-i-then-i-size : goal.overflow_mul-i-then-i-size
overflow_mul-i-then-i-size c = omega (arith, line-bytes c.args.text.now)

pub overflow_add-i-then-i-size : goal.overflow_add-i-then-i-size
overflow_add-i-then-i-size c = omega (arith, line-bytes c.args.text.now)

pub bounds-text-i-then-i-size : goal.bounds-text-i-then-i-size
bounds-text-i-then-i-size c = omega (arith, line-bytes c.args.text.now)

pub returns-then-i-size : goal.returns-then-i-size
returns-then-i-size c = let a = c.args in c.byte.ensures ∙ sym (byte-of a.text.now a.i (omega arith))

pub returns-else-i-size : goal.returns-else-i-size
returns-else-i-size c = sym (past_end (line_bytes c.args.text.now) c.args.i (omega arith))
