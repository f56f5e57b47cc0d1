-- The last bytes of a number, or a word.
-- Assumes nothing.
use mathlib.Core.Path.{ap, ◌∙◌}
use native.Mathlib.Omega.{arith}
use Rattle.dump.specs.Told.{hex_bytes, shown_text}
use Rattle.dump.proofs.Parts.{part-is, low-bytes, low-part}
use Rattle.dump.proofs.lines.Shown.put.Goals as goal

pub returns-in-Byte : goal.returns-in-Byte
unfolding shown_text
returns-in-Byte c = rw c.in-Byte.is (part-is (low-part 1 c.args.n c.counter_of-bytes.result c.counter_of-bytes.ensures (omega arith)) c.put_hex.ensures)

pub returns-in-Word : goal.returns-in-Word
unfolding shown_text
returns-in-Word c = rw c.in-Word.is (part-is (low-part 2 c.args.n c.counter_of-bytes.result c.counter_of-bytes.ensures (omega arith)) c.put_hex-in-Word.ensures)

pub returns-in-Counter : goal.returns-in-Counter
unfolding shown_text
returns-in-Counter c = rw c.in-Counter.is (part-is (ap hex_bytes c.counter_of-bytes.ensures ∙ low-bytes 8 c.args.n (omega arith)) c.put_hex-in-Counter.ensures)

pub returns-in-WaitState : goal.returns-in-WaitState
unfolding shown_text
returns-in-WaitState c = rw c.in-WaitState.is (part-is c.wait_name.ensures c.put_text.ensures)

pub returns-in-Mark : goal.returns-in-Mark
unfolding shown_text
returns-in-Mark c = rw c.in-Mark.is (part-is c.mark_name.ensures c.put_text-in-Mark.ensures)
