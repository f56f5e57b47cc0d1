-- The three bytes of an entry.
-- Assumes nothing.
use Rattle.std.proofs.Common.{◌≡◌, ◌/◌, ◌%◌, ◌∙◌, arith}
use Rattle.journal.specs.Record.{entries}
use Rattle.machine.proofs.Header.{two}
use Rattle.journal.proofs.recorded.entry.Goals as goal

pub returns : goal.returns
unfolding entries
returns c =
    let p = c.args.place in
    let high : p / 256 % 256 ≡ p / 256 = omega arith in
    c.lay.ensures ∙ rw (c.to_be_bytes.ensures, two p (omega arith), high)
