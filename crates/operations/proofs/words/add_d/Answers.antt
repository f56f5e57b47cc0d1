-- D and the codes are those of ADDD.
-- Assumes nothing.
use Rattle.operations.specs.Words.{add_d}
use Rattle.operations.proofs.words.add_d.Goals as goal

pub returns : goal.returns
unfolding add_d
returns c = rw (c.with_word.ensures, c.with_codes.ensures, c.add_u16-out.ensures, c.word.ensures, c.read_u16-m.ensures)
