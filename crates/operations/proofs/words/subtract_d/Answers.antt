-- D and the codes are those of SUBD.
-- Assumes nothing.
use Rattle.operations.specs.Words.{subtract_d}
use Rattle.operations.proofs.words.subtract_d.Goals as goal

pub returns : goal.returns
unfolding subtract_d
returns c = rw (c.with_word.ensures, c.with_codes.ensures, c.sub_u16-out.ensures, c.word.ensures, c.read_u16-m.ensures)
