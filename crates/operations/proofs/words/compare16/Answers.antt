-- The codes are those of SUBD.
-- Assumes nothing.
use Rattle.operations.specs.Words.{compare16}
use Rattle.operations.proofs.words.compare16.Goals as goal

pub returns : goal.returns
unfolding compare16
returns c = rw (c.with_codes.ensures, c.cmp_u16.ensures, c.word.ensures, c.read_u16-m.ensures)
