-- The condition codes alone.
-- Assumes nothing.
use Rattle.operations.specs.Words.{compare16}
use Rattle.effects.proofs.words.compare.Goals as goal

pub returns : goal.returns
unfolding compare16
returns c = rw (c.with_codes.ensures, c.compare_words.ensures, c.word.ensures, c.read_u16-m.ensures)
