-- The difference goes to D.
-- Assumes nothing.
use Rattle.operations.specs.Words.{subtract_d}
use Rattle.effects.proofs.words.subtract_from_d.Goals as goal

pub returns : goal.returns
unfolding subtract_d
returns c = rw (c.with_word.ensures, c.with_codes.ensures, c.subtract_words-out.ensures, c.word.ensures, c.read_u16-m.ensures)
