-- The word is read, tested and kept.
-- Assumes nothing.
use Rattle.operations.specs.Words.{load16}
use Rattle.effects.proofs.words.load.Goals as goal

pub returns : goal.returns
unfolding load16
returns c = rw (c.with_word.ensures, c.test.ensures, c.read_u16-m.ensures)
