-- The word that was read is tested and written.
-- Assumes nothing.
use Rattle.operations.specs.Words.{load16}
use Rattle.operations.proofs.words.load16.Goals as goal

pub returns : goal.returns
unfolding load16
returns c = rw (c.with_word.ensures, c.test16.ensures, c.read_u16-m.ensures)
