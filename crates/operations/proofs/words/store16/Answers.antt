-- The word is tested and written.
-- Assumes nothing.
use Rattle.operations.specs.Words.{store16}
use Rattle.operations.proofs.words.store16.Goals as goal

pub returns : goal.returns
unfolding store16
returns c = rw (c.stores.ensures, c.add_word.ensures, c.none.ensures, c.test16.ensures, c.word-value.ensures)
