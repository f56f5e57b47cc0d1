-- The word is tested and written.
-- Assumes nothing.
use Rattle.operations.specs.Words.{store16}
use Rattle.effects.proofs.words.store.Goals as goal

pub returns : goal.returns
unfolding store16
returns c = rw (c.stores.ensures, c.add_word.ensures, c.none.ensures, c.test.ensures, c.word-value.ensures)
