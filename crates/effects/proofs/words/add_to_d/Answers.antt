-- The sum goes to D.
-- Assumes nothing.
use Rattle.operations.specs.Words.{add_d}
use Rattle.effects.proofs.words.add_to_d.Goals as goal

pub returns : goal.returns
unfolding add_d
returns c = rw (c.with_word.ensures, c.with_codes.ensures, c.add_words-out.ensures, c.word.ensures, c.read_u16-m.ensures)
