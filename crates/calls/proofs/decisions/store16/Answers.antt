-- The word is that of the register.
-- Assumes nothing.
use Rattle.memory.proofs.Folds.{two-writes}
use Rattle.operations.specs.Words.{store16}
use Rattle.calls.proofs.decisions.store16.Goals as goal

pub returns : goal.returns
unfolding store16
returns c = rw (c.tell_word.ensures, c.test16.ensures, c.word-value.ensures, two-writes)
