-- `pull` writes the stack pointer last.
-- Assumes nothing.
use Rattle.stack.specs.Pulling.{pulled}
use Rattle.stack.proofs.pulling.pull.Goals as goal

pub returns : goal.returns
unfolding pulled
returns c = rw (c.changes.ensures, c.with_word.ensures, c.pull_all-pulled.ensures, c.word.ensures, c.word-own.ensures)
