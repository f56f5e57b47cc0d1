-- The pointer in use is written last.
-- Assumes nothing.
use Rattle.stack.specs.Pulling.{pulled}
use Rattle.stack.proofs.pulling.pull_registers.Goals as goal

pub returns-then-pointer-lt65472 : goal.returns-then-pointer-lt65472
unfolding pulled
returns-then-pointer-lt65472 c = rw (c.with_word.ensures, c.pull_plain-plain.ensures, c.word-pointer.ensures, c.word-own.ensures)

pub returns : goal.returns
unfolding pulled
returns c = rw (c.with_word-2.ensures, c.pull_all-pulled.ensures, c.word-pointer.ensures, c.word-own.ensures)
