-- An arm for each.
-- Assumes nothing.

use Rattle.mnemonics.proofs.letters.of_software.Goals as goal

pub returns-in-Swi : goal.returns-in-Swi
returns-in-Swi c = rw c.in-Swi.is

pub returns-in-Swi2 : goal.returns-in-Swi2
returns-in-Swi2 c = rw c.in-Swi2.is

pub returns-in-Swi3 : goal.returns-in-Swi3
returns-in-Swi3 c = rw c.in-Swi3.is
