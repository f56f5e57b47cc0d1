-- The number in a line of its own, which is whole.
-- Assumes nothing.
use Rattle.answers.specs.Numbers.{number_of}
use Rattle.answers.specs.declared.Refusal.TheVariants.{Malformed}
use Rattle.text.specs.Lines.{alone}
use Rattle.text.proofs.Texts.{alone-fits, text-is-whole}
use Rattle.dump.proofs.tells.put_refusal.Goals as goal

pub returns : goal.returns
returns c = rw (← text-is-whole (alone (number_of Malformed)) (alone-fits (number_of Malformed))) (rw c.number.ensures at (rw c.alone.ensures at c.put.ensures))
