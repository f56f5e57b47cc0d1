-- The digits, and a line feed.
-- Assumes nothing.
use Rattle.text.specs.Lines.{alone}
use Rattle.text.proofs.Texts.{text-grows}
use Rattle.text.proofs.lines.alone.Goals as goal

pub returns : goal.returns
unfolding alone
returns c = rw (c.with_byte.ensures, c.decimal.ensures) (simp text-grows)
