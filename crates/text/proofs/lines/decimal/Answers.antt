-- The digits after an empty text.
-- Assumes nothing.
use Rattle.text.proofs.Texts.{text-grows}
use Rattle.text.proofs.lines.decimal.Goals as goal

pub returns : goal.returns
returns c = rw (c.with_decimal.ensures, c.empty.ensures) (simp text-grows)
