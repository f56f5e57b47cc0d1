-- No byte is used.
-- Assumes nothing.
use mathlib.Core.Path.{refl}
use Rattle.text.specs.Lines.{text_of}
use Rattle.text.proofs.lines.Text.empty.Goals as goal

pub returns : goal.returns
unfolding text_of
returns c = refl
