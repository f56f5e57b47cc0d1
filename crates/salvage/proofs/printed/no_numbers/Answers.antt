-- The array is `no_numbers`, which is opened here and nowhere else.
-- Assumes nothing.
use mathlib.Core.Path.{refl}
use Rattle.salvage.specs.Printed.{no_numbers}
use Rattle.salvage.proofs.printed.no_numbers.Goals as goal

pub returns : goal.returns
unfolding no_numbers
returns c = refl
