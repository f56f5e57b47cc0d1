-- Each row of the manual is named by its operation: one test that antt computes.
-- Assumes nothing.
use mathlib.Core.Path.{refl}
use Rattle.mnemonics.specs.Mnemonics.{EachNamed}

pub each-named : EachNamed
each-named = refl
