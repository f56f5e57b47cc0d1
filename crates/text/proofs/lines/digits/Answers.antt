-- The invariant: the digits counted, and those of what is left, are all and one more. The measure is what is left.
-- Assumes nothing.
use mathlib.Core.Path.{ap}
use native.Mathlib.Omega.{arith}
use lib.ListN.{length}
use Rattle.text.proofs.Decimals.{short, one_more, at-most-twenty}
use Rattle.text.proofs.lines.digits.Goals as goal

pub loop-rest-init : goal.loop-rest-init
loop-rest-init c = (omega arith, omega arith)

pub overflow_add-count : goal.overflow_add-count
overflow_add-count c = omega (arith, at-most-twenty c.args.n)

pub loop-rest-smaller : goal.loop-rest-smaller
loop-rest-smaller c = omega arith

pub loop-rest-preserved : goal.loop-rest-preserved
loop-rest-preserved c = (omega arith, omega (arith, one_more c.loop-rest.rest c.loop-rest-test.true (omega arith)))

pub returns : goal.returns
returns c = omega (arith, ap length (short c.loop-rest.rest (omega arith)))
