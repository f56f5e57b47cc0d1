-- The sums so far, and the bytes that are left, give the sum of all.
-- Assumes nothing.
use Rattle.std.proofs.Common.{◌≡◌, ◌<◌, drop}
use Rattle.scenery.specs.Printed.{adler, adler_from}
use Rattle.scenery.proofs.printed.adler.Given as goal

abbrev pub invariant-loop-b : goal.invariant-loop-b
invariant-loop-b l = (l.low < 65521) × (l.high < 65521) × (adler_from l.low l.high (drop l.b-index l.bytes) ≡ adler l.bytes)
