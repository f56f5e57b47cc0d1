-- What the answers take is in bounds, and the front of that length has it.
use Rattle.std.proofs.Common.{sym}
use Rattle.std.proofs.lemmas.List.{length-take-le}
use Rattle.cases.proofs.answer_block.Goals as goal

pub returns : goal.returns
returns c = (c.loop-line.invariant.1, sym (length-take-le _ _ c.loop-line.invariant.1))
