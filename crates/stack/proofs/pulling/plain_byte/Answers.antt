-- Below FFE0 a byte lies at its address.
-- Assumes nothing.
use Rattle.std.proofs.lemmas.Option.{gets}
use Rattle.std.proofs.lemmas.Grind.{common_steps}
use Rattle.std.proofs.Common.{arith}
use Rattle.memory.specs.Map.{byte_at}
use Rattle.memory.proofs.Ranges.{place-low}
use Rattle.stack.proofs.pulling.plain_byte.Goals as goal

pub returns : goal.returns
unfolding byte_at
returns c = rw (c.unwrap_or.ensures, c.copied.ensures, ← (place-low c.args.at (omega arith))) (let h = c.get.ensures in grind (arith, common_steps, gets))
