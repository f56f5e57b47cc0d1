-- One mask tests both bits.
-- Assumes nothing.
use Rattle.std.proofs.Common.{rules}
use Rattle.decode.proofs.PostBytes.{indirect}
use Rattle.decode.proofs.postbyte.is_indirect.Goals as goal

pub returns : goal.returns
returns c = indirect c.args.post (search rules)
