-- Every text fits (`play-fits`).
-- Assumes nothing.
use Rattle.std.proofs.Common.{arith}
use Rattle.player.proofs.Bounds.{play-fits}
use Rattle.run.proofs.play_into.Goals as goal

pub returns : goal.returns
returns c = omega (arith, c.play.ensures.0, play-fits c.args.file.now)
