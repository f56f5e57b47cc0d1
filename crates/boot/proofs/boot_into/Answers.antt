-- The input is bytes, so its text fits (`boot-fits`).
-- Assumes nothing.
use Rattle.std.proofs.Common.{arith}
use Rattle.player.proofs.Bounds.{boot-fits}
use Rattle.boot.proofs.boot_into.Goals as goal

pub returns : goal.returns
returns c =
    let h = boot-fits c.args.input.now (λ i. omega (arith, c.type_inv.input i)) in
    omega (arith, c.boot.ensures.0, h)
