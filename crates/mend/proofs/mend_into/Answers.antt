-- Text and report fit (`mend-fits`).
-- Assumes nothing.
use Rattle.salvage.proofs.Mending.{mend-fits}
use Rattle.mend.proofs.mend_into.Goals as goal

pub returns : goal.returns
returns c =
    let h = mend-fits c.args.input.now c.args.out.now in
    rw c.mend.ensures.0 (h.text, h.report)
