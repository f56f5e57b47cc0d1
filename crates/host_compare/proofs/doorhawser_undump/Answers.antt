-- The call on memory; its machine, or a fresh one and the refusal's number.
-- Assumes nothing.
use mathlib.Core.Path.{sym, ◌∙◌}
use Rattle.host_compare.proofs.doorhawser_undump.Goals as goal

pub returns-in-Ok : goal.returns-in-Ok
returns-in-Ok c =
    let r = c.read.ensures in
    (rw (c.undumped_as.ensures, ← sym c.in-Ok.is ∙ r.0), r.1)

pub returns-in-Err : goal.returns-in-Err
returns-in-Err c =
    let r = c.read.ensures in
    (rw (c.undumped_as-in-Err.ensures, c.fresh.ensures, c.number.ensures, ← sym c.in-Err.is ∙ r.0), r.1)
