-- A number in a line of its own is whole in a text.
-- Assumes nothing.
use Rattle.salvage.proofs.Telling.{said-alone}
use Rattle.salvage.proofs.printed.put_refusal.Goals as goal

pub returns : goal.returns
returns c =
    rw (← said-alone c.args.refusal _ _ c.number.ensures c.alone.ensures) c.put.ensures
