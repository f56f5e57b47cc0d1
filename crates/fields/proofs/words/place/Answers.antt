-- The place follows from what the column stands for.
-- Assumes nothing.
use Rattle.fields.specs.TwoOperands.{word_place}
use Rattle.fields.proofs.words.place.Goals as goal

pub returns-in_err-op : goal.returns-in_err-op
unfolding word_place
returns-in_err-op c = rw (c.from_residual.ensures, ← c.operation.ensures, c.in_err-op.was)

pub returns-in-Arithmetic : goal.returns-in-Arithmetic
unfolding word_place
returns-in-Arithmetic c = rw (c.entry_at.ensures, c.mode_of-mode.ensures, ← c.operation.ensures, c.in_ok-op.was, c.in-Arithmetic.is)

pub returns-in-Load : goal.returns-in-Load
unfolding word_place
returns-in-Load c = rw (c.entry_at-in-Load.ensures, c.mode_of-mode.ensures, ← c.operation.ensures, c.in_ok-op.was, c.in-Load.is)

pub returns-in-Store : goal.returns-in-Store
unfolding word_place
returns-in-Store c =
    rw (c.unless_immediate.ensures, c.entry_at-in-Store.ensures, c.mode_of-mode.ensures, ← c.operation.ensures, c.in_ok-op.was, c.in-Store.is)

pub returns-in-Call : goal.returns-in-Call
unfolding word_place
returns-in-Call c = rw (c.call.ensures, ← c.operation.ensures, c.in_ok-op.was, c.in-Call.is)
