-- After S9 every line is dropped; before it by what `line_of` answers.
-- Assumes nothing.
use Prim.Native.Nat.{◌≤◌, ◌<◌}
use borrow.Author.Rules.{rules}
use mathlib.Core.Path.{sym, ◌∙◌}
use native.Mathlib.Omega.{arith}
use lib.ListN.{length}
use Rattle.srecord.proofs.Lines.{line-fits}
use Rattle.salvage.proofs.Turns.{after-end, by_answer, by_end, by_line}
use Rattle.salvage.proofs.next.Goals as goal
use Rattle.salvage.proofs.next.Goals.{After-line_end-end}

fits : (c : After-line_end-end) → (c.args.at.from < c.line_end-end.result) × (c.line_end-end.result ≤ length c.args.file.now)
fits c = rw c.line_end-end.ensures (line-fits c.args.file.now c.args.at.from c.requires.0)

pub pass-requires : goal.pass-requires
pass-requires c = omega (arith, fits (goal.at.pass-requires c).After-line_end-end)

pub returns-then-at : goal.returns-then-at
returns-then-at c = c.pass.ensures ∙ after-end _ _ _ c.line_end-end.ensures c.if-at.true

pub slice_bounds-line_of-count : goal.slice_bounds-line_of-count
slice_bounds-line_of-count c = omega (arith, fits (goal.at.slice_bounds-line_of-count c).After-line_end-end)

pub slice_bounds-line_of-start : goal.slice_bounds-line_of-start
slice_bounds-line_of-start c = omega (arith, fits (goal.at.slice_bounds-line_of-start c).After-line_end-end)

pub slice_bounds-line_of-end : goal.slice_bounds-line_of-end
slice_bounds-line_of-end c = omega (arith, fits (goal.at.slice_bounds-line_of-end c).After-line_end-end)

pub pass-requires-in-Ok-End : goal.pass-requires-in-Ok-End
pass-requires-in-Ok-End c = omega (arith, fits (goal.at.pass-requires-in-Ok-End c).After-line_end-end)

pub returns-in-Ok-End : goal.returns-in-Ok-End
returns-in-Ok-End c = c.pass-in-Ok-End.ensures ∙ by_end _ _ _ c.line_end-end.ensures _ _ c.in-Ok-End.field-0-is c.if-at.false (sym c.line_of.ensures ∙ c.in-Ok-End.is)

pub pass-requires-in-Ok : goal.pass-requires-in-Ok
pass-requires-in-Ok c = omega (arith, fits (goal.at.pass-requires-in-Ok c).After-line_end-end)

pub returns-in-Ok : goal.returns-in-Ok
returns-in-Ok c = c.pass-in-Ok.ensures ∙ by_line _ _ _ c.line_end-end.ensures _ (λ a e. search rules) c.if-at.false (sym c.line_of.ensures ∙ c.in-Ok.is)

pub pass-requires-in-Err : goal.pass-requires-in-Err
pass-requires-in-Err c = omega (arith, fits (goal.at.pass-requires-in-Err c).After-line_end-end)

pub returns-in-Err : goal.returns-in-Err
returns-in-Err c = c.pass-in-Err.ensures ∙ by_answer _ _ _ c.line_end-end.ensures _ c.if-at.false (sym c.line_of.ensures ∙ c.in-Err.is)
