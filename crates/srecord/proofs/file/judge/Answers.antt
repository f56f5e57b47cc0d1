-- `judge`: the lines before `from` do not decide, and the answer is that of the lines from there on.
-- Assumes nothing.
use Rattle.std.proofs.Common.{◌≡◌, ◌<◌, ◌≤◌, length, drop, sym, refl, ap, ◌∙◌, arith, Result}
use Rattle.std.proofs.lemmas.Result.{err_from_is_err_and}
use Rattle.srecord.proofs.Lines.{line-fits, next-line, no_lines, answer_by, judge-by, passed}
use Rattle.srecord.specs.File.{meanings_of, judged, ended}
use Rattle.answers.specs.declared.Refusal.{Refusal}
use Rattle.srecord.specs.declared.line.Line.{Line}
use Rattle.srecord.proofs.file.judge.Goals as goal
use Rattle.srecord.proofs.file.judge.Goals.{After-line_end-end, After-line_of}

fits : (c : After-line_end-end) → (c.loop-from.from < c.line_end-end.result) × (c.line_end-end.result ≤ length c.args.file.now)
fits c = rw c.line_end-end.ensures (line-fits c.args.file.now c.loop-from.from c.loop-from-test.true)

-- the file's answer, by what the line at hand shows
answer : (c : After-line_of) {l : Result Line Refusal} → c.line_of.result ≡ l → answer_by l (meanings_of (drop c.line_end-end.result c.args.file.now)) ≡ judged (meanings_of c.args.file.now)
answer c e =
    sym (ap judged (next-line c.args.file.now c.loop-from.from c.loop-from-test.true _ c.line_end-end.ensures) ∙ judge-by _ _ (sym c.line_of.ensures ∙ e))
    ∙ c.loop-from.invariant.1

pub loop-from-init : goal.loop-from-init
loop-from-init c = (omega arith, refl)

pub slice_bounds-line_of-count : goal.slice_bounds-line_of-count
slice_bounds-line_of-count c = omega (arith, fits (goal.at.slice_bounds-line_of-count c).After-line_end-end)

pub slice_bounds-line_of-start : goal.slice_bounds-line_of-start
slice_bounds-line_of-start c = omega (arith, fits (goal.at.slice_bounds-line_of-start c).After-line_end-end)

pub slice_bounds-line_of-end : goal.slice_bounds-line_of-end
slice_bounds-line_of-end c = omega (arith, fits (goal.at.slice_bounds-line_of-end c).After-line_end-end)

pub returns-then-end-file : goal.returns-then-end-file
returns-then-end-file c =
    sym (ap (ended _) (next-line c.args.file.now c.line_end-end.result c.if-end-file.true _ refl))
    ∙ answer (goal.at.returns-then-end-file c).After-line_of (rw c.in-End.is at c.in_ok-start.was)

pub returns-in-End : goal.returns-in-End
returns-in-End c = sym (ap (ended _) (no_lines c.args.file.now c.line_end-end.result c.if-end-file.false)) ∙ answer (goal.at.returns-in-End c).After-line_of (rw c.in-End.is at c.in_ok-start.was)

pub returns-in_err-start : goal.returns-in_err-start
returns-in_err-start c = let p = err_from_is_err_and c.from_residual.result c.from_residual.ensures.1 in rw (p.1, p.2) (answer (goal.at.returns-in_err-start c).After-line_of c.in_err-start.was)

pub loop-from-smaller : goal.loop-from-smaller
loop-from-smaller c = omega (arith, fits (goal.at.loop-from-smaller c).After-line_end-end)

pub loop-from-preserved : goal.loop-from-preserved
loop-from-preserved c = (omega (arith, fits (goal.at.loop-from-preserved c).After-line_end-end), sym (passed _ _ c.in_default.not-End) ∙ answer (goal.at.loop-from-preserved c).After-line_of c.in_ok-start.was)

pub returns : goal.returns
unfolding judged
returns c = ap judged (sym (no_lines c.args.file.now c.loop-from.from c.loop-from-test.false)) ∙ c.loop-from.invariant.1
