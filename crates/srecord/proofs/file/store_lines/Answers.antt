-- `store_lines`: memory is as the lines before `from` leave it, and the lines from there on lead to the same memory.
-- Assumes nothing.
use Rattle.std.proofs.Common.{◌≡◌, ◌-◌, ◌<◌, ◌≤◌, List, ◌∷◌, rules, length, take, drop, sym, refl, ap, ◌∙◌, arith}
use Rattle.srecord.proofs.Lines.{line-fits, next-line, no_lines, data-line, data-kept, lands, lands-none, idle}
use Rattle.srecord.specs.File.{meanings_of, landed}
use Rattle.srecord.specs.Line.{Meaning, line_of}
use Rattle.srecord.proofs.file.store_lines.Goals as goal
use Rattle.srecord.proofs.file.store_lines.Goals.{After-line_end-end}

fits : (c : After-line_end-end) → (c.loop-from.from < c.line_end-end.result) × (c.line_end-end.result ≤ length c.args.file.now)
fits c = rw c.line_end-end.ensures (line-fits c.args.file.now c.loop-from.from c.loop-from-test.true)

-- the line at hand, and those after it
step : (c : After-line_end-end)
    → landed (line_of (take (c.line_end-end.result - c.loop-from.from) (drop c.loop-from.from c.args.file.now)) ∷ meanings_of (drop c.line_end-end.result c.args.file.now)) c.loop-from.mem
    ≡ landed (meanings_of c.args.file.now) c.args.mem.now
step c =
    ap (λ (ms : List Meaning). landed ms c.loop-from.mem) (sym (next-line c.args.file.now c.loop-from.from c.loop-from-test.true _ c.line_end-end.ensures))
    ∙ c.loop-from.invariant.1.1

pub loop-from-init : goal.loop-from-init
loop-from-init c = (omega arith, (omega arith, refl))

pub slice_bounds-text-count : goal.slice_bounds-text-count
slice_bounds-text-count c = omega (arith, fits (goal.at.slice_bounds-text-count c).After-line_end-end)

pub slice_bounds-text-start : goal.slice_bounds-text-start
slice_bounds-text-start c = omega (arith, fits (goal.at.slice_bounds-text-start c).After-line_end-end)

pub slice_bounds-text-end : goal.slice_bounds-text-end
slice_bounds-text-end c = omega (arith, fits (goal.at.slice_bounds-text-end c).After-line_end-end)

pub store_data-requires : goal.store_data-requires
store_data-requires c = let d = data-line _ _ _ (sym c.line_of.ensures ∙ rw c.in-Ok-Data.field-0-is at c.in-Ok-Data.is) in (omega arith, omega arith)

pub loop-from-smaller-in-Ok-Data : goal.loop-from-smaller-in-Ok-Data
loop-from-smaller-in-Ok-Data c = omega (arith, fits (goal.at.loop-from-smaller-in-Ok-Data c).After-line_end-end)

pub loop-from-preserved-in-Ok-Data : goal.loop-from-preserved-in-Ok-Data
loop-from-preserved-in-Ok-Data c =
    let d = data-line _ _ _ (sym c.line_of.ensures ∙ rw c.in-Ok-Data.field-0-is at c.in-Ok-Data.is) in
    let s = c.store_data.ensures in
    (omega (arith, fits (goal.at.loop-from-preserved-in-Ok-Data c).After-line_end-end), (data-kept _ _ _ _ _ d c.loop-from.invariant.1.0 s, rw s (sym (lands _ _ _ _ _ d.means) ∙ step (goal.at.loop-from-preserved-in-Ok-Data c).After-line_end-end)))

pub loop-from-smaller : goal.loop-from-smaller
loop-from-smaller c = omega (arith, fits (goal.at.loop-from-smaller c).After-line_end-end)

pub loop-from-preserved : goal.loop-from-preserved
loop-from-preserved c = (omega (arith, fits (goal.at.loop-from-preserved c).After-line_end-end), (c.loop-from.invariant.1.0, sym (idle _ _ _ c.line_of.ensures (λ a n e. cc)) ∙ step (goal.at.loop-from-preserved c).After-line_end-end))

pub loop-from-smaller-in-loop-from : goal.loop-from-smaller-in-loop-from
loop-from-smaller-in-loop-from c = omega (arith, fits (goal.at.loop-from-smaller-in-loop-from c).After-line_end-end)

pub loop-from-preserved-in-loop-from : goal.loop-from-preserved-in-loop-from
loop-from-preserved-in-loop-from c = (omega (arith, fits (goal.at.loop-from-preserved-in-loop-from c).After-line_end-end), (c.loop-from.invariant.1.0, sym (idle _ _ _ c.line_of.ensures (λ a n e. search rules)) ∙ step (goal.at.loop-from-preserved-in-loop-from c).After-line_end-end))

pub shape_of-mem : goal.shape_of-mem
shape_of-mem c = omega arith

pub returns : goal.returns
returns c =
    sym (ap (λ (ms : List Meaning). landed ms c.loop-from.mem) (no_lines c.args.file.now c.loop-from.from c.loop-from-test.false) ∙ lands-none _) ∙ c.loop-from.invariant.1.1
