-- A turn of the loop by `Loop`: the run ends, goes on, or has used up its allowance.
-- Assumes nothing.
use Rattle.std.proofs.Common.{◌≡◌, ℕ, ◌+◌, ◌-◌, ◌%◌, ◌^◌, ◌<◌, ◌≤◌, sym, ap, ◌∙◌, arith}
use Rattle.journal.specs.Recorded.{in_hand}
use Rattle.runs.proofs.Loop.{turns, leaves, used-up}
use Rattle.runs.proofs.run_on.Goals as goal

-- a count with what a step has read or written
counted : (n k r : ℕ) → k ≡ r → (n + k) % 2 ^ 64 ≡ (n + r) % 2 ^ 64
counted n k r e = ap (λ (m : ℕ). (n + m) % 2 ^ 64) e

one_less : (n k : ℕ) → n - k - 1 ≡ n - (k + 1)
one_less n k = omega arith

pub returns-in-Some-clause-run_leaves : goal.returns-in-Some-clause-run_leaves
returns-in-Some-clause-run_leaves g c =
    let a = c.args in
    let l = c.loop in
    let s = c.step-last in
    leaves a.settings a.stop a.allowance (in_hand a.mem.now a.journal.now a.twin) (in_hand l.mem l.journal l.current) l.reads l.writes (a.allowance - l.counter) l.invariant
    s.result _ _ _ _ s.ensures.leaves
    (counted l.reads _ _ c.from-reads.ensures)
    (counted l.writes _ _ c.from-writes.ensures)
    (omega (arith, c.loop-test.true)) _ _
    (sym c.test.ensures ∙ c.in-Some.is)
    (rw c.number.ensures)

pub loop-preserved : goal.loop-preserved
loop-preserved g c =
    let a = c.args in
    let l = c.loop in
    let s = c.step-last in
    rw (one_less a.allowance l.counter)
    at (turns a.settings a.stop a.allowance (in_hand a.mem.now a.journal.now a.twin) (in_hand l.mem l.journal l.current) l.reads l.writes (a.allowance - l.counter) l.invariant
    s.result _ _ _ _ s.ensures.leaves
    (counted l.reads _ _ c.from-reads.ensures)
    (counted l.writes _ _ c.from-writes.ensures)
    (omega (arith, c.loop-test.true))
    (sym c.test.ensures ∙ c.in_default.is))

pub returns-clause-run_leaves : goal.returns-clause-run_leaves
returns-clause-run_leaves g c =
    let a = c.args in
    let l = c.loop in
    rw c.none.ensures
    (used-up a.settings a.stop a.allowance (in_hand a.mem.now a.journal.now a.twin) (in_hand l.mem l.journal l.current) l.reads l.writes (a.allowance - l.counter) l.invariant (omega (arith, c.loop-test.false)))
