-- The invariant: what is left of the run is the whole run; and a refused step leaves one step more, no more than were allowed.
-- Assumes nothing.
use Prim.Native.Nat.{ℕ, ◌^◌, ◌≤◌, ◌<◌}
use mathlib.Core.Path.{refl, sym, ap, ◌∙◌}
use native.Mathlib.Omega.{arith}
use borrow.Author.Tests.{ltb-true}
use lib.Dec.{ltb}
use Rattle.host.proofs.Back.{both}
use Rattle.host_run.specs.Runs.{Running}
use Rattle.host_run.proofs.Laws.{at_most_one, run_more, run_ends}
use borrow.Author.Rules.{rules}
use Rattle.host_run.proofs.run.Goals as goal

below : {n m : ℕ} → n ≤ m → m < 2 ^ 64 → n < 2 ^ 64
below h k = omega (arith, h, k)

pub loop-left-init : goal.loop-left-init
loop-left-init c = (refl, (refl, omega arith))

pub overflow_sub-left : goal.overflow_sub-left
overflow_sub-left c =
    let l = c.loop-left in
    let w = both (ltb 0 l.left) c.goes_on.result c.loop-left-test.true in
    let t : 0 < l.left = ltb-true 0 l.left w.0 in
    omega (arith, t)

pub loop-left-smaller : goal.loop-left-smaller
loop-left-smaller c =
    let l = c.loop-left in
    let w = both (ltb 0 l.left) c.goes_on.result c.loop-left-test.true in
    let t : 0 < l.left = ltb-true 0 l.left w.0 in
    omega (arith, t)

pub loop-left-preserved : goal.loop-left-preserved
loop-left-preserved c =
    let a = c.args in
    let l = c.loop-left in
    let w = both _ _ (rw c.goes_on.ensures at c.loop-left-test.true) in
    let s = c.step-last in
    (rw (s.ensures.0, s.ensures.1) (l.invariant.0 ∙ run_more a.settings l.left l.last l.mem (ltb-true _ _ w.0) w.1), (s.auto.mem ∙ l.invariant.1.0, omega (arith, ltb-true 0 l.left w.0, l.invariant.1.1, at_most_one s.result.answer)))

pub overflow_add-result : goal.overflow_add-result
overflow_add-result c =
    let l = c.loop-left in
    rw c.uncounted.ensures (record { fits = below l.invariant.1.1 (search rules) })

pub shape_of-mem : goal.shape_of-mem
shape_of-mem c = c.loop-left.invariant.1.0

pub returns : goal.returns
returns c =
    let a = c.args in
    let l = c.loop-left in
    let e = l.invariant.0 ∙ run_ends a.settings l.left l.last l.mem (rw c.goes_on.ensures at c.loop-left-test.false) in
    let f = rw c.none.ensures at e in
    (rw c.uncounted.ensures (sym (ap (λ (x : Running). x.ran) f)), sym (ap (λ (x : Running). x.memory) f))
