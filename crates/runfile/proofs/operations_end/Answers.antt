-- The invariant: the operations that are left end where all end.
-- Assumes nothing.
use Prim.Native.Nat.{◌+◌, suc, ◌-◌}
use mathlib.Core.Path.{◌≡◌, sym, ◌∙◌}
use native.Mathlib.Omega.{arith}
use Rattle.runfile.specs.Format.{operations_at}
use Rattle.runfile.proofs.Sections.{no-operation, operation-end}
use Rattle.runfile.proofs.operations_end.Goals as goal

pub loop-passed-init : goal.loop-passed-init
loop-passed-init c = let z : c.args.count - 0 ≡ c.args.count = omega arith in rw z

pub returns-in-None : goal.returns-in-None
returns-in-None c =
    let f = c.args.file.now in
    let l = c.loop-passed in
    let left = c.args.count - l._passed in
    let s : left ≡ suc (left - 1) = omega arith in
    let o : c.args.count - (l._passed + 1) ≡ left - 1 = omega arith in
    sym (no-operation f (left - 1) l.next (sym c.operation_at.ensures ∙ c.in-None.is)) ∙ (rw s at l.invariant)

pub overflow_add-next : goal.overflow_add-next
overflow_add-next c =
    let f = c.args.file.now in
    let l = c.loop-passed in
    let left = c.args.count - l._passed in
    omega (arith, (operation-end f (left - 1) l.next (sym c.operation_at.ensures ∙ c.in-Some.is)).1)

pub loop-passed-preserved : goal.loop-passed-preserved
loop-passed-preserved c =
    let f = c.args.file.now in
    let l = c.loop-passed in
    let left = c.args.count - l._passed in
    let s : left ≡ suc (left - 1) = omega arith in
    let o : c.args.count - (l._passed + 1) ≡ left - 1 = omega arith in
    rw o (sym (operation-end f (left - 1) l.next (sym c.operation_at.ensures ∙ c.in-Some.is)).0 ∙ (rw s at l.invariant))

pub returns : goal.returns
unfolding operations_at
returns c =
    let l = c.loop-passed in
    let left = c.args.count - l._passed in
    let z : left ≡ 0 = omega arith in
    rw z at l.invariant
