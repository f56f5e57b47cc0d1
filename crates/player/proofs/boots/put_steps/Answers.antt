-- The loop's invariant: the lines of the steps left, laid after the text so far, make the whole text (`ToGo`).
-- Assumes nothing.
use Prim.Native.Nat.{◌+◌, ◌-◌}
use mathlib.Core.Path.{◌≡◌, refl, ◌∙◌}
use native.Mathlib.Omega.{arith}
use Rattle.player.specs.Boots.{step_lines}
use Rattle.player.proofs.Playing.{line-bound}
use Rattle.player.proofs.Booting.{at_first, turn, finished}
use Rattle.player.proofs.boots.put_steps.Goals as goal

pub loop-made-init : goal.loop-made-init
loop-made-init c =
    let a = c.args in
    let z : a.count - 0 ≡ a.count = omega arith in
    rw z (at_first a.settings a.out.now a.at a.count a.mem.now a.machine (omega arith), (refl, refl))

pub overflow_add-used : goal.overflow_add-used
overflow_add-used c =
    let r = c.step-stepped.result in
    omega (arith, c.loop-made.invariant.0.room, c.loop-made-test.true, c.put_call-used.ensures.0, line-bound r.answer r.machine)

pub loop-made-preserved : goal.loop-made-preserved
loop-made-preserved c =
    let a = c.args in
    let l = c.loop-made in
    let s = c.step-stepped in
    let p = c.put_call-used in
    let o : a.count - (l._made + 1) ≡ (a.count - l._made) - 1 = omega arith in
    rw o (
      turn a.settings a.out.now a.at (step_lines a.settings a.count a.mem.now a.machine) (a.count - l._made) l.used l.out l.mem l.current l.invariant.0 (omega arith) s.ensures.0 s.ensures.1 p.ensures.0 p.ensures.1,
      (p.auto.out ∙ l.invariant.1.0, s.auto.mem ∙ l.invariant.1.1),
    )

pub shape_of-out : goal.shape_of-out
shape_of-out c = c.loop-made.invariant.1.0

pub shape_of-mem : goal.shape_of-mem
shape_of-mem c = c.loop-made.invariant.1.1

pub returns : goal.returns
returns c =
    let a = c.args in
    let l = c.loop-made in
    finished a.settings a.out.now a.at (step_lines a.settings a.count a.mem.now a.machine) (a.count - l._made) l.used l.out l.mem l.current l.invariant.0 (omega arith)
