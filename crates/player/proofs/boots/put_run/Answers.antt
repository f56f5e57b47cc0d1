-- The reset's line, then the steps' lines after it, are the lines of the run.
-- Assumes nothing.
use native.Mathlib.Omega.{arith}
use Rattle.player.proofs.Playing.{line-bound}
use Rattle.player.proofs.Booting.{reset-first}
use Rattle.player.proofs.boots.put_run.Goals as goal

pub put_steps-requires : goal.put_steps-requires
put_steps-requires c =
    let r = c.reset-reset.result in
    omega (arith, c.put_call-at.ensures.0, line-bound r.answer r.machine)

pub returns : goal.returns
returns c =
    let a = c.args in
    let s = c.put_steps.ensures in
    let p = c.put_call-at.ensures in
    let r = c.reset-reset.ensures in
    reset-first a.settings a.count a.mem.now a.out.now c.fresh.ensures r.0 r.1 p.0 p.1 s.0 s.1
