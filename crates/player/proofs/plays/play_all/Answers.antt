-- The loop's invariant: what the operations passed have left, a text and a state (`Sofar`).
-- Assumes nothing.
use Prim.Native.Nat.{ℕ, ◌+◌, ◌-◌, ◌<◌}
use mathlib.Core.Path.{◌≡◌, refl, sym, ap, ◌∙◌}
use native.Mathlib.Omega.{arith}
use lib.ListN.{length, get_or}
use Rattle.journal.specs.Recorded.{fresh_twin, in_hand}
use Rattle.runfile.specs.Format.{parsed, operation_at, next_of}
use Rattle.runfile.specs.declared.Operation.TheVariants.{Step}
use Rattle.player.proofs.Playing.{sound, operations_in, line-bound, at_first, turn, finished, fits}
use Rattle.player.proofs.plays.play_all.Goals as goal

pub loop-at-init : goal.loop-at-init
loop-at-init g c =
    let a = c.args in
    let so = sound a.file.now a.from c.requires in
    let z : a.from.operations - a.from.operations ≡ 0 = omega arith in (
      omega (arith, so.starts),
      (
        rw (z, c.fresh-twin.ensures) (at_first c.run_settings-settings.result (operations_in (parsed a.file.now)) (in_hand a.mem.now a.journal.now fresh_twin) a.out.now),
        (refl, (refl, refl)),
      ),
    )

-- an operation stands at each place passed
pub returns-in_default : goal.returns-in_default
returns-in_default g c =
    let a = c.args in
    let l = c.loop-at in
    let so = sound a.file.now a.from c.requires in
    let i = l.at - a.from.operations in
    let k : i < length (operations_in (parsed a.file.now)) = omega (arith, so.starts) in
    let e : l.at ≡ a.from.operations + i = omega arith in
    let w = ap (λ (n : ℕ). next_of (operation_at a.file.now n)) e ∙ so.each i k in
    let d = sym c.in_default.is ∙ c.operation_at.ensures ∙ w in
    let z : ◌≡◌ {A = ℕ} 0 1 = cc in
    absurd (omega arith)

pub overflow_add-used : goal.overflow_add-used
overflow_add-used g c =
    let a = c.args in
    let l = c.loop-at in
    let r = c.act-shown.result in
    let so = sound a.file.now a.from c.requires in
    let v = rw c.run_settings-settings.ensures at l.invariant.1.0 in
    let h = fits so (in_hand a.mem.now a.journal.now fresh_twin) a.out.now l.at l.used l.out (in_hand l.mem l.journal l.twin) v l.invariant.0.1 in
    omega (arith, c.put_call-used.ensures.0, line-bound r.answer r.twin.machine)

pub loop-at-preserved : goal.loop-at-preserved
loop-at-preserved g c =
    let a = c.args in
    let l = c.loop-at in
    let so = sound a.file.now a.from c.requires in
    let os = operations_in (parsed a.file.now) in
    let i = l.at - a.from.operations in
    let k : i < length os = omega (arith, so.starts) in
    let e : l.at ≡ a.from.operations + i = omega arith in
    let w = ap (λ (n : ℕ). next_of (operation_at a.file.now n)) e ∙ so.each i k in
    let d = sym c.in-Some.is ∙ c.operation_at.ensures ∙ w in
    let o : c.in-Some.operation ≡ get_or os i Step = cc in
    let n : l.at + 1 - a.from.operations ≡ i + 1 = omega arith in
    let t = c.act-shown in
    let p = c.put_call-used in (
      omega arith,
      (
        rw n (turn c.run_settings-settings.result os (in_hand a.mem.now a.journal.now fresh_twin) a.out.now i l.used l.out (in_hand l.mem l.journal l.twin) l.invariant.1.0 k o t.ensures p.ensures.0 p.ensures.1),
        (p.auto.out ∙ l.invariant.1.1.0, (t.auto.mem ∙ l.invariant.1.1.1.0, t.auto.journal ∙ l.invariant.1.1.1.1)),
      ),
    )

pub returns : goal.returns
returns g c =
    let a = c.args in
    let l = c.loop-at in
    let so = sound a.file.now a.from c.requires in
    let v = rw c.run_settings-settings.ensures at l.invariant.1.0 in
    finished so (in_hand a.mem.now a.journal.now fresh_twin) a.out.now l.at l.used l.out (in_hand l.mem l.journal l.twin) v c.loop-at-test.false
