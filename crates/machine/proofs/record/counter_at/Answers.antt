-- The number in the part from the place on; past the end it is 0.
-- Assumes nothing.
use mathlib.Core.Path.{◌≡◌, sym, ap, ◌∙◌}
use mathlib.Core.List.{List}
use Prim.Native.Nat.{ℕ, ◌+◌, ◌-◌}
use lib.ListN.{length, drop, length-drop}
use lib.Seq.{take_all}
use native.Mathlib.Omega.{arith}
use Rattle.machine.specs.Record.{number_at}
use Rattle.machine.proofs.Header.{number-drop, number_past}
use Rattle.machine.proofs.record.counter_at.Goals as goal

pub returns-then-r-at : goal.returns-then-r-at
returns-then-r-at c = sym (number_past c.args.r.now c.args.at 8 (omega arith))

pub returns : goal.returns
returns c =
    let a = c.args in
    let e : a.at + 0 ≡ a.at = omega arith in
    c.number_at.ensures ∙ ap (λ (l : List ℕ). number_at l 0 8) (take_all (length a.r.now - a.at) (drop a.at a.r.now) (rw length-drop (omega arith))) ∙ number-drop a.r.now a.at 0 8 ∙ rw e
