-- The loop's invariant: the lines of the steps left, laid after the text so far, make the whole text (`ToGo`).
-- Assumes nothing.
use Prim.Native.Nat.{◌-◌}
use mathlib.Core.Path.{◌≡◌}
use lib.ListN.{length}
use Rattle.player.specs.Boots.{step_lines}
use Rattle.player.proofs.Booting.{ToGo}
use Rattle.player.proofs.boots.put_steps.Given as goal

abbrev pub invariant-loop-made : goal.invariant-loop-made
invariant-loop-made l =
    ToGo l.settings l.initial.out l.at (step_lines l.settings l.count l.initial.mem l.initial.current) (l.count - l._made) l.used l.out l.mem l.current
    × ((length l.out ≡ length l.initial.out)
    × (length l.mem ≡ length l.initial.mem))
