-- The invariant: what is left of the run, with the counts so far, is the whole run (`Going`).
-- Assumes nothing.
use Prim.Native.Nat.{◌-◌}
use Rattle.journal.specs.Recorded.{in_hand}
use Rattle.runs.proofs.Loop.{Going}
use Rattle.runs.proofs.run_on.Given as goal

abbrev pub invariant-loop : goal.invariant-loop
invariant-loop g l =
    Going l.settings l.stop l.allowance (in_hand l.initial.mem l.initial.journal l.initial.current) (in_hand l.mem l.journal l.current) l.reads l.writes (l.allowance - l.counter)
