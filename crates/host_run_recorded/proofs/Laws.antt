-- How the call ends: where the numbers name nothing, and where they are named.
-- Assumes nothing.
use Prim.Native.Nat.{ℕ}
use mathlib.Core.Bool.{Bool, true, false}
use mathlib.Core.List.{List}
use mathlib.Core.Path.{◌≡◌, refl, ap, ◌∙◌}
use Rattle.host.specs.declared.HostTwin.{HostTwin}
use Rattle.runs.specs.Runs.{RunEnded, RunLeaves}
use Rattle.runs.specs.declared.RunOutcome.{RunOutcome}
use Rattle.host_run_recorded.specs.Runs.{host_stopped, not_started, HostRunEnds}
use Rattle.host_run_recorded.specs.declared.HostStopped.{HostStopped}

module _ (named : Bool) (run : RunEnded) (t : HostTwin) (memory journal : List ℕ) (r : HostStopped) where
  pub refuses : named ≡ false → r ≡ not_started t → HostRunEnds named run t memory journal r memory journal
  refuses h p = record { result = rw h p; memory-is = rw h refl; journal-is = rw h refl }

  pub passes : (o : RunOutcome) (us vs : List ℕ) → named ≡ true → RunLeaves o us vs run → r ≡ host_stopped o
      → HostRunEnds named run t memory journal r us vs
  passes o us vs h q p = record { result = rw h (p ∙ ap host_stopped q.result); memory-is = rw h q.memory-is; journal-is = rw h q.journal-is }
