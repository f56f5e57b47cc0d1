-- A run by steps: one more, and the end.
-- Assumes nothing.
use Rattle.std.specs.Prelude.{Err, Ok, Result, ⊤}
use Prim.Native.Nat.{ℕ, zero, suc, ◌-◌, ◌≤◌, ◌<◌}
use mathlib.Core.Path.{◌≡◌, refl}
use mathlib.Core.Bool.{Bool, true, false, ◌&&◌}
use mathlib.Core.List.{List}
use native.Mathlib.Omega.{arith}
use borrow.Author.Tests.{lt-ltb}
use lib.Dec.{ltb}
use Rattle.machine.specs.declared.Settings.{Settings}
use Rattle.calls.specs.Steps.{step_of, memory_after_step}
use Rattle.calls.specs.declared.Report.{Report}
use Rattle.host.specs.declared.HostTwin.{HostTwin}
use Rattle.host_run.specs.Runs.{goes_on, uncounted, Running, running, run_stopped, host_ran, not_run, RunEnds}
use Rattle.host_run.specs.declared.HostRan.{HostRan}
use Rattle.answers.specs.declared.Refusal.{Refusal}

pub at_most_one : (a : Result ⊤ Refusal) → uncounted a ≤ 1
at_most_one (Ok u) = omega arith
at_most_one (Err x) = omega arith

module _ (s : Settings) where
  pub run_more : (n : ℕ) (r : Report) (mem : List ℕ) → 0 < n → goes_on r ≡ true
      → running s n r mem ≡ running s (n - 1) (step_of mem r.machine s) (memory_after_step mem r.machine s)
  unfolding running
  run_more zero r mem h g = absurd (omega arith)
  run_more (suc n) r mem h g = let e : suc n - 1 ≡ n = omega arith in rw (g, e)

  pub run_ends : (n : ℕ) (r : Report) (mem : List ℕ) → (ltb 0 n && goes_on r) ≡ false → running s n r mem ≡ run_stopped r n mem
  unfolding running
  run_ends zero r mem h = refl
  run_ends (suc n) r mem h = let g : goes_on r ≡ false = rw (lt-ltb 0 (suc n) (omega arith)) at h in rw g

module _ (named : Bool) (run : Running) (t : HostTwin) (count : ℕ) (memory : List ℕ) (r : HostRan) where
  pub runs : (us : List ℕ) → named ≡ true → r ≡ host_ran t run.ran → us ≡ run.memory → RunEnds named run t count memory r us
  runs us h p q = record { result = rw h p; memory-is = rw h q }

  pub runs-not : named ≡ false → r ≡ not_run t count → RunEnds named run t count memory r memory
  runs-not h p = record { result = rw h p; memory-is = rw h refl }
