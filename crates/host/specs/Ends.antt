-- How a call of a host ends: where its numbers name nothing it is refused, and leaves every byte; else it ends as the call on a twin does.
-- Assumes nothing.
use Rattle.std.specs.Prelude.{ℕ, Bool, cond, List, ◌≡◌}
use Rattle.calls.specs.declared.Report.{Report}
use Rattle.journal.specs.Recorded.{State, Ended, returned, in_hand}
use Rattle.host.specs.Structs.{twin_from, host_outcome, keeping, unnamed}
use Rattle.host.specs.declared.HostTwin.{HostTwin}
use Rattle.host.specs.declared.HostOutcome.{HostOutcome}

-- what a call has in hand
abbrev pub handed : List ℕ → List ℕ → HostTwin → State
handed memory journal t = in_hand memory journal (twin_from t)

-- a recorded call, or undo: `call` on the twin, where the numbers are `named`
pub record Ends (named : Bool) (call : State → Ended) (t : HostTwin) (memory journal : List ℕ) (r : HostOutcome) (memory' journal' : List ℕ) : Type 0 where
  pub result : r ≡ cond named (host_outcome (returned (call (handed memory journal t)))) (unnamed t)
  pub memory-is : memory' ≡ cond named (call (handed memory journal t)).state.memory memory
  pub journal-is : journal' ≡ cond named (call (handed memory journal t)).state.journal journal

-- drop, which is lent no memory: whatever memory is, it stays
abbrev pub EndsEach : Bool → (State → Ended) → HostTwin → List ℕ → HostOutcome → List ℕ → Type 0
EndsEach named call t journal r journal' = (memory : List ℕ) → Ends named call t memory journal r memory journal'

-- a call that is not recorded: what it reports, and memory after it
pub record Reports (named : Bool) (report : Report) (after : List ℕ) (t : HostTwin) (memory : List ℕ) (r : HostOutcome) (memory' : List ℕ) : Type 0 where
  pub result : r ≡ cond named (host_outcome (keeping t report)) (unnamed t)
  pub memory-is : memory' ≡ cond named after memory
