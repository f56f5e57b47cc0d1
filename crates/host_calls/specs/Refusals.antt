-- A refused recorded call of a host, undo or drop leaves its twin, memory and journal, every byte.
-- Assumes nothing.
use Rattle.std.specs.Prelude.{ℕ, Bool, true, List, ◌≡◌, Err}
use Rattle.answers.specs.declared.Refusal.{Refusal}
use Rattle.machine.specs.declared.Settings.{Settings}
use Rattle.calls.specs.declared.InterruptType.{InterruptType}
use Rattle.journal.specs.Recorded.{State, Ended, stepped, interrupted, was_reset}
use Rattle.journal.specs.Undos.{undone}
use Rattle.journal.specs.Drops.{dropped}
use Rattle.host.specs.Numbers.{is_twin}
use Rattle.host.specs.Ends.{Ends}
use Rattle.host.specs.declared.HostTwin.{HostTwin}
use Rattle.host.specs.declared.HostOutcome.{HostOutcome}

-- the calls on a twin leave what they had in hand
abbrev pub Keeps : (State → Ended) → Type 0
Keeps call = (s : State) (x : Refusal) → (call s).answer ≡ Err x → (call s).state ≡ s

pub record CallsKeep : Type 0 where
  pub step : (t : Settings) → Keeps (stepped t)
  pub interrupt : (t : Settings) (i : InterruptType) → Keeps (interrupted t i)
  pub reset : (t : Settings) → Keeps (was_reset t)
  pub undo : Keeps undone
  pub drop : (k : ℕ) → Keeps (dropped k)

-- so do the host's, whose test of the numbers names the twin
pub record HostKept (t : HostTwin) (memory journal : List ℕ) (r : HostOutcome) (memory' journal' : List ℕ) : Type 0 where
  pub twin : r.twin ≡ t
  pub memory-is : memory' ≡ memory
  pub journal-is : journal' ≡ journal

abbrev pub RefusedKept : Type 0
RefusedKept =
    (named : Bool) (call : State → Ended) (t : HostTwin) (memory journal : List ℕ) (r : HostOutcome) (memory' journal' : List ℕ)
    → Keeps call → (named ≡ true → is_twin t ≡ true) → Ends named call t memory journal r memory' journal' → (r.answer ≡ 0 → ⊥)
    → HostKept t memory journal r memory' journal'
