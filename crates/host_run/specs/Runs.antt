-- A run: at most so many steps that are not recorded, up to and with the first that is refused or reports a device write.
-- Assumes nothing.
use Rattle.std.specs.Prelude.{ℕ, zero, suc, ◌+◌, Bool, true, false, cond, ◌&&◌, List, [], ◌≡◌, eqb, Err, Ok, Result, ⊤}
use Rattle.memory.specs.Writes.{writes_of}
use Rattle.machine.specs.declared.Machine.{Machine}
use Rattle.machine.specs.declared.Settings.{Settings}
use Rattle.calls.specs.Steps.{step_of, memory_after_step}
use Rattle.calls.specs.declared.Report.{Report}
use Rattle.host.specs.Structs.{host_outcome, keeping, unnamed}
use Rattle.host.specs.declared.HostTwin.{HostTwin}
use Rattle.host_run.specs.declared.HostRan.{HostRan}
use Rattle.host_run.specs.declared.Ran.{Ran}
use Rattle.answers.specs.declared.Refusal.{Refusal}

abbrev pub is_done : Result ⊤ Refusal → Bool
is_done (Ok u) = true
is_done (Err x) = false

-- after a step that was carried out and reported no device write
unfoldable pub goes_on : Report → Bool
goes_on r = is_done r.answer && eqb r.devices.count 0

-- before the first step
abbrev pub before : Machine → Report
before m = record { devices = writes_of []; machine = m; reads = 0; writes = 0; answer = (Ok tt) }

-- the last step, the steps allowed less those that were carried out, and memory
pub record Running : Type 0 where
  pub ran : Ran
  pub memory : List ℕ

-- a step that is refused does not count
abbrev pub uncounted : Result ⊤ Refusal → ℕ
uncounted (Ok u) = 0
uncounted (Err x) = 1

abbrev pub run_stopped : Report → ℕ → List ℕ → Running
run_stopped r left mem = record { ran = record { last = r; left = left + uncounted r.answer }; memory = mem }

-- at most so many steps more, after one that ended so
unfoldable pub running : Settings → ℕ → Report → List ℕ → Running
running s zero r mem = run_stopped r 0 mem
running s (suc n) r mem = cond (goes_on r) (running s n (step_of mem r.machine s) (memory_after_step mem r.machine s)) (run_stopped r (suc n) mem)

-- what a host gets of a run, and where its numbers name nothing
abbrev pub host_ran : HostTwin → Ran → HostRan
host_ran t r = record { last = host_outcome (keeping t r.last); left = r.left }

abbrev pub not_run : HostTwin → ℕ → HostRan
not_run t count = record { last = unnamed t; left = count }

pub record RunEnds (named : Bool) (run : Running) (t : HostTwin) (count : ℕ) (memory : List ℕ) (r : HostRan) (memory' : List ℕ) : Type 0 where
  pub result : r ≡ cond named (host_ran t run.ran) (not_run t count)
  pub memory-is : memory' ≡ cond named run.memory memory
