-- A run with an allowance (document 02, [12]): recorded steps, until one is refused, the machine waits, PC is at the stop address, a device
-- write is reported, or the allowance is used up. They are tested in this order after each step; before the first, the allowance alone.
-- Assumes nothing.
use Rattle.std.specs.Prelude.{◌≡◌, ℕ, zero, suc, ◌+◌, ◌%◌, ◌^◌, Bool, true, false, cond, List, [], ◌==◌, nat_lt, Err, None, Ok, Option, Result, Some, ⊤}
use Rattle.answers.specs.Numbers.{number_of_answer}
use Rattle.memory.specs.Writes.{writes_of}
use Rattle.machine.specs.declared.Settings.{Settings}
use Rattle.machine.specs.declared.Wait.{Wait}
use Rattle.machine.specs.declared.Wait.TheVariants.{Running, Cwai, Sync}
use Rattle.journal.specs.Recorded.{State, Ended, returned, stepped}
use Rattle.journal.specs.declared.Outcome.{Outcome}
use Rattle.runs.specs.declared.Reason.{Reason}
use Rattle.runs.specs.declared.Reason.TheVariants.{StepRefused, Waits, StopAddress, DeviceWrite, Allowance}
use Rattle.runs.specs.declared.RunOutcome.{RunOutcome}
use Rattle.answers.specs.declared.Refusal.{Refusal}

-- ---- what is tested after a step

abbrev pub is_refused : Result ⊤ Refusal → Bool
is_refused (Ok u) = false
is_refused (Err x) = true

abbrev pub waits : Wait → Bool
waits Running = false
waits Cwai = true
waits Sync = true

abbrev pub is_at : Option ℕ → ℕ → Bool
is_at None pc = false
is_at (Some a) pc = pc == a

-- the first that holds ends the run; where none does, it goes on as long as steps are allowed
unfoldable pub tested : Option ℕ → Outcome → Option Reason
tested stop o =
    cond (is_refused o.answer) (Some StepRefused)
    (cond (waits o.twin.machine.wait) (Some Waits)
    (cond (is_at stop o.twin.machine.regs.pc) (Some StopAddress)
    (cond (nat_lt 0 o.devices.count) (Some DeviceWrite)
    None)))

-- ---- the run

-- the bytes that a step reports to have read and written
abbrev pub reads_in : Outcome → ℕ
reads_in o = o.reads

abbrev pub writes_in : Outcome → ℕ
writes_in o = o.writes

-- how a run ends: why, how its last step ended, and all bytes that its steps read and wrote
pub record RunEnded : Type 0 where
  pub reason : Reason
  pub last : Ended
  pub reads : ℕ
  pub writes : ℕ

-- where no step was made: nothing is refused, reported or counted
abbrev pub unmade : State → Ended
unmade s = record { answer = (Ok tt); state = s; devices = writes_of []; reads = 0; writes = 0 }

abbrev pub ends_by : Reason → Ended → RunEnded
ends_by reason e = record { reason = reason; last = e; reads = 0; writes = 0 }

-- a run that goes on has the bytes of this step beside those of the steps after it
abbrev pub counting : Ended → RunEnded → RunEnded
counting e r = record { reason = r.reason; last = r.last; reads = reads_in (returned e) + r.reads; writes = writes_in (returned e) + r.writes }

abbrev pub unless_ends : Option Reason → Ended → RunEnded → RunEnded
unless_ends (Some reason) e rest = ends_by reason e
unless_ends None e rest = rest

-- at most so many steps, after one that ended as e
unfoldable pub running : (State → Ended) → Option ℕ → ℕ → Ended → RunEnded
running step stop zero e = ends_by Allowance e
running step stop (suc n) e =
    let f = step e.state in
    counting f (unless_ends (tested stop (returned f)) f (running step stop n f))

-- a run of recorded steps with an allowance of n
abbrev pub ran : Settings → Option ℕ → ℕ → State → RunEnded
ran t stop n s = running (stepped t) stop n (unmade s)

-- ---- what it returns

-- the reasons in numbers, in the order in which they are tested; 0 is no reason
abbrev pub reason_number : Reason → ℕ
reason_number StepRefused = 1
reason_number Waits = 2
reason_number StopAddress = 3
reason_number DeviceWrite = 4
reason_number Allowance = 5

-- the refused step's number, 0 for every other reason; both counts wrap; its own answer is 0, always
abbrev pub ran_returned : RunEnded → RunOutcome
ran_returned r =
    record {
      devices = r.last.devices;
      twin = r.last.state.twin;
      reason = r.reason;
      number = number_of_answer r.last.answer;
      reads = r.reads % 2 ^ 64;
      writes = r.writes % 2 ^ 64;
      answer = (Ok tt);
    }

-- a result, a memory and a journal are those of a run that ended so
pub record RunLeaves (o : RunOutcome) (memory journal : List ℕ) (r : RunEnded) : Type 0 where
  pub result : o ≡ ran_returned r
  pub memory-is : memory ≡ r.last.state.memory
  pub journal-is : journal ≡ r.last.state.journal
