-- What holds of every run (document 02, [12]). An allowance is any number here; the code is given one of 64 bits.
-- Assumes nothing.
use Rattle.std.specs.Prelude.{◌≡◌, ℕ, zero, suc, ◌+◌, ◌%◌, ◌^◌, ◌<◌, ◌≤◌, false, ◌≢◌, ◌↔◌, List, [], Ok, Option}
use Rattle.memory.specs.Fits.{Bytes}
use Rattle.memory.specs.Writes.{writes_of}
use Rattle.machine.specs.Machine.{MachineFits}
use Rattle.machine.specs.declared.Machine.{Machine}
use Rattle.machine.specs.declared.Settings.{Settings}
use Rattle.journal.specs.Record.{All}
use Rattle.journal.specs.Recorded.{State, stepped}
use Rattle.journal.specs.Undos.{undone}
use Rattle.history.specs.Sequence.{Event, Legal, Same, run, without_records}
use Rattle.runs.specs.Runs.{waits, is_at, RunEnded, ran, reason_number, ran_returned}
use Rattle.runs.specs.declared.Reason.{Reason}
use Rattle.runs.specs.declared.Reason.TheVariants.{StepRefused, Allowance}
use Rattle.runs.specs.declared.RunOutcome.{RunOutcome}

-- ---- allowances

-- A larger allowance changes nothing of a run that ended for one of the first four reasons
abbrev pub LargerAllowance : Type 0
LargerAllowance =
    (t : Settings) (stop : Option ℕ) (n m : ℕ) (s : State) → n ≤ m → (ran t stop n s).reason ≢ Allowance → ran t stop m s ≡ ran t stop n s

-- Two runs, one after the other: what the second returns, with the bytes of both
abbrev pub one_after : RunOutcome → RunOutcome → RunOutcome
one_after a b =
    record {
      devices = b.devices;
      twin = b.twin;
      reason = b.reason;
      number = b.number;
      reads = (a.reads + b.reads) % 2 ^ 64;
      writes = (a.writes + b.writes) % 2 ^ 64;
      answer = b.answer;
    }

pub record Joined (a b c : RunEnded) : Type 0 where
  pub result : ran_returned c ≡ one_after (ran_returned a) (ran_returned b)
  pub state : c.last.state ≡ b.last.state

-- A run that ended on its allowance, n, and one of m from there are one of n + m, with a stop address or without
abbrev pub RunsJoin : Type 0
RunsJoin =
    (t : Settings) (stop : Option ℕ) (n m : ℕ) (s : State) → (ran t stop n s).reason ≡ Allowance
    → Joined (ran t stop n s) (ran t stop m (ran t stop n s).last.state) (ran t stop (n + m) s)

-- ---- what the reason tells

pub record Tells (stop : Option ℕ) (n : ℕ) (r : RunEnded) : Type 0 where
  -- a number beside one reason, and 0 beside the others
  pub number : (r.reason ≡ StepRefused) ↔ ((ran_returned r).number ≢ 0)
  -- no device write where a step was refused, or where the allowance was used up
  pub refused : r.reason ≡ StepRefused → r.last.devices ≡ writes_of []
  pub used-up : r.reason ≡ Allowance → r.last.devices ≡ writes_of []
  -- where the allowance was used up by at least one step, the machine runs on and is not at the stop address
  pub runs_on : r.reason ≡ Allowance → 0 < n → waits r.last.state.twin.machine.wait ≡ false
  pub elsewhere : r.reason ≡ Allowance → 0 < n → is_at stop r.last.state.twin.machine.regs.pc ≡ false

abbrev pub ReasonsTell : Type 0
ReasonsTell = (t : Settings) (stop : Option ℕ) (n : ℕ) (s : State) → Tells stop n (ran t stop n s)

-- no two reasons have one number
abbrev pub ReasonsApart : Type 0
ReasonsApart = (x y : Reason) → reason_number x ≡ reason_number y → x ≡ y

-- ---- a run is so many steps

-- the state after k recorded steps, and after k undos
unfoldable pub after : Settings → ℕ → State → State
after t zero s = s
after t (suc k) s = after t k (stepped t s).state

unfoldable pub back : ℕ → State → State
back zero s = s
back (suc k) s = (undone (back k s)).state

pub record IsSteps (t : Settings) (n : ℕ) (s : State) (r : RunEnded) : Type 0 where
  pub steps : ℕ
  pub most : steps ≤ n
  pub state : r.last.state ≡ after t steps s
  pub accepted : (i : ℕ) → i < steps → (stepped t (after t i s)).answer ≡ (Ok tt)
  -- where the allowance was used up, as many as it allowed
  pub all : r.reason ≡ Allowance → steps ≡ n

abbrev pub RunIsSteps : Type 0
RunIsSteps = (t : Settings) (stop : Option ℕ) (n : ℕ) (s : State) → IsSteps t n s (ran t stop n s)

-- From e, k undos, each accepted, lead back to s: its machine, its count of records, and its memory outside FF00-FFDF
pub record TakenBack (s e : State) (k : ℕ) : Type 0 where
  pub accepted : (i : ℕ) → i < k → (undone (back i e)).answer ≡ (Ok tt)
  pub machine : (back k e).twin.machine ≡ s.twin.machine
  pub records : (back k e).twin.records ≡ s.twin.records
  pub memory : Same (back k e).memory s.memory

-- Demand 3 through a run: after any sequence of calls, as many undos as the run made steps bring back how it began
abbrev pub RunTakenBack : Type 0
RunTakenBack =
    (t : Settings) (stop : Option ℕ) (n : ℕ) (m : Machine) (mem j : List ℕ) (es : List Event) → MachineFits m → Bytes mem → All Legal es
    → let s = (run es (without_records m mem j)).now in
    (h : IsSteps t n s (ran t stop n s)) → TakenBack s (ran t stop n s).last.state h.steps
