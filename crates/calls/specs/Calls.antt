-- The three calls as one type, and what holds of each: a refused call changes nothing, a call stores at most twelve bytes, and widths are kept.
-- Assumes nothing.
use Rattle.std.specs.Prelude.{◌≡◌, ℕ, ◌≤◌, List, length, Err}
use Rattle.answers.specs.declared.Refusal.{Refusal}
use Rattle.memory.specs.Fits.{Bytes}
use Rattle.memory.specs.Writes.{listed}
use Rattle.machine.specs.Machine.{MachineFits}
use Rattle.machine.specs.declared.Machine.{Machine}
use Rattle.machine.specs.declared.Settings.{Settings}
use Rattle.calls.specs.Plans.{PlanFits, NothingChanged}
use Rattle.calls.specs.Steps.{step_plan}
use Rattle.calls.specs.Interrupts.{interrupt_plan}
use Rattle.calls.specs.Resets.{reset_plan}
use Rattle.calls.specs.declared.InterruptType.{InterruptType}
use Rattle.calls.specs.declared.Plan.{Plan}

-- a call, with the settings that it is given
pub data Call : Type 0 where
  step : Settings → Call
  interrupt : Settings → InterruptType → Call
  reset : Settings → Call

abbrev pub settings_in : Call → Settings
settings_in (step t) = t
settings_in (interrupt t i) = t
settings_in (reset t) = t

abbrev pub plan_of : Call → List ℕ → Machine → Plan
plan_of (step t) mem m = step_plan mem m t
plan_of (interrupt t i) mem m = interrupt_plan mem m t i
plan_of (reset t) mem m = reset_plan mem m

-- a refused call leaves the machine and memory, and reports no device write
abbrev pub RefusedCall : Type 0
RefusedCall =
    (c : Call) (mem : List ℕ) (m : Machine) (x : Refusal) → (plan_of c mem m).answer ≡ Err x → NothingChanged (settings_in c) m mem (plan_of c mem m)

abbrev pub FewWrites : Type 0
FewWrites = (c : Call) (mem : List ℕ) (m : Machine) → length (listed (plan_of c mem m).writes) ≤ 12

-- from a machine that fits its widths and a memory of bytes
abbrev pub CallFits : Type 0
CallFits = (c : Call) (mem : List ℕ) (m : Machine) → MachineFits m → Bytes mem → PlanFits (plan_of c mem m)
