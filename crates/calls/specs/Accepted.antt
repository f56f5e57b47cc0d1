-- Calls whose whole plan is one equation: a step while waiting, an interrupt that is held off, a reset. What an interrupt and a reset do not depend on.
-- Assumes nothing.
use Rattle.std.specs.Prelude.{◌≡◌, ℕ, ◌+◌, ◌*◌, true, false, cond, ◌≢◌, List, length, ◌==◌}
use Rattle.answers.specs.Numbers.{number_of_answer}
use Rattle.answers.specs.declared.Refusal.TheVariants.{Waiting}
use Rattle.registers.specs.RegisterSet.{after_reset}
use Rattle.memory.specs.Map.{byte_at}
use Rattle.registers.specs.declared.Flags.{Flags}
use Rattle.machine.specs.Machine.{with_registers, marked, settings_with}
use Rattle.machine.specs.declared.Machine.{Machine}
use Rattle.machine.specs.declared.Settings.{Settings}
use Rattle.machine.specs.declared.Wait.TheVariants.{Running}
use Rattle.machine.specs.declared.fence.Range.{Range}
use Rattle.operations.specs.Branches.{jumped}
use Rattle.calls.specs.Plans.{refused_with, accepted}
use Rattle.calls.specs.Steps.{step_plan}
use Rattle.calls.specs.Interrupts.{is_held_off, after_held_off, interrupt_plan}
use Rattle.calls.specs.Resets.{reset_plan, reset_of}
use Rattle.calls.specs.declared.InterruptType.{InterruptType}

-- a step while waiting is refused by 2
abbrev pub WaitsRefused : Type 0
WaitsRefused = (mem : List ℕ) (m : Machine) (s : Settings) → length mem ≡ 65536 → m.wait ≢ Running → step_plan mem m s ≡ refused_with m Waiting

-- a masked interrupt, or an NMI before S is loaded, is answered 0: none of 8, 28 and 9 is judged, nothing is read, no register and not the mark
-- changes, and SYNC alone ends
abbrev pub MaskedStays : Type 0
MaskedStays =
    (mem : List ℕ) (m : Machine) (s : Settings) (i : InterruptType) → length mem ≡ 65536 → is_held_off i m ≡ true
    → interrupt_plan mem m s i ≡ accepted (with_registers m m.regs (after_held_off m.wait)) 0

-- a reset is never refused: PC is the word at FFFE, whatever it leads to, NMI is held off again, and two bytes are read
abbrev pub ResetAccepted : Type 0
ResetAccepted =
    (mem : List ℕ) (m : Machine) → length mem ≡ 65536
    → reset_plan mem m ≡ accepted (marked (with_registers m (jumped after_reset (256 * byte_at mem 0xFFFE + byte_at mem 0xFFFF)) Running) false) 2

-- so 1 alone refuses it
abbrev pub ResetRefusesExactly : Type 0
ResetRefusesExactly = (mem : List ℕ) (m : Machine) → number_of_answer (reset_plan mem m).answer ≡ cond (length mem == 65536) 0 1

-- the flag setting plays no part in an interrupt or a reset: with the same ram_top and profile, what is returned and memory afterwards are the same
pub record AnyFlags : Type 0 where
  pub interrupt : (mem : List ℕ) (m : Machine) (top : ℕ) (rs : List Range) (f g : Flags) (i : InterruptType) → interrupt_plan mem m (settings_with top f rs) i ≡ interrupt_plan mem m (settings_with top g rs) i
  pub reset : (mem : List ℕ) (m : Machine) (top : ℕ) (rs : List Range) (f g : Flags) → reset_of mem m (settings_with top f rs) ≡ reset_of mem m (settings_with top g rs)
