-- A step while waiting, an interrupt that is held off and a reset, whole.
-- Assumes nothing.
use Rattle.std.proofs.Common.{◌≡◌, ℕ, Bool, true, false, cond, eqb, ◌≢◌, List, length, refl, ap, ◌∙◌, eq-eqb}
use Rattle.answers.specs.Numbers.{number_of_answer}
use Rattle.answers.specs.declared.Refusal.TheVariants.{MemoryLength, Waiting}
use Rattle.registers.specs.declared.Flags.{Flags}
use Rattle.memory.specs.Map.{word_at}
use Rattle.machine.specs.Machine.{with_registers, settings_with}
use Rattle.machine.specs.declared.Machine.{Machine}
use Rattle.machine.specs.declared.Wait.{Wait}
use Rattle.machine.specs.declared.fence.Range.{Range}
use Rattle.machine.specs.declared.Wait.TheVariants.{Running, Cwai, Sync}
use Rattle.vectors.specs.Service.{vectored}
use Rattle.bus.specs.Reads.{bytes_from}
use Rattle.calls.specs.Accepted.{WaitsRefused, MaskedStays, ResetAccepted, ResetRefusesExactly, AnyFlags}
use Rattle.calls.specs.Plans.{refused_with, accepted, fenced}
use Rattle.calls.specs.Steps.{unless_waiting, reached, planned, step_plan}
use Rattle.calls.specs.Interrupts.{vector_of, is_held_off, taken, taken_reads, after_held_off, taken_by, interrupt_plan}
use Rattle.calls.specs.declared.InterruptType.{InterruptType}
use Rattle.calls.specs.Resets.{reset_to, reset_plan}
use Rattle.calls.proofs.Passing.{refused-free}

pub waits-refused : WaitsRefused
unfolding step_plan reached
waits-refused mem m s size n = rw (eq-eqb (length mem) 65536 size) (ap (fenced s m) (go m.wait n) ∙ refused-free s m Waiting)
  where
    go : (w : Wait) → w ≢ Running → planned mem m s (unless_waiting w mem m.regs) ≡ refused_with m Waiting
    go Running k = absurd (k refl)
    go Cwai k = refl
    go Sync k = refl

pub masked-stays : MaskedStays
unfolding interrupt_plan
masked-stays mem m s i size k = rw (eq-eqb (length mem) 65536 size, k)

pub reset-accepted : ResetAccepted
unfolding reset_plan word_at bytes_from
reset-accepted mem m size = rw (eq-eqb (length mem) 65536 size)

pub reset-refuses-exactly : ResetRefusesExactly
unfolding reset_plan
reset-refuses-exactly mem m = go (eqb (length mem) 65536) _
  where
    go : (l : Bool) (pc : ℕ) → number_of_answer (cond l (reset_to m pc) (refused_with m MemoryLength)).answer ≡ cond l 0 1
    go true pc = refl
    go false pc = refl

pub any-flags : AnyFlags
unfolding interrupt_plan vectored
any-flags = record {
  interrupt = λ mem m top rs f g i. go mem m top rs f g i m.wait;
  reset = λ mem m top rs f g. refl;
}
  where
    go : (mem : List ℕ) (m : Machine) (top : ℕ) (rs : List Range) (f g : Flags) (i : InterruptType) (w : Wait)
        → cond (eqb (length mem) 65536) (cond (is_held_off i m) (accepted (with_registers m m.regs (after_held_off m.wait)) 0) (taken_by m (length (taken_reads w mem (settings_with top f rs) m.regs (vector_of i))) (taken w mem (settings_with top f rs) m.regs (vector_of i)))) (refused_with m MemoryLength)
        ≡ cond (eqb (length mem) 65536) (cond (is_held_off i m) (accepted (with_registers m m.regs (after_held_off m.wait)) 0) (taken_by m (length (taken_reads w mem (settings_with top g rs) m.regs (vector_of i))) (taken w mem (settings_with top g rs) m.regs (vector_of i)))) (refused_with m MemoryLength)
    go mem m top rs f g i Running = refl
    go mem m top rs f g i Cwai = refl
    go mem m top rs f g i Sync = refl
