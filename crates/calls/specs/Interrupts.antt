-- IRQ, FIRQ and NMI (document 01, section "Interrupts, SWI, reset"; document 02, [5]). The frame, the masks and the vector are those of the
-- software interrupts (crate vectors).
-- Assumes nothing.
use Rattle.std.specs.Prelude.{ℕ, Bool, cond, not, List, length, ◌==◌, Err, Ok, Result, ⊤}
use Rattle.answers.specs.declared.Refusal.TheVariants.{MemoryLength}
use Rattle.registers.specs.ConditionCodes.{flag}
use Rattle.registers.specs.declared.CCBit.TheVariants.{I, F}
use Rattle.registers.specs.declared.Set.{Set}
use Rattle.machine.specs.Effect.{changes}
use Rattle.machine.specs.Machine.{with_registers}
use Rattle.machine.specs.declared.Effect.{Effect}
use Rattle.machine.specs.declared.Machine.{Machine}
use Rattle.machine.specs.declared.Settings.{Settings}
use Rattle.machine.specs.declared.Wait.{Wait}
use Rattle.machine.specs.declared.Wait.TheVariants.{Running, Cwai, Sync}
use Rattle.vectors.specs.Service.{vectored, served}
use Rattle.vectors.specs.declared.table.Vector.{Vector}
use Rattle.vectors.specs.declared.table.Vector.TheVariants.{Irq as IRQ, Firq as FIRQ, Nmi as NMI}
use Rattle.bus.specs.Reads.{vector_reads, served_reads}
use Rattle.calls.specs.Plans.{refused_with, accepted, carried_out, memory_with}
use Rattle.calls.specs.declared.InterruptType.{InterruptType}
use Rattle.calls.specs.declared.InterruptType.TheVariants.{Irq, Firq, Nmi}
use Rattle.calls.specs.declared.Plan.{Plan}
use Rattle.calls.specs.declared.Report.{Report}
use Rattle.answers.specs.declared.Refusal.{Refusal}

abbrev pub vector_of : InterruptType → Vector
vector_of Irq = IRQ
vector_of Firq = FIRQ
vector_of Nmi = NMI

-- an interrupt that is held off: I masks IRQ and F masks FIRQ; NMI is never masked, and is held off until S is loaded
abbrev pub is_held_off : InterruptType → Machine → Bool
is_held_off Irq m = flag I m.regs.cc
is_held_off Firq m = flag F m.regs.cc
is_held_off Nmi m = not m.armed

-- an interrupt that is not held off. In CWAI the frame is stacked already: nothing is stacked again, and S is not tested
abbrev pub taken : Wait → List ℕ → Settings → Set → Vector → Effect
taken Running mem s r v = served mem s r v
taken Sync mem s r v = served mem s r v
taken Cwai mem s r v = vectored mem s r (changes r) v

-- the addresses that it reads: the vector, and the byte that it leads to
abbrev pub taken_reads : Wait → List ℕ → Settings → Set → Vector → List ℕ
taken_reads Running mem s r v = served_reads mem s r v
taken_reads Sync mem s r v = served_reads mem s r v
taken_reads Cwai mem s r v = vector_reads mem s (changes r) v

-- one that is held off ends SYNC and nothing else
abbrev pub after_held_off : Wait → Wait
after_held_off Running = Running
after_held_off Cwai = Cwai
after_held_off Sync = Running

abbrev pub of_effect : Machine → ℕ → Effect → Result ⊤ Refusal → Plan
of_effect m reads e (Ok u) = record { writes = e.writes; machine = with_registers m e.regs Running; reads = reads; answer = (Ok tt) }
of_effect m reads e (Err x) = refused_with m x

abbrev pub taken_by : Machine → ℕ → Effect → Plan
taken_by m reads e = of_effect m reads e e.answer

-- 1 unless memory has 65,536 bytes; then, unless it is held off and reads nothing, 8, 28 and 9 as they are met
unfoldable pub interrupt_plan : List ℕ → Machine → Settings → InterruptType → Plan
interrupt_plan mem m s i =
    cond (length mem == 65536)
    (cond (is_held_off i m) (accepted (with_registers m m.regs (after_held_off m.wait)) 0)
    (taken_by m (length (taken_reads m.wait mem s m.regs (vector_of i))) (taken m.wait mem s m.regs (vector_of i))))
    (refused_with m MemoryLength)

-- the interrupt carried out
abbrev pub interrupt_of : List ℕ → Machine → Settings → InterruptType → Report
interrupt_of mem m s i = carried_out s (interrupt_plan mem m s i)

abbrev pub memory_after_interrupt : List ℕ → Machine → Settings → InterruptType → List ℕ
memory_after_interrupt mem m s i = memory_with s (interrupt_plan mem m s i) mem
