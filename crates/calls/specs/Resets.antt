-- Reset (document 01, section "Interrupts, SWI, reset"; document 02, [5]): registers cleared, CC 50, PC from FFFE, no wait, unarmed; counters
-- and memory stay. No zero byte is looked for.
-- Assumes nothing.
use Rattle.std.specs.Prelude.{ℕ, false, cond, List, length, ◌==◌}
use Rattle.answers.specs.declared.Refusal.TheVariants.{MemoryLength}
use Rattle.registers.specs.RegisterSet.{after_reset}
use Rattle.memory.specs.Map.{word_at}
use Rattle.machine.specs.Machine.{with_registers, marked}
use Rattle.machine.specs.declared.Machine.{Machine}
use Rattle.machine.specs.declared.Settings.{Settings}
use Rattle.machine.specs.declared.Wait.TheVariants.{Running}
use Rattle.operations.specs.Branches.{jumped}
use Rattle.vectors.specs.Table.{address_of}
use Rattle.vectors.specs.declared.table.Vector.TheVariants.{Reset}
use Rattle.bus.specs.Reads.{bytes_from}
use Rattle.calls.specs.Plans.{refused_with, accepted, carried_out, memory_with}
use Rattle.calls.specs.declared.Plan.{Plan}
use Rattle.calls.specs.declared.Report.{Report}

-- the addresses that it reads: the vector's two
abbrev pub reset_reads : List ℕ
reset_reads = bytes_from (address_of Reset) 2

abbrev pub reset_to : Machine → ℕ → Plan
reset_to m pc = accepted (marked (with_registers m (jumped after_reset pc) Running) false) (length reset_reads)

unfoldable pub reset_plan : List ℕ → Machine → Plan
reset_plan mem m = cond (length mem == 65536) (reset_to m (word_at mem (address_of Reset))) (refused_with m MemoryLength)

-- the reset carried out
abbrev pub reset_of : List ℕ → Machine → Settings → Report
reset_of mem m s = carried_out s (reset_plan mem m)

abbrev pub memory_after_reset : List ℕ → Machine → Settings → List ℕ
memory_after_reset mem m s = memory_with s (reset_plan mem m) mem
