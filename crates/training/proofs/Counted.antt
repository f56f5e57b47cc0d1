-- What an instruction reads, as the sum of its parts: each part is small, and they are all.
-- Assumes nothing.
use Prim.Native.Nat.{ℕ, ◌+◌, ◌-◌, ◌≤◌}
use mathlib.Core.List.{List}
use mathlib.Core.Path.{◌≡◌, sym, ap, ◌∙◌}
use lib.ListN.{length}
use Rattle.registers.specs.declared.Set.{Set}
use Rattle.machine.specs.declared.Settings.{Settings}
use Rattle.decode.specs.declared.instruction.Instruction.{Instruction}
use Rattle.bus.specs.Reads.{operand_taken, instruction_reads}
use Rattle.bus.specs.Sums.{pointer_count, operand_count, fetched_count}
use Rattle.bus.proofs.Sums.{reads-summed}
use Rattle.calls.proofs.Decided.{pointer-most, operand-most, fetched-most}

module _
    (i : Instruction)
    (mem : List ℕ)
    (r : Set)
    (ea : ℕ)
    {pointer taken read fetched : ℕ}
    (p : pointer ≡ pointer_count i.operand)
    (t : taken ≡ operand_taken i.entry.op)
    (n : read ≡ operand_count i.entry.mode taken)
    (f : fetched ≡ fetched_count i.entry.op mem r ea)
  where
    pub small : (pointer ≤ 2) × ((read ≤ 2) × (fetched ≤ 12))
    small = (pointer-most i.operand p, (operand-most i.entry.op i.entry.mode (n ∙ ap (operand_count i.entry.mode) t), fetched-most i.entry.op mem r ea f))

    pub summed : (s : Settings) (was : Set) → (i.next - was.pc) + (pointer + (read + fetched)) ≡ length (instruction_reads i mem s was r ea)
    summed s was = rw (p, n, t, f) (sym (reads-summed i mem s was r ea))
