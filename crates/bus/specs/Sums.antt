-- How many bytes an instruction reads, as a sum: program bytes, two for a pointer, the operand's unless it is immediate, the pulled or the vector's.
-- Assumes nothing.
use Rattle.std.specs.Prelude.{ℕ, ◌+◌, ◌-◌, ◌≤◌, cond, List, ◌≡◌, length, Ok}
use Rattle.registers.specs.ConditionCodes.{coded, flag}
use Rattle.registers.specs.declared.CCBit.TheVariants.{E}
use Rattle.registers.specs.declared.Set.{Set}
use Rattle.memory.specs.Map.{byte_at}
use Rattle.machine.specs.declared.Settings.{Settings}
use Rattle.opcodes.specs.declared.MemoryOp.{MemoryOp}
use Rattle.opcodes.specs.declared.MemoryOp.TheVariants.{OnMemory, Store8, Store16, Bsr, Jsr, Rts, Rti, Swi, Cwai, Sync, Push, Pull}
use Rattle.opcodes.specs.declared.Mode.{Mode}
use Rattle.opcodes.specs.declared.Mode.TheVariants.{Inherent, Immediate8, Immediate16, Direct, Indexed, Extended, Relative8, Relative16}
use Rattle.opcodes.specs.declared.Op.{Op}
use Rattle.opcodes.specs.declared.Op.TheVariants.{Registers, Memory}
use Rattle.decode.specs.Decode.{decoded_at}
use Rattle.decode.specs.PostByte.{is_indirect}
use Rattle.decode.specs.declared.instruction.Instruction.{Instruction}
use Rattle.decode.specs.declared.operand.Operand.{Operand}
use Rattle.decode.specs.declared.operand.Operand.TheVariants.{Inherent as Nothing, Immediate as ByValue, Direct as InPage, Indexed as ByIndex, Extended as AtAddress, Relative as ByOffset}
use Rattle.stack.specs.Pushing.{bytes_pushed}
use Rattle.bus.specs.Reads.{operand_taken, instruction_reads}

abbrev pub pointer_count : Operand → ℕ
pointer_count (ByIndex ix) = cond (is_indirect ix.post) 2 0
pointer_count Nothing = 0
pointer_count (ByValue at) = 0
pointer_count (InPage low) = 0
pointer_count (AtAddress at) = 0
pointer_count (ByOffset offset) = 0

-- of n bytes that the operation takes
abbrev pub operand_count : Mode → ℕ → ℕ
operand_count Immediate8 n = 0
operand_count Immediate16 n = 0
operand_count Direct n = n
operand_count Indexed n = n
operand_count Extended n = n
operand_count Inherent n = n
operand_count Relative8 n = n
operand_count Relative16 n = n

-- RTI: CC and by its E all others, or PC
abbrev pub return_count : List ℕ → Set → ℕ
return_count mem r = cond (flag E (coded (byte_at mem r.s))) 12 3

abbrev pub memory_count : MemoryOp → List ℕ → Set → ℕ → ℕ
memory_count Rts mem r ea = 2
memory_count (Pull own) mem r ea = bytes_pushed (byte_at mem ea)
memory_count Rti mem r ea = return_count mem r
memory_count (Swi which) mem r ea = 3
memory_count (OnMemory op) mem r ea = 0
memory_count (Store8 acc) mem r ea = 0
memory_count (Store16 word) mem r ea = 0
memory_count Jsr mem r ea = 0
memory_count Bsr mem r ea = 0
memory_count (Push own) mem r ea = 0
memory_count Cwai mem r ea = 0
memory_count Sync mem r ea = 0

abbrev pub fetched_count : Op → List ℕ → Set → ℕ → ℕ
fetched_count (Registers op) mem r ea = 0
fetched_count (Memory op) mem r ea = memory_count op mem r ea

-- the addresses are as many as the sum says; was are the registers before the instruction, r those with PC at the next one
abbrev pub ReadsSummed : Type 0
ReadsSummed =
    (i : Instruction) (mem : List ℕ) (s : Settings) (was r : Set) (ea : ℕ)
    → length (instruction_reads i mem s was r ea)
    ≡ (i.next - was.pc)
    + (pointer_count i.operand + (operand_count i.entry.mode (operand_taken i.entry.op) + fetched_count i.entry.op mem r ea))

-- an instruction is at most five bytes long
abbrev pub FiveBytes : Type 0
FiveBytes = (mem : List ℕ) (pc : ℕ) (i : Instruction) → decoded_at mem pc ≡ Ok i → (pc ≤ i.next) × (i.next ≤ pc + 5)

-- two bytes of a pointer at most
abbrev pub PointerSmall : Type 0
PointerSmall = (o : Operand) → pointer_count o ≤ 2

-- no operation takes more than two bytes of its operand, and none pulls more than twelve
pub record OperationSmall (op : Op) : Type 0 where
  pub operand : (mode : Mode) → operand_count mode (operand_taken op) ≤ 2
  pub fetched : (mem : List ℕ) (r : Set) (ea : ℕ) → fetched_count op mem r ea ≤ 12

abbrev pub OperationsSmall : Type 0
OperationsSmall = (op : Op) → OperationSmall op
