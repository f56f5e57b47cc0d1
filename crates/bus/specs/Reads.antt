-- The addresses that an instruction reads, one for each byte that it takes from the bus (document 02, [11]; manual, appendix A). They are the
-- processor's addresses, before the map: what a read at one gives is `byte_at` of it, so a read at FFF8 is one at place BFF8.
-- The chip's dead cycles and prefetches are no reads of the instruction, and do not stand here.
-- Assumes nothing.
use Rattle.std.specs.Prelude.{ℕ, zero, suc, ◌-◌, cond, List, [], ◌∷◌, ◌++◌}
use Rattle.registers.specs.ConditionCodes.{coded, flag}
use Rattle.registers.specs.Names.{stack_word}
use Rattle.registers.specs.RegisterSet.{word_of}
use Rattle.registers.specs.declared.CCBit.TheVariants.{E}
use Rattle.registers.specs.declared.Set.{Set}
use Rattle.memory.specs.Map.{byte_at, low_at, word_at}
use Rattle.memory.specs.Writes.{listed, stored}
use Rattle.machine.specs.declared.Effect.{Effect}
use Rattle.machine.specs.declared.Settings.{Settings}
use Rattle.opcodes.specs.declared.MemoryOp.{MemoryOp}
use Rattle.opcodes.specs.declared.MemoryOp.TheVariants.{OnMemory, Store8, Store16, Bsr, Jsr, Rts, Rti, Swi, Cwai, Sync, Push, Pull}
use Rattle.opcodes.specs.declared.Mode.{Mode}
use Rattle.opcodes.specs.declared.Mode.TheVariants.{Inherent, Immediate8, Immediate16, Direct, Indexed, Extended, Relative8, Relative16}
use Rattle.opcodes.specs.declared.Op.{Op}
use Rattle.opcodes.specs.declared.Op.TheVariants.{Registers, Memory}
use Rattle.opcodes.specs.declared.RegisterOp.{RegisterOp}
use Rattle.opcodes.specs.declared.RegisterOp.TheVariants.{Alu, OnAcc, TestAcc, TestMemory, Addd, Subd, Load16, Cmp16, Lea, Branch, Jmp, Nop, Daa, Sex, Mul, Abx, Andcc, Orcc, Exg, Tfr}
use Rattle.decode.specs.PostByte.{is_indirect}
use Rattle.decode.specs.declared.instruction.Instruction.{Instruction}
use Rattle.decode.specs.declared.operand.Operand.{Operand}
use Rattle.decode.specs.declared.operand.Operand.TheVariants.{Inherent as Nothing, Immediate as ByValue, Direct as InPage, Indexed as ByIndex, Extended as AtAddress, Relative as ByOffset}
use Rattle.addressing.specs.Address.{indexed_before}
use Rattle.stack.specs.Frames.{stacked_by, framed}
use Rattle.stack.specs.Pushing.{bytes_pushed}
use Rattle.vectors.specs.Table.{address_of, is_entire, software_vector}
use Rattle.vectors.specs.declared.table.Vector.{Vector}

-- n bytes from an address on; 0000 follows FFFF
unfoldable pub bytes_from : ℕ → ℕ → List ℕ
bytes_from at zero = []
bytes_from at (suc n) = at ∷ bytes_from (low_at at) n

-- ---- the program: prefix, opcode, post-byte, operand and offset bytes, from PC up to the next instruction

abbrev pub program_reads : ℕ → ℕ → List ℕ
program_reads pc next = bytes_from pc (next - pc)

-- ---- the pointer of an indirect operand: the word at the address before indirection. r are the registers before the instruction

abbrev pub pointer_reads : Operand → Set → ℕ → List ℕ
pointer_reads (ByIndex ix) r next = cond (is_indirect ix.post) (bytes_from (indexed_before r ix next).ea 2) []
pointer_reads Nothing r next = []
pointer_reads (ByValue at) r next = []
pointer_reads (InPage low) r next = []
pointer_reads (AtAddress at) r next = []
pointer_reads (ByOffset offset) r next = []

-- ---- the operand: how many bytes of it an operation reads

abbrev pub registers_take : RegisterOp → ℕ
-- ADD ADC SUB SBC CMP AND BIT OR EOR LD of an accumulator, TST
registers_take (Alu op acc) = 1
registers_take TestMemory = 1
-- ADDD SUBD, LD and CMP of a word
registers_take Addd = 2
registers_take Subd = 2
registers_take (Load16 word) = 2
registers_take (Cmp16 word) = 2
-- the byte after the opcode
registers_take Andcc = 1
registers_take Orcc = 1
registers_take Exg = 1
registers_take Tfr = 1
-- LEA, JMP and the branches use the address, and read nothing there
registers_take (Lea index) = 0
registers_take Jmp = 0
registers_take (Branch c) = 0
-- inherent
registers_take (OnAcc op acc) = 0
registers_take (TestAcc acc) = 0
registers_take Nop = 0
registers_take Daa = 0
registers_take Sex = 0
registers_take Mul = 0
registers_take Abx = 0

abbrev pub memory_takes : MemoryOp → ℕ
-- read, then written: ASL ASR COM DEC INC LSR NEG ROL ROR, and CLR too
memory_takes (OnMemory op) = 1
-- ST, JSR and BSR use the address, and read nothing there
memory_takes (Store8 acc) = 0
memory_takes (Store16 word) = 0
memory_takes Jsr = 0
memory_takes Bsr = 0
-- the byte after the opcode
memory_takes (Push own) = 1
memory_takes (Pull own) = 1
memory_takes Cwai = 1
-- inherent
memory_takes Rts = 0
memory_takes Rti = 0
memory_takes (Swi which) = 0
memory_takes Sync = 0

abbrev pub operand_taken : Op → ℕ
operand_taken (Registers op) = registers_take op
operand_taken (Memory op) = memory_takes op

-- n bytes at the effective address; an immediate operand was read as a part of the program, and is not read again
abbrev pub operand_reads : Mode → ℕ → ℕ → List ℕ
operand_reads Immediate8 n ea = []
operand_reads Immediate16 n ea = []
operand_reads Direct n ea = bytes_from ea n
operand_reads Indexed n ea = bytes_from ea n
operand_reads Extended n ea = bytes_from ea n
operand_reads Inherent n ea = bytes_from ea n
operand_reads Relative8 n ea = bytes_from ea n
operand_reads Relative16 n ea = bytes_from ea n

-- ---- stacks and vectors

-- after a frame: the vector's two bytes, then the byte that it leads to, which must not be zero. Both are read from memory as it is after
-- stacking
abbrev pub vector_reads : List ℕ → Settings → Effect → Vector → List ℕ
vector_reads mem s frame v =
    let after = stored s.ram_top (listed frame.writes) mem in
    bytes_from (address_of v) 2 ++ bytes_from (word_at after (address_of v)) 1

abbrev pub served_reads : List ℕ → Settings → Set → Vector → List ℕ
served_reads mem s r v = vector_reads mem s (framed r (is_entire v)) v

-- what an operation reads besides its operand; r are the registers before it, ea is the effective address
abbrev pub memory_fetches : MemoryOp → List ℕ → Settings → Set → ℕ → List ℕ
-- RTS: PC. PULS, PULU: the registers that the post-byte names
memory_fetches Rts mem s r ea = bytes_from r.s 2
memory_fetches (Pull own) mem s r ea = bytes_from (word_of r (stack_word own)) (bytes_pushed (byte_at mem ea))
-- RTI: CC, then by its E all others, or PC
memory_fetches Rti mem s r ea = bytes_from r.s (bytes_pushed (stacked_by (flag E (coded (byte_at mem r.s)))))
-- SWI, SWI2, SWI3
memory_fetches (Swi which) mem s r ea = served_reads mem s r (software_vector which)
memory_fetches (OnMemory op) mem s r ea = []
memory_fetches (Store8 acc) mem s r ea = []
memory_fetches (Store16 word) mem s r ea = []
memory_fetches Jsr mem s r ea = []
memory_fetches Bsr mem s r ea = []
memory_fetches (Push own) mem s r ea = []
memory_fetches Cwai mem s r ea = []
memory_fetches Sync mem s r ea = []

abbrev pub fetched_by : Op → List ℕ → Settings → Set → ℕ → List ℕ
fetched_by (Registers op) mem s r ea = []
fetched_by (Memory op) mem s r ea = memory_fetches op mem s r ea

-- ---- an instruction: was are the registers before it, r those with PC at the next one, ea is the effective address

unfoldable pub instruction_reads : Instruction → List ℕ → Settings → Set → Set → ℕ → List ℕ
instruction_reads i mem s was r ea =
    program_reads was.pc i.next
    ++ (pointer_reads i.operand was i.next
    ++ (operand_reads i.entry.mode (operand_taken i.entry.op) ea
    ++ fetched_by i.entry.op mem s r ea))
