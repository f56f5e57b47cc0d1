-- What a step costs in cycles: the base figure of the opcode's column, and what the manual adds to it (document 02, [3]).
-- Assumes nothing.
use Rattle.std.specs.Prelude.{ℕ, ◌+◌, Bool, true, false, cond, ◌&&◌, List}
use Rattle.registers.specs.ConditionCodes.{coded, flag}
use Rattle.registers.specs.declared.CCBit.TheVariants.{E}
use Rattle.registers.specs.declared.CCBits.{CCBits}
use Rattle.registers.specs.declared.Set.{Set}
use Rattle.memory.specs.Map.{byte_at}
use Rattle.opcodes.specs.declared.Cond.{Cond}
use Rattle.opcodes.specs.declared.Cond.TheVariants.{Ra, Rn, Hi, Ls, Cc, Cs, Ne, Eq, Vc, Vs, Pl, Mi, Ge, Lt, Gt, Le}
use Rattle.opcodes.specs.declared.MemoryOp.{MemoryOp}
use Rattle.opcodes.specs.declared.MemoryOp.TheVariants.{OnMemory, Store8, Store16, Bsr, Jsr, Rts, Rti, Swi, Cwai, Sync, Push, Pull}
use Rattle.opcodes.specs.declared.Mode.{Mode}
use Rattle.opcodes.specs.declared.Mode.TheVariants.{Inherent, Immediate8, Immediate16, Direct, Indexed, Extended, Relative8, Relative16}
use Rattle.opcodes.specs.declared.Op.{Op}
use Rattle.opcodes.specs.declared.Op.TheVariants.{Registers, Memory}
use Rattle.opcodes.specs.declared.RegisterOp.{RegisterOp}
use Rattle.opcodes.specs.declared.RegisterOp.TheVariants.{Alu, OnAcc, TestAcc, TestMemory, Addd, Subd, Load16, Cmp16, Lea, Branch, Jmp, Nop, Daa, Sex, Mul, Abx, Andcc, Orcc, Exg, Tfr}
use Rattle.decode.specs.PostByte.{is_indirect}
use Rattle.decode.specs.declared.instruction.Instruction.{Instruction}
use Rattle.decode.specs.declared.operand.Operand.{Operand}
use Rattle.decode.specs.declared.operand.Operand.TheVariants.{Inherent as Nothing, Immediate as ByValue, Direct as InPage, Indexed as ByIndex, Extended as AtAddress, Relative as ByOffset}
use Rattle.decode.specs.declared.postbyte.Form.{Form}
use Rattle.decode.specs.declared.postbyte.Form.TheVariants.{Offset5, Increment1, Increment2, Decrement1, Decrement2, NoOffset, OffsetB, OffsetA, Offset8, Offset16, OffsetD, Program8, Program16, Address}
use Rattle.operations.specs.Branches.{condition}
use Rattle.stack.specs.Pushing.{bytes_pushed}

-- ---- the operand (manual, table "Indexed Addressing Mode")

-- a row of the table: the cycles of its two columns, not indirect and indirect
abbrev billed : ℕ → ℕ → Bool → ℕ
billed plain through indirect = cond indirect through plain

-- a row with one of the columns alone
abbrev only : ℕ → Bool → ℕ
only n indirect = n

abbrev pub form_extra : Form → Bool → ℕ
-- ,R  n5,R  n8,R  n16,R
form_extra NoOffset = billed 0 3
form_extra Offset5 = only 1
form_extra Offset8 = billed 1 4
form_extra Offset16 = billed 4 7
-- A,R  B,R  D,R
form_extra OffsetA = billed 1 4
form_extra OffsetB = billed 1 4
form_extra OffsetD = billed 4 7
-- ,R+  ,R++  ,-R  ,--R
form_extra Increment1 = only 2
form_extra Increment2 = billed 3 6
form_extra Decrement1 = only 2
form_extra Decrement2 = billed 3 6
-- n8,PCR  n16,PCR
form_extra Program8 = billed 1 4
form_extra Program16 = billed 5 8
-- [address]
form_extra Address = only 5

abbrev pub operand_extra : Operand → ℕ
operand_extra Nothing = 0
operand_extra (ByValue at) = 0
operand_extra (InPage low) = 0
operand_extra (ByIndex ix) = form_extra ix.form (is_indirect ix.post)
operand_extra (AtAddress at) = 0
operand_extra (ByOffset offset) = 0

-- ---- the operation (manual, table "Programming Aid": the rows that have a second figure or a plus sign beside the indexed column)

-- the branches on a condition: all but BRA and BRN
abbrev pub is_conditional : Cond → Bool
is_conditional Ra = false
is_conditional Rn = false
is_conditional Hi = true
is_conditional Ls = true
is_conditional Cc = true
is_conditional Cs = true
is_conditional Ne = true
is_conditional Eq = true
is_conditional Vc = true
is_conditional Vs = true
is_conditional Pl = true
is_conditional Mi = true
is_conditional Ge = true
is_conditional Lt = true
is_conditional Gt = true
is_conditional Le = true

-- 5(6): a long branch on a condition costs one more where it is taken; a short one does not
abbrev pub branch_extra : Mode → Cond → CCBits → ℕ
branch_extra Relative16 c codes = cond (is_conditional c && condition c codes) 1 0
branch_extra Relative8 c codes = 0
branch_extra Inherent c codes = 0
branch_extra Immediate8 c codes = 0
branch_extra Immediate16 c codes = 0
branch_extra Direct c codes = 0
branch_extra Indexed c codes = 0
branch_extra Extended c codes = 0

abbrev pub registers_extra : RegisterOp → Mode → CCBits → ℕ
registers_extra (Branch c) mode codes = branch_extra mode c codes
registers_extra (Alu op acc) mode codes = 0
registers_extra (OnAcc op acc) mode codes = 0
registers_extra (TestAcc acc) mode codes = 0
registers_extra TestMemory mode codes = 0
registers_extra Addd mode codes = 0
registers_extra Subd mode codes = 0
registers_extra (Load16 word) mode codes = 0
registers_extra (Cmp16 word) mode codes = 0
registers_extra (Lea index) mode codes = 0
registers_extra Jmp mode codes = 0
registers_extra Nop mode codes = 0
registers_extra Daa mode codes = 0
registers_extra Sex mode codes = 0
registers_extra Mul mode codes = 0
registers_extra Abx mode codes = 0
registers_extra Andcc mode codes = 0
registers_extra Orcc mode codes = 0
registers_extra Exg mode codes = 0
registers_extra Tfr mode codes = 0

-- 6/15: RTI costs nine more where E of the CC on the stack is set
abbrev pub return_extra : List ℕ → Set → ℕ
return_extra mem r = cond (flag E (coded (byte_at mem r.s))) 9 0

-- PSH and PUL: 5+, one for each byte that the post-byte at ea names
abbrev pub memory_extra : MemoryOp → List ℕ → Set → ℕ → ℕ
memory_extra Rti mem r ea = return_extra mem r
memory_extra (Push own) mem r ea = bytes_pushed (byte_at mem ea)
memory_extra (Pull own) mem r ea = bytes_pushed (byte_at mem ea)
memory_extra (OnMemory op) mem r ea = 0
memory_extra (Store8 acc) mem r ea = 0
memory_extra (Store16 word) mem r ea = 0
memory_extra Bsr mem r ea = 0
memory_extra Jsr mem r ea = 0
memory_extra Rts mem r ea = 0
memory_extra (Swi which) mem r ea = 0
memory_extra Cwai mem r ea = 0
memory_extra Sync mem r ea = 0

-- by the registers r and the address ea before the operation
abbrev pub operation_extra : Op → Mode → List ℕ → Set → ℕ → ℕ
operation_extra (Registers op) mode mem r ea = registers_extra op mode r.cc
operation_extra (Memory op) mode mem r ea = memory_extra op mem r ea

-- ---- a step

abbrev pub extra_of : Instruction → List ℕ → Set → ℕ → ℕ
extra_of i mem r ea = operand_extra i.operand + operation_extra i.entry.op i.entry.mode mem r ea

unfoldable pub cycles_of : Instruction → List ℕ → Set → ℕ → ℕ
cycles_of i mem r ea = i.entry.cycles + extra_of i mem r ea
