-- Which operations may change H: ADD and ADC, and those that write CC. Every other leaves it, in both settings.
-- Assumes nothing.
use Rattle.std.specs.Prelude.{ℕ, ◌/◌, ◌%◌, Bool, true, false, ◌||◌, List, ◌≡◌, eqb}
use Rattle.registers.specs.ConditionCodes.{bit_at, flag}
use Rattle.registers.specs.declared.CCBit.TheVariants.{H}
use Rattle.registers.specs.declared.Set.{Set}
use Rattle.memory.specs.Map.{byte_at}
use Rattle.machine.specs.declared.Settings.{Settings}
use Rattle.opcodes.specs.declared.Alu.{Alu as Binary}
use Rattle.opcodes.specs.declared.Alu.TheVariants.{Add, Adc, Sub, Sbc, Cmp, And, Bit, Or, Eor, Ld}
use Rattle.opcodes.specs.declared.MemoryOp.{MemoryOp}
use Rattle.opcodes.specs.declared.MemoryOp.TheVariants.{OnMemory, Store8, Store16, Bsr, Jsr, Rts, Rti, Swi, Cwai, Sync, Push, Pull}
use Rattle.opcodes.specs.declared.Op.{Op}
use Rattle.opcodes.specs.declared.Op.TheVariants.{Registers, Memory}
use Rattle.opcodes.specs.declared.RegisterOp.{RegisterOp}
use Rattle.opcodes.specs.declared.RegisterOp.TheVariants.{Alu, OnAcc, TestAcc, TestMemory, Addd, Subd, Load16, Cmp16, Lea, Branch, Jmp, Nop, Daa, Sex, Mul, Abx, Andcc, Orcc, Exg, Tfr}
use Rattle.evaluate.specs.Evaluate.{evaluate_of}

abbrev pub half_carries : Binary → Bool
half_carries Add = true
half_carries Adc = true
half_carries Sub = false
half_carries Sbc = false
half_carries Cmp = false
half_carries And = false
half_carries Bit = false
half_carries Or = false
half_carries Eor = false
half_carries Ld = false

-- m is the byte at the effective address, which for EXG and TFR is the post-byte: its halves name two registers, A of them CC
abbrev pub registers_change_h : RegisterOp → ℕ → Bool
registers_change_h (Alu op acc) m = half_carries op
registers_change_h (OnAcc op acc) m = false
registers_change_h (TestAcc acc) m = false
registers_change_h TestMemory m = false
registers_change_h Addd m = false
registers_change_h Subd m = false
registers_change_h (Load16 word) m = false
registers_change_h (Cmp16 word) m = false
registers_change_h (Lea index) m = false
registers_change_h (Branch c) m = false
registers_change_h Jmp m = false
registers_change_h Nop m = false
registers_change_h Daa m = false
registers_change_h Sex m = false
registers_change_h Mul m = false
registers_change_h Abx m = false
registers_change_h Andcc m = true
registers_change_h Orcc m = true
registers_change_h Exg m = eqb (m / 16) 0xA || eqb (m % 16) 0xA
registers_change_h Tfr m = eqb (m % 16) 0xA

-- of the post-byte of PULS and PULU bit 0 names CC
abbrev pub memory_changes_h : MemoryOp → ℕ → Bool
memory_changes_h (OnMemory op) m = false
memory_changes_h (Store8 acc) m = false
memory_changes_h (Store16 word) m = false
memory_changes_h Bsr m = false
memory_changes_h Jsr m = false
memory_changes_h Rts m = false
memory_changes_h Rti m = true
memory_changes_h (Swi which) m = false
memory_changes_h Cwai m = true
memory_changes_h Sync m = false
memory_changes_h (Push own) m = false
memory_changes_h (Pull own) m = bit_at 0 m

abbrev pub may_change_h : Op → ℕ → Bool
may_change_h (Registers op) m = registers_change_h op m
may_change_h (Memory op) m = memory_changes_h op m

-- the law
abbrev pub HalfCarryAlone : Type 0
HalfCarryAlone =
    (op : Op) (s : Settings) (mem : List ℕ) (r : Set) (ea : ℕ)
    → may_change_h op (byte_at mem ea) ≡ false → flag H (evaluate_of op s mem r ea).regs.cc ≡ flag H r.cc
