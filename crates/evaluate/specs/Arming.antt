-- Which operations arm NMI (document 02, [5]): those that load S, whatever they load. The manual lets no NMI in after a reset until the program
-- has loaded S once.
-- Assumes nothing.
use Rattle.std.specs.Prelude.{ℕ, ◌/◌, ◌%◌, Bool, true, false, ◌&&◌, ◌||◌, ◌≡◌, eqb}
use Rattle.answers.specs.Counting.{counted}
use Rattle.registers.specs.ConditionCodes.{bit_at}
use Rattle.registers.specs.Names.{index_word}
use Rattle.registers.specs.declared.Stack.{Stack}
use Rattle.registers.specs.declared.Stack.TheVariants.{S as stack_s, U as stack_u}
use Rattle.registers.specs.declared.Word.{Word}
use Rattle.registers.specs.declared.Word.TheVariants.{D, X, Y, U, S}
use Rattle.opcodes.specs.declared.MemoryOp.{MemoryOp}
use Rattle.opcodes.specs.declared.MemoryOp.TheVariants.{OnMemory, Store8, Store16, Bsr, Jsr, Rts, Rti, Swi, Cwai, Sync, Push, Pull}
use Rattle.opcodes.specs.declared.Op.{Op}
use Rattle.opcodes.specs.declared.Op.TheVariants.{Registers, Memory}
use Rattle.opcodes.specs.declared.RegisterOp.{RegisterOp}
use Rattle.opcodes.specs.declared.RegisterOp.TheVariants.{Alu, OnAcc, TestAcc, TestMemory, Addd, Subd, Load16, Cmp16, Lea, Branch, Jmp, Nop, Daa, Sex, Mul, Abx, Andcc, Orcc, Exg, Tfr}
use Rattle.operations.specs.Transfers.{transferable}

abbrev pub is_s : Word → Bool
is_s D = false
is_s X = false
is_s Y = false
is_s U = false
is_s S = true

-- m is the byte at the effective address, which for EXG and TFR is the post-byte: code 4 names S, EXG loads both of its registers, TFR the
-- one in the low half
abbrev pub registers_arm : RegisterOp → ℕ → Bool
registers_arm (Load16 word) m = is_s word
registers_arm (Lea index) m = is_s (index_word index)
registers_arm Exg m = eqb (m / 16) 4 || eqb (m % 16) 4
registers_arm Tfr m = eqb (m % 16) 4
registers_arm (Alu op acc) m = false
registers_arm (OnAcc op acc) m = false
registers_arm (TestAcc acc) m = false
registers_arm TestMemory m = false
registers_arm Addd m = false
registers_arm Subd m = false
registers_arm (Cmp16 word) m = false
registers_arm (Branch c) m = false
registers_arm Jmp m = false
registers_arm Nop m = false
registers_arm Daa m = false
registers_arm Sex m = false
registers_arm Mul m = false
registers_arm Abx m = false
registers_arm Andcc m = false
registers_arm Orcc m = false

-- bit 6 of the post-byte of PULU names S; PULS moves S and does not load it
abbrev pub pull_arms : Stack → ℕ → Bool
pull_arms stack_u m = bit_at 6 m
pull_arms stack_s m = false

abbrev pub memory_arms : MemoryOp → ℕ → Bool
memory_arms (Pull own) m = pull_arms own m
memory_arms (OnMemory op) m = false
memory_arms (Store8 acc) m = false
memory_arms (Store16 word) m = false
memory_arms Bsr m = false
memory_arms Jsr m = false
memory_arms Rts m = false
memory_arms Rti m = false
memory_arms (Swi which) m = false
memory_arms Cwai m = false
memory_arms Sync m = false
memory_arms (Push own) m = false

abbrev pub arms : Op → ℕ → Bool
arms (Registers op) m = registers_arm op m
arms (Memory op) m = memory_arms op m

-- of the 52 post-bytes that TFR and EXG take, TFR arms by 6: S is loaded from one of six words; EXG by 11: S stands first, second or twice
pub record ArmingPostBytes : Type 0 where
  pub tfr : counted 256 (λ m. transferable m && registers_arm Tfr m) ≡ 6
  pub exg : counted 256 (λ m. transferable m && registers_arm Exg m) ≡ 11
