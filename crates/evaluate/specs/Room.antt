-- Room on the stack (document 01, number 8): the instructions that push are refused exactly where the pointer is smaller than the bytes
-- that they push.
-- Assumes nothing.
use Rattle.std.specs.Prelude.{ℕ, Bool, false, List, ◌≡◌, eqb, ltb}
use Rattle.answers.specs.Numbers.{number_of_answer}
use Rattle.registers.specs.Names.{stack_word}
use Rattle.registers.specs.RegisterSet.{word_of}
use Rattle.registers.specs.declared.Set.{Set}
use Rattle.memory.specs.Map.{byte_at}
use Rattle.machine.specs.declared.Settings.{Settings}
use Rattle.opcodes.specs.declared.MemoryOp.{MemoryOp}
use Rattle.opcodes.specs.declared.MemoryOp.TheVariants.{OnMemory, Store8, Store16, Bsr, Jsr, Rts, Rti, Swi, Cwai, Sync, Push, Pull}
use Rattle.opcodes.specs.declared.Op.{Op}
use Rattle.opcodes.specs.declared.Op.TheVariants.{Registers, Memory}
use Rattle.stack.specs.Pushing.{bytes_pushed}
use Rattle.evaluate.specs.Evaluate.{evaluate_of}

-- m is the byte at the effective address, which for PSHS and PSHU is the post-byte. PC alone is 2 bytes, all registers are 12
abbrev pub memory_small : MemoryOp → Set → ℕ → Bool
memory_small (OnMemory op) r m = false
memory_small (Store8 acc) r m = false
memory_small (Store16 word) r m = false
memory_small Bsr r m = ltb r.s 2
memory_small Jsr r m = ltb r.s 2
memory_small Rts r m = false
memory_small Rti r m = false
memory_small (Swi which) r m = ltb r.s 12
memory_small Cwai r m = ltb r.s 12
memory_small Sync r m = false
memory_small (Push own) r m = ltb (word_of r (stack_word own)) (bytes_pushed m)
memory_small (Pull own) r m = false

abbrev pub is_small : Op → Set → ℕ → Bool
is_small (Registers op) r m = false
is_small (Memory op) r m = memory_small op r m

abbrev pub SmallExactly : Type 0
SmallExactly =
    (op : Op) (s : Settings) (mem : List ℕ) (r : Set) (ea : ℕ)
    → eqb (number_of_answer (evaluate_of op s mem r ea).answer) 8 ≡ is_small op r (byte_at mem ea)
