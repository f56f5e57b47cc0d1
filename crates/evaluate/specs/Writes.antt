-- Every byte that an operation writes stands in the list of its effect: none is lost to the twelve places of that list.
-- Assumes nothing.
use Rattle.std.specs.Prelude.{ℕ, Bool, true, false, List, [], ◌∷◌, ◌≡◌, length, Err, Ok}
use Rattle.answers.specs.declared.Refusal.{Refusal}
use Rattle.registers.specs.ConditionCodes.{put}
use Rattle.registers.specs.Names.{stack_word}
use Rattle.registers.specs.RegisterSet.{word_of}
use Rattle.registers.specs.declared.CCBit.TheVariants.{E}
use Rattle.registers.specs.declared.Set.{Set}
use Rattle.registers.specs.declared.Stack.TheVariants.{S}
use Rattle.memory.specs.Map.{byte_at}
use Rattle.memory.specs.Writes.{listed, word_writes}
use Rattle.memory.specs.declared.writes.Write.{Write}
use Rattle.machine.specs.declared.Settings.{Settings}
use Rattle.opcodes.specs.declared.MemoryOp.{MemoryOp}
use Rattle.opcodes.specs.declared.MemoryOp.TheVariants.{OnMemory, Store8, Store16, Bsr, Jsr, Rts, Rti, Swi, Cwai, Sync, Push, Pull}
use Rattle.opcodes.specs.declared.Op.{Op}
use Rattle.opcodes.specs.declared.Op.TheVariants.{Registers, Memory}
use Rattle.operations.specs.Codes.{with_codes, and_codes}
use Rattle.operations.specs.EightBit.{accumulator, unary_of}
use Rattle.stack.specs.Frames.{stacked_by}
use Rattle.stack.specs.Pushing.{registers_named, bytes_pushed, pushes}
use Rattle.vectors.specs.Service.{served}
use Rattle.vectors.specs.Table.{is_entire}
use Rattle.vectors.specs.declared.table.Vector.{Vector}
use Rattle.evaluate.specs.Evaluate.{evaluate_of}

abbrev pub byte_write : ℕ → ℕ → List Write
byte_write at b = record { at = at; byte = b; system = false } ∷ []

-- a frame: E is set or cleared, then the registers are pushed on S by System writes
abbrev pub frame_writes : Set → Bool → List Write
frame_writes r entire = pushes (with_codes r (put E entire r.cc)) true r.s (registers_named S (stacked_by entire))

-- the writes that an operation makes, in order
abbrev pub memory_makes : MemoryOp → Settings → List ℕ → Set → ℕ → List Write
memory_makes (OnMemory op) s mem r ea = byte_write ea (unary_of op s.flags r.cc (byte_at mem ea)).value
memory_makes (Store8 acc) s mem r ea = byte_write ea (accumulator acc r)
memory_makes (Store16 word) s mem r ea = word_writes ea (word_of r word) false
memory_makes Bsr s mem r ea = pushes r false r.s (registers_named S 0x80)
memory_makes Jsr s mem r ea = pushes r false r.s (registers_named S 0x80)
memory_makes Rts s mem r ea = []
memory_makes Rti s mem r ea = []
memory_makes (Swi which) s mem r ea = frame_writes r true
memory_makes Cwai s mem r ea = frame_writes (and_codes r (byte_at mem ea)) true
memory_makes Sync s mem r ea = []
memory_makes (Push own) s mem r ea = pushes r false (word_of r (stack_word own)) (registers_named own (byte_at mem ea))
memory_makes (Pull own) s mem r ea = []

abbrev pub made_by : Op → Settings → List ℕ → Set → ℕ → List Write
made_by (Registers op) s mem r ea = []
made_by (Memory op) s mem r ea = memory_makes op s mem r ea

-- how many they are; m is the byte at the effective address, the post-byte of PSHS and PSHU
abbrev pub memory_bytes : MemoryOp → ℕ → ℕ
memory_bytes (OnMemory op) m = 1
memory_bytes (Store8 acc) m = 1
memory_bytes (Store16 word) m = 2
memory_bytes Bsr m = 2
memory_bytes Jsr m = 2
memory_bytes Rts m = 0
memory_bytes Rti m = 0
memory_bytes (Swi which) m = 12
memory_bytes Cwai m = 12
memory_bytes Sync m = 0
memory_bytes (Push own) m = bytes_pushed m
memory_bytes (Pull own) m = 0

abbrev pub bytes_made : Op → ℕ → ℕ
bytes_made (Registers op) m = 0
bytes_made (Memory op) m = memory_bytes op m

-- the laws: an operation that is carried out lists all of them, a refused one none; a hardware interrupt that is served lists its frame
pub record NoneLost (op : Op) (s : Settings) (mem : List ℕ) (r : Set) (ea : ℕ) : Type 0 where
  pub all : (evaluate_of op s mem r ea).answer ≡ (Ok tt) → listed (evaluate_of op s mem r ea).writes ≡ made_by op s mem r ea
  pub many : length (made_by op s mem r ea) ≡ bytes_made op (byte_at mem ea)
  pub none : (x : Refusal) → (evaluate_of op s mem r ea).answer ≡ Err x → listed (evaluate_of op s mem r ea).writes ≡ []

abbrev pub NoWriteLost : Type 0
NoWriteLost = (op : Op) (s : Settings) (mem : List ℕ) (r : Set) (ea : ℕ) → NoneLost op s mem r ea

abbrev pub NoFrameLost : Type 0
NoFrameLost =
    (mem : List ℕ) (s : Settings) (r : Set) (v : Vector)
    → (served mem s r v).answer ≡ (Ok tt) → listed (served mem s r v).writes ≡ frame_writes r (is_entire v)
