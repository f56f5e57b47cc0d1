-- When a step is refused: for each number that it can return the exact case, in the words and the order of document 01,
-- "Numbers returned", and of document 02. The numbers 10 and 12 belong to the recorded step (crate journal).
-- Assumes nothing.
use Rattle.std.specs.Prelude.{ℕ, ◌≤◌, ◌<◌, Bool, true, List, ◌↔◌, ◌≢◌, ◌⊎◌, ◌≡◌, length, Err, Ok, Result}
use Rattle.answers.specs.Numbers.{number_of_answer}
use Rattle.answers.specs.declared.Refusal.TheVariants.{PostByte, PostByte8F}
use Rattle.registers.specs.declared.Set.{Set}
use Rattle.memory.specs.Fits.{Bytes}
use Rattle.memory.specs.Map.{byte_at}
use Rattle.machine.specs.declared.Machine.{Machine}
use Rattle.machine.specs.declared.Settings.{Settings}
use Rattle.machine.specs.declared.Wait.TheVariants.{Running}
use Rattle.opcodes.specs.declared.Op.{Op}
use Rattle.decode.specs.Decode.{located, decoded_at}
use Rattle.decode.specs.Laws.{Unnamed, PrefixAtTop, CutShort, Formless}
use Rattle.operations.specs.Refusals.{code_refused}
use Rattle.evaluate.specs.Room.{is_small}
use Rattle.calls.specs.Steps.{Reached, At, NotReached, reached, step_of}
use Rattle.refusals.specs.Operations.{is_fenced, leads_to_zero}
use Rattle.answers.specs.declared.Refusal.{Refusal}
use Rattle.decode.specs.declared.instruction.Instruction.{Instruction}

-- a step is answered by the number n
abbrev pub Answers : List ℕ → Machine → Settings → ℕ → Type 0
Answers mem m s n = number_of_answer (step_of mem m s).answer ≡ n

-- neither 1 nor 2: the instruction at PC is looked at
pub record Runs (mem : List ℕ) (m : Machine) : Type 0 where
  pub sized : length mem ≡ 65536
  pub running : m.wait ≡ Running

-- ---- 4: a byte of the instruction, or the next address, lies past FFFF

-- a byte of the instruction: the one after a prefix, or one of those that follow the opcode
abbrev pub BytePast : List ℕ → ℕ → Type 0
BytePast mem pc = PrefixAtTop mem pc ⊎ CutShort (located mem pc) mem

-- the next address: the instruction is whole, and the address after it lies past FFFF
abbrev pub NextPast : Result Instruction Refusal → Type 0
NextPast (Ok i) = 0xFFFF < i.next
NextPast (Err x) = ⊥

-- ---- 7, 8, 28 and 9: the tables are in Operations.antt

-- the operation is reached, none of the numbers above being given, and a table says yes of it, its registers and its effective address
abbrev pub Met : Reached → (Op → Set → ℕ → Bool) → Type 0
Met (At i r ea) test = test i.entry.op r ea ≡ true
Met (NotReached x) test = ⊥

-- ---- the laws

pub record StepRefused (mem : List ℕ) (m : Machine) (s : Settings) : Type 0 where
  -- 1: memory is not 65,536 bytes
  pub one : Answers mem m s 1 ↔ (length mem ≢ 65536)
  -- 2: step while in CWAI or SYNC
  pub two : Answers mem m s 2 ↔ ((length mem ≡ 65536) × (m.wait ≢ Running))
  -- 3: opcode not in the manual (Unnamed, in decode/specs/Laws.antt)
  pub three : Answers mem m s 3 ↔ (Runs mem m × Unnamed (located mem m.regs.pc))
  -- 4: a byte of the instruction, or the next address, lies past FFFF
  pub four : Answers mem m s 4 ↔ (Runs mem m × (BytePast mem m.regs.pc ⊎ NextPast (decoded_at mem m.regs.pc)))
  -- 5: post-byte refused (Formless, in decode/specs/Laws.antt)
  pub five : Answers mem m s 5 ↔ (Runs mem m × Formless PostByte (located mem m.regs.pc) mem)
  -- 24, in 5's place: a post-byte of low form 8F that is not 9F
  pub twenty_four : Answers mem m s 24 ↔ (Runs mem m × Formless PostByte8F (located mem m.regs.pc) mem)
  -- 6: withdrawn (SixWithdrawn, in answers/specs/Numbers.antt)
  -- 7: TFR/EXG code refused
  pub seven : Answers mem m s 7 ↔ Met (reached mem m) (λ op r ea. code_refused op mem ea)
  -- 8: stack pointer smaller than the bytes to push (is_small, in evaluate/specs/Room.antt)
  pub eight : Answers mem m s 8 ↔ Met (reached mem m) (λ op r ea. is_small op r (byte_at mem ea))
  -- 28, after 8 and before 9: a byte would be stored outside the profile
  pub twenty_eight : Answers mem m s 28 ↔ Met (reached mem m) (λ op r ea. is_fenced op s mem r ea)
  -- 9: the vector to be taken leads to a zero byte
  pub nine : Answers mem m s 9 ↔ Met (reached mem m) (λ op r ea. leads_to_zero op s mem r)
  -- and no other number
  pub only : (number_of_answer (step_of mem m s).answer ≤ 9) ⊎ (Answers mem m s 24 ⊎ Answers mem m s 28)

-- of every memory of bytes and every machine whose PC is a word
abbrev pub StepsRefused : Type 0
StepsRefused = (mem : List ℕ) (m : Machine) (s : Settings) → Bytes mem → m.regs.pc < 65536 → StepRefused mem m s
