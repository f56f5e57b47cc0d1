-- A disassembly reads the instruction as a step does (document 02, request [7]): the same refusals, length, targets and registers. All over
-- the definitions of both, so that what changes in decoding changes in both.
-- Assumes nothing.
use Rattle.std.specs.Prelude.{ℕ, ◌+◌, ◌<◌, ◌||◌, List, [], ◌∷◌, ◌++◌, reverse, ◌↔◌, ◌≡◌, T, eqb, Err, Ok, Result}
use Rattle.answers.specs.Numbers.{number_of}
use Rattle.registers.specs.declared.Name.{Name}
use Rattle.registers.specs.declared.Set.{Set}
use Rattle.registers.specs.declared.Stack.{Stack}
use Rattle.memory.specs.Fits.{Bytes}
use Rattle.machine.specs.declared.Machine.{Machine}
use Rattle.machine.specs.declared.Settings.{Settings}
use Rattle.decode.specs.declared.instruction.Instruction.{Instruction}
use Rattle.addressing.specs.Address.{program_relative}
use Rattle.stack.specs.Pushing.{order, chosen}
use Rattle.calls.specs.Steps.{At, reached}
use Rattle.refusals.specs.Steps.{Runs, Answers}
use Rattle.disassembly.specs.Figures.{target}
use Rattle.disassembly.specs.Names.{name_text, comma, list_text}
use Rattle.disassembly.specs.Disassembly.{disassembled_of}
use Rattle.answers.specs.declared.Refusal.{Refusal}

-- the number that a disassembly is answered by
abbrev pub number_of_line : Result ℕ Refusal → ℕ
number_of_line (Ok n) = 0
number_of_line (Err x) = number_of x

-- 3, 4, 5, 24 and 7, which decoding, the next address and the transfer codes give
abbrev pub OfInstruction : ℕ → Type 0
OfInstruction k = T (eqb k 3 || (eqb k 4 || (eqb k 5 || (eqb k 24 || eqb k 7))))

-- for a machine that runs, with PC at the address, and a line of any length
pub record SameAsStep (mem : List ℕ) (m : Machine) (s : Settings) (room : ℕ) : Type 0 where
  -- each of these refuses the disassembly exactly where it refuses the step
  pub refused : (k : ℕ) → OfInstruction k → Answers mem m s k ↔ (number_of_line (disassembled_of mem m.regs.pc room) ≡ k)
  -- where the step goes on to its operation, PC before it is the address and the length
  pub next : (i : Instruction) (r : Set) (ea n : ℕ) → reached mem m ≡ At i r ea → disassembled_of mem m.regs.pc room ≡ Ok n → r.pc ≡ m.regs.pc + n

abbrev pub DisassemblesAsStep : Type 0
DisassemblesAsStep = (mem : List ℕ) (m : Machine) (s : Settings) (room : ℕ) → Bytes mem → m.regs.pc < 65536 → Runs mem m → SameAsStep mem m s room

-- the target of a branch, and of n,PCR, is the effective address of the step
abbrev pub TargetOfStep : Type 0
TargetOfStep = (r : Set) (next n : ℕ) → (program_relative r next n).ea ≡ target next n

-- the list of PSH and PUL has the registers that a step pulls, in the order in which it pulls them, a comma between
abbrev pub comma_between : List Name → List ℕ
comma_between [] = []
comma_between (name ∷ []) = name_text name
comma_between (name ∷ next ∷ rest) = name_text name ++ (comma ∷ comma_between (next ∷ rest))

abbrev pub ListsWhatIsPulled : Type 0
ListsWhatIsPulled = (stack : Stack) (post : ℕ) → post < 256 → list_text stack post ≡ comma_between (chosen post (reverse (order stack)))
