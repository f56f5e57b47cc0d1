-- The laws of a line: its length and its parts', what a refused call leaves, and that it tells the instruction's bytes.
-- Assumes nothing.
use Rattle.std.specs.Prelude.{◌≡◌, ℕ, zero, suc, ◌+◌, ◌%◌, ◌<◌, ◌≤◌, List, [], ◌∷◌, ◌++◌, length, Err, Ok}
use Rattle.answers.specs.declared.Refusal.{Refusal}
use Rattle.memory.specs.Fits.{Bytes}
use Rattle.memory.specs.Map.{byte_at}
use Rattle.opcodes.specs.declared.Entry.{Entry}
use Rattle.decode.specs.Decode.{decoded_at}
use Rattle.decode.specs.declared.instruction.Instruction.{Instruction}
use Rattle.disassembly.specs.Operands.{operand_text}
use Rattle.disassembly.specs.Line.{line_length, mnemonic_text, instruction_line}
use Rattle.disassembly.specs.Disassembly.{disassembled_of, line_after}

-- an instruction has 1 to 5 bytes
abbrev pub OneToFive : Type 0
OneToFive = (mem : List ℕ) (at : ℕ) (i : Instruction) → Bytes mem → at < 65536 → decoded_at mem at ≡ Ok i → (at < i.next) × (i.next ≤ at + 5)

-- every operand fits its 20 columns, every mnemonic its five
abbrev pub OperandShort : Type 0
OperandShort = (i : Instruction) (mem : List ℕ) → length (operand_text i mem) ≤ 20

abbrev pub MnemonicShort : Type 0
MnemonicShort = (e : Entry) → length (mnemonic_text e) ≤ 5

-- so the text has 48 bytes, and the lent line keeps its length
abbrev pub TextOf48 : Type 0
TextOf48 = (mem : List ℕ) (at : ℕ) (i : Instruction) → Bytes mem → at < 65536 → decoded_at mem at ≡ Ok i → length (instruction_line mem at i) ≡ line_length

-- a refused call leaves every byte of the line
abbrev pub RefusedLine : Type 0
RefusedLine = (mem line : List ℕ) (at : ℕ) (x : Refusal) → disassembled_of mem at (length line) ≡ Err x → line_after mem at line ≡ line

-- the n bytes of an instruction
unfoldable pub instruction_bytes : ℕ → List ℕ → ℕ → List ℕ
instruction_bytes zero mem at = []
instruction_bytes (suc n) mem at = instruction_bytes n mem at ++ (byte_at mem ((at + n) % 65536) ∷ [])

-- of one length at one address, two that print the same line are the same
abbrev pub LinesApart : Type 0
LinesApart =
    (one other line : List ℕ) (at n : ℕ) → Bytes one → Bytes other → at < 65536
    → disassembled_of one at (length line) ≡ Ok n → disassembled_of other at (length line) ≡ Ok n
    → line_after one at line ≡ line_after other at line → instruction_bytes n one at ≡ instruction_bytes n other at
