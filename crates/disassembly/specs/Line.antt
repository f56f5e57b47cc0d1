-- One line of 48 columns (docs/DISASSEMBLY.md): address, bytes, mnemonic, operand, each in its columns, spaces after it.
-- Assumes nothing.
use Rattle.std.specs.Prelude.{ℕ, zero, suc, ◌+◌, ◌-◌, ◌%◌, List, [], ◌∷◌, ◌++◌, length, replicate, nat_lt}
use Prim.Native.Char.{code}
use Rattle.text.specs.Hex.{hex2, hex4}
use Rattle.memory.specs.Map.{byte_at}
use Rattle.opcodes.specs.declared.Entry.{Entry}
use Rattle.mnemonics.specs.Mnemonics.{mnemonic_of}
use Rattle.decode.specs.declared.instruction.Instruction.{Instruction}
use Rattle.disassembly.specs.Operands.{operand_text}

abbrev pub space : ℕ
space = code " "

abbrev pub line_length : ℕ
line_length = 48

-- a text, and spaces up to a width
abbrev pub columns : ℕ → List ℕ → List ℕ
columns width l = l ++ replicate (width - length l) space

-- n bytes from an address on, a pair of digits and a space for each
unfoldable pub byte_pairs : ℕ → List ℕ → ℕ → List ℕ
byte_pairs zero mem at = []
byte_pairs (suc n) mem at = byte_pairs n mem at ++ (hex2 (byte_at mem ((at + n) % 65536)) ++ (space ∷ []))

-- the letters of a mnemonic; of the branches those of more than two bytes are long
unfoldable pub mnemonic_text : Entry → List ℕ
mnemonic_text e = mnemonic_of e.op (nat_lt 2 e.size)

-- four texts in their columns: from 0, 6, 22 and 28 on
unfoldable pub line_with : List ℕ → List ℕ → List ℕ → List ℕ → List ℕ
line_with address bytes name operand = columns 6 address ++ (columns 16 bytes ++ (columns 6 name ++ columns 20 operand))

-- the address, the bytes, the mnemonic and the operand of an instruction
unfoldable pub instruction_line : List ℕ → ℕ → Instruction → List ℕ
instruction_line mem at i = line_with (hex4 at) (byte_pairs (i.next - at) mem at) (mnemonic_text i.entry) (operand_text i mem)
