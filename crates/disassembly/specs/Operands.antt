-- The text of an operand, by its mode and form (manual, section "Addressing modes"). No register is read and no pointer is followed.
-- Assumes nothing.
use Rattle.std.specs.Prelude.{ℕ, Bool, cond, List, [], ◌∷◌, ◌++◌}
use Prim.Native.Char.{code}
use Rattle.memory.specs.Map.{byte_at, word_at}
use Rattle.registers.specs.ConditionCodes.{ascii}
use Rattle.registers.specs.Names.{word_name, index_word}
use Rattle.registers.specs.declared.Name.{Name}
use Rattle.opcodes.specs.declared.Entry.{Entry}
use Rattle.opcodes.specs.declared.MemoryOp.{MemoryOp}
use Rattle.opcodes.specs.declared.MemoryOp.TheVariants.{OnMemory, Store8, Store16, Bsr, Jsr, Rts, Rti, Swi, Cwai, Sync, Push, Pull}
use Rattle.opcodes.specs.declared.Mode.{Mode}
use Rattle.opcodes.specs.declared.Mode.TheVariants.{Inherent, Immediate8, Immediate16, Direct, Indexed, Extended, Relative8, Relative16}
use Rattle.opcodes.specs.declared.Op.{Op}
use Rattle.opcodes.specs.declared.Op.TheVariants.{Registers, Memory}
use Rattle.decode.specs.PostByte.{is_indirect, index_of}
use Rattle.decode.specs.declared.instruction.Instruction.{Instruction}
use Rattle.decode.specs.declared.operand.Indexed.{Indexed as PostByteAndOffset}
use Rattle.decode.specs.declared.operand.Operand.{Operand}
use Rattle.decode.specs.declared.operand.Operand.TheVariants.{Inherent as Nothing, Immediate as ByValue, Direct as InPage, Indexed as ByIndex, Extended as AtAddress, Relative as Branch}
use Rattle.decode.specs.declared.postbyte.Form.{Form}
use Rattle.decode.specs.declared.postbyte.Form.TheVariants.{Offset5, Increment1, Increment2, Decrement1, Decrement2, NoOffset, OffsetB, OffsetA, Offset8, Offset16, OffsetD, Program8, Program16, Address}
use Rattle.operations.specs.Refusals.{names_two}
use Rattle.disassembly.specs.Figures.{byte_text, word_text, short_offset, long_offset, target}
use Rattle.disassembly.specs.Names.{name_text, comma, transfer_text, list_text}

-- ---- immediate

-- #$12
abbrev pub immediate_byte : ℕ → List ℕ
immediate_byte b = code "#" ∷ byte_text b

-- the byte after the opcode: a post-byte of PSH and PUL, else a number
abbrev pub memory_byte_text : MemoryOp → ℕ → List ℕ
memory_byte_text (OnMemory op) b = immediate_byte b
memory_byte_text (Store8 acc) b = immediate_byte b
memory_byte_text (Store16 word) b = immediate_byte b
memory_byte_text Bsr b = immediate_byte b
memory_byte_text Jsr b = immediate_byte b
memory_byte_text Rts b = immediate_byte b
memory_byte_text Rti b = immediate_byte b
memory_byte_text (Swi which) b = immediate_byte b
memory_byte_text Cwai b = immediate_byte b
memory_byte_text Sync b = immediate_byte b
memory_byte_text (Push stack) b = list_text stack b
memory_byte_text (Pull stack) b = list_text stack b

-- or a post-byte of TFR and EXG
abbrev pub byte_operand : Op → ℕ → List ℕ
byte_operand (Registers op) b = cond (names_two op) (transfer_text b) (immediate_byte b)
byte_operand (Memory op) b = memory_byte_text op b

-- the other modes have no immediate operand
abbrev pub immediate_text : Mode → Op → List ℕ → ℕ → List ℕ
immediate_text Inherent op mem at = []
immediate_text Immediate8 op mem at = byte_operand op (byte_at mem at)
immediate_text Immediate16 op mem at = code "#" ∷ word_text (word_at mem at)
immediate_text Direct op mem at = []
immediate_text Indexed op mem at = []
immediate_text Extended op mem at = []
immediate_text Relative8 op mem at = []
immediate_text Relative16 op mem at = []

-- ---- indexed: a clause for each form, of the offset n, the index register r and the next instruction's address

-- $1234,PCR
abbrev pub program_text : ℕ → ℕ → List ℕ
program_text next n = word_text (target next n) ++ ascii ",PCR"

abbrev pub form_text : Form → ℕ → Name → ℕ → List ℕ
-- n,R with five bits
form_text Offset5 n r next = short_offset n ++ (comma ∷ name_text r)
-- ,R+  ,R++  ,-R  ,--R
form_text Increment1 n r next = comma ∷ name_text r ++ ascii "+"
form_text Increment2 n r next = comma ∷ name_text r ++ ascii "++"
form_text Decrement1 n r next = ascii ",-" ++ name_text r
form_text Decrement2 n r next = ascii ",--" ++ name_text r
-- ,R
form_text NoOffset n r next = comma ∷ name_text r
-- B,R  A,R
form_text OffsetB n r next = ascii "B," ++ name_text r
form_text OffsetA n r next = ascii "A," ++ name_text r
-- n,R with 8 and 16 bits
form_text Offset8 n r next = short_offset n ++ (comma ∷ name_text r)
form_text Offset16 n r next = long_offset n ++ (comma ∷ name_text r)
-- D,R
form_text OffsetD n r next = ascii "D," ++ name_text r
-- n,PCR with 8 and 16 bits
form_text Program8 n r next = program_text next n
form_text Program16 n r next = program_text next n
-- an address
form_text Address n r next = word_text n

-- indirection
abbrev pub bracketed : Bool → List ℕ → List ℕ
bracketed indirect l = cond indirect (code "[" ∷ l ++ ascii "]") l

abbrev pub indexed_text : PostByteAndOffset → ℕ → List ℕ
indexed_text ix next = bracketed (is_indirect ix.post) (form_text ix.form ix.offset (word_name (index_word (index_of ix.post))) next)

-- ---- the operand

abbrev pub operand_text_of : Operand → Entry → List ℕ → ℕ → List ℕ
operand_text_of Nothing e mem next = []
operand_text_of (ByValue at) e mem next = immediate_text e.mode e.op mem at
operand_text_of (InPage low) e mem next = code "<" ∷ byte_text low
operand_text_of (ByIndex ix) e mem next = indexed_text ix next
operand_text_of (AtAddress at) e mem next = word_text at
operand_text_of (Branch offset) e mem next = word_text (target next offset)

unfoldable pub operand_text : Instruction → List ℕ → List ℕ
operand_text i mem = operand_text_of i.operand i.entry mem i.next
