-- The laws of decoding: by which numbers it refuses, each of 3, 4, 5 and 24 exactly, how long an instruction is, and what fits its width.
-- Assumes nothing.
use Rattle.std.specs.Prelude.{◌≡◌, ℕ, ◌+◌, ◌<◌, ◌≤◌, ◌&&◌, ◌||◌, T, ◌⊎◌, ◌↔◌, List, [], ◌==◌, nat_le, Err, None, Ok, Option, Result, Some}
use Rattle.memory.specs.Fits.{Bytes}
use Rattle.memory.specs.Map.{byte_at}
use Rattle.answers.specs.Numbers.{number_of}
use Rattle.answers.specs.declared.Refusal.{Refusal}
use Rattle.answers.specs.declared.Refusal.TheVariants.{Opcode, PastEnd}
use Rattle.opcodes.specs.Manual.{rows, prefix, entry_of}
use Rattle.opcodes.specs.Places.{named}
use Rattle.opcodes.specs.declared.Mode.{Mode}
use Rattle.opcodes.specs.declared.Mode.TheVariants.{Inherent, Immediate8, Immediate16, Direct, Indexed, Extended, Relative8, Relative16}
use Rattle.opcodes.specs.declared.Page.{Page}
use Rattle.opcodes.specs.declared.Page.TheVariants.{Plain, Ten, Eleven}
use Rattle.decode.specs.PostByte.{form_of, offset_bytes}
use Rattle.decode.specs.Operand.{operand_bytes}
use Rattle.decode.specs.Decode.{located, decoded_at}
use Rattle.decode.specs.declared.operand.Operand.{Operand}
use Rattle.decode.specs.declared.operand.Operand.TheVariants.{Inherent as Nothing, Immediate as ByValue, Direct as InPage, Indexed as ByIndex, Extended as AtAddress, Relative as Branch}
use Rattle.decode.specs.declared.instruction.Instruction.{Instruction}
use Rattle.decode.specs.declared.postbyte.Form.{Form}
use Rattle.opcodes.specs.declared.Entry.{Entry}

-- 3, 4, 5 or 24, and no other
abbrev pub OfDecoding : Refusal → Type 0
OfDecoding x = T ((nat_le 3 (number_of x) && nat_le (number_of x) 5) || number_of x == 24)

abbrev pub RefusedSo : Result Instruction Refusal → Type 0
RefusedSo (Ok i) = Unit {0}
RefusedSo (Err x) = OfDecoding x

abbrev pub DecodeRefuses : Type 0
DecodeRefuses = (mem : List ℕ) (pc : ℕ) → RefusedSo (decoded_at mem pc)

-- 3 exactly where the opcode's bytes are there and no row of the manual names them
abbrev pub Unnamed : Result (Page × ℕ × ℕ) Refusal → Type 0
Unnamed (Ok (page, code, at)) = named (prefix page + code) rows ≡ []
Unnamed (Err x) = ⊥

abbrev pub OpcodeRefused : Type 0
OpcodeRefused = (mem : List ℕ) (pc : ℕ) → Bytes mem → (decoded_at mem pc ≡ Err Opcode) ↔ Unnamed (located mem pc)

-- 5 and 24, each exactly where the instruction is indexed and its post-byte is there and is refused by it
abbrev pub NoFormAt : Refusal → Option Entry → List ℕ → ℕ → Type 0
NoFormAt x (Some e) mem at = (e.mode ≡ Indexed) × (at < 0x10000) × (form_of (byte_at mem at) ≡ Err x)
NoFormAt x None mem at = ⊥

abbrev pub Formless : Refusal → Result (Page × ℕ × ℕ) Refusal → List ℕ → Type 0
Formless x (Ok (page, code, at)) mem = NoFormAt x (entry_of page code) mem at
Formless x (Err y) mem = ⊥

abbrev pub OfPostByte : Refusal → Type 0
OfPostByte x = T (number_of x == 5 || number_of x == 24)

abbrev pub PostByteRefused : Type 0
PostByteRefused = (x : Refusal) → OfPostByte x → (mem : List ℕ) (pc : ℕ) → (decoded_at mem pc ≡ Err x) ↔ Formless x (located mem pc) mem

-- 4 exactly where a prefix stands at FFFF, or the last of the bytes that follow the opcode lies past FFFF
abbrev pub PrefixAtTop : List ℕ → ℕ → Type 0
PrefixAtTop mem pc = ((byte_at mem pc ≡ 0x10) ⊎ (byte_at mem pc ≡ 0x11)) × (pc ≡ 0xFFFF)

-- how many offset bytes a post-byte asks for; one that is refused asks for none
abbrev pub offset_bytes_by : Result Form Refusal → ℕ
offset_bytes_by (Ok form) = offset_bytes form
offset_bytes_by (Err x) = 0

-- how many bytes follow the opcode, where b is the first of them
abbrev pub bytes_after : Mode → ℕ → ℕ
bytes_after Inherent b = 0
bytes_after Immediate8 b = 1
bytes_after Immediate16 b = 2
bytes_after Direct b = 1
bytes_after Indexed b = 1 + offset_bytes_by (form_of b)
bytes_after Extended b = 2
bytes_after Relative8 b = 1
bytes_after Relative16 b = 2

abbrev pub EndsPast : Option Entry → List ℕ → ℕ → Type 0
EndsPast (Some e) mem at = 0x10000 < at + bytes_after e.mode (byte_at mem at)
EndsPast None mem at = ⊥

abbrev pub CutShort : Result (Page × ℕ × ℕ) Refusal → List ℕ → Type 0
CutShort (Ok (page, code, at)) mem = EndsPast (entry_of page code) mem at
CutShort (Err x) mem = ⊥

abbrev pub BytesRefused : Type 0
BytesRefused =
    (mem : List ℕ) (pc : ℕ) → pc < 65536 → (decoded_at mem pc ≡ Err PastEnd) ↔ (PrefixAtTop mem pc ⊎ CutShort (located mem pc) mem)

-- an entry's size counts the prefix, the opcode and the operand bytes of its mode
abbrev pub prefix_bytes : Page → ℕ
prefix_bytes Plain = 0
prefix_bytes Ten = 1
prefix_bytes Eleven = 1

abbrev pub SizedAt : Page → Option Entry → Type 0
SizedAt page (Some e) = e.size ≡ prefix_bytes page + 1 + operand_bytes e.mode
SizedAt page None = Unit {0}

abbrev pub EntrySizes : Type 0
EntrySizes = (page : Page) (code : ℕ) → code < 256 → SizedAt page (entry_of page code)

-- the next address is as many bytes further as the entry has, and the offset bytes of an indexed operand
abbrev pub offset_bytes_of : Operand → ℕ
offset_bytes_of Nothing = 0
offset_bytes_of (ByValue at) = 0
offset_bytes_of (InPage low) = 0
offset_bytes_of (ByIndex ix) = offset_bytes ix.form
offset_bytes_of (AtAddress at) = 0
offset_bytes_of (Branch offset) = 0

-- what fits: an offset or an address is a word, and the next address is at most 10000
abbrev pub OperandFits : Operand → Type 0
OperandFits Nothing = Unit {0}
OperandFits (ByValue at) = at < 65536
OperandFits (InPage low) = low < 256
OperandFits (ByIndex ix) = (ix.offset < 65536) × (ix.post < 256)
OperandFits (AtAddress at) = at < 65536
OperandFits (Branch offset) = offset < 65536

pub record InstructionFits (pc : ℕ) (i : Instruction) : Type 0 where
  pub operand : OperandFits i.operand
  pub next : i.next ≤ 0x10000
  pub length : i.next ≡ pc + i.entry.size + offset_bytes_of i.operand

abbrev pub DecodedFits : ℕ → Result Instruction Refusal → Type 0
DecodedFits pc (Ok i) = InstructionFits pc i
DecodedFits pc (Err x) = Unit {0}

abbrev pub DecodeFits : Type 0
DecodeFits = (mem : List ℕ) (pc : ℕ) → Bytes mem → pc < 65536 → DecodedFits pc (decoded_at mem pc)
