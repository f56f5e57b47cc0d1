-- What is printed of a listing: a line of 48 columns and a line feed for each instruction. The input is a head of five bytes, an address, whether
-- the listing begins there (1) or where a reset leads (0), and a count of lines, and then the text of an S-record file.
-- Assumes nothing.
use Rattle.std.specs.Prelude.{ℕ, zero, suc, ◌+◌, ◌-◌, ◌*◌, Bool, cond, ◌&&◌, List, [], ◌∷◌, ◌++◌, eqb, leb, ltb, length, get_or, drop, replicate, Err, Ok, Result}
use Rattle.answers.specs.Numbers.{number_of}
use Rattle.answers.specs.declared.Refusal.{Refusal}
use Rattle.answers.specs.declared.Refusal.TheVariants.{Malformed}
use Rattle.text.specs.Hex.{hex2, hex4}
use Rattle.text.specs.Lines.{decimal, alone, line_feed}
use Rattle.srecord.specs.File.{loaded_of, memory_loaded}
use Rattle.memory.specs.Map.{byte_at, word_at}
use Rattle.registers.specs.ConditionCodes.{ascii}
use Rattle.disassembly.specs.Figures.{byte_text}
use Rattle.disassembly.specs.Line.{line_with, instruction_line}
use Rattle.disassembly.specs.Disassembly.{legible}
use Rattle.decode.specs.declared.instruction.Instruction.{Instruction}

-- ---- a line

-- where an address refuses: its byte, which an assembler takes as data, and the number of the refusal
abbrev pub refused_text : ℕ → Refusal → List ℕ
refused_text b x = byte_text b ++ (ascii "  REFUSED BY " ++ decimal (number_of x))

unfoldable pub refused_at : List ℕ → ℕ → Refusal → List ℕ
refused_at mem at x = line_with (hex4 at) (hex2 (byte_at mem at)) (ascii "FCB") (refused_text (byte_at mem at) x)

abbrev pub line_from : List ℕ → ℕ → Result Instruction Refusal → List ℕ
line_from mem at (Ok i) = instruction_line mem at i
line_from mem at (Err x) = refused_at mem at x

-- where the listing goes on: after the instruction, or at the next address
abbrev pub next_from : ℕ → Result Instruction Refusal → ℕ
next_from at (Ok i) = i.next
next_from at (Err x) = at + 1

-- ---- the listing

-- how many of n lines are left after one: none past FFFF
abbrev pub left_after : ℕ → ℕ → ℕ
left_after n next = cond (leb next 0xFFFF) (n - 1) 0

-- up to n lines
unfoldable pub listing : ℕ → List ℕ → ℕ → List ℕ
listing zero mem at = []
listing (suc n) mem at =
    (line_from mem at (legible mem at) ++ (line_feed ∷ []))
    ++ cond (leb (next_from at (legible mem at)) 0xFFFF) (listing n mem (next_from at (legible mem at))) []

-- by the answer to the file: a refused file prints the number of its refusal. Where no first address is given, it is where a reset leads
abbrev pub loaded_listing : Result ℕ Refusal → Bool → ℕ → ℕ → List ℕ → List ℕ
loaded_listing (Err x) given at n mem = alone (number_of x)
loaded_listing (Ok a) given at n mem = listing n mem (cond given at (word_at mem 0xFFFE))

-- the file's data are laid in zeroed memory
unfoldable pub empty_memory : List ℕ
empty_memory = replicate 65536 0

unfoldable pub file_listing : Bool → ℕ → ℕ → List ℕ → List ℕ
file_listing given at n file = loaded_listing (loaded_of empty_memory file) given at n (memory_loaded empty_memory file)

-- ---- the head

abbrev pub head_word : ℕ → List ℕ → ℕ
head_word k input = 256 * get_or input k 0 + get_or input (k + 1) 0

-- 0: from where a reset leads; 1: from the address in the head
abbrev pub from_byte : List ℕ → ℕ
from_byte input = get_or input 2 0

-- a whole head, at most 1 MiB of text, and one of these
abbrev pub is_listable : List ℕ → Bool
is_listable input = (leb 5 (length input) && leb (length input) (5 + 0x100000)) && ltb (from_byte input) 2

-- a malformed head prints its number, 16
unfoldable pub list_printed : List ℕ → List ℕ
list_printed input =
    cond (is_listable input)
    (file_listing (eqb (from_byte input) 1) (head_word 0 input) (head_word 3 input) (drop 5 input))
    (alone (number_of Malformed))
