-- The bytes at PC to an instruction or a refusal: prefix (4), opcode (3), operand or post-byte (4), its form (5, 24), offset (4), in this order.
-- Assumes nothing.
use Rattle.std.specs.Prelude.{ℕ, ◌+◌, cond, List, ◌==◌, nat_lt, Err, None, Ok, Option, Result, Some}
use Rattle.memory.specs.Map.{byte_at, low_at}
use Rattle.answers.specs.declared.Refusal.TheVariants.{Opcode, PastEnd}
use Rattle.opcodes.specs.Manual.{entry_of}
use Rattle.opcodes.specs.declared.Entry.{Entry}
use Rattle.opcodes.specs.declared.Page.{Page}
use Rattle.opcodes.specs.declared.Page.TheVariants.{Plain, Ten, Eleven}
use Rattle.decode.specs.Operand.{operand_at}
use Rattle.answers.specs.declared.Refusal.{Refusal}
use Rattle.decode.specs.declared.instruction.Instruction.{Instruction}
use Rattle.decode.specs.declared.operand.Operand.{Operand}

-- the byte after a prefix: 4 past FFFF
abbrev pub second_byte : Page → List ℕ → ℕ → Result (Page × ℕ × ℕ) Refusal
second_byte page mem pc = cond (nat_lt pc 0xFFFF) (Ok (page, byte_at mem (low_at pc), pc + 2)) (Err PastEnd)

-- 10 and 11 lead to the second and third page
abbrev located_as : List ℕ → ℕ → ℕ → Result (Page × ℕ × ℕ) Refusal
located_as mem pc code =
    cond (code == 0x10) (second_byte Ten mem pc)
    (cond (code == 0x11) (second_byte Eleven mem pc)
    (Ok (Plain, code, pc + 1)))

-- the opcode: its page, its byte there, and the address after it
unfoldable pub located : List ℕ → ℕ → Result (Page × ℕ × ℕ) Refusal
located mem pc = located_as mem pc (byte_at mem pc)

abbrev pub with_operand : Entry → Result (Operand × ℕ) Refusal → Result Instruction Refusal
with_operand e (Ok (operand, next)) = Ok (record { entry = e; operand = operand; next = next })
with_operand e (Err x) = Err x

-- a place of the map that is not in the manual: 3
unfoldable pub decoded_as : Option Entry → List ℕ → ℕ → Result Instruction Refusal
decoded_as (Some e) mem at = with_operand e (operand_at e.mode mem at)
decoded_as None mem at = Err Opcode

abbrev pub from_located : Result (Page × ℕ × ℕ) Refusal → List ℕ → Result Instruction Refusal
from_located (Ok (page, code, at)) mem = decoded_as (entry_of page code) mem at
from_located (Err x) mem = Err x

unfoldable pub decoded_at : List ℕ → ℕ → Result Instruction Refusal
decoded_at mem pc = from_located (located mem pc) mem
