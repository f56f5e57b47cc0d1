-- What an instruction's operand bytes say, or 4, 5 or 24. `at` is the address after what was read already; no register and no pointer is read.
-- Assumes nothing.
use Rattle.std.specs.Prelude.{ℕ, zero, suc, ◌+◌, ◌*◌, cond, List, nat_le, Err, Ok, Result}
use Rattle.u8oru16.specs.Value.{value_of}
use Rattle.u8oru16.specs.Negated.{sign_extended}
use Rattle.u8oru16.specs.declared.u8u16.TheVariants.{u8}
use Rattle.memory.specs.Map.{byte_at}
use Rattle.answers.specs.declared.Refusal.TheVariants.{PastEnd}
use Rattle.opcodes.specs.declared.Mode.{Mode}
use Rattle.opcodes.specs.declared.Mode.TheVariants.{Inherent, Immediate8, Immediate16, Direct, Indexed, Extended, Relative8, Relative16}
use Rattle.decode.specs.PostByte.{form_of, five_bits, offset_bytes}
use Rattle.decode.specs.declared.postbyte.Form.{Form}
use Rattle.decode.specs.declared.postbyte.Form.TheVariants.{Offset5, Increment1, Increment2, Decrement1, Decrement2, NoOffset, OffsetB, OffsetA, Offset8, Offset16, OffsetD, Program8, Program16, Address}
use Rattle.decode.specs.declared.operand.Operand.{Operand}
use Rattle.decode.specs.declared.operand.Operand.TheVariants.{Inherent as Nothing, Immediate as ByValue, Direct as InPage, Indexed as ByIndex, Extended as AtAddress, Relative as Branch}
use Rattle.answers.specs.declared.Refusal.{Refusal}

-- a byte with its sign, as a word
abbrev pub signed_byte : ℕ → ℕ
signed_byte b = value_of (sign_extended (u8 b))

-- the number that no, one or two bytes hold, high byte first
abbrev pub operand_number : ℕ → List ℕ → ℕ → ℕ
operand_number zero mem at = 0
operand_number (suc zero) mem at = byte_at mem at
operand_number (suc (suc n)) mem at = 256 * byte_at mem at + byte_at mem (at + 1)

-- n bytes are read, and their number and the address after them say the rest: 4 where one of them lies past FFFF
abbrev pub reading : ℕ → List ℕ → ℕ → (ℕ → ℕ → (Result (Operand × ℕ) Refusal)) → Result (Operand × ℕ) Refusal
reading zero mem at says = says 0 at
reading (suc n) mem at says = cond (nat_le (at + suc n) 0x10000) (says (operand_number (suc n) mem at) (at + suc n)) (Err PastEnd)

-- the offset of a form: in the post-byte, or the number n of its offset bytes, of which a single one has a sign
abbrev pub offset_of : Form → ℕ → ℕ → ℕ
offset_of Offset5 post n = five_bits post
offset_of Increment1 post n = n
offset_of Increment2 post n = n
offset_of Decrement1 post n = n
offset_of Decrement2 post n = n
offset_of NoOffset post n = n
offset_of OffsetB post n = n
offset_of OffsetA post n = n
offset_of Offset8 post n = signed_byte n
offset_of Offset16 post n = n
offset_of OffsetD post n = n
offset_of Program8 post n = signed_byte n
offset_of Program16 post n = n
offset_of Address post n = n

abbrev pub indexed_by : Form → ℕ → ℕ → Operand
indexed_by form post offset = ByIndex (record { offset = offset; post = post; form = form })

-- the offset bytes follow the post-byte
unfoldable pub with_form : Form → List ℕ → ℕ → ℕ → Result (Operand × ℕ) Refusal
with_form form mem post at = reading (offset_bytes form) mem at (λ n next. Ok (indexed_by form post (offset_of form post n), next))

abbrev pub after_post_byte : Result Form Refusal → List ℕ → ℕ → ℕ → Result (Operand × ℕ) Refusal
after_post_byte (Ok form) mem post at = with_form form mem post at
after_post_byte (Err x) mem post at = Err x

-- how many operand bytes follow the opcode; of an indexed operand the post-byte alone
abbrev pub operand_bytes : Mode → ℕ
operand_bytes Inherent = 0
operand_bytes Immediate8 = 1
operand_bytes Immediate16 = 2
operand_bytes Direct = 1
operand_bytes Indexed = 1
operand_bytes Extended = 2
operand_bytes Relative8 = 1
operand_bytes Relative16 = 2

-- by the mode: the operand bytes' address and number, and the address after them. An immediate operand stands at its own address
abbrev pub operand_of : Mode → List ℕ → ℕ → ℕ → ℕ → Result (Operand × ℕ) Refusal
operand_of Inherent mem at n next = Ok (Nothing, next)
operand_of Immediate8 mem at n next = Ok (ByValue at, next)
operand_of Immediate16 mem at n next = Ok (ByValue at, next)
operand_of Direct mem at n next = Ok (InPage n, next)
operand_of Indexed mem at n next = after_post_byte (form_of n) mem n next
operand_of Extended mem at n next = Ok (AtAddress n, next)
operand_of Relative8 mem at n next = Ok (Branch (signed_byte n), next)
operand_of Relative16 mem at n next = Ok (Branch n, next)

unfoldable pub operand_at : Mode → List ℕ → ℕ → Result (Operand × ℕ) Refusal
operand_at mode mem at = reading (operand_bytes mode) mem at (operand_of mode mem at)
