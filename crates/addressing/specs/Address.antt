-- The effective address. The index register changes first, and what follows sees it changed. Sums wrap at 65,536.
-- Assumes nothing.
use Rattle.std.specs.Prelude.{ℕ, ◌+◌, ◌-◌, ◌*◌, ◌%◌, Bool, cond, List, nat_le, Err, Ok, Result}
use Rattle.registers.specs.Names.{index_word}
use Rattle.registers.specs.RegisterSet.{word_of, with_word, with_pc}
use Rattle.registers.specs.declared.Word.{Word}
use Rattle.registers.specs.declared.Word.TheVariants.{D}
use Rattle.registers.specs.declared.Set.{Set}
use Rattle.memory.specs.Map.{word_at}
use Rattle.answers.specs.declared.Refusal.TheVariants.{PastEnd}
use Rattle.decode.specs.PostByte.{is_indirect, index_of}
use Rattle.decode.specs.Operand.{signed_byte}
use Rattle.decode.specs.declared.postbyte.Form.{Form}
use Rattle.decode.specs.declared.postbyte.Form.TheVariants.{Offset5, Increment1, Increment2, Decrement1, Decrement2, NoOffset, OffsetB, OffsetA, Offset8, Offset16, OffsetD, Program8, Program16, Address}
use Rattle.decode.specs.declared.operand.Indexed.{Indexed}
use Rattle.decode.specs.declared.operand.Operand.{Operand}
use Rattle.decode.specs.declared.operand.Operand.TheVariants.{Inherent as Nothing, Immediate as ByValue, Direct as InPage, Indexed as ByIndex, Extended as AtAddress, Relative as Branch}
use Rattle.addressing.specs.declared.Addressed.{Addressed}
use Rattle.answers.specs.declared.Refusal.{Refusal}

abbrev pub at_address : Set → ℕ → Addressed
at_address r a = record { regs = r; ea = a }

abbrev pub offset_from : Set → Word → ℕ → Addressed
offset_from r i n = at_address r ((word_of r i + n) % 65536)

-- ,R+ and ,R++: the register, which is then n higher
abbrev pub incremented : Set → Word → ℕ → Addressed
incremented r i n = record { regs = with_word r i ((word_of r i + n) % 65536); ea = word_of r i }

-- ,-R and ,--R: the register once it is n lower
abbrev pub decremented : Set → Word → ℕ → Addressed
decremented r i n = record { regs = with_word r i ((word_of r i + 65536 - n) % 65536); ea = (word_of r i + 65536 - n) % 65536 }

-- counted from the next instruction's address
abbrev pub program_relative : Set → ℕ → ℕ → Addressed
program_relative r next offset = at_address r ((next % 65536 + offset) % 65536)

-- a clause for each form: the registers r, the index register i, the offset n, the next instruction's address
abbrev pub form_address : Form → Set → Word → ℕ → ℕ → Addressed
-- n,R with five bits
form_address Offset5 r i n next = offset_from r i n
-- ,R+  ,R++  ,-R  ,--R
form_address Increment1 r i n next = incremented r i 1
form_address Increment2 r i n next = incremented r i 2
form_address Decrement1 r i n next = decremented r i 1
form_address Decrement2 r i n next = decremented r i 2
-- ,R
form_address NoOffset r i n next = at_address r (word_of r i)
-- B,R  A,R with the accumulator's sign
form_address OffsetB r i n next = offset_from r i (signed_byte r.b)
form_address OffsetA r i n next = offset_from r i (signed_byte r.a)
-- n,R with 8 and 16 bits
form_address Offset8 r i n next = offset_from r i n
form_address Offset16 r i n next = offset_from r i n
-- D,R
form_address OffsetD r i n next = offset_from r i (word_of r D)
-- n,PCR with 8 and 16 bits
form_address Program8 r i n next = program_relative r next n
form_address Program16 r i n next = program_relative r next n
-- an address
form_address Address r i n next = at_address r n

-- indirection: the word at the address is the effective one
unfoldable pub through_pointer : List ℕ → Addressed → Addressed
through_pointer mem a = at_address a.regs (word_at mem a.ea)

abbrev indirected : Bool → List ℕ → Addressed → Addressed
indirected i mem a = cond i (through_pointer mem a) a

-- before indirection
abbrev pub indexed_before : Set → Indexed → ℕ → Addressed
indexed_before r ix next = form_address ix.form r (index_word (index_of ix.post)) ix.offset next

unfoldable pub indexed_address : List ℕ → Set → Indexed → ℕ → Addressed
indexed_address mem r ix next = indirected (is_indirect ix.post) mem (indexed_before r ix next)

abbrev pub effective_of : Operand → List ℕ → Set → ℕ → Addressed
effective_of Nothing mem r next = at_address r 0
effective_of (ByValue at) mem r next = at_address r at
effective_of (InPage low) mem r next = at_address r (256 * r.dp + low)
effective_of (ByIndex ix) mem r next = indexed_address mem r ix next
effective_of (AtAddress at) mem r next = at_address r at
effective_of (Branch offset) mem r next = program_relative r next offset

-- PC becomes the next address: 4 past FFFF
abbrev at_next : Addressed → ℕ → Addressed
at_next a next = record { regs = with_pc a.regs next; ea = a.ea }

abbrev pub advanced : Addressed → ℕ → Result Addressed Refusal
advanced a next = cond (nat_le next 0xFFFF) (Ok (at_next a next)) (Err PastEnd)

unfoldable pub resolved_of : List ℕ → Set → Operand → ℕ → Result Addressed Refusal
resolved_of mem r operand next = advanced (effective_of operand mem r next) next
