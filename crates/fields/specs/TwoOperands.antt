-- Rows 8 to F of the opcode map: bit 6 chooses the register, bits 5 and 4 the mode, the column the operation.
-- Assumes nothing.
use Rattle.std.specs.Prelude.{ℕ, ◌/◌, ◌%◌, Bool, true, false, cond, [], ◌∷◌, eqb, get_or, None, Option, Some}
use Rattle.registers.specs.ConditionCodes.{bit_at}
use Rattle.registers.specs.declared.Word.TheVariants.{D, X, Y, U, S}
use Rattle.opcodes.specs.declared.Acc.{Acc}
use Rattle.opcodes.specs.declared.Acc.TheVariants.{A, B}
use Rattle.opcodes.specs.declared.Alu.{Alu as Binary}
use Rattle.opcodes.specs.declared.Alu.TheVariants.{Add, Adc, Sub, Sbc, Cmp, And, Bit, Or, Eor, Ld}
use Rattle.opcodes.specs.declared.MemoryOp.TheVariants.{Store8, Store16, Bsr, Jsr}
use Rattle.opcodes.specs.declared.Mode.TheVariants.{Immediate8, Immediate16, Relative8}
use Rattle.opcodes.specs.declared.Op.TheVariants.{Registers, Memory}
use Rattle.opcodes.specs.declared.Page.{Page}
use Rattle.opcodes.specs.declared.Page.TheVariants.{Plain, Ten, Eleven}
use Rattle.opcodes.specs.declared.RegisterOp.TheVariants.{Alu, Addd, Subd, Load16, Cmp16}
use Rattle.fields.specs.Entries.{entry_at, mode_of, unless_immediate}
use Rattle.fields.specs.declared.two_operands.TwoOperands.{TwoOperands}
use Rattle.fields.specs.declared.two_operands.TwoOperands.TheVariants.{Byte, Store as StoreByte, Word as OnWord}
use Rattle.fields.specs.declared.words.WordOp.{WordOp}
use Rattle.fields.specs.declared.words.WordOp.TheVariants.{Arithmetic, Load, Store, Call}
use Rattle.opcodes.specs.declared.Entry.{Entry}

-- ---- an accumulator and a byte

-- the columns 0 to B; 3 and those from C on are of words
unfoldable pub two_operands : ℕ → TwoOperands
two_operands column =
    get_or
    (Byte Sub
    ∷ Byte Cmp
    ∷ Byte Sbc
    ∷ OnWord
    ∷ Byte And
    ∷ Byte Bit
    ∷ Byte Ld
    ∷ StoreByte
    ∷ Byte Eor
    ∷ Byte Adc
    ∷ Byte Or
    ∷ Byte Add
    ∷ [])
    column OnWord

abbrev pub accumulator_of : ℕ → Acc
accumulator_of code = cond (bit_at 6 code) B A

unfoldable pub with_byte : Binary → ℕ → Option Entry
with_byte op code = entry_at Plain (Registers (Alu op (accumulator_of code))) (mode_of code Immediate8) 2

unfoldable pub store_byte : ℕ → Option Entry
store_byte code = unless_immediate code (entry_at Plain (Memory (Store8 (accumulator_of code))) (mode_of code Immediate8) 2)

-- ---- words: what stands in the columns 3, C, D, E, F

abbrev pub columns : Option WordOp → Option WordOp → Option WordOp → Option WordOp → Option WordOp → ℕ → Option WordOp
columns at3 at_c at_d at_e at_f column =
    get_or
    (None
    ∷ None
    ∷ None
    ∷ at3
    ∷ None
    ∷ None
    ∷ None
    ∷ None
    ∷ None
    ∷ None
    ∷ None
    ∷ None
    ∷ at_c
    ∷ at_d
    ∷ at_e
    ∷ at_f
    ∷ [])
    column None

-- bit 6 of the opcode, and the page
abbrev pub word_operation : Bool → Page → ℕ → Option WordOp
word_operation false Plain column = columns (Some (Arithmetic Subd)) (Some (Arithmetic (Cmp16 X))) (Some Call) (Some (Load X)) (Some (Store X)) column
word_operation true Plain column = columns (Some (Arithmetic Addd)) (Some (Load D)) (Some (Store D)) (Some (Load U)) (Some (Store U)) column
word_operation false Ten column = columns (Some (Arithmetic (Cmp16 D))) (Some (Arithmetic (Cmp16 Y))) None (Some (Load Y)) (Some (Store Y)) column
word_operation true Ten column = columns None None None (Some (Load S)) (Some (Store S)) column
word_operation false Eleven column = columns (Some (Arithmetic (Cmp16 U))) (Some (Arithmetic (Cmp16 S))) None None None column
word_operation true Eleven column = None

-- JSR; where its mode would be immediate, BSR, whose operand is an offset
abbrev pub call : ℕ → Option Entry
call code =
    cond (eqb (code / 16 % 4) 0) (entry_at Plain (Memory Bsr) Relative8 7) (entry_at Plain (Memory Jsr) (mode_of code Immediate16) 5)

abbrev pub on_word : Page → ℕ → Option WordOp → Option Entry
on_word page code (Some (Arithmetic op)) = entry_at page (Registers op) (mode_of code Immediate16) 4
on_word page code (Some (Load word)) = entry_at page (Registers (Load16 word)) (mode_of code Immediate16) 3
on_word page code (Some (Store word)) = unless_immediate code (entry_at page (Memory (Store16 word)) (mode_of code Immediate16) 3)
on_word page code (Some Call) = call code
on_word page code None = None

unfoldable pub word_place : Page → ℕ → Option Entry
word_place page code = on_word page code (word_operation (bit_at 6 code) page (code % 16))

-- ---- a place of these rows on the plain page

abbrev pub on_two : ℕ → TwoOperands → Option Entry
on_two code (Byte op) = with_byte op code
on_two code StoreByte = store_byte code
on_two code OnWord = word_place Plain code

unfoldable pub two_operand_place : ℕ → Option Entry
two_operand_place code = on_two code (two_operands (code % 16))
