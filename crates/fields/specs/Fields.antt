-- The opcode map by its rows: bits 7 to 4 of an opcode are its row, bits 3 to 0 its column. `place_of` is what the fields give, and the
-- law says that it is what the manual's rows give, at each of the 768 places.
-- Assumes nothing.
use Rattle.std.specs.Prelude.{ℕ, ◌/◌, ◌%◌, ◌<◌, ◌≡◌, cond, [], ◌∷◌, leb, get_or, None, Option}
use Rattle.opcodes.specs.Manual.{entry_of}
use Rattle.opcodes.specs.declared.Acc.TheVariants.{A, B}
use Rattle.opcodes.specs.declared.Mode.TheVariants.{Direct, Indexed, Extended}
use Rattle.opcodes.specs.declared.Page.{Page}
use Rattle.opcodes.specs.declared.Page.TheVariants.{Plain, Ten, Eleven}
use Rattle.fields.specs.OneOperand.{in_accumulator, in_memory}
use Rattle.fields.specs.TwoOperands.{two_operand_place, word_place}
use Rattle.fields.specs.Named.{row_one, short_branch, long_branch, row_three, software_interrupt}
use Rattle.opcodes.specs.declared.Entry.{Entry}

-- rows 0 to 7, then rows 8 to F
unfoldable pub plain_place : ℕ → Option Entry
plain_place code =
    let column = code % 16 in
    get_or
    (in_memory Direct column
    ∷ row_one column
    ∷ short_branch column
    ∷ row_three column
    ∷ in_accumulator A column
    ∷ in_accumulator B column
    ∷ in_memory Indexed column
    ∷ in_memory Extended column
    ∷ [])
    (code / 16) (two_operand_place code)

-- after a byte 10 or 11
unfoldable pub prefixed_place : Page → ℕ → Option Entry
prefixed_place page code =
    cond (leb 0x80 code) (word_place page code)
    (get_or (None ∷ None ∷ long_branch page (code % 16) ∷ software_interrupt page (code % 16) ∷ []) (code / 16) None)

abbrev pub place_of : Page → ℕ → Option Entry
place_of Plain code = plain_place code
place_of Ten code = prefixed_place Ten code
place_of Eleven code = prefixed_place Eleven code

-- the law: the fields give the manual's rows
abbrev pub FieldsGiveTheRows : Type 0
FieldsGiveTheRows = (page : Page) (code : ℕ) → code < 256 → place_of page code ≡ entry_of page code
