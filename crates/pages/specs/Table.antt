-- The opcode table: three pages of 256 places, plain, after 10 and after 11, each place as the manual's rows have it.
-- Assumes nothing.
use Rattle.std.specs.Prelude.{ℕ, ◌<◌, ◌≡◌, List, [], ◌∷◌, get_or, None, Option}
use Rattle.opcodes.specs.Manual.{entry_of}
use Rattle.opcodes.specs.Rows.{values}
use Rattle.opcodes.specs.declared.Page.{Page}
use Rattle.opcodes.specs.declared.Page.TheVariants.{Plain, Ten, Eleven}
use Rattle.opcodes.specs.declared.Entry.{Entry}

-- a page's 256 places
unfoldable pub places_of : Page → List (Option Entry)
places_of page = values (entry_of page) 0 256

abbrev pub table_of : List (List (Option Entry))
table_of = places_of Plain ∷ places_of Ten ∷ places_of Eleven ∷ []

-- where a page stands in the table
abbrev pub page_index : Page → ℕ
page_index Plain = 0
page_index Ten = 1
page_index Eleven = 2

-- the table, read at a page and a byte, has what `lookup` answers
abbrev pub InTable : Type 0
InTable = (page : Page) (code : ℕ) → code < 256 → get_or (get_or table_of (page_index page) []) code None ≡ entry_of page code
