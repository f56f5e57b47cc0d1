-- The rows of the opcode table: the sixteen places of a page's high digit, as the manual has them.
-- Assumes nothing.
use Rattle.std.specs.Prelude.{ℕ, zero, suc, ◌*◌, List, [], ◌∷◌, Option}
use Rattle.opcodes.specs.Manual.{entry_of}
use Rattle.opcodes.specs.declared.Page.{Page}
use Rattle.opcodes.specs.declared.Entry.{Entry}

-- the values of f at n places from i on
abbrev pub values : {A : Type 0} → (ℕ → A) → ℕ → ℕ → List A
values f i zero = []
values f i (suc n) = f i ∷ values f (suc i) n

-- the sixteen places of a high digit
unfoldable pub row_of : Page → ℕ → List (Option Entry)
row_of page high = values (entry_of page) (16 * high) 16
