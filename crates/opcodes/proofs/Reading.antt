-- Where a place stands in its row.
-- Assumes nothing.
use Rattle.std.specs.Prelude.{None, Option}
use Prim.Native.Nat.{ℕ, zero, suc, ◌*◌, ◌/◌, ◌%◌, ◌<◌}
use mathlib.Core.Path.{◌≡◌, refl, sym, ap, ◌∙◌}
use mathlib.Core.List.{List, [], ◌∷◌}
use native.Mathlib.Nat.{le_of_suc-le-suc, not-suc-le-zero}
use native.Mathlib.Omega.{arith}
use lib.ListN.{length, get_or}
use Rattle.opcodes.specs.Manual.{instruction, entry_of}
use Rattle.opcodes.specs.Rows.{row_of}
use Rattle.opcodes.specs.declared.Acc.TheVariants.{A}
use Rattle.opcodes.specs.declared.Alu.TheVariants.{Add}
use Rattle.opcodes.specs.declared.Mode.TheVariants.{Inherent}
use Rattle.opcodes.specs.declared.Op.TheVariants.{Registers}
use Rattle.opcodes.specs.declared.RegisterOp.TheVariants.{Alu}
use Rattle.opcodes.specs.declared.Page.{Page}
use Rattle.opcodes.proofs.Rows.{in-values}
use Rattle.opcodes.specs.declared.Entry.{Entry}

-- the two digits of a byte lead to its place
pub in_row : (page : Page) (code : ℕ) → get_or (row_of page (code / 16)) (code % 16) None ≡ entry_of page code
unfolding row_of
in_row page code =
    in-values (entry_of page) None 16 (16 * (code / 16)) (code % 16) (omega arith) ∙ ap (entry_of page) (omega arith)

-- an arm of the match on the low digit: within a list a place is read whatever stands for its end
within : (l : List (Option Entry)) (i : ℕ) (d e : Option Entry) → i < length l → get_or l i d ≡ get_or l i e
within [] i d e h = absurd (not-suc-le-zero h)
within (x ∷ l) zero d e h = refl
within (x ∷ l) (suc i) d e h = within l i d e (le_of_suc-le-suc h)

-- what a read past the end of an array of places would give
abbrev blank : Option Entry
blank = instruction (Registers (Alu Add A)) Inherent 0 0

pub there : (row : List (Option Entry)) (k : ℕ) {x : ℕ} → x ≡ k → k < length row → get_or row k blank ≡ get_or row x None
there row k q h = within row k blank None h ∙ ap (λ (i : ℕ). get_or row i None) (sym q)
