-- Each place of the opcode map is as the manual's rows have it.
-- Assumes nothing.
use Rattle.std.specs.Prelude.{None, Option, Some}
use Prim.Native.Nat.{ℕ, ◌+◌}
use mathlib.Core.Path.{◌≡◌, refl, sym}
use mathlib.Core.Bool.{Bool, true, false, cond, true≢false}
use mathlib.Core.List.{List, [], ◌∷◌, ◌++◌}
use borrow.Author.Tests.{ltb-true}
use lib.Dec.{eqb, ltb}
use Rattle.opcodes.specs.Manual.{Row, Column, rows, among_columns, among_rows, prefix, entry_of}
use Rattle.opcodes.specs.Places.{entry_said, in_row, named, Stands, documented, undocumented, EachPlace}
use Rattle.opcodes.specs.declared.Entry.{Entry}
use Rattle.opcodes.specs.declared.Page.{Page}
use Rattle.opcodes.specs.declared.Page.TheVariants.{Plain, Ten, Eleven}
use Rattle.opcodes.specs.Rows.{values}
use Rattle.opcodes.proofs.Rows.{alike}

-- the first of what the rows say, none where they say nothing
first : List Entry → Option Entry
first [] = None
first (e ∷ es) = Some e

pick : (b : Bool) (e : Entry) (x : Option Entry) (l m : List Entry) → x ≡ first (l ++ m) → cond b (Some e) x ≡ first (cond b (e ∷ l) l ++ m)
unfolding first
pick true e x l m h = refl
pick false e x l m h = h

of-columns : (n : ℕ) (r : Row) (cs : List Column) (x : Option Entry) (m : List Entry) → x ≡ first m → among_columns n r.operation cs x ≡ first (in_row n r cs ++ m)
unfolding in_row
of-columns n r [] x m h = h
of-columns n r (c ∷ cs) x m h =
    pick (eqb n c.opcode) (entry_said r c) (among_columns n r.operation cs x) (in_row n r cs) m (of-columns n r cs x m h)

of-rows : (n : ℕ) (rs : List Row) → among_rows n rs ≡ first (named n rs)
unfolding first named
of-rows n [] = refl
of-rows n (r ∷ rs) = of-columns n r r.columns (among_rows n rs) (named n rs) (of-rows n rs)

found : (page : Page) (code : ℕ) → entry_of page code ≡ first (named (prefix page + code) rows)
unfolding entry_of
found page code = of-rows (prefix page + code) rows

-- the test of a place: the rows say nothing, or one thing of some bytes
sound : List Entry → Bool
sound [] = true
sound (e ∷ []) = ltb 0 e.size
sound (e ∷ f ∷ es) = false

passes : Page → ℕ → Bool
passes page code = sound (named (prefix page + code) rows)

-- the one test, of all 768 places
all_pass : (page : Page) → values (passes page) 0 256 ≡ values (λ (i : ℕ). true) 0 256
unfolding passes sound named in_row
all_pass Plain = refl
all_pass Ten = refl
all_pass Eleven = refl

judged : (page : Page) (code : ℕ) (l : List Entry) → named (prefix page + code) rows ≡ l → entry_of page code ≡ first l → sound l ≡ true → Stands page code
unfolding first sound
judged page code [] n f t = undocumented n f
judged page code (e ∷ []) n f t = documented e n f (ltb-true 0 e.size t)
judged page code (e ∷ d ∷ es) n f t = absurd (true≢false (sym t))

pub each-place : EachPlace
unfolding passes
each-place page code l =
    judged page code (named (prefix page + code) rows) refl (found page code) (alike (passes page) (λ (i : ℕ). true) 256 (all_pass page) code l)
