-- Where a place stands on its page, and a page that is filled from its start.
-- Assumes nothing.
use Rattle.std.specs.Prelude.{None, Option, Some}
use Prim.Native.Nat.{ℕ, zero, suc, ◌+◌, ◌/◌, ◌%◌, ◌-◌, ◌<◌}
use mathlib.Core.Path.{◌≡◌, refl, sym, ap, ◌∙◌}
use mathlib.Core.Bool.{Bool, true, false, cond, true≢false}
use mathlib.Core.List.{List, [], ◌∷◌, ◌++◌}
use native.Mathlib.Nat.{add-zero, zero-add, add-suc, suc-add}
use native.Mathlib.Omega.{arith}
use lib.ListN.{get_or, set, replicate}
use Rattle.opcodes.specs.Manual.{entry_of}
use Rattle.opcodes.specs.Rows.{values, row_of}
use Rattle.opcodes.specs.declared.Page.{Page}
use Rattle.opcodes.specs.declared.Page.TheVariants.{Plain, Ten, Eleven}
use Rattle.opcodes.proofs.Rows.{in-values, alike, NotIn, is_in, not_in}
use Rattle.opcodes.proofs.Reading.{in_row}
use Rattle.pages.specs.Table.{places_of, InTable}
use Rattle.opcodes.specs.declared.Entry.{Entry}

-- an arm of the match on the high digit: the row that is called, read at the low one
pub picked : (page : Page) (code : ℕ) {k : ℕ} {row : List (Option Entry)} {r : Option Entry} → r ≡ get_or row (code % 16) None → row ≡ row_of page k → code / 16 ≡ k → r ≡ entry_of page code
picked page code p q m = p ∙ ap (λ (l : List (Option Entry)). get_or l (code % 16) None) (q ∙ ap (row_of page) (sym m)) ∙ in_row page code

-- a row with no instruction
abbrev pub bare : List (Option Entry) → Bool
bare [] = true
bare (None ∷ l) = bare l
bare (Some e ∷ l) = false

in-bare : (l : List (Option Entry)) (i : ℕ) → bare l ≡ true → None ≡ get_or l i None
in-bare [] i t = refl
in-bare (None ∷ l) zero t = refl
in-bare (None ∷ l) (suc i) t = in-bare l i t
in-bare (Some e ∷ l) i t = absurd (true≢false (sym t))

-- its last arm, where the others are the rows ks: one test of sixteen rows shows that each other row is bare
pub empty : (page : Page) (ks : List ℕ) (code : ℕ) → values (λ (h : ℕ). cond (is_in h ks) true (bare (row_of page h))) 0 16 ≡ values (λ (h : ℕ). true) 0 16 → code / 16 < 16 → NotIn (code / 16) ks → None ≡ entry_of page code
empty page ks code t l h =
    in-bare (row_of page (code / 16)) (code % 16) (rw (not_in (code / 16) ks h) at (alike (λ (h : ℕ). cond (is_in h ks) true (bare (row_of page h))) (λ (h : ℕ). true) 16 t (code / 16) l))
    ∙ in_row page code

abbrev pub is_none : Option Entry → Bool
is_none None = true
is_none (Some e) = false

none-is : (o : Option Entry) → is_none o ≡ true → None ≡ o
none-is None t = refl
none-is (Some e) t = absurd (true≢false (sym t))

-- the last arm of a match on the byte itself, where the others are the bytes ks: one test of all bytes shows that no other has an instruction
pub elsewhere : (page : Page) (ks : List ℕ) (code : ℕ) → values (λ (n : ℕ). cond (is_in n ks) true (is_none (entry_of page n))) 0 256 ≡ values (λ (n : ℕ). true) 0 256 → code < 256 → NotIn code ks → None ≡ entry_of page code
elsewhere page ks code t l h =
    none-is (entry_of page code)
    (rw (not_in code ks h) at (alike (λ (n : ℕ). cond (is_in n ks) true (is_none (entry_of page n))) (λ (n : ℕ). true) 256 t code l))

-- one more value in a list that is filled from its start
fill : {A : Type 0} (f : ℕ → A) (d : A) (i n k : ℕ) → set (values f i n ++ replicate (suc k) d) n (f (i + n)) ≡ values f i (suc n) ++ replicate k d
fill f d i zero k = rw (add-zero i)
fill f d i (suc n) k = rw (add-suc i n, ← suc-add i n) (ap (λ (l : List _). f i ∷ l) (fill f d (suc i) n k))

-- a page of which the first n places are written
unfoldable pub filled : Page → ℕ → List (Option Entry)
filled page n = values (entry_of page) 0 n ++ replicate (256 - n) None

pub at_first : (page : Page) → replicate 256 None ≡ filled page 0
unfolding filled
at_first page = refl

pub one_more : (page : Page) (n : ℕ) → n < 256 → set (filled page n) n (entry_of page n) ≡ filled page (n + 1)
unfolding filled
one_more page n l =
    let e : 256 - n ≡ suc (256 - (n + 1)) = omega arith in
    let s : n + 1 ≡ suc n = omega arith in
    ap (λ (k : ℕ). set (values (entry_of page) 0 n ++ replicate k None) n (entry_of page n)) e
    ∙ ap (λ (k : ℕ). set (values (entry_of page) 0 n ++ replicate (suc (256 - (n + 1))) None) n (entry_of page k)) (sym (zero-add n))
    ∙ fill (entry_of page) None 0 n (256 - (n + 1))
    ∙ ap (λ (k : ℕ). values (entry_of page) 0 k ++ replicate (256 - (n + 1)) None) (sym s)

pub at_last : (page : Page) → filled page 256 ≡ places_of page
unfolding filled places_of
at_last page = refl

pub in_table : InTable
unfolding places_of
in_table Plain code l = in-values (entry_of Plain) None 256 0 code l ∙ ap (entry_of Plain) (zero-add code)
in_table Ten code l = in-values (entry_of Ten) None 256 0 code l ∙ ap (entry_of Ten) (zero-add code)
in_table Eleven code l = in-values (entry_of Eleven) None 256 0 code l ∙ ap (entry_of Eleven) (zero-add code)
