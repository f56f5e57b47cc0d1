-- The list in bytes: 17 for each entry, one after the other, and read back.
-- Assumes nothing.
use Prim.Native.Nat.{ℕ, suc, ◌+◌, ◌-◌, ◌*◌, ◌/◌, ◌<◌}
use mathlib.Core.List.{List, [], ◌∷◌, ◌++◌, append_assoc}
use mathlib.Core.Path.{◌≡◌, refl, sym, ◌∙◌}
use native.Mathlib.Numerals.{add-one}
use native.Mathlib.Omega.{arith}
use lib.ListN.{length, get_or, set, take, drop, length-append, length-drop}
use lib.Seq.{sets, take_all, get_or-drop}
use Rattle.text.proofs.Stores.{sets-append}
use borrow.Author.Tests.{lt-ltb}
use Rattle.machine.specs.Record.{bytes, number_at, counter}
use Rattle.machine.proofs.Header.{length-counter, number-drop}
use Rattle.difference.specs.Differences.{Difference}
use Rattle.difference.specs.Compare.{as_entry, entry_bytes, entry_size, laid_out, entry_at}
use Rattle.difference.specs.Laws.{ListLength}
use Rattle.difference.specs.declared.entries.Entry.{Entry}

pub length-entry : (e : Entry) → length (entry_bytes e) ≡ entry_size
unfolding entry_bytes bytes
length-entry e = refl

pub list_length : ListLength
unfolding laid_out
list_length [] = refl
list_length (d ∷ ds) = length-append (entry_bytes (as_entry d)) (laid_out ds) ∙ omega (arith, length-entry (as_entry d), list_length ds)

pub listed-append : (xs ys : List Difference) → laid_out (xs ++ ys) ≡ laid_out xs ++ laid_out ys
unfolding laid_out
listed-append [] ys = refl
listed-append (x ∷ xs) ys = rw (listed-append xs ys) (sym (append_assoc (entry_bytes (as_entry x)) (laid_out xs) (laid_out ys)))

-- three parts, each right after the one before
pub put-parts : (at : ℕ) (e : Entry) (l₀ l₁ l₂ l₃ xs ys : List ℕ) → l₁ ≡ sets l₀ at (e.what ∷ []) → xs ≡ counter e.left → l₂ ≡ sets l₁ (at + 1) xs
    → ys ≡ counter e.right → l₃ ≡ sets l₂ (at + 9) ys → l₃ ≡ sets l₀ at (entry_bytes e)
unfolding entry_bytes counter
put-parts at e l₀ l₁ l₂ l₃ xs ys p x q y r =
    let z : suc at + 8 ≡ at + 9 = omega arith in
    r ∙ rw (q, p, x, y, add-one at) (sym (sets-append (set l₀ at e.what) (bytes 8 e.left) (bytes 8 e.right) (suc at) ∙ rw (length-counter e.left, z)))

-- an entry in the part from its place on
module _ (l : List ℕ) (k : ℕ) (h : k < length l / 17) where
  abbrev from-here : List ℕ
  from-here = take (length l - 17 * k) (drop (17 * k) l)

  whole : from-here ≡ drop (17 * k) l
  whole = take_all (length l - 17 * k) (drop (17 * k) l) (rw length-drop (omega arith))

  pub entry_here : (x y : ℕ) → x ≡ number_at from-here 1 8 → y ≡ number_at from-here 9 8 → record { left = x; right = y; what = get_or from-here 0 0 } ≡ entry_at l k
  unfolding entry_at
  entry_here x y p q =
      let z : 17 * k + 0 ≡ 17 * k = omega arith in
      rw (lt-ltb k (length l / 17) h, p, q, whole, number-drop l (17 * k) 1 8, number-drop l (17 * k) 9 8, get_or-drop (17 * k) l 0 0, z)
