-- The answer of a call, test by test.
-- Assumes nothing.
use Rattle.std.specs.Prelude.{Result, Err, Ok}
use Prim.Native.Nat.{ℕ, ◌+◌, ◌*◌, ◌≤◌, ◌<◌}
use mathlib.Core.List.{List, ◌++◌}
use mathlib.Core.Path.{◌≡◌, refl, sym, ◌∙◌}
use native.Mathlib.Nat.{zero-add}
use lib.ListN.{length, length-append}
use lib.Seq.{sets}
use borrow.Author.Tests.{eq-eqb, ne_eqb, lt-ltb, le-ltb}
use Rattle.text.proofs.Stores.{sets-append}
use Rattle.answers.specs.declared.Refusal.{Refusal}
use Rattle.answers.specs.declared.Refusal.TheVariants.{MemoryLength, ListShort}
use Rattle.machine.specs.Record.{fields}
use Rattle.machine.specs.declared.Machine.{Machine}
use Rattle.difference.specs.Differences.{fields_apart, runs, differences}
use Rattle.difference.specs.Compare.{entry_size, laid_out, compared, list_after}
use Rattle.difference.proofs.Listing.{list_length, listed-append}

module _ (l r : Machine) (a b list : List ℕ) where
  -- the result, and the list at exit
  abbrev Ended : Result ℕ Refusal → List ℕ → Type 0
  Ended c out = (c ≡ compared l a r b list) × (out ≡ list_after l a r b list)

  pub left-refused : (length a ≡ 65536 → ⊥) → Ended (Err MemoryLength) list
  unfolding compared list_after
  left-refused h = rw (ne_eqb (length a) 65536 h) (refl, refl)

  pub right-refused : length a ≡ 65536 → (length b ≡ 65536 → ⊥) → Ended (Err MemoryLength) list
  unfolding compared list_after
  right-refused m h = rw (eq-eqb (length a) 65536 m, ne_eqb (length b) 65536 h) (refl, refl)

  pub in_parts : length (differences l a r b) ≡ length (fields_apart fields l r) + length (runs a b)
  unfolding differences
  in_parts = length-append (fields_apart fields l r) (runs a b)

  laid : (out : List ℕ) → sets out 0 (laid_out (fields_apart fields l r) ++ laid_out (runs a b)) ≡ sets (sets out 0 (laid_out (fields_apart fields l r))) (entry_size * length (fields_apart fields l r)) (laid_out (runs a b))
  laid out = rw (sets-append out (laid_out (fields_apart fields l r)) (laid_out (runs a b)) 0, list_length (fields_apart fields l r), zero-add)

  module _ (m : length a ≡ 65536) (n : length b ≡ 65536) (count : ℕ) (e : count ≡ length (fields_apart fields l r) + length (runs a b)) where
    pub list-refused : length list < entry_size * count → Ended (Err ListShort) list
    unfolding compared list_after
    list-refused h =
        let k = e ∙ sym in_parts in
        rw (eq-eqb (length a) 65536 m, eq-eqb (length b) 65536 n, lt-ltb (length list) (entry_size * length (differences l a r b)) (rw k at h)) (refl, refl)

    pub list_written : entry_size * count ≤ length list → (at : ℕ) (first second : List ℕ) → at ≡ entry_size * length (fields_apart fields l r)
        → first ≡ sets list 0 (laid_out (fields_apart fields l r)) → second ≡ sets first at (laid_out (runs a b)) → Ended (Ok count) second
    unfolding compared list_after differences
    list_written h at first second p q s =
        let k = e ∙ sym in_parts in
        rw (eq-eqb (length a) 65536 m, eq-eqb (length b) 65536 n, le-ltb (length list) (entry_size * length (differences l a r b)) (rw k at h), ← k, listed-append) (refl, s ∙ rw (p, q) (sym (laid list)))
