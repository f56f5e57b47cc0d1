-- The lines of a list's entries are those of the differences.
-- Assumes nothing.
use Prim.Native.Nat.{ℕ, suc, ◌+◌, ◌-◌, ◌<◌}
use mathlib.Core.List.{List, [], ◌∷◌, ◌++◌}
use mathlib.Core.Path.{◌≡◌, refl, sym}
use native.Mathlib.Numerals.{add-one}
use native.Mathlib.Omega.{arith}
use lib.ListN.{length, get_or, length-append}
use lib.Seq.{sets}
use Rattle.text.proofs.Stores.{sets-append}
use Rattle.difference.specs.Differences.{Difference, of_run}
use Rattle.difference.specs.Compare.{as_entry, entry_at}
use Rattle.dump.specs.Told.{entry_line, told_lines, list_lines}

same_lines : (list : List ℕ) (k : ℕ) (ds : List Difference) → ((j : ℕ) → j < length ds → entry_at list (k + j) ≡ as_entry (get_or ds j (of_run 0 0))) → list_lines list (length ds) k ≡ told_lines ds
unfolding list_lines told_lines
same_lines list k [] h = refl
same_lines list k (d ∷ ds) h =
    let z : k + 0 ≡ k = omega arith in
    rw (rw z at (h 0 (omega arith)), same_lines list (suc k) ds (λ j g. let e : suc k + j ≡ k + suc j = omega arith in rw e (h (suc j) (omega arith))))

pub all_lines : (list : List ℕ) (ds : List Difference) → ((j : ℕ) → j < length ds → entry_at list j ≡ as_entry (get_or ds j (of_run 0 0))) → list_lines list (length ds) 0 ≡ told_lines ds
all_lines list ds h = same_lines list 0 ds (λ j g. let e : 0 + j ≡ j = omega arith in rw e (h j g))

-- ---- a turn

module _ (list : List ℕ) (count k : ℕ) (h : k < count) where
  left_over : count - k ≡ suc (count - (k + 1))
  left_over = omega arith

  next : list_lines list (count - k) k ≡ entry_line (entry_at list k) ++ list_lines list (count - (k + 1)) (k + 1)
  unfolding list_lines
  next = rw (left_over, add-one k)

  pub line-counted : (at : ℕ) → at + length (entry_line (entry_at list k)) + length (list_lines list (count - (k + 1)) (k + 1)) ≡ at + length (list_lines list (count - k) k)
  line-counted at = rw (next, length-append) (omega arith)

  pub line-written : (at : ℕ) (out : List ℕ)
      → sets (sets out at (entry_line (entry_at list k))) (at + length (entry_line (entry_at list k))) (list_lines list (count - (k + 1)) (k + 1)) ≡ sets out at (list_lines list (count - k) k)
  line-written at out = rw next (sym (sets-append out (entry_line (entry_at list k)) (list_lines list (count - (k + 1)) (k + 1)) at))
