-- The differences as a list of entries in bytes, and the call that writes it (docs/COMPARE.md).
-- Assumes nothing.
use Rattle.std.specs.Prelude.{ℕ, ◌+◌, ◌*◌, ◌/◌, Bool, cond, ◌&&◌, List, [], ◌∷◌, ◌++◌, Result, Err, Ok, eqb, ltb, length, get_or}
use Rattle.std.proofs.lemmas.List.Edits.{sets}
use Rattle.answers.specs.declared.Refusal.{Refusal}
use Rattle.answers.specs.declared.Refusal.TheVariants.{MemoryLength, ListShort}
use Rattle.machine.specs.Record.{fields, rank, bytes, number_at}
use Rattle.machine.specs.declared.Machine.{Machine}
use Rattle.difference.specs.Differences.{Difference, of_field, of_run, differences}
use Rattle.difference.specs.declared.entries.Entry.{Entry}

-- ---- an entry

-- the number of a run, after those of the fields
abbrev pub run_number : ℕ
run_number = length fields

-- what differs, and its two numbers: the left and the right value, or the first and the last address
abbrev pub as_entry : Difference → Entry
as_entry (of_field f x y) = record { what = rank f; left = x; right = y }
as_entry (of_run x y) = record { what = run_number; left = x; right = y }

-- a byte and two numbers of eight bytes, high byte first
unfoldable pub entry_bytes : Entry → List ℕ
entry_bytes e = e.what ∷ bytes 8 e.left ++ bytes 8 e.right

abbrev pub entry_size : ℕ
entry_size = 17

unfoldable pub laid_out : List Difference → List ℕ
laid_out [] = []
laid_out (d ∷ ds) = entry_bytes (as_entry d) ++ laid_out ds

-- the k-th entry of a list; a place past its last whole entry has zeros
unfoldable pub entry_at : List ℕ → ℕ → Entry
entry_at l k =
    cond (ltb k (length l / entry_size))
    (record { what = get_or l (entry_size * k) 0; left = number_at l (entry_size * k + 1) 8; right = number_at l (entry_size * k + 9) 8 })
    (record { what = 0; left = 0; right = 0 })

-- ---- the call

abbrev pub are_whole : List ℕ → List ℕ → Bool
are_whole a b = eqb (length a) 65536 && eqb (length b) 65536

-- the lent list has room for so many entries
abbrev pub is_list_short : List ℕ → List Difference → Bool
is_list_short list ds = ltb (length list) (entry_size * length ds)

-- the answer, which is the number of entries, and the list afterwards: the entries at its front and the rest as it was; if refused, all as it was
unfoldable pub compared : Machine → List ℕ → Machine → List ℕ → List ℕ → Result ℕ Refusal
compared l a r b list =
    cond (are_whole a b)
    (cond (is_list_short list (differences l a r b)) (Err ListShort) (Ok (length (differences l a r b))))
    (Err MemoryLength)

unfoldable pub list_after : Machine → List ℕ → Machine → List ℕ → List ℕ → List ℕ
list_after l a r b list =
    cond (are_whole a b)
    (cond (is_list_short list (differences l a r b)) list (sets list 0 (laid_out (differences l a r b))))
    list
