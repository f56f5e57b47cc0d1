-- A record's entries put back, one by one.
-- Assumes nothing.
use mathlib.Core.Path.{◌≡◌, refl, ◌∙◌}
use mathlib.Core.List.{List, [], ◌∷◌, ◌++◌}
use Prim.Native.Nat.{ℕ, zero, suc, ◌+◌, ◌-◌, ◌*◌, ◌^◌, ◌≤◌, ◌<◌}
use native.Mathlib.Nat.{add-zero}
use native.Mathlib.Numerals.{add-one}
use native.Mathlib.Omega.{arith}
use lib.ListN.{length, get_or, take, drop, set, length-append, length-drop}
use lib.Seq.{take-suc, get_or-drop, drop-drop}
use lib.Dec.{lit<}
use Rattle.machine.specs.Record.{number_at}
use Rattle.journal.specs.Record.{read_entries, entry_length, entries_at}
use Rattle.journal.specs.Undos.{put_back}

-- the place of an entry, in its two bytes
pub place_at : (r : List ℕ) (at : ℕ) → number_at (drop at r) 0 2 ≡ 256 * get_or r at 0 + get_or r (at + 1) 0
unfolding number_at
place_at r at =
    let a : get_or (drop at r) 0 0 ≡ get_or r at 0 = get_or-drop at r 0 0 ∙ rw (add-zero at) in
    let b : get_or (drop at r) 1 0 ≡ get_or r (at + 1) 0 = get_or-drop at r 1 0 in
    rw (a, b) (omega arith)

-- one entry more, where the last k are put back already
pub put-more : (m r : List ℕ) (n k : ℕ) → k < n
    → set (put_back m (read_entries k (drop (entries_at + (n - k) * entry_length) r))) (256 * get_or r (entries_at + (n - (k + 1)) * entry_length) 0 + get_or r (entries_at + (n - (k + 1)) * entry_length + 1) 0) (get_or r (entries_at + (n - (k + 1)) * entry_length + 2) 0)
    ≡ put_back m (read_entries (k + 1) (drop (entries_at + (n - (k + 1)) * entry_length) r))
unfolding put_back read_entries
put-more m r n k h =
    let e : entries_at + (n - (k + 1)) * entry_length + entry_length ≡ entries_at + (n - k) * entry_length = omega arith in
    rw (← (place_at r (entries_at + (n - (k + 1)) * entry_length)), add-one k, ← add-one k, drop-drop entry_length (entries_at + (n - (k + 1)) * entry_length) r, get_or-drop (entries_at + (n - (k + 1)) * entry_length) r 2 0, e)
