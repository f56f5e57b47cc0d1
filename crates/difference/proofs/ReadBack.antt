-- The entries of a list are read back as they were written.
-- Assumes nothing.
use Prim.Native.Nat.{ℕ, zero, suc, ◌+◌, ◌*◌, ◌/◌, ◌^◌, ◌≤◌, ◌<◌}
use mathlib.Core.Bool.{Bool, true, false, cond}
use mathlib.Core.List.{List, [], ◌∷◌, ◌++◌, append_assoc}
use mathlib.Core.Logic.{⊎_elim}
use mathlib.Core.Path.{◌≡◌, sym, ◌∙◌}
use native.Mathlib.Nat.{eq-or-lt_of_le}
use native.Mathlib.Omega.{arith}
use lib.Dec.{eqb}
use lib.ListN.{length, get_or, drop}
use lib.Seq.{sets, sets-eq, length-sets, drop-append_seam, get_or-append-add}
use borrow.Author.Tests.{lt-ltb}
use Rattle.machine.specs.Machine.{MachineFits}
use Rattle.machine.specs.Record.{Field, A, B, X, Y, U, S, PC, DP, CC, Waiting, Armed, Cycles, Instructions, fields, field_of, bytes, number_at, counter}
use Rattle.machine.specs.declared.Machine.{Machine}
use Rattle.machine.proofs.Header.{counter-back, number-drop, wait-small, mark-small}
use Rattle.difference.specs.Differences.{Difference, of_field, of_run, field_apart, fields_apart, run_up_to, runs_from, runs, differences}
use Rattle.difference.specs.Compare.{as_entry, entry_bytes, entry_size, laid_out, entry_at}
use Rattle.difference.specs.Laws.{EntriesBack}
use Rattle.difference.specs.declared.entries.Entry.{Entry}
use Rattle.difference.proofs.Tests.{same_or_not}
use Rattle.difference.proofs.EachAddress.{up_none, up_one, on-equal, on-apart}
use Rattle.difference.proofs.Listing.{length-entry, list_length}

-- ---- numbers that fit their eight bytes

record Small (d : Difference) : Type 0 where
  left : (as_entry d).left < 2 ^ 64
  right : (as_entry d).right < 2 ^ 64

AllSmall : List Difference → Type 0
AllSmall [] = Unit {0}
AllSmall (d ∷ ds) = Small d × AllSmall ds

small-append : (xs ys : List Difference) → AllSmall xs → AllSmall ys → AllSmall (xs ++ ys)
unfolding AllSmall
small-append [] ys p q = q
small-append (x ∷ xs) ys p q = (p.0, small-append xs ys p.1 q)

fits_in : (f : Field) (m : Machine) → MachineFits m → field_of f m < 2 ^ 64
fits_in A m h = omega (arith, h.registers.a)
fits_in B m h = omega (arith, h.registers.b)
fits_in X m h = omega (arith, h.registers.x)
fits_in Y m h = omega (arith, h.registers.y)
fits_in U m h = omega (arith, h.registers.u)
fits_in S m h = omega (arith, h.registers.s)
fits_in PC m h = omega (arith, h.registers.pc)
fits_in DP m h = omega (arith, h.registers.dp)
fits_in CC m h = omega (arith, h.registers.cc)
fits_in Waiting m h = omega (arith, wait-small m.wait)
fits_in Armed m h = omega (arith, mark-small m.armed)
fits_in Cycles m h = h.cycles
fits_in Instructions m h = h.instructions

small-either : (t : Bool) (d : Difference) → Small d → AllSmall (cond t [] (d ∷ []))
unfolding AllSmall
small-either true d s = tt
small-either false d s = (s, tt)

small-fields : (fs : List Field) (l r : Machine) → MachineFits l → MachineFits r → AllSmall (fields_apart fs l r)
unfolding fields_apart field_apart AllSmall
small-fields [] l r p q = tt
small-fields (f ∷ fs) l r p q =
    small-append (field_apart f l r) (fields_apart fs l r) (small-either (eqb (field_of f l) (field_of f r)) (of_field f (field_of f l) (field_of f r)) (record { left = fits_in f l p; right = fits_in f r q })) (small-fields fs l r p q)

module _ (a b : List ℕ) where
  small-up : (first at : ℕ) → first ≤ at → at ≤ 65536 → AllSmall (run_up_to first at)
  unfolding AllSmall
  small-up first at h g =
      ⊎_elim (λ e. rw (up_none first at (omega arith)) tt) (λ l. rw (up_one first at l) (record { left = omega arith; right = omega arith }, tt)) (eq-or-lt_of_le h)

  small-from : (n first at : ℕ) → first ≤ at → at + n ≤ 65536 → AllSmall (runs_from a b n first at)
  unfolding runs_from
  small-from zero first at h g = small-up first at h (omega arith)
  small-from (suc n) first at h g =
      ⊎_elim
      (λ e. rw (on-equal a b n first at e) (small-append (run_up_to first at) (runs_from a b n (suc at) (suc at)) (small-up first at h (omega arith)) (small-from n (suc at) (suc at) (omega arith) (omega arith))))
      (λ e. rw (on-apart a b n first at e) (small-from n first (suc at) (omega arith) (omega arith)))
      (same_or_not (get_or a at 0) (get_or b at 0))

small_all : (l r : Machine) (a b : List ℕ) → MachineFits l → MachineFits r → AllSmall (differences l a r b)
unfolding differences runs
small_all l r a b p q = small-append (fields_apart fields l r) (runs_from a b 65536 0 0) (small-fields fields l r p q) (small-from a b 65536 0 0 (omega arith) (omega arith))

-- ---- an entry from a place on

abbrev entry_from : List ℕ → ℕ → Entry
entry_from l at = record { left = number_at l (at + 1) 8; right = number_at l (at + 9) 8; what = get_or l at 0 }

later-number : (xs ys : List ℕ) (i n : ℕ) → number_at (xs ++ ys) (length xs + i) n ≡ number_at ys i n
later-number xs ys i n = sym (number-drop (xs ++ ys) (length xs) i n) ∙ rw (drop-append_seam xs ys)

later : (xs ys : List ℕ) (at : ℕ) → entry_from (xs ++ ys) (length xs + at) ≡ entry_from ys at
later xs ys at =
    let e : length xs + at + 1 ≡ length xs + (at + 1) = omega arith in
    let f : length xs + at + 9 ≡ length xs + (at + 9) = omega arith in
    rw (e, f, later-number xs ys (at + 1) 8, later-number xs ys (at + 9) 8, get_or-append-add xs ys at 0)

here : (e : Entry) (rest : List ℕ) → e.left < 2 ^ 64 → e.right < 2 ^ 64 → entry_from (entry_bytes e ++ rest) 0 ≡ e
unfolding entry_bytes counter bytes
here e rest p q =
    let x : number_at (entry_bytes e ++ rest) 1 8 ≡ e.left =
    later-number (e.what ∷ []) ((bytes 8 e.left ++ bytes 8 e.right) ++ rest) 0 8 ∙ rw (append_assoc (bytes 8 e.left) (bytes 8 e.right) rest) (counter-back e.left (bytes 8 e.right ++ rest) p) in
    let y : number_at (entry_bytes e ++ rest) 9 8 ≡ e.right =
    rw (append_assoc (bytes 8 e.left) (bytes 8 e.right) rest) (later-number (e.what ∷ bytes 8 e.left) (bytes 8 e.right ++ rest) 0 8 ∙ counter-back e.right rest q) in
    λ i. record { left = x i; right = y i; what = e.what }

in_list : (ds : List Difference) (rest : List ℕ) (k : ℕ) → AllSmall ds → k < length ds → entry_from (laid_out ds ++ rest) (entry_size * k) ≡ as_entry (get_or ds k (of_run 0 0))
unfolding laid_out AllSmall
in_list [] rest k s h = absurd (omega arith)
in_list (d ∷ ds) rest zero s h = rw (append_assoc (entry_bytes (as_entry d)) (laid_out ds) rest) (here (as_entry d) (laid_out ds ++ rest) s.0.left s.0.right)
in_list (d ∷ ds) rest (suc k) s h =
    let e : entry_size * suc k ≡ length (entry_bytes (as_entry d)) + entry_size * k = omega (arith, length-entry (as_entry d)) in
    rw (append_assoc (entry_bytes (as_entry d)) (laid_out ds) rest, e) (later (entry_bytes (as_entry d)) (laid_out ds ++ rest) (entry_size * k) ∙ in_list ds rest k s.1 (omega arith))

pub entries-back : EntriesBack
unfolding entry_at
entries-back l r a b list k p q room h =
    let ds = differences l a r b in
    let n = length-sets list 0 (laid_out ds) in
    let e = sets-eq (laid_out ds) list 0 (omega (arith, list_length ds)) in
    rw (lt-ltb k (length (sets list 0 (laid_out ds)) / entry_size) (omega arith))
    (rw e (in_list ds (drop (0 + length (laid_out ds)) list) k (small_all l r a b p q) h))
