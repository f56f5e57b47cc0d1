-- What holds of the differences of two machines, field by field and address by address.
-- Assumes nothing.
use Rattle.std.specs.Prelude.{ℕ, suc, ◌+◌, ◌*◌, ◌≤◌, ◌<◌, cond, ◌&&◌, List, [], ◌∷◌, map, ◌≡◌, eqb, leb, length, get_or}
use Rattle.std.proofs.lemmas.List.Edits.{sets}
use Rattle.machine.specs.Machine.{MachineFits}
use Rattle.machine.specs.Record.{Field, rank}
use Rattle.machine.specs.declared.Machine.{Machine}
use Rattle.difference.specs.Differences.{Difference, of_field, of_run, field_apart, runs, differences}
use Rattle.difference.specs.Compare.{as_entry, entry_size, entry_at, laid_out}

-- ---- equal

-- the list is empty exactly when the two machines and the two memories are equal
pub record EmptyWhenEqual (l r : Machine) (a b : List ℕ) : Type 0 where
  pub equal : differences l a r b ≡ [] → (l ≡ r) × (a ≡ b)
  pub empty : l ≡ r → a ≡ b → differences l a r b ≡ []

abbrev pub EmptyExactly : Type 0
EmptyExactly = (l r : Machine) (a b : List ℕ) → length a ≡ 65536 → length b ≡ 65536 → EmptyWhenEqual l r a b

-- ---- fields

-- the entries of a field
unfoldable pub entries_for : Field → List Difference → List Difference
entries_for f [] = []
entries_for f (of_field g x y ∷ ds) = cond (eqb (rank f) (rank g)) (of_field g x y ∷ entries_for f ds) (entries_for f ds)
entries_for f (of_run x y ∷ ds) = entries_for f ds

-- a field that differs has one entry, with both values; one that is equal has none
abbrev pub EachFieldOnce : Type 0
EachFieldOnce = (f : Field) (l r : Machine) (a b : List ℕ) → entries_for f (differences l a r b) ≡ field_apart f l r

-- ---- addresses

-- the runs that an address is in
unfoldable pub runs_with : ℕ → List Difference → List Difference
runs_with k [] = []
runs_with k (of_field f x y ∷ ds) = runs_with k ds
runs_with k (of_run x y ∷ ds) = cond (leb x k && leb k y) (of_run x y ∷ runs_with k ds) (runs_with k ds)

-- an address at which the memories differ is in one run; any other is in none
abbrev pub EachAddressOnce : Type 0
EachAddressOnce =
    (k : ℕ) (l r : Machine) (a b : List ℕ) → length a ≡ 65536 → length b ≡ 65536
    → length (runs_with k (differences l a r b)) ≡ cond (eqb (get_or a k 0) (get_or b k 0)) 0 1

-- runs from an address on: none is empty, and the next begins past the address after the last
abbrev pub Rise : ℕ → List Difference → Type 0
Rise at [] = Unit {0}
Rise at (of_field f x y ∷ ds) = ⊥
Rise at (of_run x y ∷ ds) = (at ≤ x) × ((x ≤ y) × Rise (suc (suc y)) ds)

abbrev pub RunsRise : Type 0
RunsRise = (a b : List ℕ) → Rise 0 (runs a b)

-- the bytes before and after each run are equal; past the ends there is none (`get_or` gives 0 for both)
abbrev pub Maximal : List ℕ → List ℕ → List Difference → Type 0
Maximal a b [] = Unit {0}
Maximal a b (of_field f x y ∷ ds) = Maximal a b ds
Maximal a b (of_run x y ∷ ds) = ((k : ℕ) → suc k ≡ x → get_or a k 0 ≡ get_or b k 0) × ((get_or a (suc y) 0 ≡ get_or b (suc y) 0) × Maximal a b ds)

abbrev pub RunsMaximal : Type 0
RunsMaximal = (a b : List ℕ) → length a ≡ 65536 → length b ≡ 65536 → Maximal a b (runs a b)

-- ---- the other way round, and how many

-- left and right exchanged; a run is the same from both sides
abbrev pub exchanged : Difference → Difference
exchanged (of_field f x y) = of_field f y x
exchanged (of_run x y) = of_run x y

abbrev pub OtherWayRound : Type 0
OtherWayRound = (l r : Machine) (a b : List ℕ) → differences r b l a ≡ map exchanged (differences l a r b)

-- at most an entry for each field, and a run for each second address
abbrev pub Ceiling : Type 0
Ceiling = (l r : Machine) (a b : List ℕ) → length (differences l a r b) ≤ 13 + 32768

-- ---- the list in bytes

-- 17 bytes for each entry, and the entries are read back from them
abbrev pub ListLength : Type 0
ListLength = (ds : List Difference) → length (laid_out ds) ≡ entry_size * length ds

abbrev pub EntriesBack : Type 0
EntriesBack =
    (l r : Machine) (a b list : List ℕ) (k : ℕ) → MachineFits l → MachineFits r
    → entry_size * length (differences l a r b) ≤ length list → k < length (differences l a r b)
    → entry_at (sets list 0 (laid_out (differences l a r b))) k ≡ as_entry (get_or (differences l a r b) k (of_run 0 0))
