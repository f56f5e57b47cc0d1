-- A record of the journal (document 01, section "Journal"; document 02, [9]): the machine from before a call, the count of stored bytes, that
-- many entries, and a last byte that is the record's length, so that the newest record can be read from its end; and what is read back.
-- Assumes nothing.
use Rattle.std.specs.Prelude.{ℕ, zero, suc, ◌+◌, ◌-◌, ◌*◌, ◌≤◌, ◌<◌, Bool, true, ◌&&◌, List, [], ◌∷◌, ◌++◌, ◌≡◌, leb, eqb, length, get_or, drop}
use Rattle.machine.specs.Machine.{MachineFits}
use Rattle.machine.specs.Record.{Waiting, Armed, bytes, number_at, header, header_length, machine_of, offset}
use Rattle.machine.specs.declared.Machine.{Machine}

-- an entry: a place of memory, after mapping, and the byte that it had before the call
pub record Saved : Type 0 where
  pub place : ℕ
  pub byte : ℕ

-- a call stores at most twelve bytes; an entry has two bytes for the place and one for the byte
abbrev pub most_stored : ℕ
most_stored = 12

abbrev pub entry_length : ℕ
entry_length = 3

-- where the count and the entries stand
abbrev pub count_at : ℕ
count_at = header_length

abbrev pub entries_at : ℕ
entries_at = count_at + 1

-- the length of a record with n entries: 34 to 70
abbrev pub record_length : ℕ → ℕ
record_length n = entries_at + n * entry_length + 1

unfoldable pub entries : List Saved → List ℕ
entries [] = []
entries (e ∷ es) = bytes 2 e.place ++ (e.byte ∷ entries es)

-- the whole record, its entries in the order stored
unfoldable pub encode : Machine → List Saved → List ℕ
encode m es = header m ++ (length es ∷ (entries es ++ (record_length (length es) ∷ [])))

-- What is read back from a record
unfoldable pub wait_at : List ℕ → ℕ
wait_at r = get_or r (offset Waiting) 0

unfoldable pub mark_at : List ℕ → ℕ
mark_at r = get_or r (offset Armed) 0

unfoldable pub count_of : List ℕ → ℕ
count_of r = get_or r count_at 0

unfoldable pub read_entries : ℕ → List ℕ → List Saved
read_entries zero r = []
read_entries (suc n) r = record { place = number_at r 0 2; byte = get_or r 2 0 } ∷ read_entries n (drop entry_length r)

unfoldable pub entries_of : List ℕ → List Saved
entries_of r = read_entries (count_of r) (drop entries_at r)

-- Whether bytes, as many as the last of them says, are a record: a count of at most twelve, the length that the count asks for, a wait state
-- and a mark
unfoldable pub is_record : List ℕ → Bool
is_record r = leb (count_of r) most_stored && (eqb (length r) (record_length (count_of r)) && (leb (wait_at r) 2 && leb (mark_at r) 1))

-- ---- the law: what is read back from a record is what was written, at every count

-- each of a list
abbrev pub All {ℓ} : {A : Type ℓ} → (A → Type 0) → List A → Type 0
All P [] = Unit {0}
All P (x ∷ xs) = P x × All P xs

-- an entry that a call makes: its place is below FF00
pub record SavedFits (e : Saved) : Type 0 where
  pub place : e.place < 0xFF00
  pub byte : e.byte < 256

pub record RecordReadsBack (m : Machine) (es : List Saved) : Type 0 where
  pub machine : machine_of (encode m es) ≡ m
  pub entries : entries_of (encode m es) ≡ es
  pub size : length (encode m es) ≡ record_length (length es)
  pub last : get_or (encode m es) (length (encode m es) - 1) 0 ≡ record_length (length es)
  pub whole : is_record (encode m es) ≡ true

abbrev pub RecordsBack : Type 0
RecordsBack = (m : Machine) (es : List Saved) → MachineFits m → All SavedFits es → length es ≤ most_stored → RecordReadsBack m es
