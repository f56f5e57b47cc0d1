-- What is read back from a record is what was written; its last byte is its length.
-- Assumes nothing.
use mathlib.Core.Path.{◌≡◌, refl, sym, ap, ◌∙◌}
use mathlib.Core.Bool.{true}
use mathlib.Core.List.{List, [], ◌∷◌, ◌++◌, append_assoc}
use Prim.Native.Nat.{ℕ, ◌+◌, ◌-◌, ◌*◌, ◌≤◌, ◌<◌}
use native.Mathlib.Omega.{arith}
use lib.ListN.{length, get_or, length-append}
use lib.Seq.{get_or-append_seam}
use borrow.Author.Tests.{le-leb, eq-eqb}
use Rattle.machine.specs.declared.Machine.{Machine}
use Rattle.machine.specs.Machine.{MachineFits}
use Rattle.machine.specs.Record.{bytes, number_at, header, machine_of}
use Rattle.machine.proofs.Header.{wait-small, mark-small, two_back, header-back}
use Rattle.journal.specs.Record.{Saved, All, SavedFits, RecordsBack, entries, encode, wait_at, mark_at, count_of, read_entries, entries_of, is_record, most_stored, entry_length, entries_at, record_length}

pub length-entries : (es : List Saved) → length (entries es) ≡ entry_length * length es
unfolding entries bytes
length-entries [] = refl
length-entries (e ∷ es) = omega (arith, length-entries es)

-- ---- the record as a body and its last byte

pub body : Machine → List Saved → List ℕ
body m es = header m ++ (length es ∷ entries es)

pub ends : (m : Machine) (es : List Saved) → encode m es ≡ body m es ++ (record_length (length es) ∷ [])
unfolding encode body
ends m es = sym (append_assoc (header m) (length es ∷ entries es) (record_length (length es) ∷ []))

pub length-body : (m : Machine) (es : List Saved) → length (body m es) + 1 ≡ record_length (length es)
unfolding body header bytes
length-body m es = omega (arith, length-entries es)

pub length-encode : (m : Machine) (es : List Saved) → length (encode m es) ≡ record_length (length es)
length-encode m es = rw (ends m es, length-append) (length-body m es)

last-encode : (m : Machine) (es : List Saved) → get_or (encode m es) (length (encode m es) - 1) 0 ≡ record_length (length es)
last-encode m es =
    let e : length (encode m es) - 1 ≡ length (body m es) = omega (arith, length-encode m es, length-body m es) in
    rw (e, ends m es) (get_or-append_seam (body m es) (record_length (length es)) [] 0)

-- ---- what is read

pub machine-back : (m : Machine) (es : List Saved) → MachineFits m → machine_of (encode m es) ≡ m
unfolding encode
machine-back m es f = header-back m _ f

read-entries : (es : List Saved) (more : List ℕ) → All SavedFits es → read_entries (length es) (entries es ++ more) ≡ es
unfolding read_entries entries bytes number_at
read-entries [] more f = refl
read-entries (e ∷ es) more f = λ i. record { place = two_back e.place (omega (arith, f.0.place)) i; byte = e.byte } ∷ read-entries es more f.1 i

wait-at : (m : Machine) (es : List Saved) → wait_at (encode m es) ≤ 2
unfolding wait_at encode header bytes
wait-at m es = omega (arith, wait-small m.wait)

mark-at : (m : Machine) (es : List Saved) → mark_at (encode m es) ≤ 1
unfolding mark_at encode header bytes
mark-at m es = omega (arith, mark-small m.armed)

pub count-back : (m : Machine) (es : List Saved) → count_of (encode m es) ≡ length es
unfolding count_of encode header bytes
count-back m es = refl

pub entries-back : (m : Machine) (es : List Saved) → All SavedFits es → entries_of (encode m es) ≡ es
unfolding entries_of count_of encode header bytes
entries-back m es f = read-entries es (record_length (length es) ∷ []) f

pub is-record : (m : Machine) (es : List Saved) → length es ≤ most_stored → is_record (encode m es) ≡ true
unfolding is_record
is-record m es few =
    rw (
      count-back m es,
      length-encode m es,
      le-leb (length es) most_stored few,
      eq-eqb (record_length (length es)) (record_length (length es)) refl,
      le-leb (wait_at (encode m es)) 2 (wait-at m es),
      le-leb (mark_at (encode m es)) 1 (mark-at m es),
    )

pub records-back : RecordsBack
records-back m es f g few = record {
  machine = machine-back m es f;
  entries = entries-back m es g;
  size = length-encode m es;
  last = last-encode m es;
  whole = is-record m es few;
}
