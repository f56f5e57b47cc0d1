-- Undo and the newest record (document 01, sections "Journal" and "Numbers returned"; document 02, [9]).
-- Assumes nothing.
use Rattle.std.specs.Prelude.{ℕ, ◌-◌, Bool, cond, ◌&&◌, List, [], ◌∷◌, leb, ltb, eqb, length, get_or, take, drop, set, Ok, Result, ⊤}
use Rattle.answers.specs.declared.Refusal.TheVariants.{MemoryLength, NoRecord, JournalLength}
use Rattle.machine.specs.Record.{machine_of}
use Rattle.journal.specs.Record.{Saved, record_length, entries_of, is_record}
use Rattle.journal.specs.Recorded.{State, Ended, ending, need}
use Rattle.answers.specs.declared.Refusal.{Refusal}

-- ---- the newest record

-- the last of the used bytes says how long it is
abbrev pub last_byte : List ℕ → ℕ → ℕ
last_byte j bytes = get_or j (bytes - 1) 0

unfoldable pub newest_at : List ℕ → ℕ → List ℕ
newest_at j bytes = take (last_byte j bytes) (drop (bytes - last_byte j bytes) j)

-- what 12 is given by: no byte used, a last byte below the shortest record's or above the bytes used, or bytes that are no record
unfoldable pub sound_at : List ℕ → ℕ → Bool
sound_at j bytes =
    ltb 0 bytes
    && (leb (record_length 0) (last_byte j bytes)
    && (leb (last_byte j bytes) bytes
    && is_record (newest_at j bytes)))

-- On request: the record, and an empty part (15) where no whole record is there; and where in the journal the part begins
abbrev pub is_there : List ℕ → ℕ → ℕ → Bool
is_there j records bytes = leb bytes (length j) && (ltb 0 records && sound_at j bytes)

unfoldable pub newest_of : List ℕ → ℕ → ℕ → List ℕ
newest_of j records bytes = cond (is_there j records bytes) (newest_at j bytes) []

unfoldable pub newest_from : List ℕ → ℕ → ℕ → ℕ
newest_from j records bytes = cond (is_there j records bytes) (bytes - last_byte j bytes) 0

abbrev pub viewed : State → List ℕ
viewed s = newest_of s.journal s.twin.records s.twin.bytes

-- ---- undo: 1, 12 by the length, 11, 12 by the record

abbrev pub newest_in : State → List ℕ
newest_in s = newest_at s.journal s.twin.bytes

unfoldable pub undo_answer : State → Result ⊤ Refusal
undo_answer s =
    need (eqb (length s.memory) 65536) MemoryLength
    (need (leb s.twin.bytes (length s.journal)) JournalLength
    (need (ltb 0 s.twin.records) NoRecord
    (need (sound_at s.journal s.twin.bytes) JournalLength (Ok tt))))

-- old bytes put back raw, last entry first
unfoldable pub put_back : List ℕ → List Saved → List ℕ
put_back mem [] = mem
put_back mem (e ∷ es) = set (put_back mem es) e.place e.byte

unfoldable pub restored : State → State
restored s =
    record {
      twin = record { machine = machine_of (newest_in s); records = s.twin.records - 1; bytes = s.twin.bytes - length (newest_in s) };
      memory = put_back s.memory (entries_of (newest_in s));
      journal = s.journal;
    }

unfoldable pub undone : State → Ended
undone s = ending (undo_answer s) s (restored s) [] 0 0
