-- Drop (document 02, [9]): the oldest k records are forgotten, and the rest is moved to the front.
-- Assumes nothing.
use Rattle.std.specs.Prelude.{ℕ, zero, suc, ◌+◌, ◌-◌, Bool, true, cond, ◌&&◌, List, [], leb, ltb, length, get_or, take, drop, None, Ok, Option, Result, Some, ⊤}
use Rattle.std.proofs.lemmas.List.Edits.{sets}
use Rattle.answers.specs.declared.Refusal.TheVariants.{JournalLength, TooFewRecords}
use Rattle.journal.specs.Record.{count_at, most_stored, record_length}
use Rattle.journal.specs.Recorded.{State, Ended, ending, need}
use Rattle.answers.specs.declared.Refusal.{Refusal}

-- ---- the walk over the k oldest records, from byte 0 on

-- where they end, by the counts on the way
unfoldable pub reach : ℕ → List ℕ → ℕ
reach zero j = 0
reach (suc k) j = reach k j + record_length (get_or j (reach k j + count_at) 0)

-- a record at a place has its count within the bytes used, a count of at most twelve, and its end within them
unfoldable pub passable : List ℕ → ℕ → ℕ → Bool
passable j bytes at =
    ltb (at + count_at) bytes
    && (leb (get_or j (at + count_at) 0) most_stored
    && leb (at + record_length (get_or j (at + count_at) 0)) bytes)

unfoldable pub walks : ℕ → List ℕ → ℕ → Bool
walks zero j bytes = true
walks (suc k) j bytes = walks k j bytes && passable j bytes (reach k j)

-- what the code's walk returns
unfoldable pub walk_of : List ℕ → ℕ → ℕ → Option ℕ
walk_of j bytes k = cond (walks k j bytes) (Some (reach k j)) None

-- ---- drop: 12 by the length, 26 where k exceeds the records held, 12 by the walk

unfoldable pub drop_answer : ℕ → State → Result ⊤ Refusal
drop_answer k s =
    need (leb s.twin.bytes (length s.journal)) JournalLength
    (need (leb k s.twin.records) TooFewRecords
    (need (walks k s.journal s.twin.bytes) JournalLength (Ok tt)))

-- all from a place to the end of the bytes used goes to the front; the bytes past the moved ones stay
unfoldable pub moved : ℕ → ℕ → List ℕ → List ℕ
moved at bytes j = sets j 0 (take (bytes - at) (drop at j))

unfoldable pub shortened : ℕ → State → State
shortened k s =
    record {
      twin = record { machine = s.twin.machine; records = s.twin.records - k; bytes = s.twin.bytes - reach k s.journal };
      memory = s.memory;
      journal = moved (reach k s.journal) s.twin.bytes s.journal;
    }

unfoldable pub dropped : ℕ → State → Ended
dropped k s = ending (drop_answer k s) s (shortened k s) [] 0 0
