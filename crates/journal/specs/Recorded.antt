-- The recorded calls (document 01, sections "Journal" and "Numbers returned"; document 02, [9]).
-- Assumes nothing.
use Rattle.std.specs.Prelude.{ℕ, ◌+◌, ◌-◌, ◌^◌, ◌≤◌, ◌<◌, Bool, true, false, List, [], ◌∷◌, ◌++◌, ◌≡◌, leb, ltb, eqb, length, get_or, Err, Ok, Result, ⊤}
use Rattle.std.proofs.lemmas.List.Edits.{sets}
use Rattle.answers.specs.declared.Refusal.{Refusal}
use Rattle.answers.specs.declared.Refusal.TheVariants.{MemoryLength, JournalFull, JournalLength}
use Rattle.memory.specs.Fits.{Bytes}
use Rattle.memory.specs.Map.{landing_of}
use Rattle.memory.specs.Writes.{writes_of, listed, stored, reported}
use Rattle.memory.specs.declared.Landing.{Landing}
use Rattle.memory.specs.declared.Landing.TheVariants.{Stored, Device, Ignored}
use Rattle.memory.specs.declared.writes.Write.{Write}
use Rattle.memory.specs.declared.writes.Writes.{Writes}
use Rattle.machine.specs.Machine.{MachineFits, fresh}
use Rattle.machine.specs.declared.Settings.{Settings}
use Rattle.calls.specs.Calls.{Call, step, interrupt, reset, settings_in, plan_of}
use Rattle.calls.specs.declared.InterruptType.{InterruptType}
use Rattle.calls.specs.declared.Plan.{Plan}
use Rattle.journal.specs.Record.{Saved, encode}
use Rattle.journal.specs.declared.recorded.Outside.{Outside}
use Rattle.journal.specs.declared.recorded.Outside.TheVariants.{Interrupt as InterruptFrom, Reset as ResetFrom}
use Rattle.journal.specs.declared.CallType.{CallType}
use Rattle.journal.specs.declared.CallType.TheVariants.{Step, Interrupt, Reset}
use Rattle.journal.specs.declared.Outcome.{Outcome}
use Rattle.journal.specs.declared.Twin.{Twin}

-- What a call has in hand: the machine with the counts of its journal, the lent memory and the lent journal
pub record State : Type 0 where
  pub twin : Twin
  pub memory : List ℕ
  pub journal : List ℕ

-- a fresh machine, no record held and no byte used
abbrev pub fresh_twin : Twin
fresh_twin = record { machine = fresh; records = 0; bytes = 0 }

abbrev pub in_hand : List ℕ → List ℕ → Twin → State
in_hand memory journal twin = record { twin = twin; memory = memory; journal = journal }

-- What the types of a call's arguments say: each number in the machine fits its width, and memory is bytes
pub record Typed (s : State) : Type 0 where
  pub machine : MachineFits s.twin.machine
  pub memory : Bytes s.memory

-- How a call ends: its answer, what is in hand afterwards, the device writes that it reports, and how many bytes of memory it read and wrote
pub record Ended : Type 0 where
  pub answer : Result ⊤ Refusal
  pub state : State
  pub devices : Writes
  pub reads : ℕ
  pub writes : ℕ

-- a refused call leaves what it had in hand, reports nothing and counts nothing
abbrev pub ending : Result ⊤ Refusal → State → State → List Write → ℕ → ℕ → Ended
ending (Ok u) now new devices reads writes = record { answer = (Ok tt); state = new; devices = writes_of devices; reads = reads; writes = writes }
ending (Err x) now new devices reads writes = record { answer = Err x; state = now; devices = writes_of []; reads = 0; writes = 0 }

-- what the code returns of an end; `Leaves` says that a result, a memory and a journal are those of the end e
abbrev pub returned : Ended → Outcome
returned e = record { devices = e.devices; twin = e.state.twin; reads = e.reads; writes = e.writes; answer = e.answer }

-- what a refused call returns
abbrev pub turned_down : Twin → Refusal → Outcome
turned_down t x = record { devices = writes_of []; twin = t; reads = 0; writes = 0; answer = Err x }

pub record Leaves (r : Outcome) (memory journal : List ℕ) (e : Ended) : Type 0 where
  pub result : r ≡ returned e
  pub memory-is : memory ≡ e.state.memory
  pub journal-is : journal ≡ e.state.journal

-- a call that is lent no memory: whatever memory is, it is left as the call ends
abbrev pub LeavesEach : Outcome → List ℕ → (List ℕ → Ended) → Type 0
LeavesEach r journal e = (memory : List ℕ) → Leaves r memory journal (e memory)

-- `need test x rest`: refused by x where the test fails; `unless a rest`: refused as a is; else the rest
abbrev pub need : Bool → Refusal → Result ⊤ Refusal → Result ⊤ Refusal
need true x rest = rest
need false x rest = Err x

abbrev pub unless : Result ⊤ Refusal → Result ⊤ Refusal → Result ⊤ Refusal
unless (Ok u) rest = rest
unless (Err x) rest = Err x

-- The entries of a call's writes: one for each that is stored, with the byte from before the whole call
abbrev pub saved_at : List ℕ → Landing → List Saved
saved_at mem (Stored p) = record { place = p; byte = get_or mem p 0 } ∷ []
saved_at mem Device = []
saved_at mem Ignored = []

unfoldable pub saved_for : ℕ → List Write → List ℕ → List Saved
saved_for top [] mem = []
saved_for top (w ∷ ws) mem = saved_at mem (landing_of w.at top w.system) ++ saved_for top ws mem

-- The record of a call with this plan
unfoldable pub record_for : Settings → Plan → State → List ℕ
record_for t p s = encode s.twin.machine (saved_for t.ram_top (listed p.writes) s.memory)

-- ---- what a call answers

-- the greatest count of records that its number holds
abbrev pub most_records : ℕ
most_records = 2 ^ 64 - 1

-- before its plan: 1, then 12, by the bytes used or by a count of records that cannot rise
unfoldable pub admitted : ℕ → ℕ → ℕ → ℕ → Result ⊤ Refusal
admitted memory journal records bytes =
    need (eqb memory 65536) MemoryLength
    (need (leb bytes journal) JournalLength
    (need (ltb records most_records) JournalLength (Ok tt)))

-- what a call that is admitted has shown of its memory, its journal and its counts
abbrev pub Admits : List ℕ → List ℕ → Twin → Type 0
Admits memory journal twin = (length memory ≡ 65536) × ((twin.bytes ≤ length journal) × (twin.records < most_records))

-- then as its plan is refused: 2 and the instruction's own of a step, 8 and 9 of an interrupt; last 10, where its own record does not fit
abbrev pub plan_answer : Settings → Plan → State → Result ⊤ Refusal
plan_answer t p s = unless p.answer (need (leb (s.twin.bytes + length (record_for t p s)) (length s.journal)) JournalFull (Ok tt))

abbrev pub call_answer : Settings → Plan → State → Result ⊤ Refusal
call_answer t p s = unless (admitted (length s.memory) (length s.journal) s.twin.records s.twin.bytes) (plan_answer t p s)

-- ---- how it ends

-- An accepted call: the new machine, its writes in memory, its record behind the bytes used
unfoldable pub recorded : Settings → Plan → State → State
recorded t p s =
    record {
      twin = record { machine = p.machine; records = s.twin.records + 1; bytes = s.twin.bytes + length (record_for t p s) };
      memory = stored t.ram_top (listed p.writes) s.memory;
      journal = sets s.journal s.twin.bytes (record_for t p s);
    }

-- how a call with this plan ends, by its answer; the bytes of the journal are not counted
abbrev pub concluded : Result ⊤ Refusal → Settings → Plan → State → Ended
concluded a t p s = ending a s (recorded t p s) (reported t.ram_top (listed p.writes)) p.reads (length (listed p.writes))

unfoldable pub called : Settings → Plan → State → Ended
called t p s = concluded (call_answer t p s) t p s

-- Any forward call, recorded
abbrev pub call : Call → State → Ended
call c s = called (settings_in c) (plan_of c s.memory s.twin.machine) s

abbrev pub stepped : Settings → State → Ended
stepped t s = call (step t) s

abbrev pub interrupted : Settings → InterruptType → State → Ended
interrupted t i s = call (interrupt t i) s

abbrev pub was_reset : Settings → State → Ended
was_reset t s = call (reset t) s

-- the call that the code's type names, with its settings
abbrev pub call_of : CallType → Settings → Call
call_of Step t = step t
call_of (Interrupt i) t = interrupt t i
call_of Reset t = reset t

abbrev pub outside_of : Outside → Settings → Call
outside_of (InterruptFrom i) t = interrupt t i
outside_of ResetFrom t = reset t
