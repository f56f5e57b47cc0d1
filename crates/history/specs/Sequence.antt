-- Demand 3: sequences of recorded calls, undos, drops and the host's writes, and what undo, the newest record and drop are wherever one has led.
--
-- What it rules out. At every point of every sequence `Held` names the state just before the newest accepted call still held. An undo that
-- returns the start state, or the oldest record's, fails it after two accepted calls from different states; a drop that forgets the newest
-- records, or leaves the count of bytes, fails it at the next undo. That each call does its work is said at each call, not here: `call` is
-- what the statements of `step`, `interrupt` and `reset` cite. A machine that works on the first call and idles afterwards does not meet
-- them at the second call. Of damaged records, and of the order of refusals, it says nothing: along a sequence there are none.
-- Assumes nothing.
use Rattle.std.specs.Prelude.{ℕ, ◌+◌, ◌-◌, ◌*◌, ◌^◌, ◌≤◌, ◌<◌, ◌≡◌, ◌↔◌, ◌≢◌, List, [], ◌∷◌, eqb, leb, length, get_or, take, drop, set, Err, Ok, Result, ⊤}
use Rattle.memory.specs.Fits.{Bytes}
use Rattle.memory.specs.Writes.{writes_of}
use Rattle.answers.specs.declared.Refusal.TheVariants.{MemoryLength, NoRecord, TooFewRecords}
use Rattle.machine.specs.Machine.{MachineFits}
use Rattle.machine.specs.Record.{machine_of}
use Rattle.machine.specs.declared.Machine.{Machine}
use Rattle.calls.specs.Calls.{Call, settings_in, plan_of}
use Rattle.journal.specs.Record.{All, count_of, most_stored, record_length}
use Rattle.journal.specs.Recorded.{State, Ended, need, most_records, record_for, call}
use Rattle.journal.specs.Undos.{undone, viewed}
use Rattle.journal.specs.Drops.{dropped}
use Rattle.answers.specs.declared.Refusal.{Refusal}

-- ---- sequences

-- FF00-FFDF, which the host fills
abbrev pub Window : ℕ → Type 0
Window i = (0xFF00 ≤ i) × (i < 0xFFE0)

pub data Event : Type 0 where
  -- a recorded step, interrupt or reset
  forward : Call → Event
  back : Event
  -- the oldest k records are dropped
  forget : ℕ → Event
  -- between calls: the host writes a byte at an address
  host : ℕ → ℕ → Event

abbrev pub Legal : Event → Type 0
Legal (forward c) = Unit {0}
Legal back = Unit {0}
Legal (forget k) = Unit {0}
Legal (host a v) = Window a × (v < 256)

-- the machine and the memory at one moment
pub record Snap : Type 0 where
  pub machine : Machine
  pub memory : List ℕ

-- What is in hand, and, newest first, how machine and memory stood just before each accepted forward call still held
pub record World : Type 0 where
  pub now : State
  pub past : List Snap

abbrev pub push : Result ⊤ Refusal → State → List Snap → List Snap
push (Ok u) s past = record { machine = s.twin.machine; memory = s.memory } ∷ past
push (Err x) s past = past

abbrev pub rest : List Snap → List Snap
rest [] = []
rest (s ∷ ss) = ss

abbrev pub pop : Result ⊤ Refusal → List Snap → List Snap
pop (Ok u) past = rest past
pop (Err x) past = past

-- all but the k oldest, which stand last
abbrev pub but : ℕ → List Snap → List Snap
but k past = take (length past - k) past

abbrev pub lose : ℕ → Result ⊤ Refusal → List Snap → List Snap
lose k (Ok u) past = but k past
lose k (Err x) past = past

abbrev pub host_writes : ℕ → ℕ → State → State
host_writes a v s = record { twin = s.twin; memory = set s.memory a v; journal = s.journal }

unfoldable pub next : Event → World → World
next (forward c) w = record { now = (call c w.now).state; past = push (call c w.now).answer w.now w.past }
next back w = record { now = (undone w.now).state; past = pop (undone w.now).answer w.past }
next (forget k) w = record { now = (dropped k w.now).state; past = lose k (dropped k w.now).answer w.past }
next (host a v) w = record { now = host_writes a v w.now; past = w.past }

unfoldable pub run : List Event → World → World
run [] w = w
run (e ∷ es) w = run es (next e w)

-- an empty journal: no record held and no byte used, whatever bytes it has
abbrev pub without_records : Machine → List ℕ → List ℕ → World
without_records m mem j = record { now = record { twin = record { machine = m; records = 0; bytes = 0 }; memory = mem; journal = j }; past = [] }

-- ---- what undo does

-- as long as one another, and the same byte at every address outside the window
pub record Same (m n : List ℕ) : Type 0 where
  pub size : length m ≡ length n
  pub bytes : (i : ℕ) → ¬ (Window i) → get_or m i 0 ≡ get_or n i 0

-- An undo at s that ends as o, of a call before which t stood
pub record Restores (s : State) (t : Snap) (o : Ended) : Type 0 where
  pub accepted : o.answer ≡ (Ok tt)
  -- registers, wait state, mark and both counters
  pub machine : o.state.twin.machine ≡ t.machine
  -- memory outside FF00-FFDF is as it stood before the call, and inside as it stands now
  pub memory : Same o.state.memory t.memory
  pub window : (i : ℕ) → Window i → get_or o.state.memory i 0 ≡ get_or s.memory i 0
  -- the journal's bytes stay, its count of records is one lower, and its count of bytes lower by the newest record, which the view shows
  pub journal : o.state.journal ≡ s.journal
  pub records : o.state.twin.records + 1 ≡ s.twin.records
  pub bytes : o.state.twin.bytes + length (viewed s) ≡ s.twin.bytes

-- Undo brings back the newest of the past, and where there is none it is refused, by 1 or 11
abbrev pub BringsBack : State → List Snap → Ended → Type 0
BringsBack s [] o = (o.answer ≡ need (eqb (length s.memory) 65536) MemoryLength (Err NoRecord)) × (o.state ≡ s)
BringsBack s (t ∷ ts) o = Restores s t o

-- ---- what the newest record is, and what drop does

-- The view is empty where no call is held, and else the newest record, whole
abbrev pub Shows : List Snap → List ℕ → Type 0
Shows [] r = r ≡ []
Shows (t ∷ ts) r = (machine_of r ≡ t.machine) × ((length r ≡ record_length (count_of r)) × (count_of r ≤ most_stored))

-- A drop of k at s that ends as o, where that many records are held
pub record Shortens (k : ℕ) (s : State) (o : Ended) : Type 0 where
  pub machine : o.state.twin.machine ≡ s.twin.machine
  pub memory : o.state.memory ≡ s.memory
  pub records : o.state.twin.records + k ≡ s.twin.records
  -- the bytes used are the last of those that were used; the journal's bytes past them stay
  pub less : o.state.twin.bytes ≤ s.twin.bytes
  pub kept : take o.state.twin.bytes o.state.journal ≡ drop (s.twin.bytes - o.state.twin.bytes) (take s.twin.bytes s.journal)
  pub others : drop o.state.twin.bytes o.state.journal ≡ drop o.state.twin.bytes s.journal

-- Drop is accepted exactly when k calls are held, and else refused by 26
pub record Drops (k : ℕ) (s : State) (past : List Snap) (o : Ended) : Type 0 where
  pub answer : o.answer ≡ need (leb k (length past)) TooFewRecords (Ok tt)
  pub shortens : k ≤ length past → Shortens k s o

-- one record for each call held, of 34 to 70 bytes, and room for them
pub record Counts (s : State) (past : List Snap) : Type 0 where
  pub records : s.twin.records ≡ length past
  pub least : s.twin.records * record_length 0 ≤ s.twin.bytes
  pub most : s.twin.bytes ≤ s.twin.records * record_length most_stored
  pub room : s.twin.bytes ≤ length s.journal

-- ---- the demand

-- What demand 3 says where a sequence has led. Neither undo nor drop is refused by 12
pub record Held (w : World) : Type 0 where
  -- undo is accepted exactly when a call is still held
  pub exactly : ((undone w.now).answer ≡ (Ok tt)) ↔ (w.past ≢ [])
  pub brings : BringsBack w.now w.past (undone w.now)
  pub shows : Shows w.past (viewed w.now)
  pub drops : (k : ℕ) → Drops k w.now w.past (dropped k w.now)
  pub counts : Counts w.now w.past

-- A forward call at s, accepted, that ends as o: its record is the newest and stands behind the bytes used; the bytes before it and past it
-- stay
pub record Appends (c : Call) (s : State) (o : Ended) : Type 0 where
  pub earlier : take s.twin.bytes o.state.journal ≡ take s.twin.bytes s.journal
  pub newest : viewed o.state ≡ record_for (settings_in c) (plan_of c s.memory s.twin.machine) s
  pub later : drop o.state.twin.bytes o.state.journal ≡ drop o.state.twin.bytes s.journal

-- A refused call changes nothing and reports nothing
pub record Unchanged (s : State) (o : Ended) : Type 0 where
  pub state : o.state ≡ s
  pub devices : o.devices ≡ writes_of []
  pub reads : o.reads ≡ 0
  pub writes : o.writes ≡ 0

-- From any machine that fits its widths, any memory of bytes and any journal, after any sequence
pub record Demand3 : Type 0 where
  pub held : (m : Machine) (mem j : List ℕ) (es : List Event) → MachineFits m → Bytes mem → All Legal es → Held (run es (without_records m mem j))
  -- the journal keeps its length, and where that fits 64 bits one more record can always be counted: no forward call is refused by 12
  pub countable : (m : Machine) (mem j : List ℕ) (es : List Event) → MachineFits m → Bytes mem → All Legal es → length j < 2 ^ 64
      → (length (run es (without_records m mem j)).now.journal ≡ length j) × ((run es (without_records m mem j)).now.twin.records < most_records)
  pub refused-call : (c : Call) (s : State) → (call c s).answer ≢ (Ok tt) → Unchanged s (call c s)
  pub refused-undo : (s : State) → (undone s).answer ≢ (Ok tt) → Unchanged s (undone s)
  pub refused-drop : (k : ℕ) (s : State) → (dropped k s).answer ≢ (Ok tt) → Unchanged s (dropped k s)
  -- at any state: an accepted call leaves its own record behind the bytes used; the view is empty exactly where undo, with a whole memory, is refused (by 11 or 12)
  pub appends : (c : Call) (s : State) → (call c s).answer ≡ (Ok tt) → Appends c s (call c s)
  pub view-undo : (s : State) → length s.memory ≡ 65536 → (viewed s ≡ []) ↔ ((undone s).answer ≢ (Ok tt))
