-- What the calls answer, test by test, and what then is left in memory and journal.
-- Assumes nothing.
use Rattle.std.specs.Prelude.{Err, Ok, Result, ⊤}
use Prim.Native.Nat.{ℕ, ◌+◌, ◌-◌, ◌≤◌, ◌<◌}
use mathlib.Core.Path.{◌≡◌, refl, sym, ap, ◌∙◌}
use mathlib.Core.Bool.{Bool, true, false, cond, ◌&&◌}
use mathlib.Core.List.{List, []}
use mathlib.Core.Logic.{◌⊎◌, inl, inr}
use native.Mathlib.Nat.{zero-add}
use native.Mathlib.Omega.{arith}
use lib.Dec.{leb, ltb, eqb}
use lib.ListN.{length, get_or, take, drop, length-drop}
use lib.Seq.{sets, length-take-le}
use borrow.Author.Tests.{eq-eqb, ne_eqb, le-leb, lt-leb, lt-ltb, le-ltb, eqb-true, leb-true, ltb-true}
use Rattle.memory.specs.Writes.{writes_of, listed, stored, reported}
use Rattle.answers.specs.declared.Refusal.{Refusal}
use Rattle.answers.specs.declared.Refusal.TheVariants.{MemoryLength, Waiting, JournalFull, NoRecord, JournalLength}
use Rattle.memory.specs.declared.writes.Write.{Write}
use Rattle.memory.specs.declared.writes.Writes.{Writes}
use Rattle.machine.specs.declared.Machine.{Machine}
use Rattle.machine.specs.declared.Settings.{Settings}
use Rattle.machine.specs.declared.Wait.{Wait}
use Rattle.machine.specs.declared.Wait.TheVariants.{Running, Cwai, Sync}
use Rattle.machine.specs.Record.{machine_of}
use Rattle.calls.specs.Calls.{plan_of}
use Rattle.calls.specs.Plans.{fenced}
use Rattle.calls.proofs.Passing.{refused-free}
use Rattle.calls.specs.Steps.{unless_waiting, decoded_to, planned, reached, step_plan}
use Rattle.calls.specs.declared.Plan.{Plan}
use Rattle.journal.specs.Record.{wait_at, mark_at, count_of, entries_of, read_entries, is_record, most_stored, entries_at, record_length}
use Rattle.journal.specs.Recorded.{State, in_hand, ending, turned_down, Leaves, need, unless, most_records, admitted, saved_for, record_for, plan_answer, call_answer, recorded, concluded, called, call, outside_of}
use Rattle.journal.specs.Undos.{last_byte, newest_at, sound_at, newest_of, newest_from, undo_answer, put_back, restored, undone}
use Rattle.journal.specs.declared.recorded.Outside.{Outside}
use Rattle.journal.specs.declared.recorded.Outside.TheVariants.{Interrupt as InterruptFrom, Reset as ResetFrom}
use Rattle.journal.specs.declared.Outcome.{Outcome}
use Rattle.journal.specs.declared.Twin.{Twin}
use Rattle.journal.proofs.Reading.{length-encode}

pub and-true : (a b : Bool) → (a && b) ≡ true → (a ≡ true) × (b ≡ true)
and-true true b e = (refl, e)
and-true false b e = let z : ◌≡◌ {A = ℕ} 0 1 = cc in absurd (omega arith)

pub and-false : (a : Bool) → (a && false) ≡ false
and-false true = refl
and-false false = refl

-- a refusal
pub refused-leaves : (a : Result ⊤ Refusal) (s new : State) (ds : List Write) (reads writes : ℕ) (x : Refusal) (r : Outcome) → a ≡ Err x
    → r ≡ turned_down s.twin x → Leaves r s.memory s.journal (ending a s new ds reads writes)
refused-leaves a s new ds reads writes x r e p = rw e (record { result = p; memory-is = refl; journal-is = refl })

-- ---- before a recorded call

module _ (memory journal records bytes : ℕ) where
  pub short-memory : (memory ≡ 65536 → ⊥) → Err MemoryLength ≡ admitted memory journal records bytes
  unfolding admitted
  short-memory h = rw (ne_eqb memory 65536 h)

  module _ (size : memory ≡ 65536) where
    pub short-journal : journal < bytes → Err JournalLength ≡ admitted memory journal records bytes
    unfolding admitted
    short-journal h = rw (eq-eqb memory 65536 size, lt-leb bytes journal h)

    module _ (within : bytes ≤ journal) where
      pub most-counted : most_records ≤ records → Err JournalLength ≡ admitted memory journal records bytes
      unfolding admitted
      most-counted h = rw (eq-eqb memory 65536 size, le-leb bytes journal within, le-ltb records most_records h)

      pub admits-all : records < most_records → (Ok tt) ≡ admitted memory journal records bytes
      unfolding admitted
      admits-all h = rw (eq-eqb memory 65536 size, le-leb bytes journal within, lt-ltb records most_records h)

need-done : (b : Bool) (x : Refusal) (rest : Result ⊤ Refusal) → need b x rest ≡ (Ok tt) → (b ≡ true) × (rest ≡ (Ok tt))
need-done true x rest e = (refl, e)
need-done false x rest e = let z : ◌≡◌ {A = ℕ} 0 1 = cc in absurd (omega arith)

unless-done : (a rest : Result ⊤ Refusal) → unless a rest ≡ (Ok tt) → (a ≡ (Ok tt)) × (rest ≡ (Ok tt))
unless-done (Ok u) rest e = (refl, e)
unless-done (Err x) rest e = let z : ◌≡◌ {A = ℕ} 0 1 = cc in absurd (omega arith)

-- what a call that is admitted has shown
pub record Admitted (memory journal records bytes : ℕ) : Type 0 where
  pub size : memory ≡ 65536
  pub within : bytes ≤ journal
  pub counted : records < most_records

pub admitted-done : (memory journal records bytes : ℕ) → admitted memory journal records bytes ≡ (Ok tt) → Admitted memory journal records bytes
unfolding admitted
admitted-done memory journal records bytes e =
    let e1 = need-done (eqb memory 65536) MemoryLength _ e in
    let e2 = need-done (leb bytes journal) JournalLength _ e1.1 in
    let e3 = need-done (ltb records most_records) JournalLength (Ok tt) e2.1 in
    record { size = eqb-true memory 65536 e1.0; within = leb-true bytes journal e2.0; counted = ltb-true records most_records e3.0 }

-- ---- a recorded call

module _ (t : Settings) (f : Plan) (s : State) where
  -- the length of its record, from the count of its entries
  pub record-size : (n size : ℕ) → n ≡ length (saved_for t.ram_top (listed f.writes) s.memory) → size ≡ record_length n → size ≡ length (record_for t f s)
  unfolding record_for
  record-size n size e q = q ∙ rw e (sym (length-encode s.twin.machine (saved_for t.ram_top (listed f.writes) s.memory)))

  pub plan-refused : (x : Refusal) → f.answer ≡ Err x → plan_answer t f s ≡ Err x
  plan-refused x e = ap (λ (a : Result ⊤ Refusal). unless a (need (leb (s.twin.bytes + length (record_for t f s)) (length s.journal)) JournalFull (Ok tt))) e

  plan-by : {b : Bool} → f.answer ≡ (Ok tt) → leb (s.twin.bytes + length (record_for t f s)) (length s.journal) ≡ b → plan_answer t f s ≡ need b JournalFull (Ok tt)
  plan-by e q =
      ap (λ (a : Result ⊤ Refusal). unless a (need (leb (s.twin.bytes + length (record_for t f s)) (length s.journal)) JournalFull (Ok tt))) e
      ∙ ap (λ (c : Bool). need c JournalFull (Ok tt)) q

  pub plan-full : f.answer ≡ (Ok tt) → length s.journal < s.twin.bytes + length (record_for t f s) → plan_answer t f s ≡ Err JournalFull
  plan-full e h = plan-by e (lt-leb (s.twin.bytes + length (record_for t f s)) (length s.journal) h)

  pub plan-fits : f.answer ≡ (Ok tt) → s.twin.bytes + length (record_for t f s) ≤ length s.journal → plan_answer t f s ≡ (Ok tt)
  plan-fits e h = plan-by e (le-leb (s.twin.bytes + length (record_for t f s)) (length s.journal) h)

  -- the record, the writes and the counts
  pub recorded-leaves : (d : Writes) (n w : ℕ) (mem j : List ℕ) (size : ℕ) (a : Result ⊤ Refusal) → plan_answer t f s ≡ (Ok tt) → a ≡ (Ok tt) → size ≡ length (record_for t f s)
      → d ≡ writes_of (reported t.ram_top (listed f.writes)) → n ≡ f.reads → w ≡ length (listed f.writes) → mem ≡ stored t.ram_top (listed f.writes) s.memory
      → j ≡ sets s.journal s.twin.bytes (record_for t f s)
      → Leaves (record { devices = d; twin = record { machine = f.machine; records = s.twin.records + 1; bytes = s.twin.bytes + size }; reads = n; writes = w; answer = a }) mem j (concluded (plan_answer t f s) t f s)
  unfolding recorded
  recorded-leaves d n w mem j size a e ea k p en ew q l = rw (e, ea) (record { result = rw (p, k, en, ew); memory-is = q; journal-is = l })

  pub called-refused : (x : Refusal) (r : Outcome) → admitted (length s.memory) (length s.journal) s.twin.records s.twin.bytes ≡ Err x
      → r ≡ turned_down s.twin x → Leaves r s.memory s.journal (called t f s)
  unfolding called
  called-refused x r e p = refused-leaves (call_answer t f s) s (recorded t f s) (reported t.ram_top (listed f.writes)) f.reads (length (listed f.writes)) x r (rw e) p

  pub called-done : (r : Outcome) (mem j : List ℕ) → admitted (length s.memory) (length s.journal) s.twin.records s.twin.bytes ≡ (Ok tt)
      → Leaves r mem j (concluded (plan_answer t f s) t f s) → Leaves r mem j (called t f s)
  unfolding called
  called-done r mem j e h = rw e h

-- the call that the code's type names
pub outside-so : (which : Outside) (t : Settings) (s : State) (r : Outcome) (mem j : List ℕ)
    → Leaves r mem j (called t (plan_of (outside_of which t) s.memory s.twin.machine) s) → Leaves r mem j (call (outside_of which t) s)
outside-so (InterruptFrom i) t s r mem j h = h
outside-so ResetFrom t s r mem j h = h

-- what an accepted call has shown
pub record Taken (t : Settings) (f : Plan) (s : State) : Type 0 where
  pub before : Admitted (length s.memory) (length s.journal) s.twin.records s.twin.bytes
  pub own : f.answer ≡ (Ok tt)
  pub space : s.twin.bytes + length (record_for t f s) ≤ length s.journal

pub call-taken : (t : Settings) (f : Plan) (s : State) → call_answer t f s ≡ (Ok tt) → Taken t f s
call-taken t f s e =
    let e1 = unless-done (admitted (length s.memory) (length s.journal) s.twin.records s.twin.bytes) _ e in
    let e2 = unless-done f.answer _ e1.1 in
    let e3 = need-done (leb (s.twin.bytes + length (record_for t f s)) (length s.journal)) JournalFull (Ok tt) e2.1 in
    record {
      before = admitted-done (length s.memory) (length s.journal) s.twin.records s.twin.bytes e1.0;
      own = e2.0;
      space = leb-true (s.twin.bytes + length (record_for t f s)) (length s.journal) e3.0;
    }

-- ---- bytes that are a record, or none

pub many-entries : (r : List ℕ) → most_stored < count_of r → false ≡ is_record r
unfolding is_record
many-entries r h = rw (lt-leb (count_of r) most_stored h)

pub few-entries : (r : List ℕ) (n : ℕ) → count_of r ≤ most_stored → n ≡ record_length (count_of r) → (eqb (length r) n && (leb (wait_at r) 2 && leb (mark_at r) 1)) ≡ is_record r
unfolding is_record
few-entries r n h e = rw (le-leb (count_of r) most_stored h, e)

-- ---- the newest record

-- n bytes on in a slice
abbrev further : ℕ × ℕ → ℕ → ℕ × ℕ
further b n = (b.0, n + b.1)

not-further : (b : ℕ × ℕ) → further b 0 ≡ b
not-further b = ap (λ (n : ℕ). (b.0, n)) (zero-add b.1)

module _ (j : List ℕ) (bytes : ℕ) where
  pub no_bytes : bytes ≡ 0 → sound_at j bytes ≡ false
  unfolding sound_at
  no_bytes h = rw (le-ltb 0 bytes (omega arith))

  pub last-low : last_byte j bytes < record_length 0 → sound_at j bytes ≡ false
  unfolding sound_at
  last-low h = rw (lt-leb (record_length 0) (last_byte j bytes) h) (simp and-false)

  pub last-high : bytes < last_byte j bytes → sound_at j bytes ≡ false
  unfolding sound_at
  last-high h = rw (lt-leb (last_byte j bytes) bytes h) (simp and-false)

  pub no_record : is_record (newest_at j bytes) ≡ false → sound_at j bytes ≡ false
  unfolding sound_at
  no_record h = rw h (simp and-false)

  pub is-sound : 0 < bytes → record_length 0 ≤ last_byte j bytes → last_byte j bytes ≤ bytes → is_record (newest_at j bytes) ≡ true → sound_at j bytes ≡ true
  unfolding sound_at
  is-sound a b d e = rw (lt-ltb 0 bytes a, le-leb (record_length 0) (last_byte j bytes) b, le-leb (last_byte j bytes) bytes d, e)

  -- the part from there to the end of the bytes used
  pub part-is : last_byte j bytes ≤ bytes → take (bytes - (bytes - last_byte j bytes)) (drop (bytes - last_byte j bytes) j) ≡ newest_at j bytes
  unfolding newest_at
  part-is h =
      let e : bytes - (bytes - last_byte j bytes) ≡ last_byte j bytes = omega arith in
      ap (λ (n : ℕ). take n (drop (bytes - last_byte j bytes) j)) e

  pub part_length : bytes ≤ length j → last_byte j bytes ≤ bytes → length (newest_at j bytes) ≡ last_byte j bytes
  unfolding newest_at
  part_length f h =
      let d = length-drop (bytes - last_byte j bytes) j in
      length-take-le (last_byte j bytes) (drop (bytes - last_byte j bytes) j) (omega arith)

  -- its bytes, and where it begins in the journal, which begins at b
  module _ (records : ℕ) (b : ℕ × ℕ) where
    pub view-12 : length j < bytes → ([] ≡ newest_of j records bytes) × (b ≡ further b (newest_from j records bytes))
    unfolding newest_of newest_from
    view-12 h = rw (lt-leb bytes (length j) h) (refl, sym (not-further b))

    pub view-11 : records ≡ 0 → ([] ≡ newest_of j records bytes) × (b ≡ further b (newest_from j records bytes))
    unfolding newest_of newest_from
    view-11 h = rw (le-ltb 0 records (omega arith)) (simp and-false (refl, sym (not-further b)))

    pub view-unsound : sound_at j bytes ≡ false → ([] ≡ newest_of j records bytes) × (b ≡ further b (newest_from j records bytes))
    unfolding newest_of newest_from
    view-unsound h = rw h (simp and-false (refl, sym (not-further b)))

    pub view-sound : bytes ≤ length j → 0 < records → sound_at j bytes ≡ true
        → (newest_at j bytes ≡ newest_of j records bytes) × (further b (bytes - last_byte j bytes) ≡ further b (newest_from j records bytes))
    unfolding newest_of newest_from
    view-sound f r s = rw (le-leb bytes (length j) f, lt-ltb 0 records r, s) (refl, refl)

-- ---- undo

-- what a newest record that is no empty part shows
pub record Newest (j : List ℕ) (bytes : ℕ) (r : List ℕ) : Type 0 where
  pub is : r ≡ newest_at j bytes
  pub sound : sound_at j bytes ≡ true
  pub few : count_of r ≤ most_stored
  pub long : length r ≡ record_length (count_of r)
  pub size : length r ≡ last_byte j bytes
  pub within-used : length r ≤ bytes

module _ (j : List ℕ) (bytes : ℕ) (fits : bytes ≤ length j) where
  pub sound-newest : sound_at j bytes ≡ true → Newest j bytes (newest_at j bytes)
  unfolding sound_at is_record
  sound-newest e =
      let n : ℕ = last_byte j bytes in
      let r : List ℕ = newest_at j bytes in
      let e1 = and-true (ltb 0 bytes) _ e in
      let e2 = and-true (leb (record_length 0) n) _ e1.1 in
      let e3 = and-true (leb n bytes) _ e2.1 in
      let e4 = and-true (leb (count_of r) most_stored) _ e3.1 in
      let e5 = and-true (eqb (length r) (record_length (count_of r))) _ e4.1 in
      let b : n ≤ bytes = leb-true n bytes e3.0 in
      let l : length r ≡ n = part_length j bytes fits b in
      record { is = refl; sound = e; few = leb-true (count_of r) most_stored e4.0; long = eqb-true (length r) (record_length (count_of r)) e5.0; size = l; within-used = omega arith }

  newest-by : (b : Bool) → sound_at j bytes ≡ b → (r : List ℕ) → r ≡ cond b (newest_at j bytes) [] → 0 < length r → Newest j bytes r
  newest-by true e r q h = rw q (sound-newest e)
  newest-by false e r q h = let z : length r ≡ 0 = ap length q in absurd (omega arith)

  unsound-by : (b : Bool) → sound_at j bytes ≡ b → (r : List ℕ) → r ≡ cond b (newest_at j bytes) [] → length r ≡ 0 → sound_at j bytes ≡ false
  unsound-by true e r q h =
      let n = sound-newest e in
      let l : length (newest_at j bytes) ≡ 0 = sym (ap length q) ∙ h in
      absurd (omega (arith, n.long))
  unsound-by false e r q h = e

  module _ (records : ℕ) (held : 0 < records) (r : List ℕ) (q : r ≡ newest_of j records bytes) where
    plain : r ≡ cond (sound_at j bytes) (newest_at j bytes) []
    unfolding newest_of
    plain = q ∙ rw (le-leb bytes (length j) fits, lt-ltb 0 records held)

    pub newest-some : 0 < length r → Newest j bytes r
    newest-some h = newest-by (sound_at j bytes) refl r plain h

    pub newest-none : length r ≡ 0 → sound_at j bytes ≡ false
    newest-none h = unsound-by (sound_at j bytes) refl r plain h

module _ (s : State) where
  pub undo-refused : (x : Refusal) (r : Outcome) → undo_answer s ≡ Err x
      → r ≡ turned_down s.twin x → Leaves r s.memory s.journal (undone s)
  unfolding undone
  undo-refused x r e p = refused-leaves (undo_answer s) s (restored s) [] 0 0 x r e p

  pub undo-1 : (length s.memory ≡ 65536 → ⊥) → undo_answer s ≡ Err MemoryLength
  unfolding undo_answer
  undo-1 h = rw (ne_eqb (length s.memory) 65536 h)

  module _ (size : length s.memory ≡ 65536) where
    pub undo-12 : length s.journal < s.twin.bytes → undo_answer s ≡ Err JournalLength
    unfolding undo_answer
    undo-12 h = rw (eq-eqb (length s.memory) 65536 size, lt-leb s.twin.bytes (length s.journal) h)

    module _ (fits : s.twin.bytes ≤ length s.journal) where
      pub undo-11 : s.twin.records ≡ 0 → undo_answer s ≡ Err NoRecord
      unfolding undo_answer
      undo-11 h = rw (eq-eqb (length s.memory) 65536 size, le-leb s.twin.bytes (length s.journal) fits, le-ltb 0 s.twin.records (omega arith))

      module _ (held : 0 < s.twin.records) where
        pub undo-record : sound_at s.journal s.twin.bytes ≡ false → undo_answer s ≡ Err JournalLength
        unfolding undo_answer
        undo-record h = rw (eq-eqb (length s.memory) 65536 size, le-leb s.twin.bytes (length s.journal) fits, lt-ltb 0 s.twin.records held, h)

        pub undo-0 : sound_at s.journal s.twin.bytes ≡ true → undo_answer s ≡ (Ok tt)
        unfolding undo_answer
        undo-0 h = rw (eq-eqb (length s.memory) 65536 size, le-leb s.twin.bytes (length s.journal) fits, lt-ltb 0 s.twin.records held, h)

        pub undo-done : (r after : List ℕ) (m : Machine) (d : Writes) → Newest s.journal s.twin.bytes r → m ≡ machine_of r
            → after ≡ put_back s.memory (read_entries (count_of r) (drop entries_at r)) → d ≡ writes_of []
            → Leaves (record { devices = d; twin = record { machine = m; records = s.twin.records - 1; bytes = s.twin.bytes - length r }; reads = 0; writes = 0; answer = (Ok tt) }) after s.journal (undone s)
        unfolding undone restored entries_of
        undo-done r after m d n p q w =
            rw (undo-0 n.sound, ← n.is, p, q, w)
            (record { result = refl; memory-is = refl; journal-is = refl })

-- ---- the plan of a step, once memory has its length

pub running-plan : (mem : List ℕ) (m : Machine) (t : Settings) → length mem ≡ 65536 → m.wait ≡ Running → step_plan mem m t ≡ fenced t m (planned mem m t (decoded_to mem m.regs))
unfolding step_plan reached
running-plan mem m t h e = rw (eq-eqb (length mem) 65536 h) (ap (λ (w : Wait). fenced t m (planned mem m t (unless_waiting w mem m.regs))) e)

pub waiting-plan : (mem : List ℕ) (m : Machine) (t : Settings) → length mem ≡ 65536 → (m.wait ≡ Cwai) ⊎ (m.wait ≡ Sync) → (step_plan mem m t).answer ≡ Err Waiting
unfolding step_plan reached
waiting-plan mem m t h (inl e) = rw (eq-eqb (length mem) 65536 h) (ap (λ (w : Wait). (fenced t m (planned mem m t (unless_waiting w mem m.regs))).answer) e ∙ ap (λ (p : Plan). p.answer) (refused-free t m Waiting))
waiting-plan mem m t h (inr e) = rw (eq-eqb (length mem) 65536 h) (ap (λ (w : Wait). (fenced t m (planned mem m t (unless_waiting w mem m.regs))).answer) e ∙ ap (λ (p : Plan). p.answer) (refused-free t m Waiting))
