-- Demand 3, of the definitions.
-- Assumes nothing.
use Rattle.std.specs.Prelude.{Err, Ok, Result, ⊤}
use Prim.Native.Nat.{ℕ, zero, suc, ◌+◌, ◌-◌, ◌*◌, ◌^◌, ◌≤◌, ◌<◌}
use mathlib.Core.Path.{◌≡◌, refl, sym, ap, ◌∙◌}
use mathlib.Core.Bool.{Bool, true, false, cond, ◌&&◌}
use mathlib.Core.Logic.{◌≢◌, ◌↔◌}
use mathlib.Core.List.{List, [], ◌∷◌, ◌++◌, append_assoc}
use native.Mathlib.Decide.{dec_lt}
use native.Mathlib.Omega.{arith}
use lib.Dec.{leb, ltb, eqb}
use lib.ListN.{length, take, drop, set, length-set, length-append, length-drop, take-append-drop}
use lib.Seq.{sets, sets-eq, length-sets, take-append_seam, drop-append_seam, take_at, drop_at, length-take-le}
use borrow.Author.Tests.{eq-eqb, le-leb, lt-leb, lt-ltb, le-ltb, leb-true}
use Rattle.answers.specs.declared.Refusal.{Refusal}
use Rattle.answers.specs.declared.Refusal.TheVariants.{MemoryLength, NoRecord, JournalLength, TooFewRecords}
use Rattle.memory.specs.Fits.{Bytes}
use Rattle.memory.specs.Writes.{listed, stored, reported}
use Rattle.memory.specs.declared.writes.Write.{Write}
use Rattle.memory.proofs.Fits.{bytes-set, bytes-stored}
use Rattle.memory.proofs.Folds.{length-stored}
use Rattle.machine.specs.Machine.{MachineFits}
use Rattle.machine.specs.Record.{machine_of}
use Rattle.machine.specs.declared.Machine.{Machine}
use Rattle.machine.specs.declared.Settings.{Settings}
use Rattle.calls.specs.Calls.{Call, settings_in, plan_of}
use Rattle.calls.specs.Plans.{PlanFits}
use Rattle.calls.specs.declared.Plan.{Plan}
use Rattle.calls.proofs.Laws.{few-writes, call_fits}
use Rattle.journal.specs.Record.{All, Saved, record_length, most_stored, encode, count_of, entries_of}
use Rattle.journal.specs.Recorded.{State, Ended, ending, need, most_records, Typed, saved_for, record_for, call_answer, recorded, concluded, called, call}
use Rattle.journal.specs.Undos.{newest_at, sound_at, newest_of, viewed, undo_answer, newest_in, put_back, restored, undone}
use Rattle.journal.specs.Drops.{reach, walks, drop_answer, moved, shortened, dropped}
use Rattle.journal.proofs.Answers.{Newest, sound-newest, Taken, call-taken}
use Rattle.journal.proofs.Laying.{saved-few}
use Rattle.journal.proofs.Reading.{machine-back, count-back, entries-back, length-encode}
use Rattle.history.specs.Sequence.{Window, Event, forward, back, forget, host, Legal, Snap, World, push, pop, but, lose, host_writes, next, run, without_records, Restores, BringsBack, Shows, Shortens, Drops, Counts, Held, Appends, Unchanged, Demand3}
use Rattle.history.proofs.Stores.{length-put_back, undone-writes, same-eq, same-host, window-put_back, bytes-put_back, all-saved-fit}
use Rattle.history.proofs.Rows.{flat, flat_append, appended, Whole, reach-flat, walks-flat, moved-is, kept-is, flat-least, flat-most, newest-encode, sound-encode}
use Rattle.history.proofs.Chain.{Leads, Chain, chain_length, chain_same, chain-take, chain-whole, all_drop, Top, top, Kept, kept-room}

not-refused : {x : Refusal} → ◌≡◌ {A = Result ⊤ Refusal} (Err x) (Ok tt) → ⊥
not-refused e = let z : ◌≡◌ {A = ℕ} 0 1 = cc in omega arith

-- ---- undo, where the newest record leads back to the snapshot t

module _ (s : State) (t : Snap) (ss : List Snap) (v : Kept s (t ∷ ss)) where
  up : Top v.rows s.memory t ss
  up = top v.rows s.memory t ss v.chain

  lead : Leads up.row s.memory t
  lead = up.lead

  row : List ℕ
  row = encode t.machine lead.saved

  under : List ℕ
  under = flat up.below

  lies-last : s.journal ≡ under ++ (row ++ v.tail)
  unfolding lead row under
  lies-last = v.lies ∙ ap (λ (l : List ℕ). l ++ v.tail) up.is ∙ append_assoc under row v.tail

  used-last : s.twin.bytes ≡ length under + record_length (length lead.saved)
  unfolding lead row under
  used-last = v.used ∙ ap length up.is ∙ length-append under row ∙ ap (λ (n : ℕ). length under + n) (length-encode t.machine lead.saved)

  newest-row : newest_in s ≡ row
  unfolding row
  newest-row = newest-encode s.journal under v.tail s.twin.bytes t.machine lead.saved lies-last used-last

  sound-row : sound_at s.journal s.twin.bytes ≡ true
  unfolding row
  sound-row = sound-encode s.journal under v.tail s.twin.bytes t.machine lead.saved lies-last used-last lead.few

  machine-is : machine_of (newest_in s) ≡ t.machine
  unfolding row
  machine-is = rw newest-row (machine-back t.machine lead.saved lead.sound)

  entries-is : entries_of (newest_in s) ≡ lead.saved
  unfolding row
  entries-is = rw newest-row (entries-back t.machine lead.saved lead.fit)

  length-is : length (newest_in s) ≡ record_length (length lead.saved)
  unfolding row
  length-is = rw newest-row (length-encode t.machine lead.saved)

  undo-taken : undo_answer s ≡ (Ok tt)
  unfolding undo_answer
  undo-taken =
      rw (
        eq-eqb (length s.memory) 65536 (v.size (omega arith)),
        le-leb s.twin.bytes (length s.journal) (kept-room s (t ∷ ss) v),
        lt-ltb 0 s.twin.records (omega (arith, v.count)),
        sound-row,
      )

  restored-typed : Typed s → Typed (restored s)
  unfolding restored
  restored-typed w = record { machine = rw machine-is lead.sound; memory = rw entries-is (bytes-put_back s.memory lead.saved w.memory lead.fit) }

  restored-kept : Kept (restored s) ss
  unfolding restored under
  restored-kept = record {
    size = λ h. length-put_back s.memory (entries_of (newest_in s)) ∙ v.size (omega arith);
    count = omega (arith, v.count);
    rows = up.below;
    tail = row ++ v.tail;
    lies = lies-last;
    used = omega (arith, used-last, length-is);
    chain = rw entries-is (chain_same up.below t.memory (put_back s.memory lead.saved) ss lead.leads up.chain);
  }

  view-is : viewed s ≡ newest_in s
  unfolding newest_of
  view-is =
      rw (
        le-leb s.twin.bytes (length s.journal) (kept-room s (t ∷ ss) v),
        lt-ltb 0 s.twin.records (omega (arith, v.count)),
        sound-row,
      )

  count-is : count_of (newest_in s) ≡ length lead.saved
  unfolding row
  count-is = rw newest-row (count-back t.machine lead.saved)

-- ---- undo, where nothing is left

undo-empty : (s : State) → Kept s [] → undo_answer s ≡ need (eqb (length s.memory) 65536) MemoryLength (Err NoRecord)
unfolding undo_answer
undo-empty s v = rw (le-leb s.twin.bytes (length s.journal) (kept-room s [] v), le-ltb 0 s.twin.records (omega (arith, v.count)))

one-or-eleven : (b : Bool) → need b MemoryLength (Err NoRecord) ≢ (Ok tt)
one-or-eleven true e = not-refused e
one-or-eleven false e = not-refused e

undo-barred : (s : State) → Kept s [] → undo_answer s ≢ (Ok tt)
undo-barred s v e = one-or-eleven (eqb (length s.memory) 65536) (sym (undo-empty s v) ∙ e)

view-empty : (s : State) → Kept s [] → viewed s ≡ []
unfolding newest_of
view-empty s v = rw (le-leb s.twin.bytes (length s.journal) (kept-room s [] v), le-ltb 0 s.twin.records (omega (arith, v.count)))

-- ---- drop, of no more than are held

module _ (s : State) (past : List Snap) (v : Kept s past) (k : ℕ) (h : k ≤ length past) where
  left : ℕ
  left = length past - k

  old : List ℕ
  old = flat (drop left v.rows)

  new : List ℕ
  new = flat (take left v.rows)

  old-count : k ≡ length (drop left v.rows)
  unfolding left
  old-count = omega (arith, length-drop left v.rows, chain_length v.rows s.memory past v.chain)

  parts : flat v.rows ≡ old ++ new
  unfolding old new
  parts = ap flat (sym (take-append-drop left v.rows)) ∙ flat_append (take left v.rows) (drop left v.rows)

  lies-split : s.journal ≡ old ++ (new ++ v.tail)
  lies-split = v.lies ∙ ap (λ (l : List ℕ). l ++ v.tail) parts ∙ append_assoc old new v.tail

  used-split : s.twin.bytes ≡ length old + length new
  used-split = v.used ∙ ap length parts ∙ length-append old new

  all_whole : All Whole (drop left v.rows)
  all_whole = all_drop left v.rows (chain-whole v.rows s.memory past v.chain)

  reach-is : reach k s.journal ≡ length old
  unfolding old
  reach-is = ap (λ (i : ℕ). reach i s.journal) old-count ∙ ap (reach (length (drop left v.rows))) lies-split ∙ reach-flat (drop left v.rows) (new ++ v.tail) all_whole

  walks-is : walks k s.journal s.twin.bytes ≡ true
  unfolding old
  walks-is =
      ap (λ (i : ℕ). walks i s.journal s.twin.bytes) old-count
      ∙ ap (λ (j : List ℕ). walks (length (drop left v.rows)) j s.twin.bytes) lies-split
      ∙ walks-flat (drop left v.rows) (new ++ v.tail) s.twin.bytes all_whole (omega (arith, used-split))

  drop-taken : drop_answer k s ≡ (Ok tt)
  unfolding drop_answer
  drop-taken =
      rw (
        le-leb s.twin.bytes (length s.journal) (kept-room s past v),
        le-leb k s.twin.records (omega (arith, v.count)),
        walks-is,
      )

  behind : List ℕ
  behind = drop (length new) s.journal

  moved-rest : moved (reach k s.journal) s.twin.bytes s.journal ≡ new ++ behind
  unfolding behind
  moved-rest = rw reach-is (moved-is s.journal old new v.tail s.twin.bytes lies-split used-split)

  used-rest : s.twin.bytes - reach k s.journal ≡ length new
  used-rest = omega (arith, reach-is, used-split)

  left-count : length (take left past) ≡ left
  unfolding left
  left-count = length-take-le left past (omega arith)

  shortened-kept : Kept (shortened k s) (but k past)
  unfolding shortened left new
  shortened-kept = record {
    size = λ l. v.size (omega (arith, left-count));
    count = omega (arith, v.count, left-count);
    rows = take left v.rows;
    tail = behind;
    lies = moved-rest;
    used = used-rest;
    chain = chain-take left v.rows s.memory past v.chain;
  }

  shortens : Shortens k s (dropped k s)
  unfolding dropped shortened behind
  shortens = rw drop-taken (record {
    machine = refl;
    memory = refl;
    records = omega (arith, v.count);
    less = omega arith;
    kept = rw (moved-rest, used-rest) (take-append_seam new behind ∙ sym (kept-is s.journal old new v.tail s.twin.bytes lies-split used-split));
    others = rw (moved-rest, used-rest) (drop-append_seam new behind);
  })

drop-barred : (s : State) (past : List Snap) → Kept s past → (k : ℕ) → length past < k → drop_answer k s ≡ Err TooFewRecords
unfolding drop_answer
drop-barred s past v k h = rw (le-leb s.twin.bytes (length s.journal) (kept-room s past v), lt-leb k s.twin.records (omega (arith, v.count)))

-- ---- a refused call changes nothing

stays : (a : Result ⊤ Refusal) (s new : State) (ds : List Write) (n k : ℕ) → a ≢ (Ok tt) → Unchanged s (ending a s new ds n k)
stays (Ok u) s new ds n k h = absurd (h refl)
stays (Err x) s new ds n k h = record { state = refl; devices = refl; reads = refl; writes = refl }

answered : (a : Result ⊤ Refusal) (s new : State) (ds : List Write) (n k : ℕ) → (ending a s new ds n k).answer ≡ a
answered (Ok u) s new ds n k = refl
answered (Err x) s new ds n k = refl

undo-answer : (s : State) → (undone s).answer ≡ undo_answer s
unfolding undone
undo-answer s = answered (undo_answer s) s (restored s) [] 0 0

drop-answer : (k : ℕ) (s : State) → (dropped k s).answer ≡ drop_answer k s
unfolding dropped
drop-answer k s = answered (drop_answer k s) s (shortened k s) [] 0 0

-- ---- the invariant goes on

pop_kept : (a : Result ⊤ Refusal) (s new : State) (ds : List Write) (past : List Snap) → a ≢ (Ok tt) → Kept s past
    → Kept (ending a s new ds 0 0).state (pop (ending a s new ds 0 0).answer past)
pop_kept (Ok u) s new ds past h v = absurd (h refl)
pop_kept (Err x) s new ds past h v = v

pub undo-kept : (s : State) (past : List Snap) → Kept s past → Kept (undone s).state (pop (undone s).answer past)
unfolding undone
undo-kept s [] v = pop_kept (undo_answer s) s (restored s) [] [] (undo-barred s v) v
undo-kept s (t ∷ ss) v = rw (undo-taken s t ss v) (restored-kept s t ss v)

pub drop-kept : (k : ℕ) (s : State) (past : List Snap) → Kept s past → Kept (dropped k s).state (lose k (dropped k s).answer past)
unfolding dropped
drop-kept k s past v = go (dec_lt (length past) k)
  where
    go : Dec (length past < k) → Kept (ending (drop_answer k s) s (shortened k s) [] 0 0).state (lose k (ending (drop_answer k s) s (shortened k s) [] 0 0).answer past)
    go (yes q) = rw (drop-barred s past v k q) v
    go (no q) = let h : k ≤ length past = omega arith in rw (drop-taken s past v k h) (shortened-kept s past v k h)

pub host-kept : (s : State) (past : List Snap) (a b : ℕ) → Window a → Kept s past → Kept (host_writes a b s) past
host-kept s past a b w v = record {
  size = λ l. length-set s.memory a b ∙ v.size l;
  count = v.count;
  rows = v.rows;
  tail = v.tail;
  lies = v.lies;
  used = v.used;
  chain = chain_same v.rows s.memory (set s.memory a b) past (same-host s.memory a b w) v.chain;
}

-- ---- widths stay

ending-typed : (a : Result ⊤ Refusal) (s new : State) (ds : List Write) (n k : ℕ) → (a ≡ (Ok tt) → Typed new) → Typed s → Typed (ending a s new ds n k).state
ending-typed (Ok u) s new ds n k h w = h refl
ending-typed (Err x) s new ds n k h w = w

undo-typed : (s : State) (past : List Snap) → Kept s past → Typed s → Typed (undone s).state
unfolding undone
undo-typed s [] v w = ending-typed (undo_answer s) s (restored s) [] 0 0 (λ e. absurd (undo-barred s v e)) w
undo-typed s (t ∷ ss) v w = ending-typed (undo_answer s) s (restored s) [] 0 0 (λ e. restored-typed s t ss v w) w

drop-typed : (k : ℕ) (s : State) → Typed s → Typed (dropped k s).state
unfolding dropped shortened
drop-typed k s w = ending-typed (drop_answer k s) s (shortened k s) [] 0 0 (λ e. record { machine = w.machine; memory = w.memory }) w

-- ---- what undo, view and drop do

brings : (s : State) (past : List Snap) → Kept s past → BringsBack s past (undone s)
unfolding undone restored
brings s [] v = (answered (undo_answer s) s (restored s) [] 0 0 ∙ undo-empty s v, (stays (undo_answer s) s (restored s) [] 0 0 (undo-barred s v)).state)
brings s (t ∷ ts) v = rw (undo-taken s t ts v) (record {
  accepted = refl;
  machine = machine-is s t ts v;
  memory = rw (entries-is s t ts v) (lead s t ts v).leads;
  window = rw (entries-is s t ts v) (window-put_back s.memory (lead s t ts v).saved (lead s t ts v).fit);
  journal = refl;
  records = omega (arith, v.count);
  bytes = rw (view-is s t ts v) (omega (arith, used-last s t ts v, length-is s t ts v));
})

exact : (s : State) (past : List Snap) → Kept s past → ((undone s).answer ≡ (Ok tt)) ↔ (past ≢ [])
exact s [] v = ((λ e. absurd (undo-barred s v (sym (undo-answer s) ∙ e))), (λ h. absurd (h refl)))
exact s (t ∷ ts) v = ((λ z e. let n : ◌≡◌ {A = ℕ} 0 1 = cc in omega arith), (λ h. undo-answer s ∙ undo-taken s t ts v))

shown : (s : State) (past : List Snap) → Kept s past → Shows past (viewed s)
shown s [] v = view-empty s v
shown s (t ∷ ts) v =
    rw (view-is s t ts v, count-is s t ts v) (machine-is s t ts v, (length-is s t ts v, (lead s t ts v).few))

drops : (s : State) (past : List Snap) → Kept s past → (k : ℕ) → (dropped k s).answer ≡ need (leb k (length past)) TooFewRecords (Ok tt)
drops s past v k = drop-answer k s ∙ go (dec_lt (length past) k)
  where
    go : Dec (length past < k) → drop_answer k s ≡ need (leb k (length past)) TooFewRecords (Ok tt)
    go (yes q) = rw (lt-leb k (length past) q) (drop-barred s past v k q)
    go (no q) = let h : k ≤ length past = omega arith in rw (le-leb k (length past) h) (drop-taken s past v k h)

counts : (s : State) (past : List Snap) → Kept s past → Counts s past
counts s past v =
    let n = chain_length v.rows s.memory past v.chain in
    let w = chain-whole v.rows s.memory past v.chain in
    record {
      records = v.count;
      least = omega (arith, v.count, v.used, flat-least v.rows w);
      most = omega (arith, v.count, v.used, flat-most v.rows w);
      room = kept-room s past v;
    }

pub holds : (s : State) (past : List Snap) → Kept s past → Held (record { now = s; past = past })
holds s past v = record {
  exactly = exact s past v;
  brings = brings s past v;
  shows = shown s past v;
  drops = λ k. record { answer = drops s past v k; shortens = shortens s past v k };
  counts = counts s past v;
}

-- ---- a forward call

module _ (set : Settings) (s : State) (f : Plan) (few : length (listed f.writes) ≤ most_stored) (fits : PlanFits f) (w : Typed s) where
  ws : List Write
  ws = listed f.writes

  saved : List Saved
  saved = saved_for set.ram_top ws s.memory

  entry : List ℕ
  entry = encode s.twin.machine saved

  recorded-typed : Typed (recorded set f s)
  unfolding recorded
  recorded-typed = record { machine = fits.machine; memory = bytes-stored set.ram_top (listed f.writes) s.memory w.memory fits.writes }

  module _ (past : List Snap) (v : Kept s past) (t : Taken set f s) where
    room : s.twin.bytes + length entry ≤ length (flat v.rows ++ v.tail)
    unfolding record_for entry saved ws
    room = rw (← v.lies) t.space

    own : Leads entry (stored set.ram_top ws s.memory) (record { machine = s.twin.machine; memory = s.memory })
    unfolding entry saved ws
    own = record {
      saved = saved;
      is = refl;
      few = omega (arith, saved-few set.ram_top ws s.memory, few);
      fit = all-saved-fit set.ram_top ws s.memory w.memory fits.writes;
      sound = w.machine;
      leads = same-eq (put_back (stored set.ram_top ws s.memory) saved) s.memory (undone-writes set.ram_top s.memory ws);
    }

    recorded-kept : Kept (recorded set f s) (push (Ok tt) s past)
    unfolding recorded record_for flat entry saved ws
    recorded-kept = record {
      size = λ l. length-stored set.ram_top ws s.memory ∙ t.before.size;
      count = omega (arith, v.count);
      rows = entry ∷ v.rows;
      tail = drop (length entry) v.tail;
      lies = ap (λ (j : List ℕ). sets j s.twin.bytes entry) v.lies ∙ appended (flat v.rows) v.tail entry s.twin.bytes v.used room;
      used = rw length-append (omega (arith, v.used));
      chain = (own, v.chain);
    }

  call_kept : (a : Result ⊤ Refusal) (past : List Snap) → (a ≡ (Ok tt) → Taken set f s) → Kept s past → Kept (concluded a set f s).state (push (concluded a set f s).answer s past)
  call_kept (Ok u) past t v = recorded-kept past v (t refl)
  call_kept (Err x) past t v = v

-- what each call's plan keeps
module _ (c : Call) (s : State) (w : Typed s) where
  abbrev plan : Plan
  plan = plan_of c s.memory s.twin.machine

  fit : PlanFits plan
  fit = call_fits c s.memory s.twin.machine w.machine w.memory

  pub forward-kept : (past : List Snap) → Kept s past → Kept (call c s).state (push (call c s).answer s past)
  unfolding called
  forward-kept past v =
      call_kept (settings_in c) s plan (few-writes c s.memory s.twin.machine) fit w (call_answer (settings_in c) plan s) past (call-taken (settings_in c) plan s) v

  pub forward-typed : Typed (call c s).state
  unfolding called
  forward-typed =
      ending-typed (call_answer (settings_in c) plan s) s (recorded (settings_in c) plan s) (reported (settings_in c).ram_top (listed plan.writes)) plan.reads (length (listed plan.writes))
      (λ e. recorded-typed (settings_in c) s plan (few-writes c s.memory s.twin.machine) fit w) w

-- ---- an accepted call's record, at any state

module _ (set : Settings) (s : State) (f : Plan) (few : length (listed f.writes) ≤ most_stored) (k : Taken set f s) where
  es : List Saved
  es = saved_for set.ram_top (listed f.writes) s.memory

  r : List ℕ
  r = encode s.twin.machine es

  front : List ℕ
  front = take s.twin.bytes s.journal

  past : List ℕ
  past = drop (s.twin.bytes + length r) s.journal

  fits : s.twin.bytes + length r ≤ length s.journal
  unfolding record_for r es
  fits = k.space

  seam : length front ≡ s.twin.bytes
  unfolding front
  seam = length-take-le s.twin.bytes s.journal k.before.within

  in_parts : sets s.journal s.twin.bytes r ≡ front ++ (r ++ past)
  unfolding front past
  in_parts = sets-eq r s.journal s.twin.bytes fits ∙ append_assoc front r past

  own-length : s.twin.bytes + length r ≡ length front + record_length (length es)
  unfolding r
  own-length = omega (arith, seam, length-encode s.twin.machine es)

  few_saved : length es ≤ most_stored
  unfolding es
  few_saved = omega (arith, saved-few set.ram_top (listed f.writes) s.memory, few)

  own-newest : newest_at (sets s.journal s.twin.bytes r) (s.twin.bytes + length r) ≡ r
  unfolding r
  own-newest = newest-encode (sets s.journal s.twin.bytes r) front past (s.twin.bytes + length r) s.twin.machine es in_parts own-length

  own-sound : sound_at (sets s.journal s.twin.bytes r) (s.twin.bytes + length r) ≡ true
  unfolding r
  own-sound = sound-encode (sets s.journal s.twin.bytes r) front past (s.twin.bytes + length r) s.twin.machine es in_parts own-length few_saved

  earlier-stay : take s.twin.bytes (recorded set f s).journal ≡ take s.twin.bytes s.journal
  unfolding recorded record_for r es front
  earlier-stay = rw in_parts (take_at front (r ++ past) s.twin.bytes seam)

  later-stay : drop (recorded set f s).twin.bytes (recorded set f s).journal ≡ drop (recorded set f s).twin.bytes s.journal
  unfolding recorded record_for r es past
  later-stay =
      ap (drop (s.twin.bytes + length r)) (in_parts ∙ sym (append_assoc front r past))
      ∙ drop_at (front ++ r) past (s.twin.bytes + length r) (length-append front r ∙ ap (λ (n : ℕ). n + length r) seam)

  view-own : viewed (recorded set f s) ≡ record_for set f s
  unfolding recorded record_for newest_of r es
  view-own =
      rw (
        le-leb (s.twin.bytes + length r) (length (sets s.journal s.twin.bytes r)) (rw length-sets fits),
        lt-ltb 0 (s.twin.records + 1) (omega arith),
        own-sound,
      )
      own-newest

appends : (c : Call) (s : State) → (call c s).answer ≡ (Ok tt) → Appends c s (call c s)
unfolding called
appends c s e =
    let f = plan_of c s.memory s.twin.machine in
    let t = settings_in c in
    let d : call_answer t f s ≡ Ok tt = sym (answered (call_answer t f s) s (recorded t f s) (reported t.ram_top (listed f.writes)) f.reads (length (listed f.writes))) ∙ e in
    let few = few-writes c s.memory s.twin.machine in
    let k = call-taken t f s d in
    rw d (record { earlier = earlier-stay t s f few k; newest = view-own t s f few k; later = later-stay t s f few k })

-- ---- the view, at any state

no-empty : (r : List ℕ) → record_length 0 ≤ length r → r ≢ []
no-empty r h e = let z : length r ≡ 0 = ap length e in omega arith

view-by : (a b c : Bool) (r : List ℕ) (s new : State) → (a ≡ true → c ≡ true → r ≢ [])
    → (cond (a && (b && c)) r [] ≡ []) ↔ ((ending (need a JournalLength (need b NoRecord (need c JournalLength (Ok tt)))) s new [] 0 0).answer ≢ (Ok tt))
view-by true true true r s new h = ((λ e. absurd (h refl refl e)), (λ n. absurd (n refl)))
view-by true true false r s new h = ((λ e. not-refused), (λ n. refl))
view-by true false c r s new h = ((λ e. not-refused), (λ n. refl))
view-by false b c r s new h = ((λ e. not-refused), (λ n. refl))

view-undo : (s : State) → length s.memory ≡ 65536 → (viewed s ≡ []) ↔ ((undone s).answer ≢ (Ok tt))
unfolding newest_of undone undo_answer
view-undo s size =
    rw (eq-eqb (length s.memory) 65536 size)
    (view-by (leb s.twin.bytes (length s.journal)) (ltb 0 s.twin.records) (sound_at s.journal s.twin.bytes) (newest_in s) s (restored s)
    (λ a c.
    let n = sound-newest s.journal s.twin.bytes (leb-true s.twin.bytes (length s.journal) a) c in
    no-empty (newest_in s) (omega (arith, n.long))))

-- ---- the journal's length

ending-length : (a : Result ⊤ Refusal) (s new : State) (ds : List Write) (n k : ℕ) → length new.journal ≡ length s.journal → length (ending a s new ds n k).state.journal ≡ length s.journal
ending-length (Ok u) s new ds n k h = h
ending-length (Err x) s new ds n k h = refl

recorded-length : (set : Settings) (f : Plan) (s : State) → length (recorded set f s).journal ≡ length s.journal
unfolding recorded
recorded-length set f s = length-sets s.journal s.twin.bytes (record_for set f s)

restored-length : (s : State) → length (restored s).journal ≡ length s.journal
unfolding restored
restored-length s = refl

shortened-length : (k : ℕ) (s : State) → length (shortened k s).journal ≡ length s.journal
unfolding shortened moved
shortened-length k s = length-sets s.journal 0 (take (s.twin.bytes - reach k s.journal) (drop (reach k s.journal) s.journal))

-- ---- sequences

-- what goes on along a sequence
record Inv (w : World) : Type 0 where
  kept : Kept w.now w.past
  typed : Typed w.now

next-inv : (e : Event) (w : World) → Legal e → Inv w → Inv (next e w)
unfolding next
next-inv (forward c) w l v = record { kept = forward-kept c w.now v.typed w.past v.kept; typed = forward-typed c w.now v.typed }
next-inv back w l v = record { kept = undo-kept w.now w.past v.kept; typed = undo-typed w.now w.past v.kept v.typed }
next-inv (forget k) w l v = record { kept = drop-kept k w.now w.past v.kept; typed = drop-typed k w.now v.typed }
next-inv (host a b) w l v = record {
  kept = host-kept w.now w.past a b l.0 v.kept;
  typed = record { machine = v.typed.machine; memory = bytes-set w.now.memory a b v.typed.memory l.1 };
}

run-inv : (es : List Event) (w : World) → All Legal es → Inv w → Inv (run es w)
unfolding run
run-inv [] w l v = v
run-inv (e ∷ es) w l v = run-inv es (next e w) l.1 (next-inv e w l.0 v)

pub start-kept : (m : Machine) (mem j : List ℕ) → Kept (without_records m mem j).now []
unfolding flat
start-kept m mem j = record { size = λ h. absurd (omega arith); count = refl; rows = []; tail = j; lies = refl; used = refl; chain = tt }

start-inv : (m : Machine) (mem j : List ℕ) → MachineFits m → Bytes mem → Inv (without_records m mem j)
start-inv m mem j f b = record { kept = start-kept m mem j; typed = record { machine = f; memory = b } }

next-length : (e : Event) (w : World) → length (next e w).now.journal ≡ length w.now.journal
unfolding next called undone dropped
next-length (forward c) w =
    let f = plan_of c w.now.memory w.now.twin.machine in
    let t = settings_in c in
    ending-length (call_answer t f w.now) w.now (recorded t f w.now) (reported t.ram_top (listed f.writes)) f.reads (length (listed f.writes)) (recorded-length t f w.now)
next-length back w = ending-length (undo_answer w.now) w.now (restored w.now) [] 0 0 (restored-length w.now)
next-length (forget k) w = ending-length (drop_answer k w.now) w.now (shortened k w.now) [] 0 0 (shortened-length k w.now)
next-length (host a b) w = refl

run_length : (es : List Event) (w : World) → length (run es w).now.journal ≡ length w.now.journal
unfolding run
run_length [] w = refl
run_length (e ∷ es) w = run_length es (next e w) ∙ next-length e w

countable : (s : State) (past : List Snap) (n : ℕ) → Kept s past → length s.journal ≡ n → n < 2 ^ 64 → (length s.journal ≡ n) × (s.twin.records < most_records)
countable s past n v e h = let c = counts s past v in (e, omega (arith, c.room, c.least))

-- ---- refused

pub called-stays : (c : Call) (s : State) → (call c s).answer ≢ (Ok tt) → Unchanged s (call c s)
unfolding called
called-stays c s h =
    let f = plan_of c s.memory s.twin.machine in
    let t = settings_in c in
    let a = call_answer t f s in
    let ds = reported t.ram_top (listed f.writes) in
    stays a s (recorded t f s) ds f.reads (length (listed f.writes)) (λ e. h (answered a s (recorded t f s) ds f.reads (length (listed f.writes)) ∙ e))

pub undone-stays : (s : State) → (undone s).answer ≢ (Ok tt) → Unchanged s (undone s)
unfolding undone
undone-stays s h = stays (undo_answer s) s (restored s) [] 0 0 (λ e. h (undo-answer s ∙ e))

pub dropped-stays : (k : ℕ) (s : State) → (dropped k s).answer ≢ (Ok tt) → Unchanged s (dropped k s)
unfolding dropped
dropped-stays k s h = stays (drop_answer k s) s (shortened k s) [] 0 0 (λ e. h (drop-answer k s ∙ e))

pub demand-3 : Demand3
demand-3 = record {
  held = λ m mem j es f b l.
      let w : World = run es (without_records m mem j) in
      holds w.now w.past (run-inv es (without_records m mem j) l (start-inv m mem j f b)).kept;
  countable = λ m mem j es f b l h.
      let w : World = run es (without_records m mem j) in
      countable w.now w.past (length j) (run-inv es (without_records m mem j) l (start-inv m mem j f b)).kept (run_length es (without_records m mem j)) h;
  refused-call = called-stays;
  refused-undo = undone-stays;
  refused-drop = dropped-stays;
  appends = appends;
  view-undo = view-undo;
}
