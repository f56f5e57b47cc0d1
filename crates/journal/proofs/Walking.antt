-- Drop: the walk as a loop goes, test by test and without a sum that could wrap, the bytes moved, and what drop answers.
-- Assumes nothing.
use Rattle.std.specs.Prelude.{Err, None, Ok, Some}
use Rattle.std.specs.List.{copy_within}
use Prim.Native.Nat.{ℕ, zero, suc, ◌+◌, ◌-◌, ◌*◌, ◌≤◌, ◌<◌}
use mathlib.Core.Path.{◌≡◌, refl, sym, ap, ◌∙◌}
use mathlib.Core.Bool.{Bool, true, false, cond, ◌&&◌}
use mathlib.Core.List.{List, [], ◌∷◌, ◌++◌}
use native.Mathlib.Nat.{zero-add}
use native.Mathlib.Numerals.{add-one}
use native.Mathlib.Omega.{arith}
use lib.Dec.{leb, ltb}
use lib.ListN.{length, get_or, take, drop, set, length-drop}
use lib.Seq.{sets, sets-eq, take-suc, length-take-le, get_or-drop, get_or-append-add, set_at, drop-cons, append_snoc}
use borrow.Author.Tests.{le-leb, lt-leb, lt-ltb, le-ltb, leb-true}
use Rattle.answers.specs.declared.Refusal.{Refusal}
use Rattle.answers.specs.declared.Refusal.TheVariants.{JournalLength, TooFewRecords}
use Rattle.memory.specs.Writes.{writes_of}
use Rattle.memory.specs.declared.writes.Writes.{Writes}
use Rattle.journal.specs.Record.{count_at, entries_at, most_stored, record_length}
use Rattle.journal.specs.Recorded.{State, turned_down, Leaves}
use Rattle.journal.specs.Drops.{reach, passable, walks, walk_of, drop_answer, moved, shortened, dropped}
use Rattle.journal.specs.declared.Outcome.{Outcome}
use Rattle.journal.proofs.Answers.{and-true, and-false, refused-leaves}

module _ (j : List ℕ) (bytes : ℕ) where
  -- ---- one record, by differences

  pub no-count : (at : ℕ) → at ≤ bytes → bytes - at < entries_at → passable j bytes at ≡ false
  unfolding passable
  no-count at h l = rw (le-ltb (at + count_at) bytes (omega arith))

  pub thirteen : (at : ℕ) → most_stored < get_or j (at + count_at) 0 → passable j bytes at ≡ false
  unfolding passable
  thirteen at h = rw (lt-leb (get_or j (at + count_at) 0) most_stored h) (and-false (ltb (at + count_at) bytes))

  pub too_long : (at : ℕ) → at ≤ bytes → bytes - at < record_length (get_or j (at + count_at) 0) → passable j bytes at ≡ false
  unfolding passable
  too_long at h l =
      rw (lt-leb (at + record_length (get_or j (at + count_at) 0)) bytes (omega arith), and-false (leb (get_or j (at + count_at) 0) most_stored)) (and-false (ltb (at + count_at) bytes))

  pub one_more : (at : ℕ) → at ≤ bytes → entries_at ≤ bytes - at → get_or j (at + count_at) 0 ≤ most_stored → record_length (get_or j (at + count_at) 0) ≤ bytes - at → passable j bytes at ≡ true
  unfolding passable
  one_more at h a b l =
      rw (
        lt-ltb (at + count_at) bytes (omega arith),
        le-leb (get_or j (at + count_at) 0) most_stored b,
        le-leb (at + record_length (get_or j (at + count_at) 0)) bytes (omega arith),
      )

  -- ---- the loop

  stays-broken : (i k : ℕ) → walks i j bytes ≡ false → walks (k + i) j bytes ≡ false
  unfolding walks
  stays-broken i zero e = rw zero-add e
  stays-broken i (suc k) e =
      let n : suc k + i ≡ suc (k + i) = omega arith in
      rw (n, stays-broken i k e)

  pub broken : (i at k : ℕ) → i < k → at ≡ reach i j → passable j bytes at ≡ false → None ≡ walk_of j bytes k
  unfolding walk_of walks
  broken i at k h e w =
      let f : walks (suc i) j bytes ≡ false = rw (← e, w) (and-false (walks i j bytes)) in
      let n : k ≡ (k - suc i) + suc i = omega arith in
      let g : walks k j bytes ≡ false = rw n (stays-broken (suc i) (k - suc i) f) in
      rw g

  pub reach-more : (i at : ℕ) → at ≡ reach i j → at + record_length (get_or j (at + count_at) 0) ≡ reach (i + 1) j
  unfolding reach
  reach-more i at e = rw (add-one i, e)

  pub walks_more : (i at : ℕ) → at ≡ reach i j → walks i j bytes ≡ true → passable j bytes at ≡ true → walks (i + 1) j bytes ≡ true
  unfolding walks
  walks_more i at e w m = rw (add-one i, w, ← e, m)

  pub walked : (k at : ℕ) → at ≡ reach k j → walks k j bytes ≡ true → Some at ≡ walk_of j bytes k
  unfolding walk_of
  walked k at e w = rw (w, e)

-- ---- where it ended

ended_at : (b : Bool) (x at : ℕ) → Some at ≡ cond b (Some x) None → (b ≡ true) × (at ≡ x)
ended_at true x at e = (refl, cc)
ended_at false x at e = let z : ◌≡◌ {A = ℕ} 0 1 = cc in absurd (omega arith)

broke-off : (b : Bool) (x : ℕ) → None ≡ cond b (Some x) None → b ≡ false
broke-off true x e = let z : ◌≡◌ {A = ℕ} 0 1 = cc in absurd (omega arith)
broke-off false x e = refl

-- a walk that is not broken ends within the bytes used
walks-within : (k : ℕ) (j : List ℕ) (bytes : ℕ) → walks k j bytes ≡ true → reach k j ≤ bytes
unfolding walks reach passable
walks-within zero j bytes e = omega arith
walks-within (suc k) j bytes e =
    let at : ℕ = reach k j in
    let e1 = and-true (walks k j bytes) _ e in
    let e2 = and-true (ltb (at + count_at) bytes) _ e1.1 in
    let e3 = and-true (leb (get_or j (at + count_at) 0) most_stored) _ e2.1 in
    leb-true (at + record_length (get_or j (at + count_at) 0)) bytes e3.1

module _ (j : List ℕ) (bytes k at : ℕ) (e : Some at ≡ walk_of j bytes k) where
  pub walked-true : walks k j bytes ≡ true
  unfolding walk_of
  walked-true = (ended_at (walks k j bytes) (reach k j) at e).0

  pub walked-reach : at ≡ reach k j
  unfolding walk_of
  walked-reach = (ended_at (walks k j bytes) (reach k j) at e).1

  pub walked-within : at ≤ bytes
  walked-within = rw walked-reach (walks-within k j bytes walked-true)

-- ---- the bytes moved

pub moved-within : (j : List ℕ) (at n : ℕ) → at + n ≤ length j → copy_within j at (at + n) 0 ≡ sets j 0 (take n (drop at j))
moved-within j at n h =
    let d = length-drop at j in
    let e : at + n - at ≡ n = omega arith in
    let l : length (take n (drop at j)) ≡ n = length-take-le n (drop at j) (omega arith) in
    rw (e, zero-add) (sym (rw (l, zero-add) at (sets-eq (take n (drop at j)) j 0 (omega arith))))

-- ---- drop

module _ (k : ℕ) (s : State) where
  pub drop-refused : (x : Refusal) (r : Outcome) → drop_answer k s ≡ Err x
      → r ≡ turned_down s.twin x → Leaves r s.memory s.journal (dropped k s)
  unfolding dropped
  drop-refused x r e p = refused-leaves (drop_answer k s) s (shortened k s) [] 0 0 x r e p

  pub drop-12 : length s.journal < s.twin.bytes → drop_answer k s ≡ Err JournalLength
  unfolding drop_answer
  drop-12 h = rw (lt-leb s.twin.bytes (length s.journal) h)

  module _ (fits : s.twin.bytes ≤ length s.journal) where
    pub drop-26 : s.twin.records < k → drop_answer k s ≡ Err TooFewRecords
    unfolding drop_answer
    drop-26 h = rw (le-leb s.twin.bytes (length s.journal) fits, lt-leb k s.twin.records h)

    module _ (held : k ≤ s.twin.records) where
      pub drop-broken : None ≡ walk_of s.journal s.twin.bytes k → drop_answer k s ≡ Err JournalLength
      unfolding drop_answer walk_of
      drop-broken e =
          rw (le-leb s.twin.bytes (length s.journal) fits, le-leb k s.twin.records held, broke-off (walks k s.journal s.twin.bytes) (reach k s.journal) e)

      pub drop-done : (at : ℕ) (after : List ℕ) (d : Writes) → Some at ≡ walk_of s.journal s.twin.bytes k
          → after ≡ sets s.journal 0 (take (s.twin.bytes - at) (drop at s.journal)) → d ≡ writes_of []
          → Leaves (record { devices = d; twin = record { machine = s.twin.machine; records = s.twin.records - k; bytes = s.twin.bytes - at }; reads = 0; writes = 0; answer = (Ok tt) }) s.memory after (dropped k s)
      unfolding dropped drop_answer shortened moved
      drop-done at after d e m w =
          rw (
            le-leb s.twin.bytes (length s.journal) fits,
            le-leb k s.twin.records held,
            walked-true s.journal s.twin.bytes k at e,
            ← (walked-reach s.journal s.twin.bytes k at e),
            m,
            w,
          )
          (record { result = refl; memory-is = refl; journal-is = refl })
