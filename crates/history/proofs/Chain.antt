-- The invariant of a sequence: the bytes used are the records one after another, and the records lead back through the past.
-- Assumes nothing.
use Prim.Native.Nat.{ℕ, zero, suc, ◌+◌, ◌-◌, ◌≤◌, ◌<◌}
use mathlib.Core.Path.{◌≡◌, refl, sym, ap, ◌∙◌}
use mathlib.Core.List.{List, [], ◌∷◌, ◌++◌}
use native.Mathlib.Omega.{arith}
use lib.ListN.{length, take, drop, length-append}
use Rattle.machine.specs.Machine.{MachineFits}
use Rattle.journal.specs.Record.{All, Saved, SavedFits, encode, most_stored}
use Rattle.journal.specs.Recorded.{State}
use Rattle.journal.specs.Undos.{put_back}
use Rattle.journal.proofs.Reading.{count-back, length-encode}
use Rattle.history.specs.Sequence.{Same, Snap}
use Rattle.history.proofs.Rows.{flat, Whole}
use Rattle.history.proofs.Stores.{same-trans, same-put_back}

-- record r leads from memory m back to the snapshot s
pub record Leads (r m : List ℕ) (s : Snap) : Type 0 where
  pub saved : List Saved
  pub is : r ≡ encode s.machine saved
  pub few : length saved ≤ most_stored
  pub fit : All SavedFits saved
  pub sound : MachineFits s.machine
  pub leads : Same (put_back m saved) s.memory

abbrev pub Chain : List (List ℕ) → List ℕ → List Snap → Type 0
Chain [] m [] = Unit {0}
Chain [] m (s ∷ ss) = ⊥
Chain (r ∷ rs) m [] = ⊥
Chain (r ∷ rs) m (s ∷ ss) = Leads r m s × Chain rs s.memory ss

pub chain_length : (rs : List (List ℕ)) (m : List ℕ) (past : List Snap) → Chain rs m past → length rs ≡ length past
chain_length [] m [] c = refl
chain_length [] m (s ∷ ss) c = absurd c
chain_length (r ∷ rs) m [] c = absurd c
chain_length (r ∷ rs) m (s ∷ ss) c = ap suc (chain_length rs s.memory ss c.1)

-- the window does not matter to it
pub chain_same : (rs : List (List ℕ)) (m n : List ℕ) (past : List Snap) → Same n m → Chain rs m past → Chain rs n past
chain_same [] m n [] e c = tt
chain_same [] m n (s ∷ ss) e c = absurd c
chain_same (r ∷ rs) m n [] e c = absurd c
chain_same (r ∷ rs) m n (s ∷ ss) e c = (
  record {
    saved = c.0.saved;
    is = c.0.is;
    few = c.0.few;
    fit = c.0.fit;
    sound = c.0.sound;
    leads = same-trans (same-put_back n m c.0.saved e) c.0.leads;
  },
  c.1,
)

-- the newest n of a chain are one
pub chain-take : (n : ℕ) (rs : List (List ℕ)) (m : List ℕ) (past : List Snap) → Chain rs m past → Chain (take n rs) m (take n past)
chain-take zero rs m past c = tt
chain-take (suc n) [] m [] c = tt
chain-take (suc n) [] m (s ∷ ss) c = absurd c
chain-take (suc n) (r ∷ rs) m [] c = absurd c
chain-take (suc n) (r ∷ rs) m (s ∷ ss) c = (c.0, chain-take n rs s.memory ss c.1)

-- each of its records is one that the walk takes
leads-whole : (r m : List ℕ) (s : Snap) → Leads r m s → Whole r
leads-whole r m s l = rw l.is (record {
  few = rw (count-back s.machine l.saved) l.few;
  long = rw (count-back s.machine l.saved) (length-encode s.machine l.saved);
})

pub chain-whole : (rs : List (List ℕ)) (m : List ℕ) (past : List Snap) → Chain rs m past → All Whole rs
chain-whole [] m past c = tt
chain-whole (r ∷ rs) m [] c = absurd c
chain-whole (r ∷ rs) m (s ∷ ss) c = (leads-whole r m s c.0, chain-whole rs s.memory ss c.1)

pub all_drop : (n : ℕ) (rs : List (List ℕ)) → All Whole rs → All Whole (drop n rs)
all_drop zero rs w = w
all_drop (suc n) [] w = tt
all_drop (suc n) (r ∷ rs) w = all_drop n rs w.1

-- its newest record, which lies last, and the chain below
pub record Top (rs : List (List ℕ)) (m : List ℕ) (t : Snap) (ss : List Snap) : Type 0 where
  pub row : List ℕ
  pub below : List (List ℕ)
  pub lead : Leads row m t
  pub is : flat rs ≡ flat below ++ encode t.machine lead.saved
  pub chain : Chain below t.memory ss

pub top : (rs : List (List ℕ)) (m : List ℕ) (t : Snap) (ss : List Snap) → Chain rs m (t ∷ ss) → Top rs m t ss
unfolding flat
top [] m t ss c = absurd c
top (r ∷ rs) m t ss c = record { row = r; below = rs; lead = c.0; is = ap (λ (l : List ℕ). flat rs ++ l) c.0.is; chain = c.1 }

pub record Kept (s : State) (past : List Snap) : Type 0 where
  pub size : 0 < length past → length s.memory ≡ 65536
  pub count : s.twin.records ≡ length past
  -- the journal: the records' bytes, which are the used ones, and whatever lies behind them
  pub rows : List (List ℕ)
  pub tail : List ℕ
  pub lies : s.journal ≡ flat rows ++ tail
  pub used : s.twin.bytes ≡ length (flat rows)
  pub chain : Chain rows s.memory past

pub kept-room : (s : State) (past : List Snap) (v : Kept s past) → s.twin.bytes ≤ length s.journal
kept-room s past v = rw (v.lies, v.used, length-append) (omega arith)
