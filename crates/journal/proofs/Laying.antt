-- The record as it is written, one part after the other, and the unused rest of the journal with it.
-- Assumes nothing.
use mathlib.Core.Path.{◌≡◌, refl, sym, ap, ◌∙◌}
use mathlib.Core.List.{List, [], ◌∷◌, ◌++◌, append_assoc, append-nil}
use Prim.Native.Nat.{ℕ, zero, suc, ◌+◌, ◌-◌, ◌*◌, ◌≤◌, ◌<◌}
use native.Mathlib.Nat.{zero-add}
use native.Mathlib.Numerals.{add-one}
use native.Mathlib.Omega.{arith}
use lib.ListN.{length, get_or, take, drop, set, length-append, length-drop, length-take, take-append-drop}
use lib.Seq.{sets, sets-eq, take-suc, take_all, drop-drop, drop-length}
use borrow.Rule.Slice.PartMut.{put_mid}
use Rattle.memory.specs.Map.{landing_of}
use Rattle.memory.specs.declared.Landing.{Landing}
use Rattle.memory.specs.declared.Landing.TheVariants.{Stored, Device, Ignored}
use Rattle.memory.specs.declared.writes.Write.{Write}
use Rattle.machine.specs.declared.Machine.{Machine}
use Rattle.machine.specs.Record.{Cycles, Instructions, bytes, front, counter, offset, header, header_length}
use Rattle.machine.proofs.Header.{header-in-parts, length_front, length-counter, length-header}
use Rattle.journal.specs.Record.{Saved, record_length, entries, encode, most_stored, entry_length, count_at, entries_at}
use Rattle.journal.specs.Recorded.{saved_at, saved_for}
use Rattle.journal.proofs.Reading.{length-entries, length-encode}

-- ---- parts

-- a part written at once
pub laid_at : (l vs : List ℕ) (at : ℕ) → at + length vs ≤ length l → put_mid at (length vs) l vs ≡ sets l at vs
laid_at l vs at h = rw (drop-drop (length vs) at l) (sym (sets-eq vs l at h ∙ append_assoc (take at l) vs (drop (at + length vs) l)))

-- one part more
pub sets_more : (d p q : List ℕ) (k n : ℕ) → k + length p ≡ n → sets (sets d k p) n q ≡ sets d k (p ++ q)
sets_more d [] q k n e = let f : n ≡ k = omega arith in rw f
sets_more d (v ∷ p) q k n e = sets_more (set d k v) p q (suc k) n (omega arith)

pub header-laid : (m : Machine) (d : List ℕ)
    → sets (sets (sets d 0 (front m)) (offset Cycles) (counter m.cycles)) (offset Instructions) (counter m.instructions) ≡ sets d 0 (header m)
header-laid m d =
    let lf = length_front m in
    let lc = length-counter m.cycles in
    let la = length-append (front m) (counter m.cycles) in
    rw (
      sets_more d (front m) (counter m.cycles) 0 (offset Cycles) (omega arith),
      sets_more d (front m ++ counter m.cycles) (counter m.instructions) 0 (offset Instructions) (omega arith),
      header-in-parts m,
    )

-- ---- the entries

pub entries-append : (es fs : List Saved) → entries (es ++ fs) ≡ entries es ++ entries fs
unfolding entries bytes
entries-append [] fs = refl
entries-append (e ∷ es) fs = rw (entries-append es fs)

saved-append : (top : ℕ) (ws vs : List Write) (mem : List ℕ) → saved_for top (ws ++ vs) mem ≡ saved_for top ws mem ++ saved_for top vs mem
unfolding saved_for
saved-append top [] vs mem = refl
saved-append top (w ∷ ws) vs mem =
    rw (saved-append top ws vs mem) (sym (append_assoc (saved_at mem (landing_of w.at top w.system)) (saved_for top ws mem) (saved_for top vs mem)))

saved-one : (top : ℕ) (w : Write) (mem : List ℕ) → saved_for top (w ∷ []) mem ≡ saved_at mem (landing_of w.at top w.system)
unfolding saved_for
saved-one top w mem = append-nil (saved_at mem (landing_of w.at top w.system))

-- the first i writes have no more entries than all
pub saved-some : (top : ℕ) (list : List Write) (i : ℕ) (mem : List ℕ) → length (saved_for top (take i list) mem) ≤ length (saved_for top list mem)
saved-some top list i mem =
    let e : take i list ++ drop i list ≡ list = take-append-drop i list in
    let g : length (saved_for top list mem) ≡ length (saved_for top (take i list) mem) + length (saved_for top (drop i list) mem) =
    ap (λ (l : List Write). length (saved_for top l mem)) (sym e)
    ∙ ap length (saved-append top (take i list) (drop i list) mem)
    ∙ length-append (saved_for top (take i list) mem) (saved_for top (drop i list) mem) in
    omega arith

-- a turn of a loop: the entry of the write at i, after those of the first i
module _ (top : ℕ) (list : List Write) (i : ℕ) (none : Write) (h : i < length list) (mem : List ℕ) where
  saved-next : saved_for top (take (i + 1) list) mem ≡ saved_for top (take i list) mem ++ saved_at mem (landing_of (get_or list i none).at top (get_or list i none).system)
  saved-next =
      rw (add-one, take-suc list i none h, saved-append top (take i list) (get_or list i none ∷ []) mem, saved-one top (get_or list i none) mem)

  pub turn-count : (n : ℕ) → n ≡ length (saved_for top (take i list) mem)
      → n + length (saved_at mem (landing_of (get_or list i none).at top (get_or list i none).system)) ≡ length (saved_for top (take (i + 1) list) mem)
  turn-count n e = rw (saved-next, length-append, e)

  pub save-fits : (n size : ℕ) → n ≡ length (saved_for top (take i list) mem) → entries_at + length (saved_for top list mem) * entry_length ≤ size
      → entries_at + (n + length (saved_at mem (landing_of (get_or list i none).at top (get_or list i none).system))) * entry_length ≤ size
  save-fits n size e l = omega (arith, turn-count n e, saved-some top list (i + 1) mem)

  pub turn-laid : (n : ℕ) (d : List ℕ) → n ≡ length (saved_for top (take i list) mem)
      → sets (sets d entries_at (entries (saved_for top (take i list) mem))) (entries_at + n * entry_length) (entries (saved_at mem (landing_of (get_or list i none).at top (get_or list i none).system)))
      ≡ sets d entries_at (entries (saved_for top (take (i + 1) list) mem))
  turn-laid n d e =
      rw (saved-next, entries-append)
      (sets_more d (entries (saved_for top (take i list) mem)) (entries (saved_at mem (landing_of (get_or list i none).at top (get_or list i none).system))) entries_at (entries_at + n * entry_length)
      (omega (arith, e, length-entries (saved_for top (take i list) mem))))

-- at most one entry a write
one_at_most : (mem : List ℕ) (l : Landing) → length (saved_at mem l) ≤ 1
one_at_most mem (Stored p) = omega arith
one_at_most mem Device = omega arith
one_at_most mem Ignored = omega arith

pub saved-few : (top : ℕ) (ws : List Write) (mem : List ℕ) → length (saved_for top ws mem) ≤ length ws
unfolding saved_for
saved-few top [] mem = omega arith
saved-few top (w ∷ ws) mem = simp length-append (omega (arith, saved-few top ws mem, one_at_most mem (landing_of w.at top w.system)))

pub saved-first : (top : ℕ) (list : List Write) (i : ℕ) (mem : List ℕ) → length (saved_for top (take i list) mem) ≤ i
saved-first top list i mem = omega (arith, saved-few top (take i list) mem, length-take i list)

-- ---- the whole record: header, count, entries, length

pub record-laid : (m : Machine) (es : List Saved) (d : List ℕ) (n : ℕ) → n ≡ length es → record_length n ≤ length d
    → set (sets (set (sets d 0 (header m)) count_at n) entries_at (entries es)) (entries_at + n * entry_length) (record_length n) ≡ encode m es ++ drop (record_length n) d
unfolding encode
record-laid m es d n e h =
    let a = length-header m in
    let b = length-append (header m) (n ∷ []) in
    let c = length-entries es in
    let f = length-append (header m ++ (n ∷ [])) (entries es) in
    let at : ℕ = entries_at + n * entry_length in
    let z : record_length n ≡ record_length (length es) = ap record_length e in
    let l : length (encode m es) ≡ record_length n = length-encode m es ∙ sym z in
    ap (λ (x : List ℕ). set (sets x entries_at (entries es)) at (record_length n)) (sets_more d (header m) (n ∷ []) 0 count_at (omega arith))
    ∙ ap (λ (x : List ℕ). set x at (record_length n)) (sets_more d (header m ++ (n ∷ [])) (entries es) 0 entries_at (omega arith))
    ∙ sets_more d ((header m ++ (n ∷ [])) ++ entries es) (record_length n ∷ []) 0 at (omega arith)
    ∙ ap (sets d 0) (append_assoc (header m ++ (n ∷ [])) (entries es) (record_length n ∷ []) ∙ append_assoc (header m) (n ∷ []) (entries es ++ (record_length n ∷ [])))
    ∙ ap (λ (x : ℕ). sets d 0 (header m ++ (x ∷ (entries es ++ (record_length n ∷ []))))) e
    ∙ ap (λ (x : ℕ). sets d 0 (header m ++ (length es ∷ (entries es ++ (x ∷ []))))) z
    ∙ rw (zero-add, l) at (sets-eq (encode m es) d 0 (omega arith))

-- the unused rest with the record at its front, back in the journal
pub placed : (u size : ℕ) (r j last : List ℕ) → size ≡ length r → u + size ≤ length j → last ≡ r ++ drop size (take (length j - u) (drop u j))
    → take u j ++ (last ++ drop (length j - u) (drop u j)) ≡ sets j u r
placed u size r j last q h e =
    let n : length (drop u j) ≡ length j - u = length-drop u j in
    let t : take (length j - u) (drop u j) ≡ drop u j = take_all (length j - u) (drop u j) (omega arith) in
    let e2 : last ≡ r ++ drop (u + length r) j = e ∙ rw (t, q, drop-drop (length r) u j) in
    let z : drop (length j - u) (drop u j) ≡ [] = rw (← n) (drop-length (drop u j)) in
    rw (z, e2, append-nil, sets-eq r j u (omega arith)) (sym (append_assoc (take u j) r (drop (u + length r) j)))
