-- A call's writes and their undoing, memories that agree outside the window, and bytes.
-- Assumes nothing.
use mathlib.Core.Path.{◌≡◌, refl, sym, ap, ◌∙◌}
use mathlib.Core.List.{List, [], ◌∷◌, ◌++◌}
use Prim.Native.Nat.{ℕ, zero, suc, ◌<◌}
use native.Mathlib.Decide.{ℕ_discrete, dec_lt}
use native.Mathlib.Omega.{arith}
use lib.ListN.{length, get_or, set, length-set}
use lib.Seq.{get_or-set_same, get_or-set_other, set_out, ext_get_or}
use Rattle.memory.specs.Map.{landing_of}
use Rattle.memory.specs.Writes.{put_at, stored}
use Rattle.memory.specs.declared.Landing.{Landing}
use Rattle.memory.specs.declared.Landing.TheVariants.{Stored, Device, Ignored}
use Rattle.memory.specs.declared.writes.Write.{Write}
use Rattle.memory.proofs.Folds.{length-stored}
use Rattle.memory.proofs.Places.{stored-below}
use Rattle.memory.specs.Fits.{Bytes, AllFit}
use Rattle.memory.proofs.Fits.{bytes-set}
use Rattle.journal.specs.Record.{All, Saved, SavedFits}
use Rattle.journal.specs.Recorded.{saved_at, saved_for}
use Rattle.journal.specs.Undos.{put_back}
use Rattle.history.specs.Sequence.{Window, Same}

pub length-put_back : (m : List ℕ) (es : List Saved) → length (put_back m es) ≡ length m
unfolding put_back
length-put_back m [] = refl
length-put_back m (e ∷ es) = length-set (put_back m es) e.place e.byte ∙ length-put_back m es

length-put : (l : Landing) (b : ℕ) (m : List ℕ) → length (put_at l b m) ≡ length m
length-put (Stored p) b m = length-set m p b
length-put Device b m = refl
length-put Ignored b m = refl

-- ---- writes undone, last entry first, with the bytes from before them all: places may repeat, and may lie past the end

module _ (top : ℕ) (m : List ℕ) where
  -- the first write's entry is put back last, over what the others' entries leave
  first : (l : Landing) (b : ℕ) (n left : List ℕ) (i : ℕ) → length left ≡ length m → i < length m → get_or n i 0 ≡ get_or m i 0
      → (get_or (put_at l b n) i 0 ≡ get_or m i 0 → get_or left i 0 ≡ get_or m i 0) → get_or (put_back left (saved_at m l)) i 0 ≡ get_or m i 0
  unfolding put_back
  first (Stored p) b n left i s h e k = go (ℕ_discrete i p)
    where
      go : Dec (i ≡ p) → get_or (set left p (get_or m p 0)) i 0 ≡ get_or m i 0
      go (yes q) = rw q (get_or-set_same left p (get_or m p 0) 0 (omega (arith, q, s)))
      go (no q) = get_or-set_other left p i (get_or m p 0) 0 q ∙ k (get_or-set_other n p i b 0 q ∙ e)
  first Device b n left i s h e k = k e
  first Ignored b n left i s h e k = k e

  put-append : (n : List ℕ) (l : Landing) (es : List Saved) → put_back n (saved_at m l ++ es) ≡ put_back (put_back n es) (saved_at m l)
  unfolding put_back
  put-append n (Stored p) es = refl
  put-append n Device es = refl
  put-append n Ignored es = refl

  point : (n : List ℕ) (ws : List Write) (i : ℕ) → length n ≡ length m → i < length m → get_or n i 0 ≡ get_or m i 0
      → get_or (put_back (stored top ws n) (saved_for top ws m)) i 0 ≡ get_or m i 0
  unfolding stored saved_for put_back
  point n [] i l h e = e
  point n (w ∷ ws) i l h e =
      let a = landing_of w.at top w.system in
      let n2 = put_at a w.byte n in
      let l2 : length n2 ≡ length m = length-put a w.byte n ∙ l in
      let left = put_back (stored top ws n2) (saved_for top ws m) in
      let size : length left ≡ length m = length-put_back (stored top ws n2) (saved_for top ws m) ∙ length-stored top ws n2 ∙ l2 in
      ap (λ (x : List ℕ). get_or x i 0) (put-append (stored top ws n2) a (saved_for top ws m)) ∙ first a w.byte n left i size h e (λ q. point n2 ws i l2 h q)

  pub undone-writes : (ws : List Write) → put_back (stored top ws m) (saved_for top ws m) ≡ m
  undone-writes ws =
      let l : length (put_back (stored top ws m) (saved_for top ws m)) ≡ length m = length-put_back (stored top ws m) (saved_for top ws m) ∙ length-stored top ws m in
      ext_get_or 0 (put_back (stored top ws m) (saved_for top ws m)) m l (λ i h. point m ws i refl (rw l at h) refl)

-- ---- memories that agree outside the window

same_refl : (m : List ℕ) → Same m m
same_refl m = record { size = refl; bytes = λ i h. refl }

pub same-eq : (m n : List ℕ) → m ≡ n → Same m n
same-eq m n e = rw e (same_refl n)

pub same-trans : {l m n : List ℕ} → Same l m → Same m n → Same l n
same-trans p q = record { size = p.size ∙ q.size; bytes = λ i h. p.bytes i h ∙ q.bytes i h }

same_set : (m n : List ℕ) (p b : ℕ) → Same m n → Same (set m p b) (set n p b)
same_set m n p b e = record { size = length-set m p b ∙ e.size ∙ sym (length-set n p b); bytes = λ i h. at i h (ℕ_discrete i p) (dec_lt p (length m)) }
  where
    at : (i : ℕ) → ¬ (Window i) → Dec (i ≡ p) → Dec (p < length m) → get_or (set m p b) i 0 ≡ get_or (set n p b) i 0
    at i h (no q) d = get_or-set_other m p i b 0 q ∙ e.bytes i h ∙ sym (get_or-set_other n p i b 0 q)
    at i h (yes q) (yes l) = rw q (get_or-set_same m p b 0 l ∙ sym (get_or-set_same n p b 0 (rw (← e.size) l)))
    at i h (yes q) (no l) = rw (set_out m p b (omega arith), set_out n p b (omega (arith, e.size))) (e.bytes i h)

pub same-put_back : (m n : List ℕ) (es : List Saved) → Same m n → Same (put_back m es) (put_back n es)
unfolding put_back
same-put_back m n [] e = e
same-put_back m n (c ∷ es) e = same_set (put_back m es) (put_back n es) c.place c.byte (same-put_back m n es e)

-- the host's write
pub same-host : (m : List ℕ) (a v : ℕ) → Window a → Same (set m a v) m
same-host m a v w = record { size = length-set m a v; bytes = λ i h. get_or-set_other m a i v 0 (λ q. h (rw q w)) }

-- entries leave the window alone
pub window-put_back : (m : List ℕ) (es : List Saved) → All SavedFits es → (i : ℕ) → Window i → get_or (put_back m es) i 0 ≡ get_or m i 0
unfolding put_back
window-put_back m [] f i w = refl
window-put_back m (e ∷ es) f i w =
    get_or-set_other (put_back m es) e.place i e.byte 0 (λ q. omega (arith, f.0.place)) ∙ window-put_back m es f.1 i w

-- ---- bytes

pub bytes-put_back : (m : List ℕ) (es : List Saved) → Bytes m → All SavedFits es → Bytes (put_back m es)
unfolding put_back
bytes-put_back m [] h f = h
bytes-put_back m (e ∷ es) h f = bytes-set (put_back m es) e.place e.byte (bytes-put_back m es h f.1) f.0.byte

-- ---- every entry's place is below FF00, and its byte a byte

saved-fits : (l : Landing) (m : List ℕ) (es : List Saved) → ((p : ℕ) → l ≡ Stored p → p < 0xFF00) → Bytes m → All SavedFits es → All SavedFits (saved_at m l ++ es)
saved-fits (Stored p) m es below h f = (record { place = below p refl; byte = h p }, f)
saved-fits Device m es below h f = f
saved-fits Ignored m es below h f = f

pub all-saved-fit : (top : ℕ) (ws : List Write) (m : List ℕ) → Bytes m → AllFit ws → All SavedFits (saved_for top ws m)
unfolding saved_for
all-saved-fit top [] m h f = tt
all-saved-fit top (w ∷ ws) m h f =
    saved-fits (landing_of w.at top w.system) m (saved_for top ws m) (λ p e. stored-below w.at top w.system p f.0.address e) h (all-saved-fit top ws m h f.1)
