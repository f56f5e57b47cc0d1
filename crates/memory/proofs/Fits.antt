-- What is read of a memory of bytes fits, writes in the twelve places fit where each that is added does, and memory stays one of bytes.
-- Assumes nothing.
use Rattle.std.proofs.Common.{◌≡◌, ℕ, zero, suc, ◌+◌, ◌<◌, Bool, true, false, cond, ltb, List, [], ◌∷◌, length, get_or, take, set, mod-lt, arith, lit<, get_or-set_other, get_or-set_same}
use native.Mathlib.Decide.{ℕ_discrete, dec_lt}
use lib.Seq.{set_out}
use Rattle.memory.specs.Fits.{Bytes, WriteFits, AllFit}
use Rattle.memory.specs.Map.{place_of, byte_at, low_at, word_at, landing_of}
use Rattle.memory.specs.Writes.{twelve, writes_of, listed, added, added_all, word_writes, put_at, stored}
use Rattle.memory.specs.declared.Landing.{Landing}
use Rattle.memory.specs.declared.Landing.TheVariants.{Stored, Device, Ignored}
use Rattle.memory.specs.declared.writes.Write.{Write}
use Rattle.memory.specs.declared.writes.Writes.{Writes}

-- ---- reads

pub byte_fits : (mem : List ℕ) → Bytes mem → (at : ℕ) → byte_at mem at < 256
unfolding byte_at
byte_fits mem h at = h (place_of at)

pub word_fits : (mem : List ℕ) → Bytes mem → (at : ℕ) → word_at mem at < 65536
unfolding word_at
word_fits mem h at = omega (arith, byte_fits mem h at, byte_fits mem h (low_at at))

-- ---- the twelve places

set-fits : (l : List Write) (i : ℕ) (w : Write) → AllFit l → WriteFits w → AllFit (set l i w)
set-fits [] i w a f = tt
set-fits (v ∷ l) zero w a f = (f, a.1)
set-fits (v ∷ l) (suc i) w a f = (a.0, set-fits l i w a.1 f)

pub none-fit : AllFit (writes_of []).list
unfolding twelve
none-fit =
    let z : WriteFits (record { at = 0; byte = 0; system = false }) = record { address = lit< tt; value = lit< tt } in
    (z, (z, (z, (z, (z, (z, (z, (z, (z, (z, (z, (z, tt))))))))))))

pub added-fit : (d : Writes) (w : Write) → AllFit d.list → WriteFits w → AllFit (added d w).list
unfolding added
added-fit d w a f = go (ltb d.count 12)
  where
    go : (t : Bool) → AllFit (cond t (record { count = d.count + 1; list = set d.list d.count w }) d).list
    go true = set-fits d.list d.count w a f
    go false = a

pub all_fit : (d : Writes) (ws : List Write) → AllFit d.list → AllFit ws → AllFit (added_all d ws).list
all_fit d [] a f = a
all_fit d (w ∷ ws) a f = all_fit (added d w) ws (added-fit d w a f.0) f.1

pub word-writes-fit : (at w : ℕ) (system : Bool) → at < 65536 → w < 65536 → AllFit (word_writes at w system)
word-writes-fit at w system h k = (record { address = h; value = omega arith }, (record { address = mod-lt (at + 1) (lit< tt); value = mod-lt w (lit< tt) }, tt))

take-fits : (n : ℕ) (l : List Write) → AllFit l → AllFit (take n l)
take-fits zero l a = tt
take-fits (suc n) [] a = tt
take-fits (suc n) (w ∷ l) a = (a.0, take-fits n l a.1)

pub listed-fit : (d : Writes) → AllFit d.list → AllFit (listed d)
listed-fit d a = take-fits d.count d.list a

-- ---- memory after writes

pub bytes-set : (mem : List ℕ) (p b : ℕ) → Bytes mem → b < 256 → Bytes (set mem p b)
bytes-set mem p b h k i = go (ℕ_discrete i p) (dec_lt p (length mem))
  where
    go : Dec (i ≡ p) → Dec (p < length mem) → get_or (set mem p b) i 0 < 256
    go (yes e) (yes l) = rw (e, get_or-set_same mem p b 0 l) k
    go (yes e) (no n) = rw (set_out mem p b (omega arith)) (h i)
    go (no n) d = rw (get_or-set_other mem p i b 0 n) (h i)

pub bytes-stored : (top : ℕ) (ws : List Write) (mem : List ℕ) → Bytes mem → AllFit ws → Bytes (stored top ws mem)
unfolding stored
bytes-stored top [] mem h a = h
bytes-stored top (w ∷ ws) mem h a = bytes-stored top ws (put_at (landing_of w.at top w.system) w.byte mem) (go (landing_of w.at top w.system)) a.1
  where
    go : (l : Landing) → Bytes (put_at l w.byte mem)
    go (Stored p) = bytes-set mem p w.byte h a.0.value
    go Device = h
    go Ignored = h
