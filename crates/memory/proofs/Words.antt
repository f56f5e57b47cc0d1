-- The halves of a word are its bytes, and a word at FFFF has its low byte at 0000.
-- Assumes nothing.
use Rattle.std.proofs.Common.{◌≡◌, ℕ, ◌/◌, ◌%◌, Bool, true, false, cond, not, ◌&&◌, ltb, List, set, sym, refl, inl, arith, lit<, le-ltb}
use Rattle.memory.specs.Laws.{WordsOfBytes, WordWraps}
use Rattle.memory.specs.Map.{place_of, byte_at, low_at, word_at, landing_of}
use Rattle.memory.specs.Writes.{put_at, stored}
use Rattle.memory.specs.declared.Landing.TheVariants.{Stored, Ignored}
use Rattle.memory.proofs.Fits.{byte_fits}
use Rattle.memory.proofs.Ranges.{kept}

pub words-of-bytes : WordsOfBytes
unfolding word_at
words-of-bytes mem h at =
    let a = byte_fits mem h at in
    let b = byte_fits mem h (low_at at) in
    record { high = omega arith; low = omega arith }

-- where the two bytes land: no ram_top is below 0000
high-lands : (top : ℕ) (system : Bool) → landing_of 0xFFFF top system ≡ cond (ltb top 0xFFFF && not system) Ignored (Stored 0xBFFF)
unfolding landing_of place_of
high-lands top system = refl

low-lands : (top : ℕ) (system : Bool) → landing_of 0x0000 top system ≡ Stored 0x0000
unfolding place_of
low-lands top system = sym (kept 0 top system (inl (lit< tt)) (rw (le-ltb top 0 (omega arith))))

pub word-wraps : WordWraps
unfolding word_at byte_at place_of stored
word-wraps = record { read = λ mem. refl; written = λ top w system mem. rw (low-lands top system, high-lands top system) (go (ltb top 0xFFFF && not system) mem (w / 256) (w % 256)) }
  where
    go : (t : Bool) (mem : List ℕ) (h l : ℕ) → set (put_at (cond t Ignored (Stored 0xBFFF)) h mem) 0x0000 l ≡ set (cond t mem (set mem 0xBFFF h)) 0x0000 l
    go true mem h l = refl
    go false mem h l = refl
