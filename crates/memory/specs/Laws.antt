-- Where stores go: no write stores at FF00 or above. A word's two bytes, also at FFFF.
-- Assumes nothing.
use Rattle.std.specs.Prelude.{◌≡◌, ℕ, ◌+◌, ◌*◌, ◌/◌, ◌%◌, ◌<◌, ◌≤◌, Bool, cond, not, ◌&&◌, List, [], ◌∷◌, nat_lt, slice_index, slice_set}
use Rattle.memory.specs.Fits.{Bytes}
use Rattle.memory.specs.Map.{byte_at, low_at, word_at, landing_of}
use Rattle.memory.specs.Writes.{word_writes, stored}
use Rattle.memory.specs.declared.Landing.TheVariants.{Stored}
use Rattle.memory.specs.declared.writes.Write.{Write}

abbrev pub StoredBelow : Type 0
StoredBelow = (at top : ℕ) (system : Bool) (p : ℕ) → at < 65536 → landing_of at top system ≡ Stored p → p < 0xFF00

-- every address of a list of writes is one of 16 bits
abbrev pub InMap : List Write → Type 0
InMap [] = Unit
InMap (w ∷ ws) = (w.at < 65536) × InMap ws

-- so a list of writes leaves FF00-FFFF of memory as it is
abbrev pub TopStays : Type 0
TopStays = (top : ℕ) (ws : List Write) (mem : List ℕ) (k : ℕ) → InMap ws → 0xFF00 ≤ k → slice_index (stored top ws mem) k ≡ slice_index mem k

-- the halves of a word of bytes are the bytes at its address and the next
pub record WordHalves (mem : List ℕ) (at : ℕ) : Type 0 where
  pub high : word_at mem at / 256 ≡ byte_at mem at
  pub low : word_at mem at % 256 ≡ byte_at mem (low_at at)

abbrev pub WordsOfBytes : Type 0
WordsOfBytes = (mem : List ℕ) → Bytes mem → (at : ℕ) → WordHalves mem at

-- a word at FFFF has its high byte at place BFFF and its low byte at place 0000. Written, its high byte is stored first, unless ram_top is
-- below FFFF and the write is not System's; its low byte is stored whatever ram_top is
pub record WordWraps : Type 0 where
  pub read : (mem : List ℕ) → word_at mem 0xFFFF ≡ 256 * slice_index mem 0xBFFF + slice_index mem 0x0000
  pub written : (top w : ℕ) (system : Bool) (mem : List ℕ)
      → stored top (word_writes 0xFFFF w system) mem
      ≡ slice_set (cond (nat_lt top 0xFFFF && not system) mem (slice_set mem 0xBFFF (w / 256))) 0x0000 (w % 256)
