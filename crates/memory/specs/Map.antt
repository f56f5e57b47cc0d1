-- The memory map (document 01, section "Memory map"): where a byte lies, what a read gives, what becomes of a write.
-- Assumes nothing.
use Rattle.std.specs.Prelude.{ℕ, ◌+◌, ◌-◌, ◌*◌, ◌%◌, Bool, true, false, cond, not, ◌&&◌, ◌||◌, List, nat_le, nat_lt, slice_index}
use Rattle.u8oru16.specs.declared.u8u16.{u8u16}
use Rattle.u8oru16.specs.declared.u8u16.TheVariants.{u8, u16}
use Rattle.memory.specs.declared.AccessType.{AccessType}
use Rattle.memory.specs.declared.AccessType.TheVariants.{Program, UserStack, SystemStack, Generic, System}
use Rattle.memory.specs.declared.Landing.{Landing}
use Rattle.memory.specs.declared.Landing.TheVariants.{Stored, Device, Ignored}

-- interrupt, SWI and CWAI stacking
abbrev pub is_system : AccessType → Bool
is_system Program = false
is_system UserStack = false
is_system SystemStack = false
is_system Generic = false
is_system System = true

-- at lies in first..last
abbrev pub within : ℕ → ℕ → ℕ → Bool
within first last at = nat_le first at && nat_le at last

-- the place of the byte at an address: FFE0-FFFF lie 4000 lower
unfoldable pub place_of : ℕ → ℕ
place_of at = cond (within 0xFFE0 0xFFFF at) (at - 0x4000) at

-- the byte that a read gives; a place past a short memory reads as 0
unfoldable pub byte_at : List ℕ → ℕ → ℕ
byte_at mem at = slice_index mem (place_of at)

-- the low byte of a word is at the next address, which is 0000 after FFFF
abbrev pub low_at : ℕ → ℕ
low_at at = (at + 1) % 65536

-- the word that a read gives, high byte first, each byte through the map
unfoldable pub word_at : List ℕ → ℕ → ℕ
word_at mem at = 256 * byte_at mem at + byte_at mem (low_at at)

-- a byte or a word
unfoldable pub value_at : List ℕ → ℕ → Bool → u8u16
value_at mem at wide = cond wide (u16 (word_at mem at)) (u8 (byte_at mem at))

-- what becomes of a write at an address, by the rows of the map
unfoldable pub landing_of : ℕ → ℕ → Bool → Landing
landing_of at top system =
    cond (within 0xFF00 0xFF3F at || within 0xFFC0 0xFFDF at) Device
    (cond (within 0xFF40 0xFFBF at) Ignored
    (cond (nat_lt top at && not system) Ignored
    (Stored (place_of at))))
