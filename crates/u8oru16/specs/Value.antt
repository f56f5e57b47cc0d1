-- A value of one or two bytes: its size, its number read unsigned and signed, its bytes.
-- Assumes nothing.
use Rattle.std.specs.Prelude.{ℕ, ◌+◌, ◌*◌, ◌/◌, ◌%◌, Bool, true, false, cond, List, [], ◌∷◌, ℤ, nat_lt, None, Option, Some}
use Rattle.u8oru16.specs.Signed.{signed}
use Rattle.u8oru16.specs.declared.u8u16.{u8u16}
use Rattle.u8oru16.specs.declared.u8u16.TheVariants.{u8, u16}

-- its size in bytes
abbrev pub size_of : u8u16 → ℕ
size_of (u8 b) = 1
size_of (u16 w) = 2

abbrev pub is_byte : u8u16 → Bool
is_byte (u8 b) = true
is_byte (u16 w) = false

-- its number, read unsigned
abbrev pub value_of : u8u16 → ℕ
value_of (u8 b) = b
value_of (u16 w) = w

-- its number, read as signed in its own size
abbrev pub signed_of : u8u16 → ℤ
signed_of (u8 b) = signed 0x80 b
signed_of (u16 w) = signed 0x8000 w

-- its low byte, and the high one that only a word has
abbrev pub low_byte : u8u16 → ℕ
low_byte (u8 b) = b
low_byte (u16 w) = w % 256

abbrev pub high_byte : u8u16 → Option ℕ
high_byte (u8 b) = None
high_byte (u16 w) = Some (w / 256)

-- its bytes, high byte first
abbrev pub bytes_of : u8u16 → List ℕ
bytes_of (u8 b) = b ∷ []
bytes_of (u16 w) = w / 256 ∷ w % 256 ∷ []

-- of a low byte and, where there is one, a high byte
abbrev pub joined : ℕ → Option ℕ → u8u16
joined lsb None = u8 lsb
joined lsb (Some msb) = u16 (256 * msb + lsb)

-- a byte where the number fits one
abbrev pub shrunk : ℕ → u8u16
shrunk n = cond (nat_lt n 256) (u8 n) (u16 n)
