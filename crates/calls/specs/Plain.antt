-- A value stored where nothing is mapped and no device is.
-- Assumes nothing.
use Rattle.std.specs.Prelude.{ℕ, ◌+◌, ◌/◌, ◌%◌, List, slice_set}
use Rattle.u8oru16.specs.declared.u8u16.{u8u16}
use Rattle.u8oru16.specs.declared.u8u16.TheVariants.{u8, u16}

-- a byte, or a word with its high byte first
abbrev pub put : ℕ → u8u16 → List ℕ → List ℕ
put at (u8 b) mem = slice_set mem at b
put at (u16 w) mem = slice_set (slice_set mem at (w / 256)) (at + 1) (w % 256)
