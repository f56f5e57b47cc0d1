-- The register set: reading and writing by name. D is 256·A + B.
-- Assumes nothing.
use Rattle.std.specs.Prelude.{ℕ, ◌+◌, ◌*◌, ◌/◌, ◌%◌}
use Rattle.u8oru16.specs.Value.{value_of, low_byte}
use Rattle.u8oru16.specs.declared.u8u16.{u8u16}
use Rattle.u8oru16.specs.declared.u8u16.TheVariants.{u8, u16}
use Rattle.registers.specs.Names.{word_name}
use Rattle.registers.specs.declared.Name.{Name}
use Rattle.registers.specs.declared.Name.TheVariants.{A, B, D, X, Y, U, S, PC, DP, CC}
use Rattle.registers.specs.declared.Word.{Word}
use Rattle.registers.specs.declared.Set.{Set}

-- IRQ and FIRQ masked, all else 0
abbrev pub after_reset : Set
after_reset = record { x = 0; y = 0; u = 0; s = 0; pc = 0; a = 0; b = 0; dp = 0; cc = record { reg = 0x50 } }

abbrev pub read : Set → Name → u8u16
read r A = u8 r.a
read r B = u8 r.b
read r D = u16 (256 * r.a + r.b)
read r X = u16 r.x
read r Y = u16 r.y
read r U = u16 r.u
read r S = u16 r.s
read r PC = u16 r.pc
read r DP = u8 r.dp
read r CC = u8 r.cc.reg

-- a byte register takes the low byte of a word, a word register a byte with zeros above it
abbrev pub written : Set → Name → u8u16 → Set
written r A v = record { x = r.x; y = r.y; u = r.u; s = r.s; pc = r.pc; a = low_byte v; b = r.b; dp = r.dp; cc = r.cc }
written r B v = record { x = r.x; y = r.y; u = r.u; s = r.s; pc = r.pc; a = r.a; b = low_byte v; dp = r.dp; cc = r.cc }
written r D v =
    record { x = r.x; y = r.y; u = r.u; s = r.s; pc = r.pc; a = value_of v / 256; b = value_of v % 256; dp = r.dp; cc = r.cc }
written r X v = record { x = value_of v; y = r.y; u = r.u; s = r.s; pc = r.pc; a = r.a; b = r.b; dp = r.dp; cc = r.cc }
written r Y v = record { x = r.x; y = value_of v; u = r.u; s = r.s; pc = r.pc; a = r.a; b = r.b; dp = r.dp; cc = r.cc }
written r U v = record { x = r.x; y = r.y; u = value_of v; s = r.s; pc = r.pc; a = r.a; b = r.b; dp = r.dp; cc = r.cc }
written r S v = record { x = r.x; y = r.y; u = r.u; s = value_of v; pc = r.pc; a = r.a; b = r.b; dp = r.dp; cc = r.cc }
written r PC v = record { x = r.x; y = r.y; u = r.u; s = r.s; pc = value_of v; a = r.a; b = r.b; dp = r.dp; cc = r.cc }
written r DP v = record { x = r.x; y = r.y; u = r.u; s = r.s; pc = r.pc; a = r.a; b = r.b; dp = low_byte v; cc = r.cc }
written r CC v =
    record { x = r.x; y = r.y; u = r.u; s = r.s; pc = r.pc; a = r.a; b = r.b; dp = r.dp; cc = record { reg = low_byte v } }

-- what a register holds of a value: the low byte, or the number as a word
abbrev pub in_size : Name → u8u16 → u8u16
in_size A v = u8 (low_byte v)
in_size B v = u8 (low_byte v)
in_size D v = u16 (value_of v)
in_size X v = u16 (value_of v)
in_size Y v = u16 (value_of v)
in_size U v = u16 (value_of v)
in_size S v = u16 (value_of v)
in_size PC v = u16 (value_of v)
in_size DP v = u8 (low_byte v)
in_size CC v = u8 (low_byte v)

-- a register of 16 bits, read and written
abbrev pub word_of : Set → Word → ℕ
word_of r w = value_of (read r (word_name w))

abbrev pub with_word : Set → Word → ℕ → Set
with_word r w n = written r (word_name w) (u16 n)

-- with another PC
abbrev pub with_pc : Set → ℕ → Set
with_pc r pc = written r PC (u16 pc)
