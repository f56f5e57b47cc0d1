-- What the calls that can be refused answer.
-- Assumes nothing.
use Rattle.std.specs.Prelude.{ℕ, ◌+◌, ◌/◌, ◌%◌, cond, List, ◌++◌, length, drop, ◌==◌, nat_le, Err, Ok, Result}
use Rattle.answers.specs.declared.Refusal.TheVariants.{DivisionByZero, LeftByte, NoRoom}
use Rattle.u8oru16.specs.Value.{size_of, value_of, bytes_of}
use Rattle.u8oru16.specs.Negated.{sign_extended}
use Rattle.u8oru16.specs.declared.u8u16.{u8u16}
use Rattle.u8oru16.specs.declared.u8u16.TheVariants.{u8, u16}
use Rattle.answers.specs.declared.Refusal.{Refusal}

-- a word and a signed offset, which wraps at 65,536
abbrev pub offset_by : u8u16 → u8u16 → Result u8u16 Refusal
offset_by (u8 b) rhs = Err LeftByte
offset_by (u16 w) rhs = Ok (u16 ((w + value_of (sign_extended rhs)) % 65536))

-- a quotient of two bytes is a byte, of any other two a word
abbrev pub sized : u8u16 → u8u16 → ℕ → u8u16
sized (u8 a) (u8 b) n = u8 n
sized (u8 a) (u16 b) n = u16 n
sized (u16 a) b n = u16 n

abbrev pub divided : u8u16 → u8u16 → Result u8u16 Refusal
divided a b = cond (value_of b == 0) (Err DivisionByZero) (Ok (sized a b (value_of a / value_of b)))

abbrev pub remainder : u8u16 → u8u16 → Result u8u16 Refusal
remainder a b = cond (value_of b == 0) (Err DivisionByZero) (Ok (sized a b (value_of a % value_of b)))

-- the bytes at the front of a buffer that has room for them; what follows stays, and so does a buffer without room
abbrev pub written_of : u8u16 → List ℕ → Result ℕ Refusal
written_of v buf = cond (nat_le (size_of v) (length buf)) (Ok (size_of v)) (Err NoRoom)

abbrev pub bytes_written : u8u16 → List ℕ → List ℕ
bytes_written v buf = cond (nat_le (size_of v) (length buf)) (bytes_of v ++ drop (size_of v) buf) buf
