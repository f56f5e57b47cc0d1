-- Numbers in an operand: hexadecimal, in capitals, after a $.
-- Assumes nothing.
use Rattle.std.specs.Prelude.{ℕ, ◌+◌, ◌-◌, ◌%◌, cond, List, ◌∷◌, nat_lt}
use Prim.Native.Char.{code}
use Rattle.text.specs.Hex.{hex2, hex4}

-- $12 and $1234
abbrev pub byte_text : ℕ → List ℕ
byte_text b = code "$" ∷ hex2 b

abbrev pub word_text : ℕ → List ℕ
word_text w = code "$" ∷ hex4 w

-- an offset is a word read as signed: a negative one is its amount after a minus sign
abbrev signed_text : (ℕ → List ℕ) → ℕ → List ℕ
signed_text shown n = cond (nat_lt n 0x8000) (shown n) (code "-" ∷ shown (0x10000 - n))

-- of five and of eight bits, whose amount fits a byte: -$10
unfoldable pub short_offset : ℕ → List ℕ
short_offset = signed_text (λ n. byte_text (n % 256))

-- of sixteen bits: -$0010
unfoldable pub long_offset : ℕ → List ℕ
long_offset = signed_text word_text

-- where a branch and n,PCR lead: counted from the next instruction's address, 0000 after FFFF
abbrev pub target : ℕ → ℕ → ℕ
target next n = (next + n) % 65536
