-- Hexadecimal digits, in ASCII and in capitals, and what they stand for.
-- Assumes nothing.
use Rattle.std.specs.Prelude.{ℕ, ◌+◌, ◌-◌, ◌*◌, ◌/◌, ◌%◌, ◌<◌, ◌≡◌, Bool, true, cond, ◌&&◌, ◌||◌, List, [], ◌∷◌, ◌++◌, leb, ltb}

-- a number below 16: `0` to `9`, then `A` to `F`
abbrev pub glyph : ℕ → ℕ
glyph d = cond (ltb d 10) (48 + d) (55 + d)

-- a byte and a word, high digit first
abbrev pub hex2 : ℕ → List ℕ
hex2 b = glyph (b / 16) ∷ glyph (b % 16) ∷ []

abbrev pub hex4 : ℕ → List ℕ
hex4 w = hex2 (w / 256) ++ hex2 (w % 256)

-- `0` to `9`, and `A` to `F`
abbrev pub is_figure : ℕ → Bool
is_figure c = leb 48 c && leb c 57

abbrev pub is_capital : ℕ → Bool
is_capital c = leb 65 c && leb c 70

abbrev pub is_digit : ℕ → Bool
is_digit c = is_figure c || is_capital c

-- what a digit stands for, 0 for any other character
unfoldable pub digit_value : ℕ → ℕ
digit_value c = cond (is_figure c) (c - 48) (cond (is_capital c) (c - 55) 0)

abbrev pub byte_of : ℕ → ℕ → ℕ
byte_of high low = 16 * digit_value high + digit_value low

-- the laws: a number below 16 has a digit, which stands for it, and no other digit does
abbrev pub GlyphIsDigit : Type 0
GlyphIsDigit = (d : ℕ) → d < 16 → is_digit (glyph d) ≡ true

abbrev pub ValueOfGlyph : Type 0
ValueOfGlyph = (d : ℕ) → d < 16 → digit_value (glyph d) ≡ d

abbrev pub GlyphOfValue : Type 0
GlyphOfValue = (c : ℕ) → is_digit c ≡ true → glyph (digit_value c) ≡ c

-- a byte's two digits stand for it, and two digits are those of the byte for which they stand
abbrev pub ByteOfHex2 : Type 0
ByteOfHex2 = (b : ℕ) → b < 256 → byte_of (glyph (b / 16)) (glyph (b % 16)) ≡ b

abbrev pub Hex2OfByte : Type 0
Hex2OfByte = (a b : ℕ) → is_digit a ≡ true → is_digit b ≡ true → hex2 (byte_of a b) ≡ a ∷ b ∷ []
