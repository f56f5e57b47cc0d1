-- How a line is laid out: S, the kind's digit, two capital hex digits for each byte (count, address, data, checksum), a line feed.
-- Assumes nothing.
use Rattle.std.specs.Prelude.{ℕ, ◌+◌, ◌-◌, ◌/◌, ◌%◌, Bool, false, ◌&&◌, List, [], ◌∷◌, ◌++◌, length, ◌==◌}
use Rattle.text.specs.Hex.{hex2, is_digit, byte_of}
use Rattle.text.specs.Lines.{line_feed}

abbrev pub letter_s : ℕ
letter_s = 83

-- the kinds S0, S1 and S9, by their digits
abbrev pub kind0 : ℕ
kind0 = 48

abbrev pub kind1 : ℕ
kind1 = 49

abbrev pub kind9 : ℕ
kind9 = 57

-- the two digits of each byte
unfoldable pub pairs : List ℕ → List ℕ
pairs [] = []
pairs (b ∷ bs) = hex2 b ++ pairs bs

-- pairs of digits, then a line feed that ends the text
unfoldable pub is_paired : List ℕ → Bool
is_paired [] = false
is_paired (c ∷ []) = c == line_feed
is_paired (a ∷ b ∷ t) = is_digit a && (is_digit b && is_paired t)

-- the bytes that pairs of digits stand for
unfoldable pub paired_bytes : List ℕ → List ℕ
paired_bytes [] = []
paired_bytes (c ∷ []) = []
paired_bytes (a ∷ b ∷ t) = byte_of a b ∷ paired_bytes t

unfoldable pub total : List ℕ → ℕ
total [] = 0
total (b ∷ bs) = b + total bs

-- the ones' complement of the low byte of the sum
abbrev pub checksum : List ℕ → ℕ
checksum bs = 255 - total bs % 256

-- what is summed: how many bytes follow the count, the address, high byte first, and the data
abbrev pub summed : ℕ → List ℕ → List ℕ
summed a d = (length d + 3) ∷ a / 256 ∷ a % 256 ∷ d

unfoldable pub line_text : ℕ → ℕ → List ℕ → List ℕ
line_text kind a d = letter_s ∷ kind ∷ (pairs (summed a d) ++ (hex2 (checksum (summed a d)) ++ (line_feed ∷ [])))
