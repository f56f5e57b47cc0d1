-- A line that is printed for a call, in ASCII (document 01, section "The run program"): answer, PC, CC, cycles; answer and cycles in decimal,
-- PC in four and CC in two hexadecimal digits.
-- Assumes nothing.
use Rattle.std.specs.Prelude.{ℕ, zero, suc, ◌+◌, ◌/◌, ◌%◌, ◌≤◌, ◌<◌, min, ◌≡◌, cond, List, [], ◌∷◌, ◌++◌, ltb, length, take, set, replicate}
use Rattle.std.proofs.lemmas.List.Edits.{sets}
use Rattle.text.specs.Hex.{hex2, hex4}
use Rattle.text.specs.declared.lines.Text.{Text}

-- a number in at most so many decimal digits; twenty hold a counter
unfoldable pub decimal_in : ℕ → ℕ → List ℕ
decimal_in zero n = []
decimal_in (suc k) n = cond (ltb n 10) ((48 + n) ∷ []) (decimal_in k (n / 10) ++ ((48 + n % 10) ∷ []))

unfoldable pub decimal : ℕ → List ℕ
decimal n = decimal_in 20 n

abbrev space : ℕ
space = 32

abbrev pub line_feed : ℕ
line_feed = 10

unfoldable pub line : ℕ → ℕ → ℕ → ℕ → List ℕ
line answer pc cc cycles = decimal answer ++ (space ∷ hex4 pc ++ (space ∷ hex2 cc ++ (space ∷ decimal cycles ++ (line_feed ∷ []))))

-- a number in a line of its own
unfoldable pub alone : ℕ → List ℕ
alone n = decimal n ++ (line_feed ∷ [])

-- ---- texts as values

-- a text at the front of 33 bytes, the others 0; a longer one is cut
unfoldable pub text_of : List ℕ → Text
text_of l = record { bytes = sets (replicate 33 0) 0 l; len = min (length l) 33 }

-- a text with one byte more, if there is room, and with several
abbrev extended : Text → ℕ → Text
extended t b = cond (ltb t.len 33) (record { bytes = set t.bytes t.len b; len = t.len + 1 }) t

unfoldable pub grown : Text → List ℕ → Text
grown t [] = t
grown t (b ∷ bs) = grown (extended t b) bs

-- the bytes that are used
abbrev pub said : Text → List ℕ
said t = take t.len t.bytes

-- the laws: an answer is a byte, so its line has at most 33 bytes; a text of at most 33 bytes is whole, and grows as a list does
abbrev pub LineFits : Type 0
LineFits = (answer pc cc cycles : ℕ) → answer < 256 → length (line answer pc cc cycles) ≤ 33

abbrev pub TextIsWhole : Type 0
TextIsWhole = (l : List ℕ) → length l ≤ 33 → said (text_of l) ≡ l

abbrev pub TextGrows : Type 0
TextGrows = (l bs : List ℕ) → grown (text_of l) bs ≡ text_of (l ++ bs)
