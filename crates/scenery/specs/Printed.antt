-- What is laid in the lines that are printed.
-- Assumes nothing.
use Rattle.std.specs.Prelude.{ℕ, ◌+◌, ◌-◌, ◌*◌, ◌%◌, cond, List, [], ◌∷◌, leb, get_or, length, false}
use Rattle.std.specs.List.{flat_map}
use Rattle.std.proofs.lemmas.List.Edits.{sets}
use Rattle.text.specs.Hex.{hex2, hex4}
use Rattle.text.specs.Lines.{decimal}
use Rattle.memory.specs.declared.writes.Writes.{Writes}

-- two digits for each byte
abbrev pub bytes_text : List ℕ → List ℕ
bytes_text bytes = flat_map hex2 bytes

-- a decimal number that ends before a place, if there is room to the left of it
abbrev pub number_laid : List ℕ → ℕ → ℕ → List ℕ
number_laid out end n = cond (leb (length (decimal n)) end) (sets out (end - length (decimal n)) (decimal n)) out

-- four bytes; one past the end is 0
abbrev pub view : List ℕ → ℕ → List ℕ
view mem place = get_or mem place 0 ∷ get_or mem (place + 1) 0 ∷ get_or mem (place + 2) 0 ∷ get_or mem (place + 3) 0 ∷ []

-- how many device writes there are, a number that ends before a place, and the first of them after it, in four digits and two
abbrev pub devices_laid : List ℕ → ℕ → Writes → List ℕ
devices_laid out at d =
    let first = get_or d.list 0 (record { at = 0; byte = 0; system = false }) in
    sets (sets (number_laid out at d.count) (at + 1) (hex4 first.at)) (at + 6) (hex2 first.byte)

-- Adler-32: the low half sums the bytes, the high half the low halves
unfoldable pub adler_from : ℕ → ℕ → List ℕ → ℕ
adler_from low high [] = 65536 * high + low
adler_from low high (b ∷ l) = adler_from ((low + b) % 65521) ((high + (low + b) % 65521) % 65521) l

abbrev pub adler : List ℕ → ℕ
adler l = adler_from 1 0 l
