-- What the salvage of a file writes: the text that is mended, and the numbers of the lines that are dropped.
-- Assumes nothing.
use Rattle.std.specs.Prelude.{ℕ, Bool, cond, not, ◌||◌, List, [], ◌∷◌, ◌++◌, ltb, length, Err, None, Ok, Option, Result, Some}
use Rattle.std.proofs.lemmas.List.Edits.{sets}
use Rattle.answers.specs.declared.Refusal.{Refusal}
use Rattle.answers.specs.declared.Refusal.TheVariants.{SalvageShort}
use Rattle.machine.specs.Record.{bytes}
use Rattle.srecord.specs.Layout.{kind9, line_text}
use Rattle.srecord.specs.File.{lines_of}
use Rattle.salvage.specs.Lines.{Sifted, sifted, gathered, has_end}
use Rattle.salvage.specs.declared.mended.Salvaged.{Salvaged}
use Rattle.salvage.specs.declared.mended.Tally.{Tally}

-- ---- the text

-- the text of a line that is kept
abbrev pub text_if_kept : Option Refusal → List ℕ → List ℕ
text_if_kept None l = l
text_if_kept (Some r) l = []

abbrev pub kept_text : Sifted → List ℕ
kept_text s = text_if_kept s.fate s.text

-- S9030000FC, for the start 0000
abbrev pub end_line : List ℕ
end_line = line_text kind9 0 []

-- it is added where no S9 survives: the first good one is always kept
unfoldable pub is_added : List ℕ → Bool
is_added file = not (has_end (lines_of file))

-- the lines that are kept
unfoldable pub kept_of : List ℕ → List ℕ
kept_of file = gathered kept_text (sifted file)

abbrev pub end_if : Bool → List ℕ
end_if added = cond added end_line []

unfoldable pub mended : List ℕ → List ℕ
mended file = kept_of file ++ end_if (is_added file)

-- ---- the numbers

-- the number of a line that is dropped
abbrev pub number_if_dropped : Option Refusal → ℕ → List ℕ
number_if_dropped None n = []
number_if_dropped (Some r) n = n ∷ []

abbrev pub dropped_number : Sifted → List ℕ
dropped_number s = number_if_dropped s.fate s.number

unfoldable pub dropped_numbers : List ℕ → List ℕ
dropped_numbers file = gathered dropped_number (sifted file)

-- each in eight bytes, high byte first
abbrev pub in_bytes : List ℕ → List ℕ
in_bytes [] = []
in_bytes (n ∷ ns) = bytes 8 n ++ in_bytes ns

unfoldable pub number_bytes : List ℕ → List ℕ
number_bytes file = in_bytes (dropped_numbers file)

-- ---- the call

-- of all lines: the bytes that are kept, how many are dropped, whether one is a good S9
unfoldable pub tally_of : List ℕ → Tally
tally_of file = record { bytes = length (kept_of file); numbers = length (dropped_numbers file); ended = has_end (lines_of file) }

-- the output is too short for the text, or the list for the numbers
unfoldable pub is_short : List ℕ → List ℕ → List ℕ → Bool
is_short file out list = ltb (length out) (length (mended file)) || ltb (length list) (length (number_bytes file))

unfoldable pub salvaged_of : List ℕ → List ℕ → List ℕ → Result Salvaged Refusal
salvaged_of file out list =
    cond (is_short file out list) (Err SalvageShort)
    (Ok (record { bytes = length (mended file); numbers = length (dropped_numbers file); added = is_added file }))

-- output and list afterwards: text and numbers at the front and the rest as it was; if refused, all as it was
unfoldable pub output_mended : List ℕ → List ℕ → List ℕ → List ℕ
output_mended file out list = cond (is_short file out list) out (sets out 0 (mended file))

unfoldable pub list_filled : List ℕ → List ℕ → List ℕ → List ℕ
list_filled file out list = cond (is_short file out list) list (sets list 0 (number_bytes file))
