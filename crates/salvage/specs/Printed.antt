-- What a person gets of a salvage: the mended text on standard output, and on standard error a line `dropped 3 21` for each line that is
-- dropped, its number and that of its refusal, and a last line `added S9030000FC` where S9 is added.
-- Assumes nothing.
use Rattle.std.specs.Prelude.{ℕ, ◌+◌, ◌*◌, ◌≤◌, Bool, cond, List, [], ◌++◌, leb, length, replicate, Err, None, Ok, Option, Result, Some}
use Rattle.answers.specs.Numbers.{number_of}
use Rattle.answers.specs.declared.Refusal.{Refusal}
use Rattle.answers.specs.declared.Refusal.TheVariants.{Malformed}
use Rattle.registers.specs.ConditionCodes.{ascii}
use Rattle.text.specs.Lines.{decimal, alone}
use Rattle.salvage.specs.Lines.{Sifted, sifted, gathered}
use Rattle.salvage.specs.Mended.{end_line, is_added, salvaged_of, output_mended}
use Rattle.salvage.specs.declared.mended.Salvaged.{Salvaged}
use Rattle.salvage.specs.declared.printed.Printed.{Printed}

-- ---- the report

unfoldable pub dropped_line : ℕ → Refusal → List ℕ
dropped_line n r = ascii "dropped " ++ (decimal n ++ (ascii " " ++ alone (number_of r)))

abbrev pub tell_if_dropped : Option Refusal → ℕ → List ℕ
tell_if_dropped None n = []
tell_if_dropped (Some r) n = dropped_line n r

abbrev pub dropped_text : Sifted → List ℕ
dropped_text s = tell_if_dropped s.fate s.number

abbrev pub added_if : Bool → List ℕ
added_if added = cond added (ascii "added " ++ end_line) []

unfoldable pub report_text : List ℕ → List ℕ
report_text file = gathered dropped_text (sifted file) ++ added_if (is_added file)

-- ---- the program

-- the longest file: 1 MiB
abbrev pub longest : ℕ
longest = 0x100000

-- room for 32,768 numbers
unfoldable pub no_numbers : List ℕ
no_numbers = replicate (8 * 0x8000) 0

-- a longer file is refused by 16; one with more lines to be dropped by `salvage`
unfoldable pub mend_answer : List ℕ → List ℕ → Result Salvaged Refusal
mend_answer file out = cond (leb (length file) longest) (salvaged_of file out no_numbers) (Err Malformed)

unfoldable pub output_printed : List ℕ → List ℕ → List ℕ
output_printed file out = cond (leb (length file) longest) (output_mended file out no_numbers) out

-- standard error has the report, or the number of the refusal
abbrev pub error_text : Result Salvaged Refusal → List ℕ → List ℕ
error_text (Ok s) file = report_text file
error_text (Err r) file = alone (number_of r)

-- how many bytes standard output has: none if the file is refused
abbrev pub text_length : Result Salvaged Refusal → ℕ
text_length (Ok s) = s.bytes
text_length (Err r) = 0

unfoldable pub printed_of : List ℕ → List ℕ → Printed
printed_of file out = record { text = text_length (mend_answer file out); report = length (error_text (mend_answer file out) file) }

-- ---- the law

-- the text fits its output, and the report is at most 50 bytes for each of the 32,768 numbers, and 17 for S9
pub record PrintedFits (file out : List ℕ) : Type 0 where
  pub text : (printed_of file out).text ≤ length out
  pub report : (printed_of file out).report ≤ 50 * 0x8000 + 17

abbrev pub MendFits : Type 0
MendFits = (file out : List ℕ) → PrintedFits file out
