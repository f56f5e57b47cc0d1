-- What one line means: its kind, address and data, or why it is refused. A line is its text with its line feed.
-- Assumes nothing.
use Rattle.std.specs.Prelude.{ℕ, ◌+◌, ◌-◌, ◌*◌, Bool, cond, ◌&&◌, List, length, take, drop, ◌==◌, nat_le, slice_index, Err, Ok, Result}
use Rattle.srecord.specs.Layout.{letter_s, kind0, kind1, kind9, is_paired, paired_bytes, checksum}
use Rattle.srecord.specs.declared.line.Line.{Line}
use Rattle.srecord.specs.declared.line.Line.TheVariants.{Header, Data, End}
use Rattle.answers.specs.declared.Refusal.{Refusal}
use Rattle.answers.specs.declared.Refusal.TheVariants.{LineShape, Checksum, PastTop}

pub data Meaning : Type 0 where
  -- S0: its data lands nowhere
  heading : List ℕ → Meaning
  -- S1: an address, and the data from there on
  piece : ℕ → List ℕ → Meaning
  -- S9: the start
  start : ℕ → Meaning
  refused : Refusal → Meaning

-- the most data bytes of a line
abbrev pub most_data : ℕ
most_data = 252

-- whether a line of this kind may have n data bytes
abbrev pub may_hold : ℕ → ℕ → Bool
may_hold kind n = cond (kind == kind0) (nat_le n most_data) (cond (kind == kind1) (nat_le 1 n && nat_le n most_data) (kind == kind9 && n == 0))

-- of the bytes of a line: the count is that of the bytes after it, and the data between address and checksum are as many as the kind may have
abbrev pub is_counted : ℕ → List ℕ → Bool
is_counted kind bs = nat_le 4 (length bs) && (slice_index bs 0 == length bs - 1 && may_hold kind (length bs - 4))

abbrev pub line_bytes : List ℕ → List ℕ
line_bytes text = paired_bytes (drop 2 text)

unfoldable pub is_shaped : List ℕ → Bool
is_shaped text = slice_index text 0 == letter_s && (is_paired (drop 2 text) && is_counted (slice_index text 1) (line_bytes text))

-- the last byte is the checksum of those before it
unfoldable pub is_summed : List ℕ → Bool
is_summed bs = slice_index bs (length bs - 1) == checksum (take (length bs - 1) bs)

abbrev pub line_address : List ℕ → ℕ
line_address bs = 256 * slice_index bs 1 + slice_index bs 2

abbrev pub data_of : List ℕ → List ℕ
data_of bs = take (length bs - 4) (drop 3 bs)

-- the address and data of a line of this kind; data end at FFFF at the latest
abbrev pub meant : ℕ → ℕ → List ℕ → Meaning
meant kind a d =
    cond (kind == kind0) (heading d)
    (cond (kind == kind9) (start a)
    (cond (nat_le (a + length d) 65536) (piece a d) (refused PastTop)))

unfoldable pub line_of : List ℕ → Meaning
line_of text =
    cond (is_shaped text)
    (cond (is_summed (line_bytes text)) (meant (slice_index text 1) (line_address (line_bytes text)) (data_of (line_bytes text))) (refused Checksum))
    (refused LineShape)

-- what `line_of` answers: the meaning, with the count of the data in place of the data
abbrev pub line_answer : Meaning → Result Line Refusal
line_answer (heading d) = Ok Header
line_answer (piece a d) = Ok (Data a (length d))
line_answer (start a) = Ok (End a)
line_answer (refused r) = Err r
