-- What becomes of each line of a torn file (document 02, [14]). Lines are the reader's: cut after each line feed, the last one may have none.
-- Assumes nothing.
use Rattle.std.specs.Prelude.{ℕ, ◌+◌, ◌-◌, Bool, true, false, ◌||◌, List, [], ◌∷◌, ◌++◌, take, drop, None, Option, Some}
use Rattle.answers.specs.declared.Refusal.{Refusal}
use Rattle.answers.specs.declared.Refusal.TheVariants.{LineShape}
use Rattle.srecord.specs.Line.{Meaning, heading, piece, start, refused, line_of}
use Rattle.srecord.specs.File.{lines_of, line_end}
use Rattle.salvage.specs.declared.Cursor.{Cursor}
use Rattle.salvage.specs.declared.Turn.{Turn}

-- the refusal by which a line is dropped: a line that the reader accepts is kept, up to and with the first good S9; `ended` says whether that one stands before the line
abbrev pub fate_of : Bool → Meaning → Option Refusal
fate_of true m = Some LineShape
fate_of false (heading d) = None
fate_of false (piece a d) = None
fate_of false (start a) = None
fate_of false (refused r) = Some r

abbrev pub is_end : Meaning → Bool
is_end (heading d) = false
is_end (piece a d) = false
is_end (start a) = true
is_end (refused r) = false

-- whether one of the lines is a good S9
unfoldable pub has_end : List (List ℕ) → Bool
has_end [] = false
has_end (l ∷ ls) = is_end (line_of l) || has_end ls

pub record Sifted : Type 0 where
  pub number : ℕ
  pub text : List ℕ
  pub fate : Option Refusal

-- lines after n others, with their numbers and what becomes of them
unfoldable pub sift : Bool → ℕ → List (List ℕ) → List Sifted
sift ended n [] = []
sift ended n (l ∷ ls) =
    record { number = n + 1; text = l; fate = fate_of ended (line_of l) } ∷ sift (ended || is_end (line_of l)) (n + 1) ls

-- all lines of a file, numbered from 1
abbrev pub sifted : List ℕ → List Sifted
sifted file = sift false 0 (lines_of file)

-- what each of them gives, one after the other
unfoldable pub gathered : {A : Type 0} → (Sifted → List A) → List Sifted → List A
gathered f [] = []
gathered f (s ∷ ss) = f s ++ gathered f ss

-- ---- the code's walk

abbrev pub passing : Cursor → ℕ → Option Refusal → Bool → Turn
passing at end fate ended = record { fate = fate; next = record { from = end; lines = at.lines + 1; ended = ended } }

-- the line from a place on
abbrev pub line_at : List ℕ → ℕ → List ℕ
line_at file from = take (line_end file from - from) (drop from file)

unfoldable pub turn_of : List ℕ → Cursor → Turn
turn_of file at =
    passing at (line_end file at.from) (fate_of at.ended (line_of (line_at file at.from))) (at.ended || is_end (line_of (line_at file at.from)))
