-- What a file of S-records means: its lines in order, the answer, and memory afterwards.
-- Assumes nothing.
use Rattle.std.specs.Prelude.{ℕ, ◌+◌, cond, List, [], ◌∷◌, map, length, drop, ◌==◌, Err, Ok, Result}
use Rattle.std.proofs.lemmas.List.Edits.{sets}
use Rattle.text.specs.Lines.{line_feed}
use Rattle.srecord.specs.Line.{Meaning, heading, piece, start, refused, line_of}
use Rattle.answers.specs.declared.Refusal.{Refusal}
use Rattle.answers.specs.declared.Refusal.TheVariants.{MemoryLength, LineShape, NoEnd}

-- a character before the lines that follow it
abbrev pub in_front_of : ℕ → List (List ℕ) → List (List ℕ)
in_front_of c [] = (c ∷ []) ∷ []
in_front_of c (l ∷ ls) = (c ∷ l) ∷ ls

-- a text cut after each line feed; only the last line may have none
unfoldable pub lines_of : List ℕ → List (List ℕ)
lines_of [] = []
lines_of (c ∷ t) = cond (c == line_feed) ((c ∷ []) ∷ lines_of t) (in_front_of c (lines_of t))

-- the first line, if there is one
abbrev pub first : List (List ℕ) → List ℕ
first [] = []
first (l ∷ ls) = l

-- where the line that starts at an index ends: past its line feed, or at the end of the text
unfoldable pub line_end : List ℕ → ℕ → ℕ
line_end file from = from + length (first (lines_of (drop from file)))

unfoldable pub meanings_of : List ℕ → List Meaning
meanings_of file = map line_of (lines_of file)

-- S9 and nothing after it
abbrev pub ended : ℕ → List Meaning → Result ℕ Refusal
ended a [] = Ok a
ended a (m ∷ ms) = Err LineShape

-- the first bad line decides, and a line after S9 is bad; if none is, there has to be an S9
unfoldable pub judged : List Meaning → Result ℕ Refusal
judged [] = Err NoEnd
judged (heading d ∷ ms) = judged ms
judged (piece a d ∷ ms) = judged ms
judged (start a ∷ ms) = ended a ms
judged (refused r ∷ ms) = Err r

-- memory with the data of each S1 line stored from its address on, raw and in order
unfoldable pub landed : List Meaning → List ℕ → List ℕ
landed [] mem = mem
landed (heading d ∷ ms) mem = landed ms mem
landed (piece a d ∷ ms) mem = landed ms (sets mem a d)
landed (start a ∷ ms) mem = landed ms mem
landed (refused r ∷ ms) mem = landed ms mem

-- the start, or why the file is refused
unfoldable pub loaded_of : List ℕ → List ℕ → Result ℕ Refusal
loaded_of mem file = cond (length mem == 65536) (judged (meanings_of file)) (Err MemoryLength)

-- a refused file leaves memory as it was
abbrev pub unless_refused : Result ℕ Refusal → List ℕ → List ℕ → List ℕ
unless_refused (Ok a) new old = new
unless_refused (Err r) new old = old

unfoldable pub memory_loaded : List ℕ → List ℕ → List ℕ
memory_loaded mem file = unless_refused (loaded_of mem file) (landed (meanings_of file) mem) mem
