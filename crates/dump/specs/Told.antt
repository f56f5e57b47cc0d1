-- What is printed of two dumps: a line for each entry of their differences. A field has its name and both values, a run its first and its last
-- address. The wait state and the mark are words, every other number is hexadecimal, two digits for each byte that the record has for it.
-- Assumes nothing.
use Rattle.std.specs.Prelude.{ℕ, zero, suc, ◌+◌, ◌*◌, ◌≤◌, ◌≡◌, cond, ◌&&◌, List, [], ◌∷◌, ◌++◌, eqb, ltb, length, get_or, take, drop}
use Rattle.std.proofs.lemmas.List.Edits.{sets}
use Rattle.answers.specs.Numbers.{number_of}
use Rattle.answers.specs.declared.Refusal.TheVariants.{Malformed}
use Rattle.text.specs.Hex.{hex2}
use Rattle.text.specs.Lines.{alone, line_feed}
use Rattle.registers.specs.ConditionCodes.{ascii}
use Rattle.machine.specs.Record.{Field, A, B, X, Y, U, S, PC, DP, CC, Waiting, Armed, Cycles, Instructions, fields, rank, width, bytes, machine_of}
use Rattle.difference.specs.Differences.{Difference, differences}
use Rattle.difference.specs.Compare.{run_number, as_entry, entry_at}
use Rattle.difference.specs.declared.entries.Entry.{Entry}
use Rattle.dump.specs.declared.lines.Shown.{Shown}
use Rattle.dump.specs.declared.lines.Shown.TheVariants.{Byte, Word, Counter, WaitState, Mark}
use Rattle.dump.specs.Dumps.{dump_length, is_dump, memory_in}

-- ---- words

abbrev pub field_text : Field → List ℕ
field_text A = ascii "A"
field_text B = ascii "B"
field_text X = ascii "X"
field_text Y = ascii "Y"
field_text U = ascii "U"
field_text S = ascii "S"
field_text PC = ascii "PC"
field_text DP = ascii "DP"
field_text CC = ascii "CC"
field_text Waiting = ascii "wait"
field_text Armed = ascii "mark"
field_text Cycles = ascii "cycles"
field_text Instructions = ascii "instructions"

unfoldable pub wait_text : ℕ → List ℕ
wait_text zero = ascii "running"
wait_text (suc zero) = ascii "CWAI"
wait_text (suc (suc n)) = ascii "SYNC"

unfoldable pub mark_text : ℕ → List ℕ
mark_text zero = ascii "unarmed"
mark_text (suc n) = ascii "armed"

-- bytes in hexadecimal
unfoldable pub hex_bytes : List ℕ → List ℕ
hex_bytes [] = []
hex_bytes (b ∷ bs) = hex2 b ++ hex_bytes bs

-- the low n bytes of a number
unfoldable pub hex_of : ℕ → ℕ → List ℕ
hex_of n x = hex_bytes (bytes n x)

-- a field's value
unfoldable pub value_text : Field → ℕ → List ℕ
value_text f n = cond (eqb (rank f) (rank Waiting)) (wait_text n) (cond (eqb (rank f) (rank Armed)) (mark_text n) (hex_of (width f) n))

-- ---- lines

-- NAME LEFT RIGHT, or memory FIRST LAST
unfoldable pub spaced_line : List ℕ → List ℕ → List ℕ → List ℕ
spaced_line name left right = name ++ (32 ∷ left ++ (32 ∷ right ++ (line_feed ∷ [])))

-- the field of a number; above them a run
abbrev pub field_at : ℕ → Field
field_at what = get_or fields what A

unfoldable pub entry_line : Entry → List ℕ
entry_line e =
    cond (ltb e.what run_number)
    (spaced_line (field_text (field_at e.what)) (value_text (field_at e.what) e.left) (value_text (field_at e.what) e.right))
    (spaced_line (ascii "memory") (hex_of 2 e.left) (hex_of 2 e.right))

unfoldable pub told_lines : List Difference → List ℕ
told_lines [] = []
told_lines (d ∷ ds) = entry_line (as_entry d) ++ told_lines ds

-- the lines of n entries of a list, from the k-th on
unfoldable pub list_lines : List ℕ → ℕ → ℕ → List ℕ
list_lines list zero k = []
list_lines list (suc n) k = entry_line (entry_at list k) ++ list_lines list n (suc k)

-- ---- as it is written

-- a part at a place: where it ends, and the output afterwards
pub record Wrote (out : List ℕ) (at : ℕ) (part : List ℕ) (end : ℕ) (after : List ℕ) : Type 0 where
  pub ends : end ≡ at + length part
  pub laid : after ≡ sets out at part

-- an entry's name, and how its two numbers are shown

abbrev pub name_text : ℕ → List ℕ
name_text what = cond (ltb what run_number) (field_text (field_at what)) (ascii "memory")

abbrev pub shown_as : Field → Shown
shown_as A = Byte
shown_as B = Byte
shown_as X = Word
shown_as Y = Word
shown_as U = Word
shown_as S = Word
shown_as PC = Word
shown_as DP = Byte
shown_as CC = Byte
shown_as Waiting = WaitState
shown_as Armed = Mark
shown_as Cycles = Counter
shown_as Instructions = Counter

abbrev pub shown_at : ℕ → Shown
shown_at what = cond (ltb what run_number) (shown_as (field_at what)) Word

unfoldable pub shown_text : Shown → ℕ → List ℕ
shown_text Byte n = hex_of 1 n
shown_text Word n = hex_of 2 n
shown_text Counter n = hex_of 8 n
shown_text WaitState n = wait_text n
shown_text Mark n = mark_text n

-- ---- two dumps, one after the other; where one is none, the number 16

abbrev pub left_dump : List ℕ → List ℕ
left_dump input = take dump_length input

abbrev pub right_dump : List ℕ → List ℕ
right_dump input = drop dump_length input

abbrev pub dump_differences : List ℕ → List ℕ → List Difference
dump_differences l r = differences (machine_of l) (memory_in l) (machine_of r) (memory_in r)

unfoldable pub differences_told : List ℕ → List ℕ
differences_told input =
    cond (is_dump (left_dump input) && is_dump (right_dump input))
    (told_lines (dump_differences (left_dump input) (right_dump input)))
    (alone (number_of Malformed))

-- the law: a line has at most 48 bytes, and there are at most 32,781
abbrev pub ToldFits : Type 0
ToldFits = (input : List ℕ) → length (differences_told input) ≤ 48 * 32781
