-- The numbers returned (document 01, "Numbers returned"; from 17 on document 02, by request). This is their only table.
-- Assumes nothing.
use Rattle.std.specs.Prelude.{◌≡◌, ◌≢◌, ℕ, ◌<◌, Result, Ok, Err}
use Rattle.answers.specs.declared.Refusal.{Refusal}
use Rattle.answers.specs.declared.Refusal.TheVariants.{MemoryLength, Waiting, Opcode, PastEnd, PostByte, TransferCode, StackTooSmall, ZeroAtVector, JournalFull, NoRecord, JournalLength, DivisionByZero, LeftByte, NoRoom, Malformed, OutputShort, LineShape, Checksum, PastTop, NoEnd, PostByte8F, TooFewRecords, Fenced, SalvageShort, ListShort, LineShort}

abbrev pub number_of : Refusal → ℕ
-- memory is not 65,536 bytes
number_of MemoryLength = 1
-- step while in CWAI or SYNC
number_of Waiting = 2
-- opcode not in the manual
number_of Opcode = 3
-- a byte of the instruction, or the next address, lies past FFFF
number_of PastEnd = 4
-- post-byte refused
number_of PostByte = 5
-- TFR/EXG code refused
number_of TransferCode = 7
-- stack pointer smaller than the bytes to push
number_of StackTooSmall = 8
-- the vector to be taken leads to a zero byte
number_of ZeroAtVector = 9
-- the call's own record does not fit into the rest of the journal
number_of JournalFull = 10
-- undo with no record
number_of NoRecord = 11
-- bytes used beyond the journal's end, a count of records that cannot rise, or a record that is none
number_of JournalLength = 12
-- `div` or `modulo` by zero
number_of DivisionByZero = 13
-- `signed_offset` on an 8-bit left side
number_of LeftByte = 14
-- `get_as_bytes`, or a view, without room or record
number_of NoRoom = 15
-- malformed run file
number_of Malformed = 16
-- [1]: the output is shorter than the text to be written
number_of OutputShort = 17
-- [1]: a line of another shape, or one after S9
number_of LineShape = 20
-- [1]: a checksum that is not that of its line
number_of Checksum = 21
-- [1]: data past FFFF
number_of PastTop = 22
-- [1]: no S9
number_of NoEnd = 23
-- [2]: a post-byte of low form 8F that is not 9F
number_of PostByte8F = 24
-- [7]: the lent line is shorter than 48 bytes
number_of LineShort = 25
-- [9]: drop of more records than are held
number_of TooFewRecords = 26
-- [10]: the list is too short for all entries
number_of ListShort = 27
-- [14]: a byte would be stored at a place outside every range of the profile
number_of Fenced = 28
-- [14]: the output or the list of a salvage is too short
number_of SalvageShort = 29

-- 0 is done
abbrev pub number_of_answer : {A : Type 0} → Result A Refusal → ℕ
number_of_answer (Ok x) = 0
number_of_answer (Err x) = number_of x

-- the laws: no refusal is numbered 0, and no two refusals have one number
abbrev pub RefusedByANumber : Type 0
RefusedByANumber = (x : Refusal) → 0 < number_of x

-- [8]: 6 is withdrawn, and not used again
abbrev pub SixWithdrawn : Type 0
SixWithdrawn = (x : Refusal) → number_of x ≢ 6

abbrev pub NumbersApart : Type 0
NumbersApart = (x y : Refusal) → number_of x ≡ number_of y → x ≡ y

-- documents 01 and 02 number up to 63
abbrev pub NumbersSmall : Type 0
NumbersSmall = (x : Refusal) → number_of x < 64
