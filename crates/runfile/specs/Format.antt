-- The run file (document 01, section "The run program"): what its bytes say. `file` is the list of its bytes.
-- Assumes nothing.
use Rattle.std.specs.Prelude.{ℕ, zero, suc, ◌+◌, ◌-◌, ◌*◌, ◌≤◌, ◌<◌, ◌≡◌, Bool, cond, ◌&&◌, List, [], ◌∷◌, eqb, leb, length, get_or, take, drop, Err, None, Ok, Option, Result, Some}
use Rattle.std.proofs.lemmas.List.Edits.{sets}
use Rattle.answers.specs.declared.Refusal.TheVariants.{Malformed}
use Rattle.registers.specs.declared.Flags.{Flags}
use Rattle.registers.specs.declared.Flags.TheVariants.{Bought, Manual}
use Rattle.runfile.specs.declared.FileSettings.{FileSettings}
use Rattle.runfile.specs.declared.Operation.{Operation}
use Rattle.runfile.specs.declared.Operation.TheVariants.{Step, Irq, Firq, Nmi, Reset, Undo}
use Rattle.answers.specs.declared.Refusal.{Refusal}
use Rattle.runfile.specs.declared.Start.{Start}

-- what is read at a place of the file, and the place after it; or `missing`, where the file has something else or ends
pub data Read (A : Type 0) : Type 0 where
  got : A → ℕ → Read A
  missing : Read A

-- read one thing, then the next from the place after it
abbrev pub and_then : {A B : Type 0} → Read A → (A → ℕ → Read B) → Read B
and_then (got a at) f = f a at
and_then missing f = missing

-- the file has n bytes from a place on
abbrev pub room : List ℕ → ℕ → ℕ → Bool
room file at n = leb (at + n) (length file)

-- two bytes, high byte first
abbrev pub word_in : List ℕ → ℕ → ℕ
word_in file at = 256 * get_or file at 0 + get_or file (at + 1) 0

unfoldable pub two_bytes_at : List ℕ → ℕ → Read ℕ
two_bytes_at file at = cond (room file at 2) (got (word_in file at) (at + 2)) missing

-- ---- settings

-- a file sets these two. It names no profile: a run allows all stores
abbrev pub file_settings : ℕ → Flags → FileSettings
file_settings top f = record { ram_top = top; flags = f }

-- 0 as bought, 1 manual
abbrev pub flag_numbered : ℕ → ℕ → Read Flags
flag_numbered b next = cond (eqb b 0) (got Bought next) (cond (eqb b 1) (got Manual next) missing)

unfoldable pub flag_at : List ℕ → ℕ → Read Flags
flag_at file at = cond (room file at 1) (flag_numbered (get_or file at 0) (at + 1)) missing

-- the setting of a file that gives none (document 02, request [6])
abbrev pub default_flags : Flags
default_flags = Manual

abbrev pub flagged_at : List ℕ → ℕ → ℕ → Read FileSettings
flagged_at file top at = and_then (flag_at file at) λ f next. got (file_settings top f) next

-- count 2: ram_top; count 3: ram_top and flags
unfoldable pub settings_at : List ℕ → ℕ → ℕ → Read FileSettings
settings_at file count at =
    and_then (two_bytes_at file at) λ top next.
    cond (eqb count 2) (got (file_settings top default_flags) next)
    (cond (eqb count 3) (flagged_at file top next)
    missing)

-- ---- memory pieces

pub record Piece : Type 0 where
  pub address : ℕ
  pub bytes : List ℕ

-- a piece's address and length, and the place of its bytes: all of them are there, and none is to go past FFFF
unfoldable pub span_at : List ℕ → ℕ → Read (ℕ × ℕ)
span_at file at =
    and_then (two_bytes_at file at) λ address next.
    and_then (two_bytes_at file next) λ size from.
    cond (room file from size && leb (address + size) 0x10000) (got (address, size) from) missing

unfoldable pub piece_at : List ℕ → ℕ → Read Piece
piece_at file at = and_then (span_at file at) λ s from. got (record { address = s.0; bytes = take s.1 (drop from file) }) (from + s.1)

-- n pieces, one after another
unfoldable pub pieces_at : List ℕ → ℕ → ℕ → Read (List Piece)
pieces_at file zero at = got [] at
pieces_at file (suc n) at =
    and_then (piece_at file at) λ p next.
    and_then (pieces_at file n next) λ ps end.
    got (p ∷ ps) end

-- ---- operations

-- the operation of each number
abbrev pub operation_numbered : ℕ → Operation
operation_numbered b = get_or (Step ∷ Irq ∷ Firq ∷ Nmi ∷ Reset ∷ Undo ∷ []) b Step

unfoldable pub operation_at : List ℕ → ℕ → Read Operation
operation_at file at = cond (room file at 1 && leb (get_or file at 0) 5) (got (operation_numbered (get_or file at 0)) (at + 1)) missing

-- n operations, one after another
unfoldable pub operations_at : List ℕ → ℕ → ℕ → Read (List Operation)
operations_at file zero at = got [] at
operations_at file (suc n) at =
    and_then (operation_at file at) λ o next.
    and_then (operations_at file n next) λ os end.
    got (o ∷ os) end

-- ---- the file

pub record RunFile : Type 0 where
  pub settings : FileSettings
  pub pieces : List Piece
  pub operations : List Operation

-- the second and the third section, each after its count
abbrev pub after_settings : List ℕ → FileSettings → ℕ → Read RunFile
after_settings file s at =
    and_then (two_bytes_at file at) λ n from.
    and_then (pieces_at file n from) λ ps next.
    and_then (two_bytes_at file next) λ m start.
    and_then (operations_at file m start) λ os end.
    got (record { settings = s; pieces = ps; operations = os }) end

-- the sections after the settings, where these could be read
abbrev pub settled : List ℕ → Read FileSettings → Read RunFile
settled file r = and_then r λ s next. after_settings file s next

unfoldable pub sections_of : List ℕ → Read RunFile
sections_of file = and_then (two_bytes_at file 0) λ count at. settled file (settings_at file count at)

pub data Parsed : Type 0 where
  says : RunFile → Parsed
  malformed : Parsed

-- malformed if a section is missing, or if bytes follow the last
abbrev pub wholly : ℕ → Read RunFile → Parsed
wholly size (got f end) = cond (eqb end size) (says f) malformed
wholly size missing = malformed

-- what a file says; it is malformed if it is longer than 32,768 bytes, if a section is missing, or if bytes follow the last
unfoldable pub parsed : List ℕ → Parsed
parsed file = cond (leb (length file) 32768) (wholly (length file) (sections_of file)) malformed

-- ---- what is answered, and what is placed

abbrev pub next_of : Read Operation → Option Operation
next_of (got o next) = Some o
next_of missing = None

-- the operations are the last bytes of a sound file of this size
abbrev pub loaded : ℕ → Parsed → Result Start Refusal
loaded size (says f) = Ok (record { operations = size - length f.operations; settings = f.settings })
loaded size malformed = Err Malformed

-- pieces laid raw, in order
abbrev pub pieces_laid : List Piece → List ℕ → List ℕ
pieces_laid [] mem = mem
pieces_laid (p ∷ ps) mem = pieces_laid ps (sets mem p.address p.bytes)

-- a malformed file places nothing
abbrev pub placed : Parsed → List ℕ → List ℕ
placed (says f) mem = pieces_laid f.pieces mem
placed malformed mem = mem

-- ---- the laws

-- a sound file's operations are its last bytes, in order: `operation_at` gives each of them from where `load` says that they start
abbrev pub InOrder : Type 0
InOrder =
    (file : List ℕ) (f : RunFile) → parsed file ≡ says f
    → (i : ℕ) → i < length f.operations → next_of (operation_at file (length file - length f.operations + i)) ≡ Some (get_or f.operations i Step)

-- it has no more operations than bytes, and no more than 32,768 bytes
abbrev pub TheyFit : Type 0
TheyFit = (file : List ℕ) (f : RunFile) → parsed file ≡ says f → length f.operations ≤ length file

abbrev pub NotLonger : Type 0
NotLonger = (file : List ℕ) (f : RunFile) → parsed file ≡ says f → length file ≤ 32768

-- and none follows them
abbrev pub ThenNone : Type 0
ThenNone = (file : List ℕ) → next_of (operation_at file (length file)) ≡ None

-- a file that names no flags says what it says with flags by the manual named: count 2, and count 3 with flag 1, before the same sections. The
-- second file is longer by a byte; both have to be short enough to be taken.
abbrev pub DefaultNamed : Type 0
DefaultNamed =
    (high low : ℕ) (sections : List ℕ) → length sections + 5 ≤ 32768
    → parsed (0 ∷ 2 ∷ high ∷ low ∷ sections) ≡ parsed (0 ∷ 3 ∷ high ∷ low ∷ 1 ∷ sections)

-- ---- of the private functions

-- the place after what was read; if it is missing, a place past a file of this size
abbrev pub end_of : {A : Type 0} → ℕ → Read A → ℕ
end_of size (got x end) = end
end_of size missing = size + 1

-- what is laid of pieces that were read
abbrev pub laid_of : Read (List Piece) → List ℕ → List ℕ
laid_of (got ps end) mem = pieces_laid ps mem
laid_of missing mem = mem
