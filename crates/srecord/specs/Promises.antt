-- What is promised of reading and writing together.
-- Assumes nothing.
use Rattle.std.specs.Prelude.{◌≡◌, ℕ, ◌<◌, true, List, [], length, replicate, slice_index, Err, Ok}
use Rattle.srecord.specs.Layout.{kind0, kind1, kind9, line_text}
use Rattle.srecord.specs.Line.{Meaning, heading, piece, start, refused, may_hold, meant, line_of}
use Rattle.srecord.specs.File.{loaded_of, memory_loaded}
use Rattle.srecord.specs.Written.{text_for, output_written, output_after}
use Rattle.answers.specs.declared.Refusal.{Refusal}

-- every element is a byte
abbrev pub AllBytes : List ℕ → Type 0
AllBytes l = (i : ℕ) → slice_index l i < 256

-- a zeroed memory
unfoldable pub blank : List ℕ
blank = replicate 65536 0

-- a line of the format: the text of a kind, an address and as many data bytes as the kind may have
pub record IsLine (text : List ℕ) (kind a : ℕ) (d : List ℕ) : Type 0 where
  pub address : a < 65536
  pub values : AllBytes d
  pub count : may_hold kind (length d) ≡ true
  pub exact : text ≡ line_text kind a d

-- a line of the format means what it says
abbrev pub LineReads : Type 0
LineReads = (text : List ℕ) (kind a : ℕ) (d : List ℕ) → IsLine text kind a d → line_of text ≡ meant kind a d

-- the text is a line of the format with this meaning; of S0, whose address says nothing, with some address
abbrev pub StandsFor : List ℕ → Meaning → Type 0
StandsFor text (heading d) = (a : ℕ) × IsLine text kind0 a d
StandsFor text (piece a d) = IsLine text kind1 a d
StandsFor text (start a) = IsLine text kind9 a []
StandsFor text (refused r) = Unit {0}

-- a line that is not refused is exactly the text of its kind, address and data
abbrev pub LineExact : Type 0
LineExact = (text : List ℕ) → StandsFor text (line_of text)

-- what is refused leaves memory, and the output, as it was, every byte
pub record RefusedKeeps : Type 0 where
  pub memory : (mem file : List ℕ) (r : Refusal) → loaded_of mem file ≡ Err r → memory_loaded mem file ≡ mem
  pub output : (mem : List ℕ) (a : ℕ) (out : List ℕ) (r : Refusal) → output_written mem a out ≡ Err r → output_after mem a out ≡ out

-- what is written of a memory and a start reads back, over a zeroed memory
abbrev pub ReadsBack : Type 0
ReadsBack =
    (mem : List ℕ) (a : ℕ) → length mem ≡ 65536 → AllBytes mem → a < 65536
    → (loaded_of blank (text_for mem a) ≡ Ok a) × (memory_loaded blank (text_for mem a) ≡ mem)

-- one text is written of one memory and start only
abbrev pub OneForm : Type 0
OneForm =
    (mem other : List ℕ) (a b : ℕ) → length mem ≡ 65536 → length other ≡ 65536 → AllBytes mem → AllBytes other → a < 65536 → b < 65536
    → text_for mem a ≡ text_for other b → (mem ≡ other) × (a ≡ b)
