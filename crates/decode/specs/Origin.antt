-- Where an instruction comes from: its entry stands in the opcode map, and its operand is read in the entry's mode.
-- Assumes nothing.
use Rattle.std.specs.Prelude.{◌≡◌, ℕ, ◌<◌, List, Err, Ok, Result, Some}
use Rattle.memory.specs.Fits.{Bytes}
use Rattle.opcodes.specs.Manual.{entry_of}
use Rattle.opcodes.specs.declared.Page.{Page}
use Rattle.decode.specs.Decode.{decoded_at}
use Rattle.decode.specs.Operand.{operand_at}
use Rattle.decode.specs.declared.instruction.Instruction.{Instruction}
use Rattle.answers.specs.declared.Refusal.{Refusal}

pub record Origin (mem : List ℕ) (i : Instruction) : Type 0 where
  pub page : Page
  pub code : ℕ
  pub after : ℕ
  pub byte : code < 256
  pub entry : entry_of page code ≡ Some i.entry
  pub operand : operand_at i.entry.mode mem after ≡ Ok (i.operand, i.next)

abbrev pub OriginOf : List ℕ → Result Instruction Refusal → Type 0
OriginOf mem (Ok i) = Origin mem i
OriginOf mem (Err x) = Unit {0}

abbrev pub DecodeOrigin : Type 0
DecodeOrigin = (mem : List ℕ) (pc : ℕ) → Bytes mem → OriginOf mem (decoded_at mem pc)
