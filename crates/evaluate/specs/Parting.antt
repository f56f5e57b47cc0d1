-- Where the two flag settings part in a whole instruction: in V alone, where an operation that parts is done at its listed inputs.
-- Assumes nothing.
use Rattle.std.specs.Prelude.{ℕ, ◌<◌, List}
use Rattle.registers.specs.declared.Flags.TheVariants.{Bought, Manual}
use Rattle.registers.specs.declared.Set.{Set}
use Rattle.memory.specs.Map.{byte_at}
use Rattle.machine.specs.Machine.{settings_with}
use Rattle.machine.specs.declared.fence.Range.{Range}
use Rattle.opcodes.specs.declared.MemoryOp.TheVariants.{OnMemory}
use Rattle.opcodes.specs.declared.Op.{Op}
use Rattle.opcodes.specs.declared.Op.TheVariants.{Registers, Memory}
use Rattle.opcodes.specs.declared.RegisterOp.{RegisterOp}
use Rattle.opcodes.specs.declared.Unary.{Unary}
use Rattle.operations.specs.Parting.{EffectsPart, UnaryParts, OpParts}
use Rattle.evaluate.specs.Evaluate.{evaluate_of}

-- the operations that part, with the registers r and the byte m at the effective address
pub data InstructionParts (r : Set) (m : ℕ) : Op → Type 0 where
  on-registers : {op : RegisterOp} → OpParts r m op → InstructionParts r m (Registers op)
  on-memory : {op : Unary} → UnaryParts r.cc m op → InstructionParts r m (Memory (OnMemory op))

-- the law: as bought on the left, by the manual on the right
abbrev pub InstructionsPart : Type 0
InstructionsPart =
    (op : Op) (top : ℕ) (ranges : List Range) (mem : List ℕ) (r : Set) (ea : ℕ) → r.a < 256 → r.b < 256 → byte_at mem ea < 256
    → EffectsPart (evaluate_of op (settings_with top Bought ranges) mem r ea) (evaluate_of op (settings_with top Manual ranges) mem r ea) (InstructionParts r (byte_at mem ea) op)
