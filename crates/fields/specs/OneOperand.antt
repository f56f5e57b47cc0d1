-- Rows 0 and 4 to 7 of the opcode map: one operand. The column names the operation.
-- Assumes nothing.
use Rattle.std.specs.Prelude.{ℕ, [], ◌∷◌, get_or, None, Option, Some}
use Rattle.opcodes.specs.declared.Acc.{Acc}
use Rattle.opcodes.specs.declared.MemoryOp.TheVariants.{OnMemory}
use Rattle.opcodes.specs.declared.Mode.{Mode}
use Rattle.opcodes.specs.declared.Mode.TheVariants.{Inherent}
use Rattle.opcodes.specs.declared.Op.TheVariants.{Registers, Memory}
use Rattle.opcodes.specs.declared.Page.TheVariants.{Plain}
use Rattle.opcodes.specs.declared.RegisterOp.TheVariants.{OnAcc, TestAcc, TestMemory, Jmp}
use Rattle.opcodes.specs.declared.Unary.TheVariants.{Neg, Com, Lsr, Ror, Asr, Asl, Rol, Dec, Inc, Clr}
use Rattle.fields.specs.Entries.{entry_at}
use Rattle.fields.specs.declared.one_operand.OneOperand.{OneOperand}
use Rattle.fields.specs.declared.one_operand.OneOperand.TheVariants.{Change, Test, Jump}
use Rattle.opcodes.specs.declared.Entry.{Entry}

-- the sixteen columns
unfoldable pub one_operand : ℕ → Option OneOperand
one_operand column =
    get_or
    (Some (Change Neg)
    ∷ None
    ∷ None
    ∷ Some (Change Com)
    ∷ Some (Change Lsr)
    ∷ None
    ∷ Some (Change Ror)
    ∷ Some (Change Asr)
    ∷ Some (Change Asl)
    ∷ Some (Change Rol)
    ∷ Some (Change Dec)
    ∷ None
    ∷ Some (Change Inc)
    ∷ Some Test
    ∷ Some Jump
    ∷ Some (Change Clr)
    ∷ [])
    column None

-- rows 4 and 5: the operand is an accumulator, and there is no address to jump to
abbrev accumulator_place : Acc → Option OneOperand → Option Entry
accumulator_place acc (Some (Change op)) = entry_at Plain (Registers (OnAcc op acc)) Inherent 2
accumulator_place acc (Some Test) = entry_at Plain (Registers (TestAcc acc)) Inherent 2
accumulator_place acc (Some Jump) = None
accumulator_place acc None = None

unfoldable pub in_accumulator : Acc → ℕ → Option Entry
in_accumulator acc column = accumulator_place acc (one_operand column)

-- rows 0, 6 and 7: the operand is in memory
abbrev memory_place : Mode → Option OneOperand → Option Entry
memory_place mode (Some (Change op)) = entry_at Plain (Memory (OnMemory op)) mode 4
memory_place mode (Some Test) = entry_at Plain (Registers TestMemory) mode 4
memory_place mode (Some Jump) = entry_at Plain (Registers Jmp) mode 1
memory_place mode None = None

unfoldable pub in_memory : Mode → ℕ → Option Entry
in_memory mode column = memory_place mode (one_operand column)
