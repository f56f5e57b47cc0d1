-- An instruction of the opcode map: its size and base cycles follow from the page, the mode, and what the operation takes itself.
-- Assumes nothing.
use Rattle.std.specs.Prelude.{ℕ, ◌+◌, ◌/◌, ◌%◌, cond, [], ◌∷◌, eqb, get_or, None, Option}
use Rattle.opcodes.specs.Manual.{instruction}
use Rattle.opcodes.specs.declared.Mode.{Mode}
use Rattle.opcodes.specs.declared.Mode.TheVariants.{Inherent, Immediate8, Immediate16, Direct, Indexed, Extended, Relative8, Relative16}
use Rattle.opcodes.specs.declared.Op.{Op}
use Rattle.opcodes.specs.declared.Page.{Page}
use Rattle.opcodes.specs.declared.Page.TheVariants.{Plain, Ten, Eleven}
use Rattle.opcodes.specs.declared.Entry.{Entry}

-- the byte before the opcode, which takes one cycle
abbrev pub prefix_bytes : Page → ℕ
prefix_bytes Plain = 0
prefix_bytes Ten = 1
prefix_bytes Eleven = 1

-- the bytes after the opcode; of an indexed operand the post-byte alone
abbrev pub operand_bytes : Mode → ℕ
operand_bytes Inherent = 0
operand_bytes Immediate8 = 1
operand_bytes Immediate16 = 2
operand_bytes Direct = 1
operand_bytes Indexed = 1
operand_bytes Extended = 2
operand_bytes Relative8 = 1
operand_bytes Relative16 = 2

-- the cycles to find an operand in memory
abbrev pub reach_cycles : Mode → ℕ
reach_cycles Inherent = 0
reach_cycles Immediate8 = 0
reach_cycles Immediate16 = 0
reach_cycles Direct = 2
reach_cycles Indexed = 2
reach_cycles Extended = 3
reach_cycles Relative8 = 0
reach_cycles Relative16 = 0

-- n cycles are the operation's own
abbrev pub entry_at : Page → Op → Mode → ℕ → Option Entry
entry_at page op mode n =
    instruction op mode (prefix_bytes page + 1 + operand_bytes mode) (prefix_bytes page + n + reach_cycles mode)

-- rows 8 to F, bits 5 and 4: the mode; an immediate operand is as wide as the operation
abbrev pub mode_of : ℕ → Mode → Mode
mode_of code immediate = get_or (immediate ∷ Direct ∷ Indexed ∷ []) (code / 16 % 4) Extended

-- a store has no immediate form
abbrev pub unless_immediate : ℕ → Option Entry → Option Entry
unless_immediate code place = cond (eqb (code / 16 % 4) 0) None place
