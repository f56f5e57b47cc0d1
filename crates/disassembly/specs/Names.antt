-- Registers in an operand: one, the two of TFR and EXG, and the list of PSH and PUL (manual, appendix A).
-- Assumes nothing.
use Rattle.std.specs.Prelude.{ℕ, ◌/◌, ◌%◌, cond, List, [], ◌∷◌, ◌++◌, ◌==◌}
use Prim.Native.Char.{code}
use Rattle.registers.specs.Names.{register_text, word_name, stack_word, other_stack}
use Rattle.registers.specs.declared.Name.{Name}
use Rattle.registers.specs.declared.Name.TheVariants.{A, B, X, Y, PC, DP, CC}
use Rattle.registers.specs.declared.Stack.{Stack}
use Rattle.operations.specs.Transfers.{transfer_name}

-- the letters of a register's name
unfoldable pub name_text : Name → List ℕ
name_text name = register_text name

abbrev pub comma : ℕ
comma = code ","

-- TFR, EXG: source and destination, X,Y
abbrev pub transfer_text : ℕ → List ℕ
transfer_text post = name_text (transfer_name (post / 16)) ++ (comma ∷ name_text (transfer_name (post % 16)))

-- PSH, PUL: a register whose bit, of this weight, is set; a comma before it where a lower bit is set too
unfoldable pub slot_text : ℕ → ℕ → Name → List ℕ
slot_text post weight name =
    cond (post / weight % 2 == 0) []
    (cond (post % weight == 0) (name_text name)
    (comma ∷ name_text name))

-- by the bits of the post-byte from the lowest on, the order in which PUL pulls: bit 6 is U for PSHS and PULS, S for PSHU and PULU
abbrev pub list_text : Stack → ℕ → List ℕ
list_text stack post =
    slot_text post 0x01 CC
    ++ (slot_text post 0x02 A
    ++ (slot_text post 0x04 B
    ++ (slot_text post 0x08 DP
    ++ (slot_text post 0x10 X
    ++ (slot_text post 0x20 Y
    ++ (slot_text post 0x40 (word_name (stack_word (other_stack stack)))
    ++ slot_text post 0x80 PC))))))
