-- Rows 1, 2 and 3 of the opcode map: instructions by name, the branches, LEA, PSH and PUL.
-- Assumes nothing.
use Rattle.std.specs.Prelude.{ℕ, ◌/◌, ◌%◌, cond, [], ◌∷◌, eqb, get_or, None, Option}
use Rattle.registers.specs.declared.Index.TheVariants.{X as index_x, Y as index_y, U as index_u, S as index_s}
use Rattle.registers.specs.declared.Stack.TheVariants.{S as stack_s, U as stack_u}
use Rattle.opcodes.specs.declared.Cond.{Cond}
use Rattle.opcodes.specs.declared.Cond.TheVariants.{Ra, Rn, Hi, Ls, Cc, Cs, Ne, Eq, Vc, Vs, Pl, Mi, Ge, Lt, Gt, Le}
use Rattle.opcodes.specs.declared.MemoryOp.{MemoryOp}
use Rattle.opcodes.specs.declared.MemoryOp.TheVariants.{Bsr, Rts, Rti, Swi as Interrupt, Cwai, Sync, Push, Pull}
use Rattle.opcodes.specs.declared.Mode.{Mode}
use Rattle.opcodes.specs.declared.Mode.TheVariants.{Inherent, Immediate8, Indexed, Relative8, Relative16}
use Rattle.opcodes.specs.declared.Op.TheVariants.{Registers, Memory}
use Rattle.opcodes.specs.declared.Page.{Page}
use Rattle.opcodes.specs.declared.Page.TheVariants.{Plain, Ten, Eleven}
use Rattle.opcodes.specs.declared.RegisterOp.{RegisterOp}
use Rattle.opcodes.specs.declared.RegisterOp.TheVariants.{Lea, Branch, Nop, Daa, Sex, Mul, Abx, Andcc, Orcc, Exg, Tfr}
use Rattle.opcodes.specs.declared.Software.TheVariants.{Swi, Swi2, Swi3}
use Rattle.fields.specs.Entries.{entry_at}
use Rattle.opcodes.specs.declared.Entry.{Entry}

abbrev pub registers : RegisterOp → Mode → ℕ → Option Entry
registers op mode n = entry_at Plain (Registers op) mode n

abbrev pub memory : MemoryOp → Mode → ℕ → Option Entry
memory op mode n = entry_at Plain (Memory op) mode n

-- ---- row 1

unfoldable pub row_one : ℕ → Option Entry
row_one column =
    get_or
    (None
    ∷ None
    ∷ registers Nop Inherent 2
    ∷ memory Sync Inherent 4
    ∷ None
    ∷ None
    ∷ registers (Branch Ra) Relative16 5
    ∷ memory Bsr Relative16 9
    ∷ None
    ∷ registers Daa Inherent 2
    ∷ registers Orcc Immediate8 3
    ∷ None
    ∷ registers Andcc Immediate8 3
    ∷ registers Sex Inherent 2
    ∷ registers Exg Immediate8 8
    ∷ registers Tfr Immediate8 6
    ∷ [])
    column None

-- ---- row 2: bits 3 to 1 name a pair of conditions, bit 0 one of the pair

abbrev pub one_of_pair : ℕ → Cond → Cond → Cond
one_of_pair column first second = cond (eqb (column % 2) 0) first second

unfoldable pub branch_condition : ℕ → Cond
branch_condition column =
    let pair = one_of_pair column in
    get_or (pair Ra Rn ∷ pair Hi Ls ∷ pair Cc Cs ∷ pair Ne Eq ∷ pair Vc Vs ∷ pair Pl Mi ∷ pair Ge Lt ∷ []) (column / 2) (pair Gt Le)

abbrev pub short_branch : ℕ → Option Entry
short_branch column = registers (Branch (branch_condition column)) Relative8 3

-- after a byte 10; LBRA stands in row 1
abbrev pub long_branch : Page → ℕ → Option Entry
long_branch Plain column = None
long_branch Ten column = cond (eqb column 0) None (entry_at Ten (Registers (Branch (branch_condition column))) Relative16 4)
long_branch Eleven column = None

-- ---- row 3: bits 3 and 2 tell the groups apart

abbrev pub address_load : ℕ → Option Entry
address_load column =
    get_or (registers (Lea index_x) Indexed 2 ∷ registers (Lea index_y) Indexed 2 ∷ registers (Lea index_s) Indexed 2 ∷ []) (column % 4)
    (registers (Lea index_u) Indexed 2)

abbrev pub stack_transfer : ℕ → Option Entry
stack_transfer column =
    get_or
    (memory (Push stack_s) Immediate8 5 ∷ memory (Pull stack_s) Immediate8 5 ∷ memory (Push stack_u) Immediate8 5 ∷ [])
    (column % 4) (memory (Pull stack_u) Immediate8 5)

-- columns 8 to F
abbrev pub by_name : ℕ → Option Entry
by_name column =
    get_or
    (None
    ∷ None
    ∷ None
    ∷ None
    ∷ None
    ∷ None
    ∷ None
    ∷ None
    ∷ None
    ∷ memory Rts Inherent 5
    ∷ registers Abx Inherent 3
    ∷ memory Rti Inherent 6
    ∷ memory Cwai Immediate8 20
    ∷ registers Mul Inherent 11
    ∷ None
    ∷ memory (Interrupt Swi) Inherent 19
    ∷ [])
    column None

unfoldable pub row_three : ℕ → Option Entry
row_three column = get_or (address_load column ∷ stack_transfer column ∷ []) (column / 4) (by_name column)

-- SWI2 and SWI3 stand where SWI stands on the plain page
abbrev software : Page → Option Entry
software Plain = None
software Ten = entry_at Ten (Memory (Interrupt Swi2)) Inherent 19
software Eleven = entry_at Eleven (Memory (Interrupt Swi3)) Inherent 19

abbrev pub software_interrupt : Page → ℕ → Option Entry
software_interrupt page column = cond (eqb column 0xF) (software page) None
