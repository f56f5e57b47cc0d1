-- The manual's mnemonics, from the operation and from whether a branch is a long one.
-- Assumes nothing.
use Rattle.std.specs.Prelude.{ℕ, ◌≡◌, Bool, cond, List, [], ◌∷◌, ◌++◌, ltb}
use Prim.Native.Char.{code}
use Prim.Native.String.{String}
use Rattle.registers.specs.ConditionCodes.{ascii}
use Rattle.registers.specs.Names.{index_word, stack_word}
use Rattle.registers.specs.declared.Word.{Word}
use Rattle.registers.specs.declared.Word.TheVariants.{D, X, Y, U, S}
use Rattle.opcodes.specs.Manual.{Row, Column, rows, each}
use Rattle.opcodes.specs.declared.Acc.{Acc}
use Rattle.opcodes.specs.declared.Acc.TheVariants.{A, B}
use Rattle.opcodes.specs.declared.Alu.{Alu as Binary}
use Rattle.opcodes.specs.declared.Alu.TheVariants.{Add, Adc, Sub, Sbc, Cmp, And, Bit, Or, Eor, Ld}
use Rattle.opcodes.specs.declared.Unary.{Unary}
use Rattle.opcodes.specs.declared.Unary.TheVariants.{Neg, Com, Lsr, Ror, Asr, Asl, Rol, Dec, Inc, Clr}
use Rattle.opcodes.specs.declared.Cond.{Cond}
use Rattle.opcodes.specs.declared.Cond.TheVariants.{Ra, Rn, Hi, Ls, Cc, Cs, Ne, Eq, Vc, Vs, Pl, Mi, Ge, Lt, Gt, Le}
use Rattle.opcodes.specs.declared.Software.{Software}
use Rattle.opcodes.specs.declared.Software.TheVariants.{Swi, Swi2, Swi3}
use Rattle.opcodes.specs.declared.Op.{Op}
use Rattle.opcodes.specs.declared.Op.TheVariants.{Registers, Memory}
use Rattle.opcodes.specs.declared.RegisterOp.{RegisterOp}
use Rattle.opcodes.specs.declared.RegisterOp.TheVariants.{Alu, OnAcc, TestAcc, TestMemory, Addd, Subd, Load16, Cmp16, Lea, Branch, Jmp, Nop, Daa, Sex, Mul, Abx, Andcc, Orcc, Exg, Tfr}
use Rattle.opcodes.specs.declared.MemoryOp.{MemoryOp}
use Rattle.opcodes.specs.declared.MemoryOp.TheVariants.{OnMemory, Store8, Store16, Bsr, Jsr, Rts, Rti, Swi as Interrupt, Cwai, Sync, Push, Pull}

-- a stem, and the letter of an accumulator or of a register of 16 bits
abbrev pub stem_with : String → ℕ → List ℕ
stem_with stem letter = ascii stem ++ (letter ∷ [])

-- LB and the condition, or B and the condition
abbrev pub branching : Bool → List ℕ → List ℕ
branching long l = cond long (ascii "LB" ++ l) (ascii "B" ++ l)

abbrev pub acc_letter : Acc → ℕ
acc_letter A = code "A"
acc_letter B = code "B"

-- the register's name, which is one letter
abbrev pub word_letter : Word → ℕ
word_letter D = code "D"
word_letter X = code "X"
word_letter Y = code "Y"
word_letter U = code "U"
word_letter S = code "S"

abbrev pub alu_text : Binary → String
alu_text Add = "ADD"
alu_text Adc = "ADC"
alu_text Sub = "SUB"
alu_text Sbc = "SBC"
alu_text Cmp = "CMP"
alu_text And = "AND"
alu_text Bit = "BIT"
alu_text Or = "OR"
alu_text Eor = "EOR"
alu_text Ld = "LD"

abbrev pub unary_text : Unary → String
unary_text Neg = "NEG"
unary_text Com = "COM"
unary_text Lsr = "LSR"
unary_text Ror = "ROR"
unary_text Asr = "ASR"
unary_text Asl = "ASL"
unary_text Rol = "ROL"
unary_text Dec = "DEC"
unary_text Inc = "INC"
unary_text Clr = "CLR"

abbrev pub cond_text : Cond → String
cond_text Ra = "RA"
cond_text Rn = "RN"
cond_text Hi = "HI"
cond_text Ls = "LS"
cond_text Cc = "CC"
cond_text Cs = "CS"
cond_text Ne = "NE"
cond_text Eq = "EQ"
cond_text Vc = "VC"
cond_text Vs = "VS"
cond_text Pl = "PL"
cond_text Mi = "MI"
cond_text Ge = "GE"
cond_text Lt = "LT"
cond_text Gt = "GT"
cond_text Le = "LE"

abbrev pub software_text : Software → String
software_text Swi = "SWI"
software_text Swi2 = "SWI2"
software_text Swi3 = "SWI3"

abbrev pub register_mnemonic : RegisterOp → Bool → List ℕ
register_mnemonic (Alu o a) long = stem_with (alu_text o) (acc_letter a)
register_mnemonic (OnAcc o a) long = stem_with (unary_text o) (acc_letter a)
register_mnemonic (TestAcc a) long = stem_with "TST" (acc_letter a)
register_mnemonic TestMemory long = ascii "TST"
register_mnemonic Addd long = ascii "ADDD"
register_mnemonic Subd long = ascii "SUBD"
register_mnemonic (Load16 w) long = stem_with "LD" (word_letter w)
register_mnemonic (Cmp16 w) long = stem_with "CMP" (word_letter w)
register_mnemonic (Lea i) long = stem_with "LEA" (word_letter (index_word i))
register_mnemonic (Branch c) long = branching long (ascii (cond_text c))
register_mnemonic Jmp long = ascii "JMP"
register_mnemonic Nop long = ascii "NOP"
register_mnemonic Daa long = ascii "DAA"
register_mnemonic Sex long = ascii "SEX"
register_mnemonic Mul long = ascii "MUL"
register_mnemonic Abx long = ascii "ABX"
register_mnemonic Andcc long = ascii "ANDCC"
register_mnemonic Orcc long = ascii "ORCC"
register_mnemonic Exg long = ascii "EXG"
register_mnemonic Tfr long = ascii "TFR"

abbrev pub memory_mnemonic : MemoryOp → Bool → List ℕ
memory_mnemonic (OnMemory o) long = ascii (unary_text o)
memory_mnemonic (Store8 a) long = stem_with "ST" (acc_letter a)
memory_mnemonic (Store16 w) long = stem_with "ST" (word_letter w)
memory_mnemonic Bsr long = branching long (ascii "SR")
memory_mnemonic Jsr long = ascii "JSR"
memory_mnemonic Rts long = ascii "RTS"
memory_mnemonic Rti long = ascii "RTI"
memory_mnemonic (Interrupt s) long = ascii (software_text s)
memory_mnemonic Cwai long = ascii "CWAI"
memory_mnemonic Sync long = ascii "SYNC"
memory_mnemonic (Push s) long = stem_with "PSH" (word_letter (stack_word s))
memory_mnemonic (Pull s) long = stem_with "PUL" (word_letter (stack_word s))

abbrev pub mnemonic_of : Op → Bool → List ℕ
mnemonic_of (Registers o) long = register_mnemonic o long
mnemonic_of (Memory o) long = memory_mnemonic o long

-- the operation of each row has the row's own name; of the branches those of more than two bytes are long
abbrev pub EachNamed : Type 0
EachNamed = each (λ (r : Row) (c : Column). mnemonic_of r.operation (ltb 2 c.bytes)) rows ≡ each (λ (r : Row) (c : Column). ascii r.name) rows
