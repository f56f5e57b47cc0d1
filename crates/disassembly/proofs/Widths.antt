-- How long a mnemonic and an operand can be.
-- Assumes nothing.
use Rattle.std.proofs.Common.{ℕ, ◌+◌, ◌-◌, ◌/◌, ◌%◌, ◌≤◌, Bool, true, false, cond, eqb, ltb, List, [], ◌∷◌, ◌++◌, length, arith, lit≤, length-append}
use Prim.Native.Char.{code}
use Rattle.memory.specs.Map.{byte_at}
use Rattle.registers.specs.ConditionCodes.{ascii}
use Rattle.registers.specs.Names.{word_name, index_word, stack_word, other_stack}
use Rattle.registers.specs.declared.Name.{Name}
use Rattle.registers.specs.declared.Name.TheVariants.{A, B, D, X, Y, U, S, PC, DP, CC}
use Rattle.registers.specs.declared.Stack.{Stack}
use Rattle.registers.specs.declared.Stack.TheVariants.{S as stack_s, U as stack_u}
use Rattle.opcodes.specs.declared.Alu.{Alu as Binary}
use Rattle.opcodes.specs.declared.Alu.TheVariants.{Add, Adc, Sub, Sbc, Cmp, And, Bit, Or, Eor, Ld}
use Rattle.opcodes.specs.declared.Cond.{Cond}
use Rattle.opcodes.specs.declared.Cond.TheVariants.{Ra, Rn, Hi, Ls, Cc, Cs, Ne, Eq, Vc, Vs, Pl, Mi, Ge, Lt, Gt, Le}
use Rattle.opcodes.specs.declared.Entry.{Entry}
use Rattle.opcodes.specs.declared.MemoryOp.{MemoryOp}
use Rattle.opcodes.specs.declared.MemoryOp.TheVariants.{OnMemory, Store8, Store16, Bsr, Jsr, Rts, Rti, Swi as Interrupt, Cwai, Sync, Push, Pull}
use Rattle.opcodes.specs.declared.Mode.{Mode}
use Rattle.opcodes.specs.declared.Mode.TheVariants.{Inherent, Immediate8, Immediate16, Direct, Indexed, Extended, Relative8, Relative16}
use Rattle.opcodes.specs.declared.Op.{Op}
use Rattle.opcodes.specs.declared.Op.TheVariants.{Registers, Memory}
use Rattle.opcodes.specs.declared.RegisterOp.{RegisterOp}
use Rattle.opcodes.specs.declared.RegisterOp.TheVariants.{Alu, OnAcc, TestAcc, TestMemory, Addd, Subd, Load16, Cmp16, Lea, Branch, Jmp, Nop, Daa, Sex, Mul, Abx, Andcc, Orcc, Exg, Tfr}
use Rattle.opcodes.specs.declared.Software.{Software}
use Rattle.opcodes.specs.declared.Software.TheVariants.{Swi, Swi2, Swi3}
use Rattle.opcodes.specs.declared.Unary.{Unary}
use Rattle.opcodes.specs.declared.Unary.TheVariants.{Neg, Com, Lsr, Ror, Asr, Asl, Rol, Dec, Inc, Clr}
use Rattle.mnemonics.specs.Mnemonics.{acc_letter, word_letter, alu_text, unary_text, cond_text, software_text, branching, register_mnemonic, memory_mnemonic, mnemonic_of}
use Rattle.decode.specs.PostByte.{is_indirect, index_of}
use Rattle.decode.specs.declared.operand.Indexed.{Indexed as PostByteAndOffset}
use Rattle.decode.specs.declared.operand.Operand.{Operand}
use Rattle.decode.specs.declared.operand.Operand.TheVariants.{Inherent as Nothing, Immediate as ByValue, Direct as InPage, Indexed as ByIndex, Extended as AtAddress, Relative as Branched}
use Rattle.decode.specs.declared.postbyte.Form.{Form}
use Rattle.decode.specs.declared.postbyte.Form.TheVariants.{Offset5, Increment1, Increment2, Decrement1, Decrement2, NoOffset, OffsetB, OffsetA, Offset8, Offset16, OffsetD, Program8, Program16, Address}
use Rattle.operations.specs.Refusals.{names_two}
use Rattle.operations.specs.Transfers.{transfer_name}
use Rattle.disassembly.specs.Figures.{byte_text, word_text, short_offset, long_offset}
use Rattle.disassembly.specs.Names.{name_text, comma, transfer_text, slot_text, list_text}
use Rattle.disassembly.specs.Operands.{immediate_byte, memory_byte_text, byte_operand, immediate_text, form_text, bracketed, indexed_text, operand_text_of, operand_text}
use Rattle.disassembly.specs.Line.{mnemonic_text}
use Rattle.disassembly.specs.Laws.{OperandShort, MnemonicShort}

-- ---- mnemonics

-- at most five letters
abbrev pub Five : List ℕ → Type 0
Five l = length l ≤ 5

-- a stem of two or three letters, and one letter more
stem : (l : List ℕ) (x : ℕ) → length l ≤ 3 → Five (l ++ (x ∷ []))
stem l x h = rw (length-append l (x ∷ [])) (omega arith)

alu-stem : (o : Binary) → length (ascii (alu_text o)) ≤ 3
alu-stem Add = lit≤ tt
alu-stem Adc = lit≤ tt
alu-stem Sub = lit≤ tt
alu-stem Sbc = lit≤ tt
alu-stem Cmp = lit≤ tt
alu-stem And = lit≤ tt
alu-stem Bit = lit≤ tt
alu-stem Or = lit≤ tt
alu-stem Eor = lit≤ tt
alu-stem Ld = lit≤ tt

unary-stem : (o : Unary) → length (ascii (unary_text o)) ≤ 3
unary-stem Neg = lit≤ tt
unary-stem Com = lit≤ tt
unary-stem Lsr = lit≤ tt
unary-stem Ror = lit≤ tt
unary-stem Asr = lit≤ tt
unary-stem Asl = lit≤ tt
unary-stem Rol = lit≤ tt
unary-stem Dec = lit≤ tt
unary-stem Inc = lit≤ tt
unary-stem Clr = lit≤ tt

cond-letters : (c : Cond) → length (ascii (cond_text c)) ≤ 2
cond-letters Ra = lit≤ tt
cond-letters Rn = lit≤ tt
cond-letters Hi = lit≤ tt
cond-letters Ls = lit≤ tt
cond-letters Cc = lit≤ tt
cond-letters Cs = lit≤ tt
cond-letters Ne = lit≤ tt
cond-letters Eq = lit≤ tt
cond-letters Vc = lit≤ tt
cond-letters Vs = lit≤ tt
cond-letters Pl = lit≤ tt
cond-letters Mi = lit≤ tt
cond-letters Ge = lit≤ tt
cond-letters Lt = lit≤ tt
cond-letters Gt = lit≤ tt
cond-letters Le = lit≤ tt

branch-five : (long : Bool) (l : List ℕ) → length l ≤ 2 → Five (branching long l)
branch-five true l h = omega arith
branch-five false l h = omega arith

software-five : (s : Software) → Five (ascii (software_text s))
software-five Swi = lit≤ tt
software-five Swi2 = lit≤ tt
software-five Swi3 = lit≤ tt

registers-five : (op : RegisterOp) (long : Bool) → Five (register_mnemonic op long)
registers-five (Alu o a) long = stem (ascii (alu_text o)) (acc_letter a) (alu-stem o)
registers-five (OnAcc o a) long = stem (ascii (unary_text o)) (acc_letter a) (unary-stem o)
registers-five (TestAcc a) long = stem (ascii "TST") (acc_letter a) (lit≤ tt)
registers-five (Load16 w) long = stem (ascii "LD") (word_letter w) (lit≤ tt)
registers-five (Cmp16 w) long = stem (ascii "CMP") (word_letter w) (lit≤ tt)
registers-five (Lea i) long = stem (ascii "LEA") (word_letter (index_word i)) (lit≤ tt)
registers-five (Branch c) long = branch-five long (ascii (cond_text c)) (cond-letters c)
registers-five TestMemory long = lit≤ tt
registers-five Addd long = lit≤ tt
registers-five Subd long = lit≤ tt
registers-five Jmp long = lit≤ tt
registers-five Nop long = lit≤ tt
registers-five Daa long = lit≤ tt
registers-five Sex long = lit≤ tt
registers-five Mul long = lit≤ tt
registers-five Abx long = lit≤ tt
registers-five Andcc long = lit≤ tt
registers-five Orcc long = lit≤ tt
registers-five Exg long = lit≤ tt
registers-five Tfr long = lit≤ tt

memory-five : (op : MemoryOp) (long : Bool) → Five (memory_mnemonic op long)
memory-five (OnMemory o) long = omega (arith, unary-stem o)
memory-five (Store8 a) long = stem (ascii "ST") (acc_letter a) (lit≤ tt)
memory-five (Store16 w) long = stem (ascii "ST") (word_letter w) (lit≤ tt)
memory-five Bsr long = branch-five long (ascii "SR") (lit≤ tt)
memory-five (Interrupt s) long = software-five s
memory-five (Push s) long = stem (ascii "PSH") (word_letter (stack_word s)) (lit≤ tt)
memory-five (Pull s) long = stem (ascii "PUL") (word_letter (stack_word s)) (lit≤ tt)
memory-five Jsr long = lit≤ tt
memory-five Rts long = lit≤ tt
memory-five Rti long = lit≤ tt
memory-five Cwai long = lit≤ tt
memory-five Sync long = lit≤ tt

pub five : (op : Op) (long : Bool) → Five (mnemonic_of op long)
five (Registers o) long = registers-five o long
five (Memory o) long = memory-five o long

pub mnemonic-short : MnemonicShort
unfolding mnemonic_text
mnemonic-short e =
    five e.op (ltb 2 e.size)

-- ---- operands

name-short : (n : Name) → length (name_text n) ≤ 2
unfolding name_text
name-short A = lit≤ tt
name-short B = lit≤ tt
name-short D = lit≤ tt
name-short X = lit≤ tt
name-short Y = lit≤ tt
name-short U = lit≤ tt
name-short S = lit≤ tt
name-short PC = lit≤ tt
name-short DP = lit≤ tt
name-short CC = lit≤ tt

either : (n : ℕ) (a b : List ℕ) → length a ≤ n → length b ≤ n → (t : Bool) → length (cond t a b) ≤ n
either n a b h k true = h
either n a b h k false = k

short-offset : (n : ℕ) → length (short_offset n) ≤ 4
unfolding short_offset
short-offset n = either 4 (byte_text (n % 256)) (code "-" ∷ byte_text ((0x10000 - n) % 256)) (lit≤ tt) (lit≤ tt) (ltb n 0x8000)

long-offset : (n : ℕ) → length (long_offset n) ≤ 6
unfolding long_offset
long-offset n = either 6 (word_text n) (code "-" ∷ word_text (0x10000 - n)) (lit≤ tt) (lit≤ tt) (ltb n 0x8000)

form-short : (f : Form) (n : ℕ) (r : Name) (next : ℕ) → length (form_text f n r next) ≤ 9
form-short Offset5 n r next = rw (length-append (short_offset n) (comma ∷ name_text r)) (omega (arith, name-short r, short-offset n))
form-short Increment1 n r next = rw (length-append (name_text r) (ascii "+")) (omega (arith, name-short r))
form-short Increment2 n r next = rw (length-append (name_text r) (ascii "++")) (omega (arith, name-short r))
form-short Decrement1 n r next = omega (arith, name-short r)
form-short Decrement2 n r next = omega (arith, name-short r)
form-short NoOffset n r next = omega (arith, name-short r)
form-short OffsetB n r next = omega (arith, name-short r)
form-short OffsetA n r next = omega (arith, name-short r)
form-short Offset8 n r next = rw (length-append (short_offset n) (comma ∷ name_text r)) (omega (arith, name-short r, short-offset n))
form-short Offset16 n r next = rw (length-append (long_offset n) (comma ∷ name_text r)) (omega (arith, name-short r, long-offset n))
form-short OffsetD n r next = omega (arith, name-short r)
form-short Program8 n r next = lit≤ tt
form-short Program16 n r next = lit≤ tt
form-short Address n r next = lit≤ tt

bracket-short : (t : Bool) (l : List ℕ) → length l ≤ 9 → length (bracketed t l) ≤ 11
bracket-short true l h = rw (length-append l (ascii "]")) (omega arith)
bracket-short false l h = omega arith

-- a slot: the name and a comma
slot-short : (post weight : ℕ) (name : Name) (n : ℕ) → length (name_text name) ≤ n → length (slot_text post weight name) ≤ 1 + n
unfolding slot_text
slot-short post weight name n h =
    either (1 + n) [] (cond (eqb (post % weight) 0) (name_text name) (comma ∷ name_text name)) (omega arith)
    (either (1 + n) (name_text name) (comma ∷ name_text name) (omega arith) (omega arith) (eqb (post % weight) 0))
    (eqb (post / weight % 2) 0)

other-short : (s : Stack) → length (name_text (word_name (stack_word (other_stack s)))) ≤ 1
unfolding name_text
other-short stack_s = lit≤ tt
other-short stack_u = lit≤ tt

list-short : (s : Stack) (post : ℕ) → length (list_text s post) ≤ 20
unfolding name_text
list-short s post =
    simp length-append
    (omega (
      arith,
      slot-short post 0x01 CC 2 (lit≤ tt),
      slot-short post 0x02 A 1 (lit≤ tt),
      slot-short post 0x04 B 1 (lit≤ tt),
      slot-short post 0x08 DP 2 (lit≤ tt),
      slot-short post 0x10 X 1 (lit≤ tt),
      slot-short post 0x20 Y 1 (lit≤ tt),
      slot-short post 0x40 (word_name (stack_word (other_stack s))) 1 (other-short s),
      slot-short post 0x80 PC 2 (lit≤ tt),
    ))

transfer-short : (post : ℕ) → length (transfer_text post) ≤ 20
transfer-short post =
    rw (length-append (name_text (transfer_name (post / 16))) (comma ∷ name_text (transfer_name (post % 16))))
    (omega (arith, name-short (transfer_name (post / 16)), name-short (transfer_name (post % 16))))

memory-byte-short : (op : MemoryOp) (b : ℕ) → length (memory_byte_text op b) ≤ 20
memory-byte-short (OnMemory op) b = lit≤ tt
memory-byte-short (Store8 acc) b = lit≤ tt
memory-byte-short (Store16 word) b = lit≤ tt
memory-byte-short Bsr b = lit≤ tt
memory-byte-short Jsr b = lit≤ tt
memory-byte-short Rts b = lit≤ tt
memory-byte-short Rti b = lit≤ tt
memory-byte-short (Interrupt which) b = lit≤ tt
memory-byte-short Cwai b = lit≤ tt
memory-byte-short Sync b = lit≤ tt
memory-byte-short (Push stack) b = list-short stack b
memory-byte-short (Pull stack) b = list-short stack b

byte-short : (op : Op) (b : ℕ) → length (byte_operand op b) ≤ 20
byte-short (Registers op) b = either 20 (transfer_text b) (immediate_byte b) (transfer-short b) (lit≤ tt) (names_two op)
byte-short (Memory op) b = memory-byte-short op b

immediate-short : (m : Mode) (op : Op) (mem : List ℕ) (at : ℕ) → length (immediate_text m op mem at) ≤ 20
immediate-short Immediate8 op mem at = byte-short op (byte_at mem at)
immediate-short Immediate16 op mem at = lit≤ tt
immediate-short Inherent op mem at = lit≤ tt
immediate-short Direct op mem at = lit≤ tt
immediate-short Indexed op mem at = lit≤ tt
immediate-short Extended op mem at = lit≤ tt
immediate-short Relative8 op mem at = lit≤ tt
immediate-short Relative16 op mem at = lit≤ tt

indexed-short : (ix : PostByteAndOffset) (next : ℕ) → length (indexed_text ix next) ≤ 20
indexed-short ix next =
    let r = word_name (index_word (index_of ix.post)) in
    let l = form_text ix.form ix.offset r next in
    omega (arith, bracket-short (is_indirect ix.post) l (form-short ix.form ix.offset r next))

text-short : (o : Operand) (e : Entry) (mem : List ℕ) (next : ℕ) → length (operand_text_of o e mem next) ≤ 20
text-short Nothing e mem next = lit≤ tt
text-short (ByValue at) e mem next = immediate-short e.mode e.op mem at
text-short (InPage low) e mem next = lit≤ tt
text-short (ByIndex ix) e mem next = indexed-short ix next
text-short (AtAddress at) e mem next = lit≤ tt
text-short (Branched offset) e mem next = lit≤ tt

pub operand_short : OperandShort
unfolding operand_text
operand_short i mem = text-short i.operand i.entry mem i.next
