-- What an instruction can cost, by one test over the opcode table, and what each post-byte adds, by one test over all of them.
-- Assumes nothing.
use Rattle.std.specs.Prelude.{Err, None, Ok, Option, Result, Some}
use Prim.Native.Nat.{ℕ, ◌+◌, ◌≤◌, ◌<◌}
use mathlib.Core.Path.{◌≡◌, refl, subst}
use mathlib.Core.Bool.{Bool, true, false, cond, ◌&&◌}
use mathlib.Core.List.{List}
use native.Mathlib.Omega.{arith}
use lib.Dec.{T, leb, leb→le, lit≤}
use Rattle.answers.specs.declared.Refusal.TheVariants.{PastEnd}
use Rattle.registers.specs.ConditionCodes.{coded, flag, bit_at}
use Rattle.registers.specs.declared.CCBit.TheVariants.{E}
use Rattle.registers.specs.declared.CCBits.{CCBits}
use Rattle.registers.specs.declared.Set.{Set}
use Rattle.memory.specs.Map.{byte_at}
use Rattle.opcodes.specs.Manual.{entry_of}
use Rattle.opcodes.specs.Rows.{values}
use Rattle.opcodes.specs.declared.Cond.{Cond}
use Rattle.opcodes.specs.declared.Entry.{Entry}
use Rattle.opcodes.specs.declared.MemoryOp.TheVariants.{OnMemory, Store8, Store16, Bsr, Jsr, Rts, Rti, Swi, Cwai, Sync, Push, Pull}
use Rattle.opcodes.specs.declared.Mode.{Mode}
use Rattle.opcodes.specs.declared.Mode.TheVariants.{Inherent, Immediate8, Immediate16, Direct, Indexed, Extended, Relative8, Relative16}
use Rattle.opcodes.specs.declared.Op.{Op}
use Rattle.opcodes.specs.declared.Op.TheVariants.{Registers, Memory}
use Rattle.opcodes.specs.declared.Page.{Page}
use Rattle.opcodes.specs.declared.Page.TheVariants.{Plain, Ten, Eleven}
use Rattle.opcodes.specs.declared.RegisterOp.{RegisterOp}
use Rattle.opcodes.specs.declared.RegisterOp.TheVariants.{Alu, OnAcc, TestAcc, TestMemory, Addd, Subd, Load16, Cmp16, Lea, Branch, Jmp, Nop, Daa, Sex, Mul, Abx, Andcc, Orcc, Exg, Tfr}
use Rattle.opcodes.proofs.Rows.{alike}
use Rattle.decode.specs.Decode.{decoded_at}
use Rattle.decode.specs.Operand.{signed_byte, operand_number, operand_at}
use Rattle.decode.specs.Origin.{OriginOf}
use Rattle.decode.specs.PostByte.{is_indirect, form_of}
use Rattle.decode.specs.declared.instruction.Instruction.{Instruction}
use Rattle.decode.specs.declared.operand.Operand.TheVariants.{Inherent as Nothing, Immediate as ByValue, Direct as InPage, Indexed as ByIndex, Extended as AtAddress, Relative as ByOffset}
use Rattle.decode.specs.declared.postbyte.Form.{Form}
use Rattle.decode.specs.declared.postbyte.Form.TheVariants.{Offset5, Increment1, Increment2, Decrement1, Decrement2, NoOffset, OffsetB, OffsetA, Offset8, Offset16, OffsetD, Program8, Program16, Address}
use Rattle.decode.proofs.Origin.{decode-origin}
use Rattle.operations.specs.Branches.{condition}
use Rattle.stack.proofs.Laws.{none_dropped}
use Rattle.cycles.specs.Bills.{Bounded, BoundedAt, InstructionBounded, by_form, post_byte_extra, PostByteExtras}
use Rattle.cycles.specs.Cycles.{form_extra, operand_extra, is_conditional, branch_extra, registers_extra, operation_extra, cycles_of}
use Rattle.answers.specs.declared.Refusal.{Refusal}
use Rattle.decode.specs.declared.operand.Operand.{Operand}

-- ---- the most that an operand and an operation add

either : (n a b : ℕ) → a ≤ n → b ≤ n → (t : Bool) → cond t a b ≤ n
either n a b h k true = h
either n a b h k false = k

form-most : (f : Form) (t : Bool) → form_extra f t ≤ 8
form-most NoOffset t = either 8 3 0 (lit≤ tt) (lit≤ tt) t
form-most Offset5 t = lit≤ tt
form-most Offset8 t = either 8 4 1 (lit≤ tt) (lit≤ tt) t
form-most Offset16 t = either 8 7 4 (lit≤ tt) (lit≤ tt) t
form-most OffsetA t = either 8 4 1 (lit≤ tt) (lit≤ tt) t
form-most OffsetB t = either 8 4 1 (lit≤ tt) (lit≤ tt) t
form-most OffsetD t = either 8 7 4 (lit≤ tt) (lit≤ tt) t
form-most Increment1 t = lit≤ tt
form-most Increment2 t = either 8 6 3 (lit≤ tt) (lit≤ tt) t
form-most Decrement1 t = lit≤ tt
form-most Decrement2 t = either 8 6 3 (lit≤ tt) (lit≤ tt) t
form-most Program8 t = either 8 4 1 (lit≤ tt) (lit≤ tt) t
form-most Program16 t = either 8 8 5 (lit≤ tt) (lit≤ tt) t
form-most Address t = lit≤ tt

most_of : Mode → ℕ
most_of Inherent = 0
most_of Immediate8 = 0
most_of Immediate16 = 0
most_of Direct = 0
most_of Indexed = 8
most_of Extended = 0
most_of Relative8 = 0
most_of Relative16 = 0

-- an operand read in a mode
abbrev ReadSo : Mode → Result (Operand × ℕ) Refusal → Type 0
ReadSo mode (Ok (o, next)) = operand_extra o ≤ most_of mode
ReadSo mode (Err x) = Unit {0}

by_index : (r : Result (Operand × ℕ) Refusal) → ReadSo Indexed r
unfolding most_of
by_index (Ok (Nothing, next)) = lit≤ tt
by_index (Ok (ByValue at, next)) = lit≤ tt
by_index (Ok (InPage low, next)) = lit≤ tt
by_index (Ok (ByIndex ix, next)) = form-most ix.form (is_indirect ix.post)
by_index (Ok (AtAddress at, next)) = lit≤ tt
by_index (Ok (ByOffset offset, next)) = lit≤ tt
by_index (Err x) = tt

module _ (mem : List ℕ) (at : ℕ) where
  tested : (mode : Mode) (t : Bool) (r : Result (Operand × ℕ) Refusal) → ReadSo mode r → ReadSo mode (cond t r (Err PastEnd))
  tested mode true r h = h
  tested mode false r h = tt

  operand-most : (mode : Mode) → ReadSo mode (operand_at mode mem at)
  unfolding operand_at most_of
  operand-most Inherent = lit≤ tt
  operand-most Immediate8 = tested Immediate8 (leb (at + 1) 0x10000) (Ok (ByValue at, at + 1)) (lit≤ tt)
  operand-most Immediate16 = tested Immediate16 (leb (at + 2) 0x10000) (Ok (ByValue at, at + 2)) (lit≤ tt)
  operand-most Direct = tested Direct (leb (at + 1) 0x10000) (Ok (InPage (operand_number 1 mem at), at + 1)) (lit≤ tt)
  operand-most Indexed = by_index (operand_at Indexed mem at)
  operand-most Extended = tested Extended (leb (at + 2) 0x10000) (Ok (AtAddress (operand_number 2 mem at), at + 2)) (lit≤ tt)
  operand-most Relative8 = tested Relative8 (leb (at + 1) 0x10000) (Ok (ByOffset (signed_byte (operand_number 1 mem at)), at + 1)) (lit≤ tt)
  operand-most Relative16 = tested Relative16 (leb (at + 2) 0x10000) (Ok (ByOffset (operand_number 2 mem at), at + 2)) (lit≤ tt)

most_by : Op → ℕ
most_by (Registers op) = 1
most_by (Memory (OnMemory op)) = 0
most_by (Memory (Store8 acc)) = 0
most_by (Memory (Store16 word)) = 0
most_by (Memory Bsr) = 0
most_by (Memory Jsr) = 0
most_by (Memory Rts) = 0
most_by (Memory Rti) = 9
most_by (Memory (Swi which)) = 0
most_by (Memory Cwai) = 0
most_by (Memory Sync) = 0
most_by (Memory (Push own)) = 12
most_by (Memory (Pull own)) = 12

branch-most : (mode : Mode) (c : Cond) (codes : CCBits) → branch_extra mode c codes ≤ 1
branch-most Relative16 c codes = either 1 1 0 (lit≤ tt) (lit≤ tt) (is_conditional c && condition c codes)
branch-most Relative8 c codes = lit≤ tt
branch-most Inherent c codes = lit≤ tt
branch-most Immediate8 c codes = lit≤ tt
branch-most Immediate16 c codes = lit≤ tt
branch-most Direct c codes = lit≤ tt
branch-most Indexed c codes = lit≤ tt
branch-most Extended c codes = lit≤ tt

registers-most : (op : RegisterOp) (mode : Mode) (codes : CCBits) → registers_extra op mode codes ≤ 1
registers-most (Branch c) mode codes = branch-most mode c codes
registers-most (Alu op acc) mode codes = lit≤ tt
registers-most (OnAcc op acc) mode codes = lit≤ tt
registers-most (TestAcc acc) mode codes = lit≤ tt
registers-most TestMemory mode codes = lit≤ tt
registers-most Addd mode codes = lit≤ tt
registers-most Subd mode codes = lit≤ tt
registers-most (Load16 word) mode codes = lit≤ tt
registers-most (Cmp16 word) mode codes = lit≤ tt
registers-most (Lea index) mode codes = lit≤ tt
registers-most Jmp mode codes = lit≤ tt
registers-most Nop mode codes = lit≤ tt
registers-most Daa mode codes = lit≤ tt
registers-most Sex mode codes = lit≤ tt
registers-most Mul mode codes = lit≤ tt
registers-most Abx mode codes = lit≤ tt
registers-most Andcc mode codes = lit≤ tt
registers-most Orcc mode codes = lit≤ tt
registers-most Exg mode codes = lit≤ tt
registers-most Tfr mode codes = lit≤ tt

operation-most : (op : Op) (mode : Mode) (mem : List ℕ) (r : Set) (ea : ℕ) → operation_extra op mode mem r ea ≤ most_by op
unfolding most_by
operation-most (Registers op) mode mem r ea = registers-most op mode r.cc
operation-most (Memory (OnMemory op)) mode mem r ea = lit≤ tt
operation-most (Memory (Store8 acc)) mode mem r ea = lit≤ tt
operation-most (Memory (Store16 word)) mode mem r ea = lit≤ tt
operation-most (Memory Bsr) mode mem r ea = lit≤ tt
operation-most (Memory Jsr) mode mem r ea = lit≤ tt
operation-most (Memory Rts) mode mem r ea = lit≤ tt
operation-most (Memory Rti) mode mem r ea = either 9 9 0 (lit≤ tt) (lit≤ tt) (flag E (coded (byte_at mem r.s)))
operation-most (Memory (Swi which)) mode mem r ea = lit≤ tt
operation-most (Memory Cwai) mode mem r ea = lit≤ tt
operation-most (Memory Sync) mode mem r ea = lit≤ tt
operation-most (Memory (Push own)) mode mem r ea = none_dropped.few (byte_at mem ea)
operation-most (Memory (Pull own)) mode mem r ea = none_dropped.few (byte_at mem ea)

-- ---- the opcode table

-- no entry can come to more
pub record Small (e : Entry) : Type 0 where
  extra : most_of e.mode + most_by e.op ≤ 12
  whole : e.cycles + (most_of e.mode + most_by e.op) ≤ 20

abbrev PlaceSmall : Option Entry → Type 0
PlaceSmall (Some e) = Small e
PlaceSmall None = Unit {0}

small : Option Entry → Bool
small (Some e) = leb (most_of e.mode + most_by e.op) 12 && leb (e.cycles + (most_of e.mode + most_by e.op)) 20
small None = true

all_small : (page : Page) → values (λ (code : ℕ). small (entry_of page code)) 0 256 ≡ values (λ (code : ℕ). true) 0 256
unfolding small entry_of most_of most_by
all_small Plain = refl
all_small Ten = refl
all_small Eleven = refl

both : (a b : Bool) → (a && b) ≡ true → T a × T b
both true true e = (tt, tt)
both true false e = let z : ◌≡◌ {A = ℕ} 0 1 = cc in absurd (omega arith)
both false b e = let z : ◌≡◌ {A = ℕ} 0 1 = cc in absurd (omega arith)

so : (p : Option Entry) → small p ≡ true → PlaceSmall p
unfolding small
so (Some e) t =
    let n = most_of e.mode + most_by e.op in
    let (h, k) = both (leb n 12) (leb (e.cycles + n) 20) t in
    record { extra = leb→le n 12 h; whole = leb→le (e.cycles + n) 20 k }
so None t = tt

each-small : (page : Page) (code : ℕ) → code < 256 → PlaceSmall (entry_of page code)
each-small page code l = so (entry_of page code) (alike (λ (code : ℕ). small (entry_of page code)) (λ (code : ℕ). true) 256 (all_small page) code l)

-- ---- an instruction

bounded : (mem : List ℕ) (i : Instruction) → Small i.entry → operand_extra i.operand ≤ most_of i.entry.mode → (r : Set) (ea : ℕ) → Bounded mem i r ea
unfolding cycles_of
bounded mem i s h r ea =
    let k = operation-most i.entry.op i.entry.mode mem r ea in
    record { extra = omega (arith, h, k, s.extra); whole = omega (arith, h, k, s.whole) }

of-decoded : (mem : List ℕ) (d : Result Instruction Refusal) → OriginOf mem d → BoundedAt mem d
of-decoded mem (Ok i) o =
    bounded mem i
    (subst PlaceSmall o.entry (each-small o.page o.code o.byte))
    (subst (ReadSo i.entry.mode) o.operand (operand-most mem o.after i.entry.mode))
of-decoded mem (Err x) o = tt

pub instruction-bounded : InstructionBounded
instruction-bounded mem pc b = of-decoded mem (decoded_at mem pc) (decode-origin mem pc b)

-- ---- post-bytes

pub post-byte-extras : PostByteExtras
unfolding form_of is_indirect bit_at
post-byte-extras = record {
  each = alike (λ (post : ℕ). by_form (form_of post) post) post_byte_extra 256 refl;
  taken = refl;
}
