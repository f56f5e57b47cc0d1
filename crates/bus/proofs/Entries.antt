-- What the opcode table says of an instruction's bytes: an immediate operand is as wide as its operation takes, and how much each entry can read
-- and write at most. One test over the table's 768 places.
-- Assumes nothing.
use Rattle.std.specs.Prelude.{Err, None, Ok, Option, Result, Some}
use Prim.Native.Nat.{ℕ, zero, suc, ◌+◌, ◌≤◌, ◌<◌}
use mathlib.Core.Bool.{Bool, true, false, cond, ◌&&◌}
use mathlib.Core.List.{List, []}
use mathlib.Core.Path.{◌≡◌, refl, ap}
use native.Mathlib.Omega.{arith}
use lib.Dec.{T, leb, leb→le, lit≤}
use lib.ListN.{length}
use Rattle.answers.specs.declared.Refusal.TheVariants.{PastEnd}
use Rattle.registers.specs.declared.Set.{Set}
use Rattle.memory.specs.Map.{byte_at, low_at}
use Rattle.opcodes.specs.Manual.{entry_of}
use Rattle.opcodes.specs.Rows.{values}
use Rattle.opcodes.specs.declared.Entry.{Entry}
use Rattle.opcodes.specs.declared.MemoryOp.TheVariants.{OnMemory, Store8, Store16, Bsr, Jsr, Rts, Rti, Swi, Cwai, Sync, Push, Pull}
use Rattle.opcodes.specs.declared.Mode.{Mode}
use Rattle.opcodes.specs.declared.Mode.TheVariants.{Inherent, Immediate8, Immediate16, Direct, Indexed, Extended, Relative8, Relative16}
use Rattle.opcodes.specs.declared.Op.{Op}
use Rattle.opcodes.specs.declared.Op.TheVariants.{Registers, Memory}
use Rattle.opcodes.specs.declared.Page.{Page}
use Rattle.opcodes.specs.declared.Page.TheVariants.{Plain, Ten, Eleven}
use Rattle.opcodes.proofs.Rows.{alike}
use Rattle.decode.specs.Laws.{offset_bytes_of}
use Rattle.decode.specs.Operand.{signed_byte, operand_number, reading, with_form, after_post_byte, operand_bytes, operand_at}
use Rattle.decode.specs.PostByte.{is_indirect, form_of, offset_bytes}
use Rattle.decode.specs.declared.operand.Indexed.{Indexed as Index}
use Rattle.decode.specs.declared.operand.Operand.{Operand}
use Rattle.decode.specs.declared.operand.Operand.TheVariants.{Inherent as Nothing, Immediate as ByValue, Direct as InPage, Indexed as ByIndex, Extended as AtAddress, Relative as ByOffset}
use Rattle.decode.specs.declared.postbyte.Form.{Form}
use Rattle.decode.specs.declared.postbyte.Form.TheVariants.{Offset5, Increment1, Increment2, Decrement1, Decrement2, NoOffset, OffsetB, OffsetA, Offset8, Offset16, OffsetD, Program8, Program16, Address}
use Rattle.addressing.specs.Address.{indexed_before}
use Rattle.bus.specs.Reads.{bytes_from, pointer_reads, operand_taken, operand_reads}
use Rattle.answers.specs.declared.Refusal.{Refusal}

pub length-bytes : (n at : ℕ) → length (bytes_from at n) ≡ n
unfolding bytes_from
length-bytes zero at = refl
length-bytes (suc n) at = ap suc (length-bytes n (low_at at))

-- ---- the most of a mode and of an operation

abbrev pub is_immediate : Mode → Bool
is_immediate Inherent = false
is_immediate Immediate8 = true
is_immediate Immediate16 = true
is_immediate Direct = false
is_immediate Indexed = false
is_immediate Extended = false
is_immediate Relative8 = false
is_immediate Relative16 = false

-- an indexed operand: two offset bytes and a pointer
unfoldable pub indexed_most : Mode → ℕ
indexed_most Inherent = 0
indexed_most Immediate8 = 0
indexed_most Immediate16 = 0
indexed_most Direct = 0
indexed_most Indexed = 4
indexed_most Extended = 0
indexed_most Relative8 = 0
indexed_most Relative16 = 0

-- of n operand bytes, those that are not among the program's
abbrev pub beyond : Mode → ℕ → ℕ
beyond mode n = cond (is_immediate mode) 0 n

unfoldable pub fetched_most : Op → ℕ
fetched_most (Registers op) = 0
fetched_most (Memory (OnMemory op)) = 0
fetched_most (Memory (Store8 acc)) = 0
fetched_most (Memory (Store16 word)) = 0
fetched_most (Memory Bsr) = 0
fetched_most (Memory Jsr) = 0
fetched_most (Memory Rts) = 2
fetched_most (Memory Rti) = 12
fetched_most (Memory (Swi which)) = 3
fetched_most (Memory Cwai) = 0
fetched_most (Memory Sync) = 0
fetched_most (Memory (Push own)) = 0
fetched_most (Memory (Pull own)) = 12

unfoldable pub written_most : Op → ℕ
written_most (Registers op) = 0
written_most (Memory (OnMemory op)) = 1
written_most (Memory (Store8 acc)) = 1
written_most (Memory (Store16 word)) = 2
written_most (Memory Bsr) = 2
written_most (Memory Jsr) = 2
written_most (Memory Rts) = 0
written_most (Memory Rti) = 0
written_most (Memory (Swi which)) = 12
written_most (Memory Cwai) = 12
written_most (Memory Sync) = 0
written_most (Memory (Push own)) = 12
written_most (Memory (Pull own)) = 0

pub taken-most : (mode : Mode) (n ea : ℕ) → length (operand_reads mode n ea) ≤ beyond mode n
taken-most Immediate8 n ea = omega arith
taken-most Immediate16 n ea = omega arith
taken-most Direct n ea = omega (arith, length-bytes n ea)
taken-most Indexed n ea = omega (arith, length-bytes n ea)
taken-most Extended n ea = omega (arith, length-bytes n ea)
taken-most Inherent n ea = omega (arith, length-bytes n ea)
taken-most Relative8 n ea = omega (arith, length-bytes n ea)
taken-most Relative16 n ea = omega (arith, length-bytes n ea)

-- ---- the opcode table

abbrev pub read_most : Entry → ℕ
read_most e = e.size + (indexed_most e.mode + (beyond e.mode (operand_taken e.op) + fetched_most e.op))

pub record EntrySo (e : Entry) : Type 0 where
  pub immediate : T (is_immediate e.mode) → operand_taken e.op ≤ operand_bytes e.mode
  pub reads : read_most e ≤ 14
  pub together : read_most e + written_most e.op ≤ 17

abbrev pub PlaceSo : Option Entry → Type 0
PlaceSo (Some e) = EntrySo e
PlaceSo None = Unit {0}

wide : Entry → Bool
wide e = cond (is_immediate e.mode) (leb (operand_taken e.op) (operand_bytes e.mode)) true

right : Option Entry → Bool
right (Some e) = wide e && (leb (read_most e) 14 && leb (read_most e + written_most e.op) 17)
right None = true

all_right : (page : Page) → values (λ (code : ℕ). right (entry_of page code)) 0 256 ≡ values (λ (code : ℕ). true) 0 256
unfolding right wide entry_of indexed_most fetched_most written_most
all_right Plain = refl
all_right Ten = refl
all_right Eleven = refl

all_three : (a b c : Bool) → (a && (b && c)) ≡ true → T a × (T b × T c)
all_three true true true e = (tt, (tt, tt))
all_three true true false e = let z : ◌≡◌ {A = ℕ} 0 1 = cc in absurd (omega arith)
all_three true false c e = let z : ◌≡◌ {A = ℕ} 0 1 = cc in absurd (omega arith)
all_three false b c e = let z : ◌≡◌ {A = ℕ} 0 1 = cc in absurd (omega arith)

if-immediate : (t b : Bool) → T (cond t b true) → T t → T b
if-immediate true b h k = h
if-immediate false b h k = absurd k

so : (p : Option Entry) → right p ≡ true → PlaceSo p
unfolding right wide
so (Some e) t =
    let (a, (b, c)) = all_three (wide e) (leb (read_most e) 14) (leb (read_most e + written_most e.op) 17) t in
    record {
      immediate = λ k. leb→le (operand_taken e.op) (operand_bytes e.mode) (if-immediate (is_immediate e.mode) (leb (operand_taken e.op) (operand_bytes e.mode)) a k);
      reads = leb→le (read_most e) 14 b;
      together = leb→le (read_most e + written_most e.op) 17 c;
    }
so None t = tt

pub each-entry : (page : Page) (code : ℕ) → code < 256 → PlaceSo (entry_of page code)
each-entry page code l = so (entry_of page code) (alike (λ (code : ℕ). right (entry_of page code)) (λ (code : ℕ). true) 256 (all_right page) code l)

-- ---- an operand, by its mode

pub record OperandSo (mode : Mode) (at : ℕ) (o : Operand) (next : ℕ) : Type 0 where
  pub indexed : (r : Set) (to : ℕ) → offset_bytes_of o + length (pointer_reads o r to) ≤ indexed_most mode
  pub immediate : T (is_immediate mode) → (o ≡ ByValue at) × (next ≡ at + operand_bytes mode)

abbrev pub ReadSo : Mode → ℕ → Result (Operand × ℕ) Refusal → Type 0
ReadSo mode at (Ok (o, next)) = OperandSo mode at o next
ReadSo mode at (Err x) = Unit {0}

pub form-most : (f : Form) → offset_bytes f ≤ 2
form-most Offset5 = lit≤ tt
form-most Increment1 = lit≤ tt
form-most Increment2 = lit≤ tt
form-most Decrement1 = lit≤ tt
form-most Decrement2 = lit≤ tt
form-most NoOffset = lit≤ tt
form-most OffsetB = lit≤ tt
form-most OffsetA = lit≤ tt
form-most Offset8 = lit≤ tt
form-most Offset16 = lit≤ tt
form-most OffsetD = lit≤ tt
form-most Program8 = lit≤ tt
form-most Program16 = lit≤ tt
form-most Address = lit≤ tt

module _ (mem : List ℕ) (at : ℕ) where
  by_index : (ix : Index) (next : ℕ) → OperandSo Indexed at (ByIndex ix) next
  unfolding indexed_most
  by_index ix next = record { indexed = λ r to. go (is_indirect ix.post) (indexed_before r ix to).ea; immediate = λ t. absurd t }
    where
      go : (t : Bool) (ea : ℕ) → offset_bytes ix.form + length (cond t (bytes_from ea 2) []) ≤ 4
      go true ea = omega (arith, form-most ix.form, length-bytes 2 ea)
      go false ea = omega (arith, form-most ix.form)

  -- a test that may refuse by 4
  tested : (mode : Mode) (t : Bool) (r : Result (Operand × ℕ) Refusal) → ReadSo mode at r → ReadSo mode at (cond t r (Err PastEnd))
  tested mode true r h = h
  tested mode false r h = tt

  by_form : (n from : ℕ) (f : ℕ → Index) → ReadSo Indexed at (reading n mem from (λ k next. Ok (ByIndex (f k), next)))
  by_form zero from f = by_index (f 0) from
  by_form (suc n) from f = tested Indexed (leb (from + suc n) 0x10000) (Ok (ByIndex (f (operand_number (suc n) mem from)), from + suc n)) (by_index _ _)

  after-post : (p : Result Form Refusal) (post from : ℕ) → ReadSo Indexed at (after_post_byte p mem post from)
  unfolding with_form
  after-post (Ok form) post from = by_form (offset_bytes form) from _
  after-post (Err x) post from = tt

  -- an immediate operand stands at its own address
  value-so : (mode : Mode) (n : ℕ) → operand_bytes mode ≡ n → OperandSo mode at (ByValue at) (at + n)
  value-so mode n e = record { indexed = λ r to. omega arith; immediate = λ t. (refl, rw e) }

  -- one that is neither immediate nor indexed
  plain-so : (mode : Mode) (o : Operand) (next : ℕ) → is_immediate mode ≡ false → ((r : Set) (to : ℕ) → offset_bytes_of o + length (pointer_reads o r to) ≡ 0) → OperandSo mode at o next
  plain-so mode o next e f = record { indexed = λ r to. omega (arith, f r to); immediate = λ t. absurd (rw e at t) }

  pub operand-so : (mode : Mode) → ReadSo mode at (operand_at mode mem at)
  unfolding operand_at indexed_most
  operand-so Inherent = plain-so Inherent Nothing at refl (λ r to. refl)
  operand-so Immediate8 = tested Immediate8 (leb (at + 1) 0x10000) (Ok (ByValue at, at + 1)) (value-so Immediate8 1 refl)
  operand-so Immediate16 = tested Immediate16 (leb (at + 2) 0x10000) (Ok (ByValue at, at + 2)) (value-so Immediate16 2 refl)
  operand-so Direct = tested Direct (leb (at + 1) 0x10000) (Ok (InPage (operand_number 1 mem at), at + 1)) (plain-so Direct _ _ refl (λ r to. refl))
  operand-so Indexed = tested Indexed (leb (at + 1) 0x10000) _ (after-post (form_of (byte_at mem at)) (byte_at mem at) (at + 1))
  operand-so Extended = tested Extended (leb (at + 2) 0x10000) (Ok (AtAddress (operand_number 2 mem at), at + 2)) (plain-so Extended _ _ refl (λ r to. refl))
  operand-so Relative8 = tested Relative8 (leb (at + 1) 0x10000) (Ok (ByOffset (signed_byte (operand_number 1 mem at)), at + 1)) (plain-so Relative8 _ _ refl (λ r to. refl))
  operand-so Relative16 = tested Relative16 (leb (at + 2) 0x10000) (Ok (ByOffset (operand_number 2 mem at), at + 2)) (plain-so Relative16 _ _ refl (λ r to. refl))
