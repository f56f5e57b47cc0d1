-- The arms of the counts' matches that several cases share, by the tags that an arm takes.
-- Assumes nothing.
use Prim.Native.Nat.{ℕ}
use mathlib.Core.Path.{◌≡◌, refl, sym, ap, ◌∙◌}
use mathlib.Core.Bool.{Bool, cond}
use mathlib.Core.List.{List, [], ◌∷◌}
use mathlib.Core.Logic.{inl, inr}
use denote.Enum.Declared.{tag_of}
use lib.ListN.{get_or}
use types.Run.{OneOf, miss}
use Rattle.registers.specs.declared.Set.{Set}
use Rattle.opcodes.specs.declared.MemoryOp.{MemoryOp}
use Rattle.opcodes.specs.declared.MemoryOp.TheVariants.{OnMemory, Store8, Store16, Bsr, Jsr, Rts, Rti, Swi, Cwai, Sync, Push, Pull}
use Rattle.opcodes.specs.declared.Mode.{Mode}
use Rattle.opcodes.specs.declared.Mode.TheVariants.{Inherent, Immediate8, Immediate16, Direct, Indexed, Extended, Relative8, Relative16}
use Rattle.opcodes.specs.declared.RegisterOp.{RegisterOp}
use Rattle.opcodes.specs.declared.RegisterOp.TheVariants.{Alu, OnAcc, TestAcc, TestMemory, Addd, Subd, Load16, Cmp16, Lea, Branch, Jmp, Nop, Daa, Sex, Mul, Abx, Andcc, Orcc, Exg, Tfr}
use Rattle.opcodes.specs.contracts.MemoryOp as memory-ops
use Rattle.opcodes.specs.contracts.Mode as modes
use Rattle.opcodes.specs.contracts.RegisterOp as register-ops
use Rattle.decode.specs.declared.operand.Operand.{Operand}
use Rattle.decode.specs.declared.operand.Operand.TheVariants.{Inherent as Nothing, Immediate as ByValue, Direct as InPage, Indexed as ByIndex, Extended as AtAddress, Relative as ByOffset}
use Rattle.decode.specs.contracts.operand.Operand as operands
use Rattle.bus.specs.Reads.{registers_take, memory_takes}
use Rattle.bus.specs.Sums.{pointer_count, operand_count, memory_count}

-- ---- a function of the tag that has the value v at each key of an arm

abbrev Each : (ℕ → ℕ) → ℕ → List ℕ → Type 0
Each f v [] = Unit {0}
Each f v (k ∷ ks) = (v ≡ f k) × Each f v ks

pub by-keys : (f : ℕ → ℕ) (v : ℕ) (ks : List ℕ) (t : ℕ) → Each f v ks → OneOf ks t → v ≡ f t
by-keys f v [] t h e = absurd e
by-keys f v (k ∷ []) t h e = h.0 ∙ sym (ap f e)
by-keys f v (k ∷ l ∷ ks) t h (inl e) = h.0 ∙ sym (ap f e)
by-keys f v (k ∷ l ∷ ks) t h (inr r) = by-keys f v (l ∷ ks) t h.1 r

-- ---- the operand of an operation

abbrev pub of_registers : ℕ → ℕ
of_registers t = get_or (1 ∷ 0 ∷ 0 ∷ 1 ∷ 2 ∷ 2 ∷ 2 ∷ 2 ∷ 0 ∷ 0 ∷ 0 ∷ 0 ∷ 0 ∷ 0 ∷ 0 ∷ 0 ∷ 1 ∷ 1 ∷ 1 ∷ 1 ∷ []) t 0

pub registers-taken : (op : RegisterOp) → of_registers (tag_of register-ops.the_type op) ≡ registers_take op
registers-taken (Alu op acc) = refl
registers-taken (OnAcc op acc) = refl
registers-taken (TestAcc acc) = refl
registers-taken TestMemory = refl
registers-taken Addd = refl
registers-taken Subd = refl
registers-taken (Load16 word) = refl
registers-taken (Cmp16 word) = refl
registers-taken (Lea index) = refl
registers-taken (Branch c) = refl
registers-taken Jmp = refl
registers-taken Nop = refl
registers-taken Daa = refl
registers-taken Sex = refl
registers-taken Mul = refl
registers-taken Abx = refl
registers-taken Andcc = refl
registers-taken Orcc = refl
registers-taken Exg = refl
registers-taken Tfr = refl

abbrev pub of_memory : ℕ → ℕ
of_memory t = get_or (1 ∷ 0 ∷ 0 ∷ 0 ∷ 0 ∷ 0 ∷ 0 ∷ 0 ∷ 1 ∷ 0 ∷ 1 ∷ 1 ∷ []) t 0

pub memory-taken : (op : MemoryOp) → of_memory (tag_of memory-ops.the_type op) ≡ memory_takes op
memory-taken (OnMemory op) = refl
memory-taken (Store8 acc) = refl
memory-taken (Store16 word) = refl
memory-taken Bsr = refl
memory-taken Jsr = refl
memory-taken Rts = refl
memory-taken Rti = refl
memory-taken (Swi which) = refl
memory-taken Cwai = refl
memory-taken Sync = refl
memory-taken (Push own) = refl
memory-taken (Pull own) = refl

abbrev pub of_mode : ℕ → ℕ → ℕ
of_mode n t = get_or (n ∷ 0 ∷ 0 ∷ n ∷ n ∷ n ∷ n ∷ n ∷ []) t 0

pub mode-counts : (m : Mode) (n : ℕ) → of_mode n (tag_of modes.the_type m) ≡ operand_count m n
mode-counts Inherent n = refl
mode-counts Immediate8 n = refl
mode-counts Immediate16 n = refl
mode-counts Direct n = refl
mode-counts Indexed n = refl
mode-counts Extended n = refl
mode-counts Relative8 n = refl
mode-counts Relative16 n = refl

-- ---- the pointer

pub no_index : (o : Operand) → OneOf (0 ∷ 1 ∷ 2 ∷ 4 ∷ 5 ∷ []) (tag_of operands.the_type o) → 0 ≡ pointer_count o
no_index Nothing h = refl
no_index (ByValue at) h = refl
no_index (InPage low) h = refl
no_index (ByIndex ix) h = absurd (miss (0 ∷ 1 ∷ 2 ∷ 4 ∷ 5 ∷ []) 3 tt h)
no_index (AtAddress at) h = refl
no_index (ByOffset offset) h = refl

-- ---- stacks and vectors

-- by a test that was made
pub chosen : (b t : Bool) (x y : ℕ) → b ≡ t → (v : Bool) → b ≡ v → cond v x y ≡ cond t x y
chosen b t x y p v q = ap (λ (c : Bool). cond c x y) (sym q ∙ p)

abbrev quiet : List ℕ
quiet = 0 ∷ 1 ∷ 2 ∷ 3 ∷ 4 ∷ 8 ∷ 9 ∷ 10 ∷ []

-- neither pulls nor takes a vector
pub no-fetch : (op : MemoryOp) (mem : List ℕ) (r : Set) (ea : ℕ) → OneOf quiet (tag_of memory-ops.the_type op) → 0 ≡ memory_count op mem r ea
no-fetch (OnMemory op) mem r ea h = refl
no-fetch (Store8 acc) mem r ea h = refl
no-fetch (Store16 word) mem r ea h = refl
no-fetch Bsr mem r ea h = refl
no-fetch Jsr mem r ea h = refl
no-fetch Rts mem r ea h = absurd (miss quiet 5 tt h)
no-fetch Rti mem r ea h = absurd (miss quiet 6 tt h)
no-fetch (Swi which) mem r ea h = absurd (miss quiet 7 tt h)
no-fetch Cwai mem r ea h = refl
no-fetch Sync mem r ea h = refl
no-fetch (Push own) mem r ea h = refl
no-fetch (Pull own) mem r ea h = absurd (miss quiet 11 tt h)
