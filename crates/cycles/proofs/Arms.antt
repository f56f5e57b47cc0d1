-- The arms of the cycles' matches that several cases share: what each of their cases adds, by the tags that the arm takes.
-- Assumes nothing.
use Prim.Native.Nat.{ℕ}
use mathlib.Core.Path.{◌≡◌, refl, sym, ap, ◌∙◌}
use mathlib.Core.Bool.{Bool, true, false, cond}
use mathlib.Core.List.{List, [], ◌∷◌}
use denote.Enum.Declared.{tag_of}
use mir.Val.{bool_byte}
use types.Run.{OneOf, miss}
use Rattle.registers.specs.ConditionCodes.{flag}
use Rattle.registers.specs.declared.CCBit.TheVariants.{E}
use Rattle.registers.specs.declared.CCBits.{CCBits}
use Rattle.registers.specs.declared.Set.{Set}
use Rattle.memory.specs.Map.{byte_at}
use Rattle.opcodes.specs.declared.Cond.{Cond}
use Rattle.opcodes.specs.declared.Cond.TheVariants.{Ra, Rn, Hi, Ls, Cc, Cs, Ne, Eq, Vc, Vs, Pl, Mi, Ge, Lt, Gt, Le}
use Rattle.opcodes.specs.declared.MemoryOp.{MemoryOp}
use Rattle.opcodes.specs.declared.MemoryOp.TheVariants.{OnMemory, Store8, Store16, Bsr, Jsr, Rts, Rti, Swi, Cwai, Sync, Push, Pull}
use Rattle.opcodes.specs.declared.Mode.{Mode}
use Rattle.opcodes.specs.declared.Mode.TheVariants.{Inherent, Immediate8, Immediate16, Direct, Indexed, Extended, Relative8, Relative16}
use Rattle.opcodes.specs.declared.RegisterOp.{RegisterOp}
use Rattle.opcodes.specs.declared.RegisterOp.TheVariants.{Alu, OnAcc, TestAcc, TestMemory, Addd, Subd, Load16, Cmp16, Lea, Branch, Jmp, Nop, Daa, Sex, Mul, Abx, Andcc, Orcc, Exg, Tfr}
use Rattle.opcodes.specs.contracts.Cond as conds
use Rattle.opcodes.specs.contracts.MemoryOp as memory-ops
use Rattle.opcodes.specs.contracts.Mode as modes
use Rattle.opcodes.specs.contracts.RegisterOp as register-ops
use Rattle.decode.specs.declared.operand.Operand.{Operand}
use Rattle.decode.specs.declared.operand.Operand.TheVariants.{Inherent as Nothing, Immediate as ByValue, Direct as InPage, Indexed as ByIndex, Extended as AtAddress, Relative as ByOffset}
use Rattle.decode.specs.contracts.operand.Operand as operands
use Rattle.operations.specs.Branches.{condition}
use Rattle.stack.specs.Pushing.{bytes_pushed}
use Rattle.cycles.specs.Cycles.{operand_extra, branch_extra, registers_extra, memory_extra}

-- an operand without a post-byte
pub no_index : (o : Operand) → OneOf (0 ∷ 1 ∷ 2 ∷ 4 ∷ 5 ∷ []) (tag_of operands.the_type o) → 0 ≡ operand_extra o
no_index Nothing h = refl
no_index (ByValue at) h = refl
no_index (InPage low) h = refl
no_index (ByIndex ix) h = absurd (miss (0 ∷ 1 ∷ 2 ∷ 4 ∷ 5 ∷ []) 3 tt h)
no_index (AtAddress at) h = refl
no_index (ByOffset offset) h = refl

-- a branch that is not long
pub not-long : (m : Mode) (c : Cond) (codes : CCBits) → OneOf (0 ∷ 1 ∷ 2 ∷ 3 ∷ 4 ∷ 5 ∷ 6 ∷ []) (tag_of modes.the_type m) → 0 ≡ branch_extra m c codes
not-long Inherent c codes h = refl
not-long Immediate8 c codes h = refl
not-long Immediate16 c codes h = refl
not-long Direct c codes h = refl
not-long Indexed c codes h = refl
not-long Extended c codes h = refl
not-long Relative8 c codes h = refl
not-long Relative16 c codes h = absurd (miss (0 ∷ 1 ∷ 2 ∷ 3 ∷ 4 ∷ 5 ∷ 6 ∷ []) 7 tt h)

as_byte : (b : Bool) → bool_byte b ≡ cond b 1 0
as_byte true = refl
as_byte false = refl

-- a long branch but LBRA; LBRN is never taken
pub long : (c : Cond) (codes : CCBits) → OneOf (1 ∷ 2 ∷ 3 ∷ 4 ∷ 5 ∷ 6 ∷ 7 ∷ 8 ∷ 9 ∷ 10 ∷ 11 ∷ 12 ∷ 13 ∷ 14 ∷ 15 ∷ []) (tag_of conds.the_type c) → bool_byte (condition c codes) ≡ branch_extra Relative16 c codes
long Ra codes h = absurd (miss (1 ∷ 2 ∷ 3 ∷ 4 ∷ 5 ∷ 6 ∷ 7 ∷ 8 ∷ 9 ∷ 10 ∷ 11 ∷ 12 ∷ 13 ∷ 14 ∷ 15 ∷ []) 0 tt h)
long Rn codes h = refl
long Hi codes h = as_byte (condition Hi codes)
long Ls codes h = as_byte (condition Ls codes)
long Cc codes h = as_byte (condition Cc codes)
long Cs codes h = as_byte (condition Cs codes)
long Ne codes h = as_byte (condition Ne codes)
long Eq codes h = as_byte (condition Eq codes)
long Vc codes h = as_byte (condition Vc codes)
long Vs codes h = as_byte (condition Vs codes)
long Pl codes h = as_byte (condition Pl codes)
long Mi codes h = as_byte (condition Mi codes)
long Ge codes h = as_byte (condition Ge codes)
long Lt codes h = as_byte (condition Lt codes)
long Gt codes h = as_byte (condition Gt codes)
long Le codes h = as_byte (condition Le codes)

-- an operation of registers that is no branch
abbrev no_branch : List ℕ
no_branch = 0 ∷ 1 ∷ 2 ∷ 3 ∷ 4 ∷ 5 ∷ 6 ∷ 7 ∷ 8 ∷ 10 ∷ 11 ∷ 12 ∷ 13 ∷ 14 ∷ 15 ∷ 16 ∷ 17 ∷ 18 ∷ 19 ∷ []

pub no-branch : (op : RegisterOp) (m : Mode) (codes : CCBits) → OneOf no_branch (tag_of register-ops.the_type op) → 0 ≡ registers_extra op m codes
no-branch (Alu op acc) m codes h = refl
no-branch (OnAcc op acc) m codes h = refl
no-branch (TestAcc acc) m codes h = refl
no-branch TestMemory m codes h = refl
no-branch Addd m codes h = refl
no-branch Subd m codes h = refl
no-branch (Load16 word) m codes h = refl
no-branch (Cmp16 word) m codes h = refl
no-branch (Lea index) m codes h = refl
no-branch (Branch c) m codes h = absurd (miss no_branch 9 tt h)
no-branch Jmp m codes h = refl
no-branch Nop m codes h = refl
no-branch Daa m codes h = refl
no-branch Sex m codes h = refl
no-branch Mul m codes h = refl
no-branch Abx m codes h = refl
no-branch Andcc m codes h = refl
no-branch Orcc m codes h = refl
no-branch Exg m codes h = refl
no-branch Tfr m codes h = refl

-- RTI, by E of the codes that were read
abbrev pub nine : Bool → ℕ
nine b = cond b 9 0

pub by-e : (b : Bool) (codes : CCBits) → b ≡ flag E codes → (v : Bool) → b ≡ v → nine v ≡ nine (flag E codes)
by-e b codes p v q = ap nine (sym q ∙ p)

-- PSHS, PSHU, PULS, PULU
pub stacks : (op : MemoryOp) (mem : List ℕ) (r : Set) (ea : ℕ) → OneOf (10 ∷ 11 ∷ []) (tag_of memory-ops.the_type op) → bytes_pushed (byte_at mem ea) ≡ memory_extra op mem r ea
stacks (OnMemory op) mem r ea h = absurd (miss (10 ∷ 11 ∷ []) 0 tt h)
stacks (Store8 acc) mem r ea h = absurd (miss (10 ∷ 11 ∷ []) 1 tt h)
stacks (Store16 word) mem r ea h = absurd (miss (10 ∷ 11 ∷ []) 2 tt h)
stacks Bsr mem r ea h = absurd (miss (10 ∷ 11 ∷ []) 3 tt h)
stacks Jsr mem r ea h = absurd (miss (10 ∷ 11 ∷ []) 4 tt h)
stacks Rts mem r ea h = absurd (miss (10 ∷ 11 ∷ []) 5 tt h)
stacks Rti mem r ea h = absurd (miss (10 ∷ 11 ∷ []) 6 tt h)
stacks (Swi which) mem r ea h = absurd (miss (10 ∷ 11 ∷ []) 7 tt h)
stacks Cwai mem r ea h = absurd (miss (10 ∷ 11 ∷ []) 8 tt h)
stacks Sync mem r ea h = absurd (miss (10 ∷ 11 ∷ []) 9 tt h)
stacks (Push own) mem r ea h = refl
stacks (Pull own) mem r ea h = refl

-- neither these nor RTI
pub no-pull : (op : MemoryOp) (mem : List ℕ) (r : Set) (ea : ℕ) → OneOf (0 ∷ 1 ∷ 2 ∷ 3 ∷ 4 ∷ 5 ∷ 7 ∷ 8 ∷ 9 ∷ []) (tag_of memory-ops.the_type op) → 0 ≡ memory_extra op mem r ea
no-pull (OnMemory op) mem r ea h = refl
no-pull (Store8 acc) mem r ea h = refl
no-pull (Store16 word) mem r ea h = refl
no-pull Bsr mem r ea h = refl
no-pull Jsr mem r ea h = refl
no-pull Rts mem r ea h = refl
no-pull Rti mem r ea h = absurd (miss (0 ∷ 1 ∷ 2 ∷ 3 ∷ 4 ∷ 5 ∷ 7 ∷ 8 ∷ 9 ∷ []) 6 tt h)
no-pull (Swi which) mem r ea h = refl
no-pull Cwai mem r ea h = refl
no-pull Sync mem r ea h = refl
no-pull (Push own) mem r ea h = absurd (miss (0 ∷ 1 ∷ 2 ∷ 3 ∷ 4 ∷ 5 ∷ 7 ∷ 8 ∷ 9 ∷ []) 10 tt h)
no-pull (Pull own) mem r ea h = absurd (miss (0 ∷ 1 ∷ 2 ∷ 3 ∷ 4 ∷ 5 ∷ 7 ∷ 8 ∷ 9 ∷ []) 11 tt h)
