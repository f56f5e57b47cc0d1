-- The arms of matches that several cases share: what each of their cases has, by the tags that the arm takes.
-- Assumes nothing.
use Rattle.std.proofs.Common.{◌≡◌, ℕ, true, false, List, [], ◌∷◌, refl}
use denote.Enum.Declared.{tag_of}
use types.Run.{OneOf, miss}
use Rattle.text.specs.Lines.{text_of}
use Rattle.opcodes.specs.declared.MemoryOp.{MemoryOp}
use Rattle.opcodes.specs.declared.MemoryOp.TheVariants.{OnMemory, Store8, Store16, Bsr, Jsr, Rts, Rti, Swi, Cwai, Sync, Push, Pull}
use Rattle.opcodes.specs.declared.Mode.{Mode}
use Rattle.opcodes.specs.declared.Mode.TheVariants.{Inherent, Immediate8, Immediate16, Direct, Indexed, Extended, Relative8, Relative16}
use Rattle.opcodes.specs.declared.Op.{Op}
use Rattle.opcodes.specs.declared.RegisterOp.{RegisterOp}
use Rattle.opcodes.specs.declared.RegisterOp.TheVariants.{Alu, OnAcc, TestAcc, TestMemory, Addd, Subd, Load16, Cmp16, Lea, Branch, Jmp, Nop, Daa, Sex, Mul, Abx, Andcc, Orcc, Exg, Tfr}
use Rattle.opcodes.specs.contracts.MemoryOp as memory-ops
use Rattle.opcodes.specs.contracts.Mode as modes
use Rattle.opcodes.specs.contracts.RegisterOp as register-ops
use Rattle.decode.specs.declared.operand.Operand.{Operand}
use Rattle.decode.specs.declared.operand.Operand.TheVariants.{Inherent as Nothing, Immediate as ByValue, Direct as InPage, Indexed as ByIndex, Extended as AtAddress, Relative as Branched}
use Rattle.decode.specs.contracts.operand.Operand as operands
use Rattle.operations.specs.Refusals.{names_two}
use Rattle.disassembly.specs.Operands.{immediate_byte, memory_byte_text, immediate_text}
use Rattle.disassembly.specs.Disassembly.{immediate_at}

-- an operand that is not immediate
pub no-immediate : (o : Operand) → OneOf (0 ∷ 2 ∷ 3 ∷ 4 ∷ 5 ∷ []) (tag_of operands.the_type o) → 0 ≡ immediate_at o
no-immediate Nothing h = refl
no-immediate (ByValue at) h = absurd (miss (0 ∷ 2 ∷ 3 ∷ 4 ∷ 5 ∷ []) 1 tt h)
no-immediate (InPage low) h = refl
no-immediate (ByIndex ix) h = refl
no-immediate (AtAddress at) h = refl
no-immediate (Branched offset) h = refl

-- TFR and EXG, and the others
pub two-named : (op : RegisterOp) → OneOf (18 ∷ 19 ∷ []) (tag_of register-ops.the_type op) → true ≡ names_two op
two-named (Alu op acc) h = absurd (miss (18 ∷ 19 ∷ []) 0 tt h)
two-named (OnAcc op acc) h = absurd (miss (18 ∷ 19 ∷ []) 1 tt h)
two-named (TestAcc acc) h = absurd (miss (18 ∷ 19 ∷ []) 2 tt h)
two-named TestMemory h = absurd (miss (18 ∷ 19 ∷ []) 3 tt h)
two-named Addd h = absurd (miss (18 ∷ 19 ∷ []) 4 tt h)
two-named Subd h = absurd (miss (18 ∷ 19 ∷ []) 5 tt h)
two-named (Load16 word) h = absurd (miss (18 ∷ 19 ∷ []) 6 tt h)
two-named (Cmp16 word) h = absurd (miss (18 ∷ 19 ∷ []) 7 tt h)
two-named (Lea index) h = absurd (miss (18 ∷ 19 ∷ []) 8 tt h)
two-named (Branch c) h = absurd (miss (18 ∷ 19 ∷ []) 9 tt h)
two-named Jmp h = absurd (miss (18 ∷ 19 ∷ []) 10 tt h)
two-named Nop h = absurd (miss (18 ∷ 19 ∷ []) 11 tt h)
two-named Daa h = absurd (miss (18 ∷ 19 ∷ []) 12 tt h)
two-named Sex h = absurd (miss (18 ∷ 19 ∷ []) 13 tt h)
two-named Mul h = absurd (miss (18 ∷ 19 ∷ []) 14 tt h)
two-named Abx h = absurd (miss (18 ∷ 19 ∷ []) 15 tt h)
two-named Andcc h = absurd (miss (18 ∷ 19 ∷ []) 16 tt h)
two-named Orcc h = absurd (miss (18 ∷ 19 ∷ []) 17 tt h)
two-named Exg h = refl
two-named Tfr h = refl

pub none_named : (op : RegisterOp) → OneOf (0 ∷ 1 ∷ 2 ∷ 3 ∷ 4 ∷ 5 ∷ 6 ∷ 7 ∷ 8 ∷ 9 ∷ 10 ∷ 11 ∷ 12 ∷ 13 ∷ 14 ∷ 15 ∷ 16 ∷ 17 ∷ []) (tag_of register-ops.the_type op) → false ≡ names_two op
none_named (Alu op acc) h = refl
none_named (OnAcc op acc) h = refl
none_named (TestAcc acc) h = refl
none_named TestMemory h = refl
none_named Addd h = refl
none_named Subd h = refl
none_named (Load16 word) h = refl
none_named (Cmp16 word) h = refl
none_named (Lea index) h = refl
none_named (Branch c) h = refl
none_named Jmp h = refl
none_named Nop h = refl
none_named Daa h = refl
none_named Sex h = refl
none_named Mul h = refl
none_named Abx h = refl
none_named Andcc h = refl
none_named Orcc h = refl
none_named Exg h = absurd (miss (0 ∷ 1 ∷ 2 ∷ 3 ∷ 4 ∷ 5 ∷ 6 ∷ 7 ∷ 8 ∷ 9 ∷ 10 ∷ 11 ∷ 12 ∷ 13 ∷ 14 ∷ 15 ∷ 16 ∷ 17 ∷ []) 18 tt h)
none_named Tfr h = absurd (miss (0 ∷ 1 ∷ 2 ∷ 3 ∷ 4 ∷ 5 ∷ 6 ∷ 7 ∷ 8 ∷ 9 ∷ 10 ∷ 11 ∷ 12 ∷ 13 ∷ 14 ∷ 15 ∷ 16 ∷ 17 ∷ []) 19 tt h)

-- neither PSH nor PUL
pub no-list : (op : MemoryOp) (b : ℕ) → OneOf (0 ∷ 1 ∷ 2 ∷ 3 ∷ 4 ∷ 5 ∷ 6 ∷ 7 ∷ 8 ∷ 9 ∷ []) (tag_of memory-ops.the_type op) → text_of (immediate_byte b) ≡ text_of (memory_byte_text op b)
no-list (OnMemory op) b h = refl
no-list (Store8 acc) b h = refl
no-list (Store16 word) b h = refl
no-list Bsr b h = refl
no-list Jsr b h = refl
no-list Rts b h = refl
no-list Rti b h = refl
no-list (Swi which) b h = refl
no-list Cwai b h = refl
no-list Sync b h = refl
no-list (Push stack) b h = absurd (miss (0 ∷ 1 ∷ 2 ∷ 3 ∷ 4 ∷ 5 ∷ 6 ∷ 7 ∷ 8 ∷ 9 ∷ []) 10 tt h)
no-list (Pull stack) b h = absurd (miss (0 ∷ 1 ∷ 2 ∷ 3 ∷ 4 ∷ 5 ∷ 6 ∷ 7 ∷ 8 ∷ 9 ∷ []) 11 tt h)

-- a mode without an immediate operand
pub not-immediate : (m : Mode) (op : Op) (mem : List ℕ) (at : ℕ) → OneOf (0 ∷ 3 ∷ 4 ∷ 5 ∷ 6 ∷ 7 ∷ []) (tag_of modes.the_type m) → text_of [] ≡ text_of (immediate_text m op mem at)
not-immediate Inherent op mem at h = refl
not-immediate Immediate8 op mem at h = absurd (miss (0 ∷ 3 ∷ 4 ∷ 5 ∷ 6 ∷ 7 ∷ []) 1 tt h)
not-immediate Immediate16 op mem at h = absurd (miss (0 ∷ 3 ∷ 4 ∷ 5 ∷ 6 ∷ 7 ∷ []) 2 tt h)
not-immediate Direct op mem at h = refl
not-immediate Indexed op mem at h = refl
not-immediate Extended op mem at h = refl
not-immediate Relative8 op mem at h = refl
not-immediate Relative16 op mem at h = refl
