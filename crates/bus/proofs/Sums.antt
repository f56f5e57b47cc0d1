-- The addresses that an instruction reads are as many as their sum says.
-- Assumes nothing.
use Prim.Native.Nat.{ℕ, ◌-◌}
use mathlib.Core.Bool.{Bool, true, false, cond}
use mathlib.Core.List.{List, [], ◌++◌}
use mathlib.Core.Path.{◌≡◌, refl, ◌∙◌}
use native.Mathlib.Omega.{arith}
use lib.ListN.{length, length-append}
use Rattle.registers.specs.ConditionCodes.{coded, flag}
use Rattle.registers.specs.Names.{stack_word}
use Rattle.registers.specs.RegisterSet.{word_of}
use Rattle.registers.specs.declared.CCBit.TheVariants.{E}
use Rattle.registers.specs.declared.Set.{Set}
use Rattle.memory.specs.Map.{byte_at, word_at}
use Rattle.memory.specs.Writes.{listed, stored}
use Rattle.machine.specs.declared.Effect.{Effect}
use Rattle.machine.specs.declared.Settings.{Settings}
use Rattle.opcodes.specs.declared.MemoryOp.TheVariants.{OnMemory, Store8, Store16, Bsr, Jsr, Rts, Rti, Swi, Cwai, Sync, Push, Pull}
use Rattle.opcodes.specs.declared.Mode.{Mode}
use Rattle.opcodes.specs.declared.Mode.TheVariants.{Inherent, Immediate8, Immediate16, Direct, Indexed, Extended, Relative8, Relative16}
use Rattle.opcodes.specs.declared.Op.{Op}
use Rattle.opcodes.specs.declared.Op.TheVariants.{Registers, Memory}
use Rattle.decode.specs.PostByte.{is_indirect}
use Rattle.decode.specs.declared.operand.Operand.{Operand}
use Rattle.decode.specs.declared.operand.Operand.TheVariants.{Inherent as Nothing, Immediate as ByValue, Direct as InPage, Indexed as ByIndex, Extended as AtAddress, Relative as ByOffset}
use Rattle.addressing.specs.Address.{indexed_before}
use Rattle.stack.specs.Frames.{stacked_by, framed}
use Rattle.stack.specs.Pushing.{bytes_pushed}
use Rattle.vectors.specs.Table.{address_of, is_entire, software_vector}
use Rattle.vectors.specs.declared.table.Vector.{Vector}
use Rattle.bus.specs.Reads.{bytes_from, program_reads, pointer_reads, operand_taken, operand_reads, vector_reads, fetched_by, instruction_reads}
use Rattle.bus.specs.Sums.{pointer_count, operand_count, fetched_count, ReadsSummed}
use Rattle.bus.proofs.Entries.{length-bytes}

pointer : (o : Operand) (r : Set) (next : ℕ) → length (pointer_reads o r next) ≡ pointer_count o
pointer (ByIndex ix) r next = go (is_indirect ix.post) (indexed_before r ix next).ea
  where
    go : (t : Bool) (ea : ℕ) → length (cond t (bytes_from ea 2) []) ≡ cond t 2 0
    go true ea = length-bytes 2 ea
    go false ea = refl
pointer Nothing r next = refl
pointer (ByValue at) r next = refl
pointer (InPage low) r next = refl
pointer (AtAddress at) r next = refl
pointer (ByOffset offset) r next = refl

operand : (mode : Mode) (n ea : ℕ) → length (operand_reads mode n ea) ≡ operand_count mode n
operand Immediate8 n ea = refl
operand Immediate16 n ea = refl
operand Direct n ea = length-bytes n ea
operand Indexed n ea = length-bytes n ea
operand Extended n ea = length-bytes n ea
operand Inherent n ea = length-bytes n ea
operand Relative8 n ea = length-bytes n ea
operand Relative16 n ea = length-bytes n ea

pub vector-length : (mem : List ℕ) (s : Settings) (frame : Effect) (v : Vector) → length (vector_reads mem s frame v) ≡ 3
vector-length mem s frame v =
    let pc = word_at (stored s.ram_top (listed frame.writes) mem) (address_of v) in
    length-append (bytes_from (address_of v) 2) (bytes_from pc 1) ∙ rw (length-bytes 2 (address_of v), length-bytes 1 pc)

frame : (t : Bool) → bytes_pushed (stacked_by t) ≡ cond t 12 3
frame true = refl
frame false = refl

module _ (mem : List ℕ) (s : Settings) (r : Set) (ea : ℕ) where
  pub fetched : (op : Op) → length (fetched_by op mem s r ea) ≡ fetched_count op mem r ea
  fetched (Registers op) = refl
  fetched (Memory (OnMemory op)) = refl
  fetched (Memory (Store8 acc)) = refl
  fetched (Memory (Store16 word)) = refl
  fetched (Memory Bsr) = refl
  fetched (Memory Jsr) = refl
  fetched (Memory Rts) = length-bytes 2 r.s
  fetched (Memory Rti) = let t = flag E (coded (byte_at mem r.s)) in length-bytes (bytes_pushed (stacked_by t)) r.s ∙ frame t
  fetched (Memory (Swi which)) = let v = software_vector which in vector-length mem s (framed r (is_entire v)) v
  fetched (Memory Cwai) = refl
  fetched (Memory Sync) = refl
  fetched (Memory (Push own)) = refl
  fetched (Memory (Pull own)) = length-bytes (bytes_pushed (byte_at mem ea)) (word_of r (stack_word own))

pub reads-summed : ReadsSummed
unfolding instruction_reads
reads-summed i mem s was r ea =
    let pr = program_reads was.pc i.next in
    let po = pointer_reads i.operand was i.next in
    let op = operand_reads i.entry.mode (operand_taken i.entry.op) ea in
    let fe = fetched_by i.entry.op mem s r ea in
    omega (
      arith,
      length-append pr (po ++ (op ++ fe)),
      length-append po (op ++ fe),
      length-append op fe,
      length-bytes (i.next - was.pc) was.pc,
      pointer i.operand was i.next,
      operand i.entry.mode (operand_taken i.entry.op) ea,
      fetched mem s r ea i.entry.op,
    )
