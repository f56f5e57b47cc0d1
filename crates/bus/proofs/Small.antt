-- How small the parts of the sum are: so a byte holds it.
-- Assumes nothing.
use Rattle.std.specs.Prelude.{Err, None, Ok, Option, Result, Some}
use Prim.Native.Nat.{ℕ, ◌+◌, ◌≤◌, ◌<◌}
use mathlib.Core.Bool.{Bool, true, false, cond}
use mathlib.Core.List.{List}
use mathlib.Core.Path.{◌≡◌, refl, ap, subst}
use native.Mathlib.Decide.{dec_lt}
use native.Mathlib.Omega.{arith}
use borrow.Author.Tests.{lt-ltb, le-ltb}
use lib.Dec.{eqb, lit≤}
use Rattle.answers.specs.declared.Refusal.TheVariants.{PastEnd}
use Rattle.memory.specs.Map.{byte_at, low_at}
use Rattle.opcodes.specs.Manual.{entry_of}
use Rattle.opcodes.specs.declared.Entry.{Entry}
use Rattle.opcodes.specs.declared.MemoryOp.TheVariants.{OnMemory, Store8, Store16, Bsr, Jsr, Rts, Rti, Swi, Cwai, Sync, Push, Pull}
use Rattle.opcodes.specs.declared.Mode.{Mode}
use Rattle.opcodes.specs.declared.Mode.TheVariants.{Inherent, Immediate8, Immediate16, Direct, Indexed, Extended, Relative8, Relative16}
use Rattle.opcodes.specs.declared.Op.TheVariants.{Registers, Memory}
use Rattle.opcodes.specs.declared.Page.{Page}
use Rattle.opcodes.specs.declared.Page.TheVariants.{Plain, Ten, Eleven}
use Rattle.opcodes.specs.declared.RegisterOp.{RegisterOp}
use Rattle.opcodes.specs.declared.RegisterOp.TheVariants.{Alu, OnAcc, TestAcc, TestMemory, Addd, Subd, Load16, Cmp16, Lea, Branch, Jmp, Nop, Daa, Sex, Mul, Abx, Andcc, Orcc, Exg, Tfr}
use Rattle.registers.specs.ConditionCodes.{coded, flag}
use Rattle.registers.specs.RegisterSet.{after_reset}
use Rattle.registers.specs.declared.CCBit.TheVariants.{E}
use Rattle.registers.specs.declared.Set.{Set}
use Rattle.decode.specs.Decode.{second_byte, located, with_operand, decoded_as, from_located, decoded_at}
use Rattle.decode.specs.Laws.{offset_bytes_of}
use Rattle.decode.specs.Operand.{operand_bytes, operand_at}
use Rattle.decode.specs.PostByte.{is_indirect}
use Rattle.decode.specs.declared.instruction.Instruction.{Instruction}
use Rattle.decode.specs.declared.operand.Operand.{Operand}
use Rattle.decode.specs.declared.operand.Operand.TheVariants.{Inherent as Nothing, Immediate as ByValue, Direct as InPage, Indexed as ByIndex, Extended as AtAddress, Relative as ByOffset}
use Rattle.decode.proofs.Sound.{SoundRead, operand_sound}
use Rattle.stack.proofs.Laws.{none_dropped}
use Rattle.bus.specs.Reads.{registers_take}
use Rattle.bus.specs.Sums.{operand_count, FiveBytes, PointerSmall, OperationsSmall}
use Rattle.bus.proofs.Entries.{indexed_most, ReadSo, form-most, operand-so}
use Rattle.answers.specs.declared.Refusal.{Refusal}

pub pointer-small : PointerSmall
pointer-small (ByIndex ix) = go (is_indirect ix.post)
  where
    go : (t : Bool) → cond t 2 0 ≤ 2
    go true = lit≤ tt
    go false = lit≤ tt
pointer-small Nothing = lit≤ tt
pointer-small (ByValue at) = lit≤ tt
pointer-small (InPage low) = lit≤ tt
pointer-small (AtAddress at) = lit≤ tt
pointer-small (ByOffset offset) = lit≤ tt

-- ---- an operation

counted : (n : ℕ) → n ≤ 2 → (mode : Mode) → operand_count mode n ≤ 2
counted n h Inherent = h
counted n h Immediate8 = lit≤ tt
counted n h Immediate16 = lit≤ tt
counted n h Direct = h
counted n h Indexed = h
counted n h Extended = h
counted n h Relative8 = h
counted n h Relative16 = h

registers-most : (op : RegisterOp) → registers_take op ≤ 2
registers-most (Alu op acc) = lit≤ tt
registers-most (OnAcc op acc) = lit≤ tt
registers-most (TestAcc acc) = lit≤ tt
registers-most TestMemory = lit≤ tt
registers-most Addd = lit≤ tt
registers-most Subd = lit≤ tt
registers-most (Load16 word) = lit≤ tt
registers-most (Cmp16 word) = lit≤ tt
registers-most (Lea index) = lit≤ tt
registers-most (Branch c) = lit≤ tt
registers-most Jmp = lit≤ tt
registers-most Nop = lit≤ tt
registers-most Daa = lit≤ tt
registers-most Sex = lit≤ tt
registers-most Mul = lit≤ tt
registers-most Abx = lit≤ tt
registers-most Andcc = lit≤ tt
registers-most Orcc = lit≤ tt
registers-most Exg = lit≤ tt
registers-most Tfr = lit≤ tt

either : (t : Bool) → cond t 12 3 ≤ 12
either true = lit≤ tt
either false = lit≤ tt

pub operations-small : OperationsSmall
operations-small (Registers op) = record { operand = counted _ (registers-most op); fetched = λ mem r ea. lit≤ tt }
operations-small (Memory (OnMemory op)) = record { operand = counted 1 (lit≤ tt); fetched = λ mem r ea. lit≤ tt }
operations-small (Memory (Store8 acc)) = record { operand = counted 0 (lit≤ tt); fetched = λ mem r ea. lit≤ tt }
operations-small (Memory (Store16 word)) = record { operand = counted 0 (lit≤ tt); fetched = λ mem r ea. lit≤ tt }
operations-small (Memory Bsr) = record { operand = counted 0 (lit≤ tt); fetched = λ mem r ea. lit≤ tt }
operations-small (Memory Jsr) = record { operand = counted 0 (lit≤ tt); fetched = λ mem r ea. lit≤ tt }
operations-small (Memory Rts) = record { operand = counted 0 (lit≤ tt); fetched = λ mem r ea. lit≤ tt }
operations-small (Memory Rti) = record { operand = counted 0 (lit≤ tt); fetched = λ mem r ea. either (flag E (coded (byte_at mem r.s))) }
operations-small (Memory (Swi which)) = record { operand = counted 0 (lit≤ tt); fetched = λ mem r ea. lit≤ tt }
operations-small (Memory Cwai) = record { operand = counted 1 (lit≤ tt); fetched = λ mem r ea. lit≤ tt }
operations-small (Memory Sync) = record { operand = counted 0 (lit≤ tt); fetched = λ mem r ea. lit≤ tt }
operations-small (Memory (Push own)) = record { operand = counted 1 (lit≤ tt); fetched = λ mem r ea. lit≤ tt }
operations-small (Memory (Pull own)) = record { operand = counted 1 (lit≤ tt); fetched = λ mem r ea. none_dropped.few (byte_at mem ea) }

-- ---- the program's bytes

-- any registers: how many bytes an operand has does not depend on them
none : Set
none = after_reset

offset-most : (o : Operand) → offset_bytes_of o ≤ 2
offset-most (ByIndex ix) = form-most ix.form
offset-most Nothing = lit≤ tt
offset-most (ByValue at) = lit≤ tt
offset-most (InPage low) = lit≤ tt
offset-most (AtAddress at) = lit≤ tt
offset-most (ByOffset offset) = lit≤ tt

-- offset bytes stand after a post-byte alone
three : (mode : Mode) (n : ℕ) → n ≤ 2 → n ≤ indexed_most mode → operand_bytes mode + n ≤ 3
unfolding indexed_most
three Inherent n h k = omega arith
three Immediate8 n h k = omega arith
three Immediate16 n h k = omega arith
three Direct n h k = omega arith
three Indexed n h k = omega arith
three Extended n h k = omega arith
three Relative8 n h k = omega arith
three Relative16 n h k = omega arith

module _ (mem : List ℕ) (pc : ℕ) (i : Instruction) where
  Near : ℕ → Type 0
  Near at = (at ≤ i.next) × (i.next ≤ at + 3)

  of-operand : (e : Entry) (at : ℕ) (r : Result (Operand × ℕ) Refusal) → operand_at e.mode mem at ≡ r → with_operand e r ≡ Ok i → Near at
  unfolding Near
  of-operand e at (Ok (o, next)) q t =
      let d : record { entry = e; operand = o; next = next } ≡ i = cc in
      let n : next ≡ i.next = ap (λ (j : Instruction). j.next) d in
      let k = (subst (SoundRead mem at (operand_bytes e.mode)) q (operand_sound mem e.mode at)).length in
      let x = (subst (ReadSo e.mode at) q (operand-so mem at e.mode)).indexed none 0 in
      let y = three e.mode (offset_bytes_of o) (offset-most o) (omega arith) in
      (omega arith, omega arith)
  of-operand e at (Err x) q t = let z : ◌≡◌ {A = ℕ} 0 1 = cc in absurd (omega arith)

  of-place : (p : Option Entry) (at : ℕ) → decoded_as p mem at ≡ Ok i → Near at
  unfolding decoded_as
  of-place (Some e) at t = of-operand e at (operand_at e.mode mem at) refl t
  of-place None at t = let z : ◌≡◌ {A = ℕ} 0 1 = cc in absurd (omega arith)

  -- by the first byte: a prefix, with the opcode after it, or the opcode itself
  Five : Type 0
  Five = (pc ≤ i.next) × (i.next ≤ pc + 5)

  near : (at : ℕ) → pc ≤ at → at ≤ pc + 2 → Near at → Five
  unfolding Near Five
  near at l g n =
      let a = n.0 in
      let b = n.1 in
      (omega arith, omega arith)

  second : (page : Page) → from_located (second_byte page mem pc) mem ≡ Ok i → Five
  second page t = go (dec_lt pc 0xFFFF)
    where
      go : Dec (pc < 0xFFFF) → Five
      go (yes l) = near (pc + 2) (omega arith) (omega arith) (of-place (entry_of page (byte_at mem (low_at pc))) (pc + 2) (rw (lt-ltb pc 0xFFFF l) at t))
      go (no n) =
          let k : Err PastEnd ≡ Ok i = rw (le-ltb pc 0xFFFF (omega arith)) at t in
          let z : ◌≡◌ {A = ℕ} 0 1 = cc in absurd (omega arith)

  first : decoded_at mem pc ≡ Ok i → Five
  unfolding decoded_at located
  first e = go (eqb (byte_at mem pc) 0x10) refl (eqb (byte_at mem pc) 0x11) refl
    where
      go : (t : Bool) → eqb (byte_at mem pc) 0x10 ≡ t → (u : Bool) → eqb (byte_at mem pc) 0x11 ≡ u → Five
      go true p u q = second Ten (rw p at e)
      go false p true q = second Eleven (rw (p, q) at e)
      go false p false q = near (pc + 1) (omega arith) (omega arith) (of-place (entry_of Plain (byte_at mem pc)) (pc + 1) (rw (p, q) at e))

pub five-bytes : FiveBytes
unfolding Five
five-bytes mem pc i e = first mem pc i e
