-- H stays but for ADD, ADC and the operations that write CC.
-- Assumes nothing.
use Rattle.std.specs.Prelude.{Err, Ok, Result, ⊤}
use Prim.Native.Nat.{ℕ, ◌/◌, ◌%◌, ◌^◌}
use mathlib.Core.Bool.{Bool, true, false, cond, ◌||◌, true≢false}
use mathlib.Core.List.{List, [], ◌∷◌}
use mathlib.Core.Path.{◌≡◌, refl, ap, ◌∙◌}
use native.Mathlib.Omega.{arith}
use lib.Bits.{bit_or, or_shr, or_mod, or_zero_r}
use lib.Dec.{eqb, ltb}
use Rattle.answers.specs.declared.Refusal.TheVariants.{TransferCode, StackTooSmall, Fenced, ZeroAtVector}
use Rattle.u8oru16.specs.Negated.{sign_extended}
use Rattle.u8oru16.specs.Value.{value_of}
use Rattle.u8oru16.specs.declared.u8u16.TheVariants.{u8}
use Rattle.registers.specs.ConditionCodes.{bit_at, put, flag}
use Rattle.registers.specs.Arithmetic.{ADDD, SUB, SBC, SUBD, DEC, INC, AND, OR, EOR, COM, NEG, ASL, LSR, ASR, ROL, ROR, MUL, ◌:=◌, logical}
use Rattle.registers.specs.Names.{stack_word}
use Rattle.registers.specs.RegisterSet.{read, word_of, written, with_word}
use Rattle.registers.specs.declared.CCBit.TheVariants.{C, «V», Z, N, H, E}
use Rattle.registers.specs.declared.CCBits.{CCBits}
use Rattle.registers.specs.declared.Flags.{Flags}
use Rattle.registers.specs.declared.Flags.TheVariants.{Manual}
use Rattle.registers.specs.declared.Index.{Index}
use Rattle.registers.specs.declared.Index.TheVariants.{X as LEAX, Y as LEAY, U as LEAU, S as LEAS}
use Rattle.registers.specs.declared.Name.{Name}
use Rattle.registers.specs.declared.Name.TheVariants.{A, B, D, X, Y, U, S as SP, PC, DP}
use Rattle.registers.specs.declared.Set.{Set}
use Rattle.registers.specs.declared.Stack.{Stack}
use Rattle.registers.specs.declared.Stack.TheVariants.{S}
use Rattle.registers.specs.declared.Word.{Word}
use Rattle.registers.specs.declared.Word.TheVariants.{D as word_d, X as word_x, Y as word_y, U as word_u, S as word_s}
use Rattle.registers.proofs.Laws.{kept}
use Rattle.registers.proofs.Lines.{stays}
use Rattle.registers.proofs.Reading.{flag-far}
use Rattle.memory.specs.Map.{byte_at, word_at}
use Rattle.memory.specs.Writes.{listed, stored}
use Rattle.machine.specs.Effect.{stores, refuses}
use Rattle.machine.specs.Fence.{bars}
use Rattle.machine.specs.declared.Effect.{Effect}
use Rattle.machine.specs.declared.Settings.{Settings}
use Rattle.opcodes.specs.declared.Acc.{Acc}
use Rattle.opcodes.specs.declared.Acc.TheVariants.{A as AccA, B as AccB}
use Rattle.opcodes.specs.declared.Alu.{Alu as Binary}
use Rattle.opcodes.specs.declared.Alu.TheVariants.{Add, Adc, Sub, Sbc, Cmp, And, Bit, Or, Eor, Ld}
use Rattle.opcodes.specs.declared.MemoryOp.TheVariants.{OnMemory, Store8, Store16, Bsr, Jsr, Rts, Rti, Swi, Cwai, Sync, Push, Pull}
use Rattle.opcodes.specs.declared.Op.TheVariants.{Registers, Memory}
use Rattle.opcodes.specs.declared.RegisterOp.{RegisterOp}
use Rattle.opcodes.specs.declared.RegisterOp.TheVariants.{Alu, OnAcc, TestAcc, TestMemory, Addd, Subd, Load16, Cmp16, Lea, Branch, Jmp, Nop, Daa, Sex, Mul, Abx, Andcc, Orcc, Exg, Tfr}
use Rattle.opcodes.specs.declared.Software.TheVariants.{Swi as SWI, Swi2 as SWI2, Swi3 as SWI3}
use Rattle.opcodes.specs.declared.Unary.{Unary}
use Rattle.opcodes.specs.declared.Unary.TheVariants.{Neg, Com, Lsr, Ror, Asr, Asl, Rol, Dec, Inc, Clr}
use Rattle.operations.specs.Branches.{condition, jumped}
use Rattle.operations.specs.Change.{changed_of}
use Rattle.operations.specs.Codes.{with_codes, or_codes}
use Rattle.operations.specs.EightBit.{accumulator, with_accumulator, alu_of, unary_of, on_memory}
use Rattle.operations.specs.Inherent.{daa_flags, sex_flags}
use Rattle.operations.specs.Transfers.{transferable, transfer_name, transfer, exchange}
use Rattle.operations.specs.Words.{tested16, load16, store16, compare16, add_d, subtract_d, load_address}
use Rattle.stack.specs.Frames.{stacked_by, framed}
use Rattle.stack.specs.Pushing.{bytes_pushed, pushed, once_pushed, jumped_to_subroutine}
use Rattle.stack.proofs.Kept.{is_other, other-written, pull-keeps-codes}
use Rattle.vectors.specs.Service.{vectored, served}
use Rattle.vectors.specs.Table.{address_of, masks_of, is_entire, software_vector}
use Rattle.vectors.specs.declared.table.Vector.{Vector}
use Rattle.evaluate.specs.Evaluate.{effect_of}
use Rattle.evaluate.specs.HalfCarry.{half_carries, registers_change_h, HalfCarryAlone}
use Rattle.answers.specs.declared.Refusal.{Refusal}
use Rattle.registers.specs.declared.Out.{Out}

-- H in r is as in the codes cc
abbrev Same : CCBits → CCBits → Type 0
Same cc was = flag H cc ≡ flag H was

-- ---- bytes

module _ (s : Flags) (cc : CCBits) where
  alu-same : (op : Binary) (a m : ℕ) → half_carries op ≡ false → Same (alu_of op s cc a m).cc cc
  alu-same Add a m e = absurd (true≢false e)
  alu-same Adc a m e = absurd (true≢false e)
  alu-same Sub a m e = kept s SUB cc a m H refl
  alu-same Sbc a m e = kept s SBC cc a m H refl
  alu-same Cmp a m e = kept Manual SUB cc a m H refl
  alu-same And a m e = kept Manual AND cc a m H refl
  alu-same Bit a m e = kept Manual AND cc a m H refl
  alu-same Or a m e = kept Manual OR cc a m H refl
  alu-same Eor a m e = kept Manual EOR cc a m H refl
  alu-same Ld a m e = stays H cc (logical 0x80 m).flags refl

  unary-same : (op : Unary) (m : ℕ) → Same (unary_of op s cc m).cc cc
  unary-same Neg m = kept Manual NEG cc m 0 H refl
  unary-same Com m = kept Manual COM cc m 0 H refl
  unary-same Lsr m = kept Manual LSR cc m 0 H refl
  unary-same Ror m = kept Manual ROR cc m 0 H refl
  unary-same Asr m = kept Manual ASR cc m 0 H refl
  unary-same Asl m = kept Manual ASL cc m 0 H refl
  unary-same Rol m = kept Manual ROL cc m 0 H refl
  unary-same Dec m = kept s DEC cc m 0 H refl
  unary-same Inc m = kept s INC cc m 0 H refl
  unary-same Clr m = stays H cc ((N := false) ∷ (Z := true) ∷ («V» := false) ∷ (C := false) ∷ []) refl

in-accumulator : (acc : Acc) (out : Out ℕ) (r : Set) → Same out.cc r.cc → Same (with_accumulator acc out r).cc r.cc
in-accumulator AccA out r h = h
in-accumulator AccB out r h = h

-- ---- words

with-word : (r : Set) (w : Word) (n : ℕ) → (with_word r w n).cc ≡ r.cc
with-word r word_d n = refl
with-word r word_x n = refl
with-word r word_y n = refl
with-word r word_u n = refl
with-word r word_s n = refl

-- a change of registers
abbrev Leaves : Set → Result Set Refusal → Type 0
Leaves r (Ok q) = Same q.cc r.cc
Leaves r (Err x) = Unit {0}

-- ---- TFR and EXG

name-other : (code : ℕ) → eqb code 10 ≡ false → is_other (transfer_name code) ≡ true
unfolding transfer_name
name-other code e = rw e (go (eqb code 0) (eqb code 1) (eqb code 2) (eqb code 3) (eqb code 4) (eqb code 5) (eqb code 8) (eqb code 9))
  where
    go : (d x y u s p a b : Bool) → is_other (cond d D (cond x X (cond y Y (cond u U (cond s SP (cond p PC (cond a A (cond b B DP)))))))) ≡ true
    go true x y u s p a b = refl
    go false true y u s p a b = refl
    go false false true u s p a b = refl
    go false false false true s p a b = refl
    go false false false false true p a b = refl
    go false false false false false true a b = refl
    go false false false false false false true b = refl
    go false false false false false false false true = refl
    go false false false false false false false false = refl

neither : (a b : Bool) → (a || b) ≡ false → (a ≡ false) × (b ≡ false)
neither true b e = absurd (true≢false e)
neither false b e = (refl, e)

module _ (r : Set) (m : ℕ) where
  transferred : eqb (m % 16) 10 ≡ false → Leaves r (transfer r m)
  unfolding transfer
  transferred e = go (transferable m)
    where
      go : (b : Bool) → Leaves r (cond b (Ok (written r (transfer_name (m % 16)) (read r (transfer_name (m / 16))))) (Err TransferCode))
      go true = ap (flag H) (other-written r (transfer_name (m % 16)) (read r (transfer_name (m / 16))) (name-other (m % 16) e))
      go false = tt

  exchanged : (eqb (m / 16) 10 || eqb (m % 16) 10) ≡ false → Leaves r (exchange r m)
  unfolding exchange
  exchanged e =
      let n = neither (eqb (m / 16) 10) (eqb (m % 16) 10) e in
      go (transferable m) (name-other (m / 16) n.0) (name-other (m % 16) n.1)
    where
      first : Name
      first = transfer_name (m / 16)

      second : Name
      second = transfer_name (m % 16)

      go : (b : Bool) → is_other first ≡ true → is_other second ≡ true
          → Leaves r (cond b (Ok (written (written r first (read r second)) second (read r first))) (Err TransferCode))
      go true f g = ap (flag H) (other-written (written r first (read r second)) second (read r first) g ∙ other-written r first (read r second) f)
      go false f g = tt

-- ---- operations on registers

loaded-address : (i : Index) (r : Set) (ea : ℕ) → Same (load_address i r ea).cc r.cc
loaded-address LEAX r ea = flag-far H Z (eqb ea 0) r.cc (omega arith)
loaded-address LEAY r ea = flag-far H Z (eqb ea 0) r.cc (omega arith)
loaded-address LEAU r ea = refl
loaded-address LEAS r ea = refl

changed-leaves : (op : RegisterOp) (s : Flags) (mem : List ℕ) (r : Set) (ea : ℕ) → registers_change_h op (byte_at mem ea) ≡ false → Leaves r (changed_of op s mem r ea)
unfolding load16 compare16 add_d subtract_d
changed-leaves (Alu op acc) s mem r ea e = in-accumulator acc _ r (alu-same s r.cc op (accumulator acc r) (byte_at mem ea) e)
changed-leaves (OnAcc op acc) s mem r ea e = in-accumulator acc _ r (unary-same s r.cc op (accumulator acc r))
changed-leaves (TestAcc acc) s mem r ea e = stays H r.cc (logical 0x80 (accumulator acc r)).flags refl
changed-leaves TestMemory s mem r ea e = stays H r.cc (logical 0x80 (byte_at mem ea)).flags refl
changed-leaves Addd s mem r ea e = kept Manual ADDD r.cc (word_of r word_d) (word_at mem ea) H refl
changed-leaves Subd s mem r ea e = kept Manual SUBD r.cc (word_of r word_d) (word_at mem ea) H refl
changed-leaves (Load16 word) s mem r ea e =
    let w = word_at mem ea in
    ap (flag H) (with-word (tested16 r w) word w) ∙ stays H r.cc (logical 0x8000 w).flags refl
changed-leaves (Cmp16 word) s mem r ea e = kept Manual SUBD r.cc (word_of r word) (word_at mem ea) H refl
changed-leaves (Lea index) s mem r ea e = loaded-address index r ea
changed-leaves (Branch c) s mem r ea e = go (condition c r.cc)
  where
    go : (b : Bool) → Same (cond b (jumped r ea) r).cc r.cc
    go true = refl
    go false = refl
changed-leaves Jmp s mem r ea e = refl
changed-leaves Nop s mem r ea e = refl
changed-leaves Daa s mem r ea e = stays H r.cc (daa_flags r.cc r.a) refl
changed-leaves Sex s mem r ea e = stays H r.cc (sex_flags (value_of (sign_extended (u8 r.b)))) refl
changed-leaves Mul s mem r ea e = kept Manual MUL r.cc r.a r.b H refl
changed-leaves Abx s mem r ea e = refl
changed-leaves Andcc s mem r ea e = absurd (true≢false e)
changed-leaves Orcc s mem r ea e = absurd (true≢false e)
changed-leaves Exg s mem r ea e = exchanged r (byte_at mem ea) e
changed-leaves Tfr s mem r ea e = transferred r (byte_at mem ea) e

of-change : (r : Set) (c : Result Set Refusal) → Leaves r c → Same (effect_of r c).regs.cc r.cc
of-change r (Ok q) h = h
of-change r (Err x) h = refl

-- ---- stacks and vectors

either : (r : Set) (b : Bool) (e f : Effect) → Same e.regs.cc r.cc → Same f.regs.cc r.cc → Same (cond b e f).regs.cc r.cc
either r true e f h k = h
either r false e f h k = k

once : (r : Set) (a : Result ⊤ Refusal) (e : Effect) → Same e.regs.cc r.cc → Same (once_pushed r a e).regs.cc r.cc
once r (Ok u) e h = h
once r (Err x) e h = refl

push-same : (r : Set) (own : Stack) (mask : ℕ) (system : Bool) → Same (pushed r own mask system).regs.cc r.cc
unfolding pushed
push-same r own mask system =
    either r (ltb (word_of r (stack_word own)) (bytes_pushed mask)) (refuses r StackTooSmall) _ refl (ap (flag H) (with-word r (stack_word own) _))

jsr-same : (r : Set) (ea : ℕ) → Same (jumped_to_subroutine r ea).regs.cc r.cc
unfolding jumped_to_subroutine
jsr-same r ea = let p = pushed r S 0x80 false in once r p.answer (stores (jumped p.regs ea) p.writes) (push-same r S 0x80 false)

frame_same : (r : Set) (entire : Bool) → Same (framed r entire).regs.cc r.cc
unfolding framed
frame_same r entire =
    let q = with_codes r (put E entire r.cc) in
    let p = pushed q S (stacked_by entire) true in
    once r p.answer p (push-same q S (stacked_by entire) true ∙ flag-far H E entire r.cc (omega arith))

-- a mask that has no 1 at place k leaves it
or-leaves : (k n m : ℕ) → m / 2 ^ k % 2 ≡ 0 → bit_at k (bit_or n m) ≡ bit_at k n
unfolding bit_at
or-leaves k n m e =
    ap (λ (x : ℕ). eqb x 1)
    (ap (λ (x : ℕ). x % 2) (or_shr n m k) ∙ (or_mod (n / 2 ^ k) (m / 2 ^ k) 1 ∙ (ap (bit_or (n / 2 ^ k % 2)) e ∙ or_zero_r (n / 2 ^ k % 2))))

served-same : (mem : List ℕ) (s : Settings) (r : Set) (v : Vector) → masks_of v / 2 ^ 5 % 2 ≡ 0 → Same (served mem s r v).regs.cc r.cc
unfolding vectored
served-same mem s r v e =
    let frame = framed r (is_entire v) in
    let after = stored s.ram_top (listed frame.writes) mem in
    let pc = word_at after (address_of v) in
    once r frame.answer _
    (either r (bars s (listed frame.writes)) (refuses r Fenced) _ refl
    (either r (eqb (byte_at after pc) 0) (refuses r ZeroAtVector) (stores (jumped (or_codes frame.regs (masks_of v)) pc) frame.writes) refl
    (or-leaves 5 frame.regs.cc.reg (masks_of v) e ∙ frame_same r (is_entire v))))

-- RTS pulls PC, and not CC
pc-alone : bit_at 0 0x80 ≡ false
unfolding bit_at
pc-alone = refl

pub half-carry-alone : HalfCarryAlone
unfolding on_memory store16
half-carry-alone (Registers op) s mem r ea e = of-change r (changed_of op s.flags mem r ea) (changed-leaves op s.flags mem r ea e)
half-carry-alone (Memory (OnMemory op)) s mem r ea e = unary-same s.flags r.cc op (byte_at mem ea)
half-carry-alone (Memory (Store8 acc)) s mem r ea e = stays H r.cc (logical 0x80 (accumulator acc r)).flags refl
half-carry-alone (Memory (Store16 word)) s mem r ea e = stays H r.cc (logical 0x8000 (word_of r word)).flags refl
half-carry-alone (Memory Bsr) s mem r ea e = jsr-same r ea
half-carry-alone (Memory Jsr) s mem r ea e = jsr-same r ea
half-carry-alone (Memory Rts) s mem r ea e = ap (flag H) (pull-keeps-codes mem r S 0x80 pc-alone)
half-carry-alone (Memory Rti) s mem r ea e = absurd (true≢false e)
half-carry-alone (Memory (Swi SWI)) s mem r ea e = served-same mem s r (software_vector SWI) refl
half-carry-alone (Memory (Swi SWI2)) s mem r ea e = served-same mem s r (software_vector SWI2) refl
half-carry-alone (Memory (Swi SWI3)) s mem r ea e = served-same mem s r (software_vector SWI3) refl
half-carry-alone (Memory Cwai) s mem r ea e = absurd (true≢false e)
half-carry-alone (Memory Sync) s mem r ea e = refl
half-carry-alone (Memory (Push own)) s mem r ea e = push-same r own (byte_at mem ea) false
half-carry-alone (Memory (Pull own)) s mem r ea e = ap (flag H) (pull-keeps-codes mem r own (byte_at mem ea) e)
