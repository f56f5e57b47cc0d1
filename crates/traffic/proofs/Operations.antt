-- An operation depends on its operand, on the bytes that it pulls and on its vector alone: by families, a clause for each operation.
-- Assumes nothing.
use Prim.Native.Nat.{ℕ, suc, ◌+◌, ◌%◌}
use mathlib.Core.Bool.{Bool, true, false, cond}
use mathlib.Core.List.{List, [], ◌∷◌, reverse}
use mathlib.Core.Path.{◌≡◌, refl, ap, ◌∙◌}
use native.Mathlib.Omega.{arith}
use lib.Dec.{eqb}
use lib.ListN.{length}
use Rattle.registers.specs.ConditionCodes.{bit_at, coded, flag}
use Rattle.registers.specs.Names.{register_size, stack_word}
use Rattle.registers.specs.RegisterSet.{word_of}
use Rattle.registers.specs.declared.CCBit.TheVariants.{E}
use Rattle.registers.specs.declared.Name.{Name}
use Rattle.registers.specs.declared.Name.TheVariants.{A, B, D, X, Y, U, S, PC, DP, CC}
use Rattle.registers.specs.declared.Set.{Set}
use Rattle.registers.specs.declared.Stack.{Stack}
use Rattle.registers.specs.declared.Stack.TheVariants.{S as on_s, U as on_u}
use Rattle.memory.specs.Map.{byte_at, word_at, value_at}
use Rattle.memory.specs.Writes.{listed, stored}
use Rattle.machine.specs.declared.Effect.{Effect}
use Rattle.machine.specs.declared.Settings.{Settings}
use Rattle.opcodes.specs.declared.MemoryOp.{MemoryOp}
use Rattle.opcodes.specs.declared.MemoryOp.TheVariants.{OnMemory, Store8, Store16, Bsr, Jsr, Rts, Rti, Swi, Cwai, Sync, Push, Pull}
use Rattle.opcodes.specs.declared.Mode.{Mode}
use Rattle.opcodes.specs.declared.Op.{Op}
use Rattle.opcodes.specs.declared.Op.TheVariants.{Registers, Memory}
use Rattle.opcodes.specs.declared.RegisterOp.{RegisterOp}
use Rattle.opcodes.specs.declared.RegisterOp.TheVariants.{Alu, OnAcc, TestAcc, TestMemory, Addd, Subd, Load16, Cmp16, Lea, Branch, Jmp, Nop, Daa, Sex, Mul, Abx, Andcc, Orcc, Exg, Tfr}
use Rattle.decode.specs.declared.instruction.Instruction.{Instruction}
use Rattle.operations.specs.Change.{changed_of}
use Rattle.operations.specs.EightBit.{on_memory}
use Rattle.operations.specs.Words.{load16, compare16, add_d, subtract_d}
use Rattle.stack.specs.Frames.{stacked_by, framed}
use Rattle.stack.specs.Pulling.{pulled_to, pulls, pulled, returned_from_interrupt}
use Rattle.stack.specs.Pushing.{order, chosen, bytes_pushed}
use Rattle.stack.proofs.Filling.{size, named-size}
use Rattle.vectors.specs.Service.{vectored}
use Rattle.vectors.specs.Table.{address_of, is_entire, software_vector}
use Rattle.vectors.specs.declared.table.Vector.{Vector}
use Rattle.evaluate.specs.Arming.{registers_arm, arms}
use Rattle.evaluate.specs.Evaluate.{effect_of, evaluate_of}
use Rattle.cycles.specs.Cycles.{operation_extra, operand_extra, cycles_of}
use Rattle.bus.specs.Reads.{bytes_from, operand_taken, vector_reads, fetched_by}
use Rattle.traffic.specs.Laws.{AgreeAt}
use Rattle.traffic.proofs.Agreement.{agree_left, agree_right, byte-agrees, word-agrees, stored-agrees, stored-word-agrees}

-- ---- pulls

-- a post-byte names as many bytes in the order of pulling as in that of pushing
module _ (mask : ℕ) where
  named : ℕ → Name → ℕ
  named k n = cond (bit_at k mask) (register_size n) 0

  one_more : (k : ℕ) (n : Name) (l : List (ℕ × Name)) → size (chosen mask ((k, n) ∷ l)) ≡ named k n + size (chosen mask l)
  unfolding chosen named
  one_more k n l = go (bit_at k mask)
    where
      go : (t : Bool) → size (cond t (n ∷ chosen mask l) (chosen mask l)) ≡ cond t (register_size n) 0 + size (chosen mask l)
      go true = refl
      go false = omega arith

  turned : (a b c d e f g h : ℕ) → a + (b + (c + (d + (e + (f + (g + (h + 0))))))) ≡ h + (g + (f + (e + (d + (c + (b + (a + 0)))))))
  turned a b c d e f g h = omega arith

  none : size (chosen mask []) ≡ 0
  unfolding chosen
  none = refl

  sum : (p o y x d b a c : Name)
      → size (chosen mask ((0, c) ∷ (1, a) ∷ (2, b) ∷ (3, d) ∷ (4, x) ∷ (5, y) ∷ (6, o) ∷ (7, p) ∷ []))
      ≡ size (chosen mask ((7, p) ∷ (6, o) ∷ (5, y) ∷ (4, x) ∷ (3, d) ∷ (2, b) ∷ (1, a) ∷ (0, c) ∷ []))
  sum p o y x d b a c = simp (one_more, none) (turned (named 0 c) (named 1 a) (named 2 b) (named 3 d) (named 4 x) (named 5 y) (named 6 o) (named 7 p))

  pub pulled-size : (stack : Stack) → size (chosen mask (reverse (order stack))) ≡ bytes_pushed mask
  pulled-size on_s = sum PC U Y X DP B A CC ∙ named-size mask on_s
  pulled-size on_u = sum PC S Y X DP B A CC ∙ named-size mask on_u

module _ (mem other : List ℕ) where
  -- a byte or a word at the pointer, and the bytes after it
  record Next (z pointer n : ℕ) : Type 0 where
    value : value_at other pointer (eqb z 2) ≡ value_at mem pointer (eqb z 2)
    rest : AgreeAt mem other (bytes_from ((pointer + z) % 65536) n)

  next-byte : (pointer n : ℕ) → AgreeAt mem other (bytes_from pointer (1 + n)) → Next 1 pointer n
  unfolding bytes_from value_at
  next-byte pointer n h =
      let e : 1 + n ≡ suc n = omega arith in
      let k : AgreeAt mem other (bytes_from pointer (suc n)) = rw e at h in
      record { value = rw k.0; rest = k.1 }

  next_word : (pointer n : ℕ) → AgreeAt mem other (bytes_from pointer (2 + n)) → Next 2 pointer n
  unfolding bytes_from value_at word_at
  next_word pointer n h =
      let e : 2 + n ≡ suc (suc n) = omega arith in
      let k : AgreeAt mem other (bytes_from pointer (suc (suc n))) = rw e at h in
      let w : ((pointer + 1) % 65536 + 1) % 65536 ≡ (pointer + 2) % 65536 = omega arith in
      record { value = rw (k.0, k.1.0); rest = rw w at k.1.1 }

  next-register : (name : Name) (pointer n : ℕ) → AgreeAt mem other (bytes_from pointer (register_size name + n)) → Next (register_size name) pointer n
  next-register A pointer n h = next-byte pointer n h
  next-register B pointer n h = next-byte pointer n h
  next-register D pointer n h = next_word pointer n h
  next-register X pointer n h = next_word pointer n h
  next-register Y pointer n h = next_word pointer n h
  next-register U pointer n h = next_word pointer n h
  next-register S pointer n h = next_word pointer n h
  next-register PC pointer n h = next_word pointer n h
  next-register DP pointer n h = next-byte pointer n h
  next-register CC pointer n h = next-byte pointer n h

  pulls-agree : (names : List Name) (r : Set) (pointer : ℕ) → AgreeAt mem other (bytes_from pointer (size names)) → pulls other names (pulled_to r pointer) ≡ pulls mem names (pulled_to r pointer)
  unfolding pulls
  pulls-agree [] r pointer h = refl
  pulls-agree (name ∷ rest) r pointer h = let k = next-register name pointer (size rest) h in rw k.value (pulls-agree rest _ _ k.rest)

  pull-agrees : (r : Set) (own : Stack) (mask : ℕ) → AgreeAt mem other (bytes_from (word_of r (stack_word own)) (bytes_pushed mask)) → pulled other r own mask ≡ pulled mem r own mask
  unfolding pulled
  pull-agrees r own mask h =
      let e = pulled-size mask own in
      rw (pulls-agree (chosen mask (reverse (order own))) r (word_of r (stack_word own)) (rw e h))

  -- RTI: its first byte is CC, which says how many follow
  codes-agree : (at : ℕ) (t : Bool) → AgreeAt mem other (bytes_from at (bytes_pushed (stacked_by t))) → byte_at other at ≡ byte_at mem at
  unfolding bytes_from
  codes-agree at true h = h.0
  codes-agree at false h = h.0

  return-agrees : (r : Set) → AgreeAt mem other (bytes_from r.s (bytes_pushed (stacked_by (flag E (coded (byte_at mem r.s)))))) → returned_from_interrupt other r ≡ returned_from_interrupt mem r
  unfolding returned_from_interrupt
  return-agrees r h = rw (codes-agree r.s (flag E (coded (byte_at mem r.s))) h) (pull-agrees r on_s (stacked_by (flag E (coded (byte_at mem r.s)))) h)

  -- ---- vectors

  pub vector-agrees : (s : Settings) (r : Set) (frame : Effect) (v : Vector) → length other ≡ length mem → AgreeAt mem other (vector_reads mem s frame v) → vectored other s r frame v ≡ vectored mem s r frame v
  unfolding vectored
  vector-agrees s r frame v l h =
      let top = s.ram_top in
      let ws = listed frame.writes in
      let pc = word_at (stored top ws mem) (address_of v) in
      rw (
        stored-word-agrees mem other top ws l (address_of v) (agree_left mem other (bytes_from (address_of v) 2) (bytes_from pc 1) h),
        stored-agrees mem other top ws l pc (byte-agrees mem other pc (agree_right mem other (bytes_from (address_of v) 2) (bytes_from pc 1) h)),
      )

  pub vector-reads-agree : (s : Settings) (frame : Effect) (v : Vector) → length other ≡ length mem → AgreeAt mem other (vector_reads mem s frame v) → vector_reads other s frame v ≡ vector_reads mem s frame v
  vector-reads-agree s frame v l h =
      let ws = listed frame.writes in
      let pc = word_at (stored s.ram_top ws mem) (address_of v) in
      rw (stored-word-agrees mem other s.ram_top ws l (address_of v) (agree_left mem other (bytes_from (address_of v) 2) (bytes_from pc 1) h))

  -- ---- every operation

  module _ (s : Settings) (r : Set) (ea : ℕ) where
    change-agrees : (op : RegisterOp) → AgreeAt mem other (bytes_from ea (operand_taken (Registers op))) → changed_of op s.flags other r ea ≡ changed_of op s.flags mem r ea
    unfolding add_d subtract_d load16 compare16
    change-agrees (Alu op acc) h = rw (byte-agrees mem other ea h)
    change-agrees (OnAcc op acc) h = refl
    change-agrees (TestAcc acc) h = refl
    change-agrees TestMemory h = rw (byte-agrees mem other ea h)
    change-agrees Addd h = rw (word-agrees mem other ea h)
    change-agrees Subd h = rw (word-agrees mem other ea h)
    change-agrees (Load16 word) h = rw (word-agrees mem other ea h)
    change-agrees (Cmp16 word) h = rw (word-agrees mem other ea h)
    change-agrees (Lea index) h = refl
    change-agrees (Branch c) h = refl
    change-agrees Jmp h = refl
    change-agrees Nop h = refl
    change-agrees Daa h = refl
    change-agrees Sex h = refl
    change-agrees Mul h = refl
    change-agrees Abx h = refl
    change-agrees Andcc h = rw (byte-agrees mem other ea h)
    change-agrees Orcc h = rw (byte-agrees mem other ea h)
    change-agrees Exg h = rw (byte-agrees mem other ea h)
    change-agrees Tfr h = rw (byte-agrees mem other ea h)

    change-arms : (op : RegisterOp) → AgreeAt mem other (bytes_from ea (operand_taken (Registers op))) → registers_arm op (byte_at other ea) ≡ registers_arm op (byte_at mem ea)
    change-arms (Alu op acc) h = refl
    change-arms (OnAcc op acc) h = refl
    change-arms (TestAcc acc) h = refl
    change-arms TestMemory h = refl
    change-arms Addd h = refl
    change-arms Subd h = refl
    change-arms (Load16 word) h = refl
    change-arms (Cmp16 word) h = refl
    change-arms (Lea index) h = refl
    change-arms (Branch c) h = refl
    change-arms Jmp h = refl
    change-arms Nop h = refl
    change-arms Daa h = refl
    change-arms Sex h = refl
    change-arms Mul h = refl
    change-arms Abx h = refl
    change-arms Andcc h = refl
    change-arms Orcc h = refl
    change-arms Exg h = rw (byte-agrees mem other ea h)
    change-arms Tfr h = rw (byte-agrees mem other ea h)

    -- the operation, its cycles, whether it arms NMI, and what it reads besides its operand
    pub record Alike (op : Op) : Type 0 where
      pub effect : evaluate_of op s other r ea ≡ evaluate_of op s mem r ea
      pub extra : (mode : Mode) → operation_extra op mode other r ea ≡ operation_extra op mode mem r ea
      pub arming : arms op (byte_at other ea) ≡ arms op (byte_at mem ea)
      pub fetched : fetched_by op other s r ea ≡ fetched_by op mem s r ea

    memory-agrees : length other ≡ length mem → (op : MemoryOp) → AgreeAt mem other (bytes_from ea (operand_taken (Memory op))) → AgreeAt mem other (fetched_by (Memory op) mem s r ea) → Alike (Memory op)
    unfolding on_memory
    memory-agrees l (OnMemory op) h k = record { effect = rw (byte-agrees mem other ea h); extra = λ mode. refl; arming = refl; fetched = refl }
    memory-agrees l (Store8 acc) h k = record { effect = refl; extra = λ mode. refl; arming = refl; fetched = refl }
    memory-agrees l (Store16 word) h k = record { effect = refl; extra = λ mode. refl; arming = refl; fetched = refl }
    memory-agrees l Bsr h k = record { effect = refl; extra = λ mode. refl; arming = refl; fetched = refl }
    memory-agrees l Jsr h k = record { effect = refl; extra = λ mode. refl; arming = refl; fetched = refl }
    memory-agrees l Rts h k = record { effect = rw (pull-agrees r on_s 0x80 k); extra = λ mode. refl; arming = refl; fetched = refl }
    memory-agrees l Rti h k = record {
      effect = rw (return-agrees r k);
      extra = λ mode. rw (codes-agree r.s (flag E (coded (byte_at mem r.s))) k);
      arming = refl;
      fetched = rw (codes-agree r.s (flag E (coded (byte_at mem r.s))) k);
    }
    memory-agrees l (Swi which) h k =
        let v = software_vector which in
        record { effect = vector-agrees s r (framed r (is_entire v)) v l k; extra = λ mode. refl; arming = refl; fetched = vector-reads-agree s (framed r (is_entire v)) v l k }
    memory-agrees l Cwai h k = record { effect = rw (byte-agrees mem other ea h); extra = λ mode. refl; arming = refl; fetched = refl }
    memory-agrees l Sync h k = record { effect = refl; extra = λ mode. refl; arming = refl; fetched = refl }
    memory-agrees l (Push own) h k = record { effect = rw (byte-agrees mem other ea h); extra = λ mode. rw (byte-agrees mem other ea h); arming = refl; fetched = refl }
    memory-agrees l (Pull own) h k = record {
      effect = rw (byte-agrees mem other ea h) (rw (pull-agrees r own (byte_at mem ea) k));
      extra = λ mode. rw (byte-agrees mem other ea h);
      arming = rw (byte-agrees mem other ea h);
      fetched = rw (byte-agrees mem other ea h);
    }

    pub operation-agrees : length other ≡ length mem → (op : Op) → AgreeAt mem other (bytes_from ea (operand_taken op)) → AgreeAt mem other (fetched_by op mem s r ea) → Alike op
    operation-agrees l (Registers op) h k = record { effect = ap (effect_of r) (change-agrees op h); extra = λ mode. refl; arming = change-arms op h; fetched = refl }
    operation-agrees l (Memory op) h k = memory-agrees l op h k

    pub cycles-agree : (i : Instruction) → Alike i.entry.op → cycles_of i other r ea ≡ cycles_of i mem r ea
    unfolding cycles_of
    cycles-agree i a = ap (λ (n : ℕ). i.entry.cycles + (operand_extra i.operand + n)) (a.extra i.entry.mode)
