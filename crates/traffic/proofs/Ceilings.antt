-- The ceilings: from the most that an entry of the opcode table can read and write.
-- Assumes nothing.
use Rattle.std.specs.Prelude.{Err, Ok, Result, ⊤}
use Prim.Native.Nat.{ℕ, ◌+◌, ◌-◌, ◌≤◌, ◌<◌}
use mathlib.Core.Bool.{Bool, true, false, cond}
use mathlib.Core.List.{List, [], ◌++◌}
use mathlib.Core.Path.{◌≡◌, refl, ap}
use native.Mathlib.Omega.{arith}
use lib.Dec.{eqb, lit≤}
use lib.ListN.{length, length-append}
use Rattle.answers.specs.declared.Refusal.{Refusal}
use Rattle.answers.specs.declared.Refusal.TheVariants.{MemoryLength, Fenced}
use Rattle.registers.specs.ConditionCodes.{coded, flag}
use Rattle.registers.specs.Names.{stack_word}
use Rattle.registers.specs.RegisterSet.{word_of}
use Rattle.registers.specs.declared.CCBit.TheVariants.{E}
use Rattle.registers.specs.declared.Set.{Set}
use Rattle.memory.specs.Fits.{Bytes}
use Rattle.memory.specs.Map.{byte_at, word_at}
use Rattle.memory.specs.Writes.{listed}
use Rattle.memory.proofs.Folds.{listed_back}
use Rattle.machine.specs.Fence.{bars}
use Rattle.machine.specs.Machine.{with_registers}
use Rattle.machine.specs.declared.Effect.{Effect}
use Rattle.machine.specs.declared.Machine.{Machine}
use Rattle.machine.specs.declared.Settings.{Settings}
use Rattle.opcodes.specs.declared.MemoryOp.TheVariants.{OnMemory, Store8, Store16, Bsr, Jsr, Rts, Rti, Swi, Cwai, Sync, Push, Pull}
use Rattle.opcodes.specs.declared.Op.{Op}
use Rattle.opcodes.specs.declared.Op.TheVariants.{Registers, Memory}
use Rattle.decode.specs.declared.instruction.Instruction.{Instruction}
use Rattle.stack.specs.Frames.{stacked_by, framed}
use Rattle.stack.specs.Pushing.{bytes_pushed}
use Rattle.stack.proofs.Laws.{none_dropped}
use Rattle.vectors.specs.Table.{address_of, is_entire, software_vector}
use Rattle.vectors.specs.declared.table.Vector.TheVariants.{Reset}
use Rattle.evaluate.specs.Arming.{arms}
use Rattle.evaluate.specs.Evaluate.{evaluate_of}
use Rattle.evaluate.specs.Writes.{bytes_made}
use Rattle.evaluate.proofs.Writes.{no-write-lost}
use Rattle.cycles.specs.Cycles.{cycles_of}
use Rattle.calls.specs.Plans.{refused_with, accepted}
use Rattle.calls.specs.Steps.{Reached, At, NotReached, reached, finished_as, finished, planned, step_plan}
use Rattle.calls.specs.Interrupts.{vector_of, is_held_off, taken, after_held_off, of_effect, taken_by, taken_reads, interrupt_plan}
use Rattle.calls.specs.Resets.{reset_to, reset_plan}
use Rattle.calls.specs.Calls.{Call, step, interrupt, reset, plan_of}
use Rattle.calls.specs.declared.InterruptType.{InterruptType}
use Rattle.calls.specs.declared.Plan.{Plan}
use Rattle.calls.proofs.Laws.{few-writes}
use Rattle.calls.proofs.Decided.{taken-reads}
use Rattle.bus.specs.Reads.{program_reads, pointer_reads, operand_taken, operand_reads, fetched_by, instruction_reads}
use Rattle.traffic.specs.Counts.{reached_reads, if_accepted, reads_of, read_count, write_count}
use Rattle.traffic.specs.Laws.{StepsBounded, InterruptsBounded, RefusedCounts}
use Rattle.traffic.proofs.Accesses.{Came, came, known}
use Rattle.bus.proofs.Sums.{vector-length}
use Rattle.bus.proofs.Entries.{length-bytes, taken-most, fetched_most, written_most, read_most}

-- ---- the most that an operation reads besides its operand, and that it writes

frame-most : (t : Bool) → bytes_pushed (stacked_by t) ≤ 12
frame-most t = none_dropped.few (stacked_by t)

module _ (mem : List ℕ) (s : Settings) (r : Set) (ea : ℕ) where
  fetched-most : (op : Op) → length (fetched_by op mem s r ea) ≤ fetched_most op
  unfolding fetched_most
  fetched-most (Registers op) = lit≤ tt
  fetched-most (Memory (OnMemory op)) = lit≤ tt
  fetched-most (Memory (Store8 acc)) = lit≤ tt
  fetched-most (Memory (Store16 word)) = lit≤ tt
  fetched-most (Memory Bsr) = lit≤ tt
  fetched-most (Memory Jsr) = lit≤ tt
  fetched-most (Memory Rts) = omega (arith, length-bytes 2 r.s)
  fetched-most (Memory Rti) =
      let t = flag E (coded (byte_at mem r.s)) in
      omega (arith, length-bytes (bytes_pushed (stacked_by t)) r.s, frame-most t)
  fetched-most (Memory (Swi which)) = omega (arith, vector-length mem s (framed r (is_entire (software_vector which))) (software_vector which))
  fetched-most (Memory Cwai) = lit≤ tt
  fetched-most (Memory Sync) = lit≤ tt
  fetched-most (Memory (Push own)) = lit≤ tt
  fetched-most (Memory (Pull own)) =
      omega (arith, length-bytes (bytes_pushed (byte_at mem ea)) (word_of r (stack_word own)), none_dropped.few (byte_at mem ea))

  made-most : (op : Op) → bytes_made op (byte_at mem ea) ≤ written_most op
  unfolding written_most
  made-most (Registers op) = lit≤ tt
  made-most (Memory (OnMemory op)) = lit≤ tt
  made-most (Memory (Store8 acc)) = lit≤ tt
  made-most (Memory (Store16 word)) = lit≤ tt
  made-most (Memory Bsr) = lit≤ tt
  made-most (Memory Jsr) = lit≤ tt
  made-most (Memory Rts) = lit≤ tt
  made-most (Memory Rti) = lit≤ tt
  made-most (Memory (Swi which)) = lit≤ tt
  made-most (Memory Cwai) = lit≤ tt
  made-most (Memory Sync) = lit≤ tt
  made-most (Memory (Push own)) = none_dropped.few (byte_at mem ea)
  made-most (Memory (Pull own)) = lit≤ tt

  written-most : (op : Op) → (evaluate_of op s mem r ea).answer ≡ (Ok tt) → length (listed (evaluate_of op s mem r ea).writes) ≤ written_most op
  written-most op d =
      let n = no-write-lost op s mem r ea in
      omega (arith, ap length (n.all d), n.many, made-most op)

-- ---- refused calls

-- a refused plan writes nothing
abbrev NoWrites : Plan → Type 0
NoWrites p = (x : Refusal) → p.answer ≡ Err x → length (listed p.writes) ≡ 0

not-refused : {A : Type 0} {x : Refusal} → ◌≡◌ {A = Result ⊤ Refusal} (Ok tt) (Err x) → A
not-refused e = let z : ◌≡◌ {A = ℕ} 0 1 = cc in absurd (omega arith)

module _ (m : Machine) where
  none : (y : Refusal) → NoWrites (refused_with m y)
  none y x e = ap length (listed_back [])

  finished-none : (cycles : ℕ) (armed : Bool) (reads : ℕ) (e : Effect) (a : Result ⊤ Refusal) → NoWrites (finished_as a m cycles armed reads e)
  finished-none cycles armed reads e (Ok u) x d = not-refused d
  finished-none cycles armed reads e (Err y) x d = none y x d

  taken_none : (reads : ℕ) (e : Effect) (a : Result ⊤ Refusal) → NoWrites (of_effect m reads e a)
  taken_none reads e (Ok u) x d = not-refused d
  taken_none reads e (Err y) x d = none y x d

  module _ (mem : List ℕ) (s : Settings) where
    planned-none : (a : Reached) → NoWrites (planned mem m s a)
    unfolding finished
    planned-none (At i r ea) = finished-none (cycles_of i mem r ea) (arms i.entry.op (byte_at mem ea)) _ (evaluate_of i.entry.op s mem r ea) (evaluate_of i.entry.op s mem r ea).answer
    planned-none (NotReached y) = none y

  module _ (mem : List ℕ) where
    call_none : (c : Call) → NoWrites (plan_of c mem m)
    unfolding step_plan interrupt_plan reset_plan
    call_none (step t) = go (bars t (listed (planned mem m t (reached mem m)).writes))
      where
        go : (b : Bool) → NoWrites (cond b (refused_with m Fenced) (planned mem m t (reached mem m)))
        go true x d = none Fenced x d
        go false x d = planned-none mem t (reached mem m) x d
    call_none (interrupt t i) = go (eqb (length mem) 65536) (is_held_off i m) (length (taken_reads m.wait mem t m.regs (vector_of i))) (taken m.wait mem t m.regs (vector_of i))
      where
        go : (l k : Bool) (n : ℕ) (e : Effect) → NoWrites (cond l (cond k (accepted (with_registers m m.regs (after_held_off m.wait)) 0) (taken_by m n e)) (refused_with m MemoryLength))
        go true true n e x d = not-refused d
        go true false n e x d = taken_none n e e.answer x d
        go false k n e x d = none MemoryLength x d
    call_none (reset t) = go (eqb (length mem) 65536) (word_at mem (address_of Reset))
      where
        go : (l : Bool) (pc : ℕ) → NoWrites (cond l (reset_to m pc) (refused_with m MemoryLength))
        go true pc x d = not-refused d
        go false pc x d = none MemoryLength x d

pub refused-counts : RefusedCounts
unfolding reads_of
refused-counts c mem m x e = (rw e, call_none m mem c x e)

-- ---- a step

module _ (mem : List ℕ) (m : Machine) (s : Settings) (b : Bytes mem) (p : m.regs.pc < 65536) where
  record Within (reads writes : ℕ) : Type 0 where
    fourteen : reads ≤ 14
    seventeen : reads + writes ≤ 17

  reads-most : (i : Instruction) (r : Set) (ea : ℕ) → Came mem m i r ea → length (instruction_reads i mem s m.regs r ea) ≤ read_most i.entry
  unfolding instruction_reads
  reads-most i r ea c =
      let k = known mem m.regs.pc i b p c.decoded in
      let pr = program_reads m.regs.pc i.next in
      let po = pointer_reads i.operand m.regs i.next in
      let op = operand_reads i.entry.mode (operand_taken i.entry.op) ea in
      let fe = fetched_by i.entry.op mem s r ea in
      omega (
        arith,
        length-append pr (po ++ (op ++ fe)),
        length-append po (op ++ fe),
        length-append op fe,
        length-bytes (i.next - m.regs.pc) m.regs.pc,
        k.length,
        k.operand.indexed m.regs i.next,
        taken-most i.entry.mode (operand_taken i.entry.op) ea,
        fetched-most mem s r ea i.entry.op,
      )

  finished-within : (i : Instruction) (r : Set) (ea : ℕ) → Came mem m i r ea → (a : Result ⊤ Refusal) → (evaluate_of i.entry.op s mem r ea).answer ≡ a
      → Within (length (if_accepted (finished_as a m (cycles_of i mem r ea) (arms i.entry.op (byte_at mem ea)) (length (instruction_reads i mem s m.regs r ea)) (evaluate_of i.entry.op s mem r ea)).answer (instruction_reads i mem s m.regs r ea)))
      (length (listed (finished_as a m (cycles_of i mem r ea) (arms i.entry.op (byte_at mem ea)) (length (instruction_reads i mem s m.regs r ea)) (evaluate_of i.entry.op s mem r ea)).writes))
  finished-within i r ea c (Ok u) d =
      let k = (known mem m.regs.pc i b p c.decoded).entry in
      let n = reads-most i r ea c in
      let w = written-most mem s r ea i.entry.op d in
      record { fourteen = omega (arith, k.reads); seventeen = omega (arith, k.together) }
  finished-within i r ea c (Err x) d = record { fourteen = lit≤ tt; seventeen = lit≤ tt }

  step-within : Within (read_count (step s) mem m) (write_count (step s) mem m)
  unfolding step_plan reads_of finished
  step-within = judge (bars s (listed (planned mem m s (reached mem m)).writes))
    where
      go : (a : Reached) → reached mem m ≡ a → Within (length (if_accepted (planned mem m s a).answer (reached_reads mem s m.regs a))) (length (listed (planned mem m s a).writes))
      go (At i r ea) e = finished-within i r ea (came mem m i r ea e) (evaluate_of i.entry.op s mem r ea).answer refl
      go (NotReached x) e = record { fourteen = lit≤ tt; seventeen = lit≤ tt }

      -- a step that the fence refuses counts nothing
      judge : (f : Bool)
          → Within (length (if_accepted (cond f (refused_with m Fenced) (planned mem m s (reached mem m))).answer (reached_reads mem s m.regs (reached mem m))))
          (length (listed (cond f (refused_with m Fenced) (planned mem m s (reached mem m))).writes))
      judge true = record { fourteen = lit≤ tt; seventeen = lit≤ tt }
      judge false = go (reached mem m) refl

pub steps-bounded : StepsBounded
steps-bounded mem m s b p =
    let w = step-within mem m s b p in
    record { reads = omega (arith, w.fourteen); writes = few-writes (step s) mem m; together = omega (arith, w.seventeen) }

-- ---- an interrupt

module _ (mem : List ℕ) (m : Machine) (s : Settings) where
  interrupt-within : (i : InterruptType) → read_count (interrupt s i) mem m ≤ 3
  unfolding reads_of
  interrupt-within i = go (interrupt_plan mem m s i).answer (is_held_off i m)
    where
      go : (a : Result ⊤ Refusal) (k : Bool) → length (if_accepted a (cond k [] (taken_reads m.wait mem s m.regs (vector_of i)))) ≤ 3
      go (Ok u) true = lit≤ tt
      go (Ok u) false = omega (arith, taken-reads mem s m.regs m.wait (vector_of i))
      go (Err x) k = lit≤ tt

pub interrupts-bounded : InterruptsBounded
interrupts-bounded mem m s i = omega (arith, interrupt-within mem m s i, few-writes (interrupt s i) mem m)
