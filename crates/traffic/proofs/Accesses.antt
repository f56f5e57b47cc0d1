-- Counts mean accesses: a call that is accepted depends on the bytes at the addresses that it reads, and on no other.
-- Assumes nothing.
use Rattle.std.specs.Prelude.{Err, Ok, Result, Some}
use Prim.Native.Nat.{ℕ, ◌+◌, ◌-◌, ◌≤◌, ◌<◌}
use mathlib.Core.Bool.{Bool, true, false, cond}
use mathlib.Core.List.{List, [], ◌++◌}
use mathlib.Core.Path.{◌≡◌, refl, sym, ap, subst, ◌∙◌}
use native.Mathlib.Omega.{arith}
use borrow.Author.Tests.{eq-eqb, eqb-true, leb-true}
use lib.Dec.{T, eqb, leb}
use lib.ListN.{length}
use Rattle.answers.specs.declared.Refusal.{Refusal}
use Rattle.answers.specs.declared.Refusal.TheVariants.{MemoryLength, PastEnd}
use Rattle.registers.specs.RegisterSet.{with_pc}
use Rattle.registers.specs.declared.Set.{Set}
use Rattle.memory.specs.Fits.{Bytes}
use Rattle.memory.specs.Map.{word_at}
use Rattle.machine.specs.Effect.{changes}
use Rattle.machine.specs.Machine.{with_registers}
use Rattle.machine.specs.declared.Machine.{Machine}
use Rattle.machine.specs.declared.Settings.{Settings}
use Rattle.machine.specs.declared.Wait.{Wait}
use Rattle.machine.specs.declared.Wait.TheVariants.{Running, Cwai, Sync}
use Rattle.opcodes.specs.declared.Entry.{Entry}
use Rattle.opcodes.specs.declared.Mode.{Mode}
use Rattle.opcodes.specs.declared.Mode.TheVariants.{Inherent, Immediate8, Immediate16, Direct, Indexed, Extended, Relative8, Relative16}
use Rattle.opcodes.specs.declared.Page.{Page}
use Rattle.decode.specs.Decode.{decoded_at}
use Rattle.decode.specs.Laws.{SizedAt, offset_bytes_of, DecodedFits}
use Rattle.decode.specs.Operand.{operand_bytes}
use Rattle.decode.specs.Origin.{OriginOf}
use Rattle.decode.specs.declared.instruction.Instruction.{Instruction}
use Rattle.decode.proofs.Laws.{decode-fits}
use Rattle.decode.proofs.Origin.{decode-origin}
use Rattle.decode.proofs.Sizes.{entry-sizes}
use Rattle.addressing.specs.Address.{effective_of, resolved_of}
use Rattle.stack.specs.Frames.{framed}
use Rattle.vectors.specs.Table.{address_of, is_entire}
use Rattle.vectors.specs.declared.table.Vector.{Vector}
use Rattle.vectors.specs.declared.table.Vector.TheVariants.{Reset}
use Rattle.evaluate.proofs.Writes.{not_done}
use Rattle.calls.specs.Plans.{refused_with, accepted, fenced}
use Rattle.calls.proofs.Passing.{free-done}
use Rattle.calls.specs.Steps.{Reached, At, NotReached, addressed, of_decoded, decoded_to, unless_waiting, reached, planned, step_plan}
use Rattle.calls.specs.Interrupts.{vector_of, is_held_off, taken, taken_reads, after_held_off, taken_by, interrupt_plan}
use Rattle.calls.specs.Resets.{reset_to, reset_plan}
use Rattle.calls.specs.Calls.{Call, step, interrupt, reset, plan_of}
use Rattle.calls.specs.declared.InterruptType.{InterruptType}
use Rattle.calls.specs.declared.Plan.{Plan}
use Rattle.bus.specs.Reads.{program_reads, pointer_reads, operand_taken, operand_reads, fetched_by, instruction_reads, bytes_from}
use Rattle.traffic.specs.Counts.{reached_reads, reads_by, reads_of}
use Rattle.traffic.specs.Laws.{AgreeAt, CountsMeanAccesses}
use Rattle.traffic.proofs.Agreement.{Same, agree_left, agree_right, agree-within, within-agree, word-agrees}
use Rattle.traffic.proofs.Decoding.{decode-agrees, resolve-agrees}
use Rattle.traffic.proofs.Operations.{Alike, operation-agrees, cycles-agree, vector-agrees, vector-reads-agree}
use Rattle.bus.proofs.Entries.{is_immediate, EntrySo, PlaceSo, OperandSo, ReadSo, each-entry, operand-so}
use Rattle.addressing.specs.declared.Addressed.{Addressed}

pub accepted-reads : (c : Call) (mem : List ℕ) (m : Machine) → (plan_of c mem m).answer ≡ (Ok tt) → reads_of c mem m ≡ reads_by c mem m
unfolding reads_of
accepted-reads c mem m e = rw e

-- ---- what stands before the operation

-- an instruction was reached: how
pub record Came (mem : List ℕ) (m : Machine) (i : Instruction) (r : Set) (ea : ℕ) : Type 0 where
  pub sized : length mem ≡ 65536
  pub running : m.wait ≡ Running
  pub decoded : decoded_at mem m.regs.pc ≡ Ok i
  pub resolved : addressed i (resolved_of mem m.regs i.operand i.next) ≡ At i r ea
  pub next : i.next ≤ 0xFFFF
  pub address : (effective_of i.operand mem m.regs i.next).ea ≡ ea

module _ (mem : List ℕ) (m : Machine) (i : Instruction) (r : Set) (ea : ℕ) where
  same-instruction : (j : Instruction) (a : Result Addressed Refusal) → addressed j a ≡ At i r ea → j ≡ i
  same-instruction j (Ok a) e = cc
  same-instruction j (Err x) e = let z : ◌≡◌ {A = ℕ} 0 1 = cc in absurd (omega arith)

  decoded-to : (d : Result Instruction Refusal) → of_decoded mem m.regs d ≡ At i r ea → (d ≡ Ok i) × (addressed i (resolved_of mem m.regs i.operand i.next) ≡ At i r ea)
  decoded-to (Ok j) e =
      let d : j ≡ i = same-instruction j (resolved_of mem m.regs j.operand j.next) e in
      (ap Ok d, subst (λ (k : Instruction). addressed k (resolved_of mem m.regs k.operand k.next) ≡ At i r ea) d e)
  decoded-to (Err x) e = let z : ◌≡◌ {A = ℕ} 0 1 = cc in absurd (omega arith)

  next-within : addressed i (resolved_of mem m.regs i.operand i.next) ≡ At i r ea → (i.next ≤ 0xFFFF) × ((effective_of i.operand mem m.regs i.next).ea ≡ ea)
  unfolding resolved_of
  next-within e = go (leb i.next 0xFFFF) refl e
    where
      go : (t : Bool) → leb i.next 0xFFFF ≡ t
          → addressed i (cond t (Ok (record { regs = with_pc (effective_of i.operand mem m.regs i.next).regs i.next; ea = (effective_of i.operand mem m.regs i.next).ea })) (Err PastEnd)) ≡ At i r ea
          → (i.next ≤ 0xFFFF) × ((effective_of i.operand mem m.regs i.next).ea ≡ ea)
      go true d q = (leb-true i.next 0xFFFF d, cc)
      go false d q = let z : ◌≡◌ {A = ℕ} 0 1 = cc in absurd (omega arith)

  pub came : reached mem m ≡ At i r ea → Came mem m i r ea
  unfolding reached decoded_to
  came e = go (eqb (length mem) 65536) refl m.wait refl e
    where
      go : (t : Bool) → eqb (length mem) 65536 ≡ t → (w : Wait) → m.wait ≡ w → cond t (unless_waiting w mem m.regs) (NotReached MemoryLength) ≡ At i r ea → Came mem m i r ea
      go true l Running w q =
          let (d, a) = decoded-to (decoded_at mem m.regs.pc) q in
          let (n, f) = next-within a in
          record { sized = eqb-true (length mem) 65536 l; running = w; decoded = d; resolved = a; next = n; address = f }
      go true l Cwai w q = let z : ◌≡◌ {A = ℕ} 0 1 = cc in absurd (omega arith)
      go true l Sync w q = let z : ◌≡◌ {A = ℕ} 0 1 = cc in absurd (omega arith)
      go false l w v q = let z : ◌≡◌ {A = ℕ} 0 1 = cc in absurd (omega arith)

-- ---- a step

-- the entry and the operand of a decoded instruction
pub record Known (pc : ℕ) (i : Instruction) : Type 0 where
  pub after : ℕ
  pub sized : operand_bytes i.entry.mode < i.entry.size
  pub length : i.next ≡ pc + i.entry.size + offset_bytes_of i.operand
  pub entry : EntrySo i.entry
  pub operand : OperandSo i.entry.mode after i.operand i.next

size-so : (page : Page) (e : Entry) → SizedAt page (Some e) → operand_bytes e.mode < e.size
size-so page e h = omega arith

pub known : (mem : List ℕ) (pc : ℕ) (i : Instruction) → Bytes mem → pc < 65536 → decoded_at mem pc ≡ Ok i → Known pc i
known mem pc i b p e =
    let o = subst (OriginOf mem) e (decode-origin mem pc b) in
    record {
      after = o.after;
      sized = size-so o.page i.entry (subst (SizedAt o.page) o.entry (entry-sizes o.page o.code o.byte));
      length = (subst (DecodedFits pc) e (decode-fits mem pc b p)).length;
      entry = subst PlaceSo o.entry (each-entry o.page o.code o.byte);
      operand = subst (ReadSo i.entry.mode o.after) o.operand (operand-so mem o.after i.entry.mode);
    }

module _ (mem other : List ℕ) (m : Machine) (b : Bytes mem) (p : m.regs.pc < 65536) (l : length other ≡ 65536) where
  module _ (i : Instruction) (r : Set) (ea : ℕ) (c : Came mem m i r ea) where
    -- the program's bytes
    pub starts : m.regs.pc < i.next
    starts = (decode-agrees mem other i m.regs.pc c.decoded).0

    program : AgreeAt mem other (program_reads m.regs.pc i.next) → Same mem other m.regs.pc i.next
    program h =
        let s = starts in
        let n = c.next in
        let e : m.regs.pc + (i.next - m.regs.pc) ≡ i.next = omega arith in
        rw e at (agree-within mem other (i.next - m.regs.pc) m.regs.pc (omega arith) h)

    -- the instruction and the address are the same
    same-reached : AgreeAt mem other (program_reads m.regs.pc i.next) → AgreeAt mem other (pointer_reads i.operand m.regs i.next) → reached other m ≡ At i r ea
    unfolding reached decoded_to
    same-reached h k =
        rw (eq-eqb (length other) 65536 l, c.running, (decode-agrees mem other i m.regs.pc c.decoded).1 (program h), resolve-agrees mem other i.operand m.regs i.next k)
        c.resolved

    -- an immediate operand lies among the program's bytes
    operand-bytes : AgreeAt mem other (program_reads m.regs.pc i.next) → AgreeAt mem other (operand_reads i.entry.mode (operand_taken i.entry.op) ea)
        → AgreeAt mem other (bytes_from ea (operand_taken i.entry.op))
    operand-bytes h k = go i.entry.mode refl k
      where
        immediate : T (is_immediate i.entry.mode) → AgreeAt mem other (bytes_from ea (operand_taken i.entry.op))
        immediate t =
            let k = known mem m.regs.pc i b p c.decoded in
            let (e, n) = k.operand.immediate t in
            let w = k.entry.immediate t in
            let z : offset_bytes_of i.operand ≡ 0 = rw e in
            let f : k.after ≡ ea = rw e at c.address in
            let g = c.next in
            within-agree mem other (operand_taken i.entry.op) ea i.next (omega (arith, k.sized, k.length)) (omega arith)
            (λ x q. program h x (omega (arith, k.sized, k.length)))

        go : (mode : Mode) → i.entry.mode ≡ mode → AgreeAt mem other (operand_reads mode (operand_taken i.entry.op) ea) → AgreeAt mem other (bytes_from ea (operand_taken i.entry.op))
        go Immediate8 e j = immediate (rw e tt)
        go Immediate16 e j = immediate (rw e tt)
        go Direct e j = j
        go Indexed e j = j
        go Extended e j = j
        go Inherent e j = j
        go Relative8 e j = j
        go Relative16 e j = j

    operation : AgreeAt mem other (program_reads m.regs.pc i.next) → (s : Settings)
        → AgreeAt mem other (operand_reads i.entry.mode (operand_taken i.entry.op) ea) → AgreeAt mem other (fetched_by i.entry.op mem s r ea)
        → Alike mem other s r ea i.entry.op
    operation h s j k = operation-agrees mem other s r ea (l ∙ sym c.sized) i.entry.op (operand-bytes h j) k

  -- what two calls have in common, before the counts' test of the answer
  record Both (c : Call) : Type 0 where
    plan : plan_of c other m ≡ plan_of c mem m
    reads : reads_by c other m ≡ reads_by c mem m

  step-agrees : (s : Settings) → (step_plan mem m s).answer ≡ (Ok tt) → AgreeAt mem other (reads_by (step s) mem m) → Both (step s)
  unfolding step_plan instruction_reads
  step-agrees s d h =
      let p = planned mem m s (reached mem m) in
      let q : p.answer ≡ (Ok tt) = sym (ap (λ (x : Plan). x.answer) (free-done s m p d)) ∙ d in
      let (e, f) = go (reached mem m) refl q h in
      record { plan = ap (fenced s m) e; reads = f }
    where
      go : (a : Reached) → reached mem m ≡ a → (planned mem m s a).answer ≡ (Ok tt) → AgreeAt mem other (reached_reads mem s m.regs a)
          → (planned other m s (reached other m) ≡ planned mem m s a) × (reached_reads other s m.regs (reached other m) ≡ reached_reads mem s m.regs a)
      go (At i r ea) e q k =
          let c = came mem m i r ea e in
          let pr = program_reads m.regs.pc i.next in
          let po = pointer_reads i.operand m.regs i.next in
          let op = operand_reads i.entry.mode (operand_taken i.entry.op) ea in
          let fe = fetched_by i.entry.op mem s r ea in
          let k1 = agree_left mem other pr (po ++ (op ++ fe)) k in
          let k2 = agree_right mem other pr (po ++ (op ++ fe)) k in
          let k3 = agree_right mem other po (op ++ fe) k2 in
          let o = operation i r ea c k1 s (agree_left mem other op fe k3) (agree_right mem other op fe k3) in
          let z = same-reached i r ea c k1 (agree_left mem other po (op ++ fe) k2) in
          (rw (z, cycles-agree mem other s r ea i o, o.arming, o.effect, o.fetched), rw (z, o.fetched))
      go (NotReached x) e q k = not_done q

  -- ---- interrupts and reset

  module _ (z : length mem ≡ 65536) (s : Settings) (v : Vector) where
    taken-agrees : (w : Wait) → AgreeAt mem other (taken_reads w mem s m.regs v) → taken w other s m.regs v ≡ taken w mem s m.regs v
    taken-agrees Running h = vector-agrees mem other s m.regs (framed m.regs (is_entire v)) v (l ∙ sym z) h
    taken-agrees Sync h = vector-agrees mem other s m.regs (framed m.regs (is_entire v)) v (l ∙ sym z) h
    taken-agrees Cwai h = vector-agrees mem other s m.regs (changes m.regs) v (l ∙ sym z) h

    taken-reads-agree : (w : Wait) → AgreeAt mem other (taken_reads w mem s m.regs v) → taken_reads w other s m.regs v ≡ taken_reads w mem s m.regs v
    taken-reads-agree Running h = vector-reads-agree mem other s (framed m.regs (is_entire v)) v (l ∙ sym z) h
    taken-reads-agree Sync h = vector-reads-agree mem other s (framed m.regs (is_entire v)) v (l ∙ sym z) h
    taken-reads-agree Cwai h = vector-reads-agree mem other s (changes m.regs) v (l ∙ sym z) h

  interrupt-agrees : (s : Settings) (i : InterruptType) → (interrupt_plan mem m s i).answer ≡ (Ok tt) → AgreeAt mem other (reads_by (interrupt s i) mem m) → Both (interrupt s i)
  unfolding interrupt_plan
  interrupt-agrees s i d h =
      let (e, f) = go (eqb (length mem) 65536) refl (is_held_off i m) d h in
      record { plan = rw (eq-eqb (length other) 65536 l) e; reads = f }
    where
      go : (t : Bool) → eqb (length mem) 65536 ≡ t → (u : Bool)
          → (cond t (cond u (accepted (with_registers m m.regs (after_held_off m.wait)) 0) (taken_by m (length (taken_reads m.wait mem s m.regs (vector_of i))) (taken m.wait mem s m.regs (vector_of i)))) (refused_with m MemoryLength)).answer ≡ (Ok tt)
          → AgreeAt mem other (cond u [] (taken_reads m.wait mem s m.regs (vector_of i)))
          → (cond u (accepted (with_registers m m.regs (after_held_off m.wait)) 0) (taken_by m (length (taken_reads m.wait other s m.regs (vector_of i))) (taken m.wait other s m.regs (vector_of i)))
          ≡ cond t (cond u (accepted (with_registers m m.regs (after_held_off m.wait)) 0) (taken_by m (length (taken_reads m.wait mem s m.regs (vector_of i))) (taken m.wait mem s m.regs (vector_of i)))) (refused_with m MemoryLength))
          × (cond u [] (taken_reads m.wait other s m.regs (vector_of i)) ≡ cond u [] (taken_reads m.wait mem s m.regs (vector_of i)))
      go true e true q k = (refl, refl)
      go true e false q k =
          let z = eqb-true (length mem) 65536 e in
          (rw (taken-agrees z s (vector_of i) m.wait k, taken-reads-agree z s (vector_of i) m.wait k), taken-reads-agree z s (vector_of i) m.wait k)
      go false e u q k = not_done q

  reset-agrees : (s : Settings) → (reset_plan mem m).answer ≡ (Ok tt) → AgreeAt mem other (reads_by (reset s) mem m) → Both (reset s)
  unfolding reset_plan
  reset-agrees s d h = record { plan = rw (eq-eqb (length other) 65536 l) (go (eqb (length mem) 65536) d); reads = refl }
    where
      go : (t : Bool) → (cond t (reset_to m (word_at mem (address_of Reset))) (refused_with m MemoryLength)).answer ≡ (Ok tt)
          → reset_to m (word_at other (address_of Reset)) ≡ cond t (reset_to m (word_at mem (address_of Reset))) (refused_with m MemoryLength)
      go true q = ap (reset_to m) (word-agrees mem other (address_of Reset) h)
      go false q = not_done q

  -- ---- each call

  call-agrees : (c : Call) → (plan_of c mem m).answer ≡ (Ok tt) → AgreeAt mem other (reads_by c mem m) → Both c
  call-agrees (step t) = step-agrees t
  call-agrees (interrupt t i) = interrupt-agrees t i
  call-agrees (reset t) = reset-agrees t

pub counts-mean-accesses : CountsMeanAccesses
counts-mean-accesses c mem other m b p l d h =
    let e = accepted-reads c mem m d in
    let k = call-agrees mem other m b p l c d (rw e at h) in
    let q : (plan_of c other m).answer ≡ (Ok tt) = ap (λ (p : Plan). p.answer) k.plan ∙ d in
    record { plan = k.plan; reads = accepted-reads c other m q ∙ (k.reads ∙ sym e) }
