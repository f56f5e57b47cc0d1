-- The laws of the fence over whole calls.
-- Assumes nothing.
use Rattle.std.specs.Prelude.{Err, Ok, Result, ⊤}
use Prim.Native.Nat.{ℕ, ◌-◌, ◌<◌}
use mathlib.Core.Bool.{Bool, true, false, not, cond, ◌&&◌, true≢false}
use mathlib.Core.List.{List, [], ◌∷◌, ◌++◌}
use mathlib.Core.Path.{◌≡◌, refl, sym, ap, ◌∙◌}
use native.Mathlib.Omega.{arith}
use borrow.Author.Tests.{eqb-false}
use lib.Dec.{eqb, ltb}
use lib.ListN.{length}
use Rattle.answers.specs.Numbers.{number_of_answer}
use Rattle.answers.specs.declared.Refusal.TheVariants.{MemoryLength, Fenced, ZeroAtVector}
use Rattle.registers.specs.Fits.{Fits}
use Rattle.registers.specs.Names.{register_size, stack_word}
use Rattle.registers.specs.RegisterSet.{read, word_of}
use Rattle.registers.specs.declared.Flags.{Flags}
use Rattle.registers.specs.declared.Name.{Name}
use Rattle.registers.specs.declared.Name.TheVariants.{A, B, D, X, Y, U, S, PC, DP, CC}
use Rattle.registers.specs.declared.Set.{Set}
use Rattle.registers.specs.declared.Stack.{Stack}
use Rattle.registers.specs.declared.Stack.TheVariants.{S as on_s, U as on_u}
use Rattle.memory.specs.Fits.{Bytes, AllFit}
use Rattle.memory.specs.Laws.{InMap}
use Rattle.memory.specs.Map.{byte_at, word_at}
use Rattle.memory.specs.Writes.{listed, stored, value_writes}
use Rattle.memory.specs.declared.writes.Write.{Write}
use Rattle.machine.specs.Effect.{changes, stores, refuses}
use Rattle.machine.specs.Fence.{everywhere, barred, bars, AllowAlike}
use Rattle.machine.specs.Machine.{MachineFits, with_registers, settings_with}
use Rattle.machine.specs.declared.Effect.{Effect}
use Rattle.machine.specs.declared.Machine.{Machine}
use Rattle.machine.specs.declared.Settings.{Settings}
use Rattle.machine.specs.declared.Wait.{Wait}
use Rattle.machine.specs.declared.Wait.TheVariants.{Running, Cwai, Sync}
use Rattle.machine.specs.declared.fence.Range.{Range}
use Rattle.machine.proofs.Fences.{fences-hold, all-allowed, judge-alike}
use Rattle.opcodes.specs.declared.MemoryOp.{MemoryOp}
use Rattle.opcodes.specs.declared.MemoryOp.TheVariants.{OnMemory, Store8, Store16, Bsr, Jsr, Rts, Rti, Swi, Cwai as CWAI, Sync as SYNC, Push, Pull}
use Rattle.opcodes.specs.declared.Op.{Op}
use Rattle.opcodes.specs.declared.Op.TheVariants.{Registers, Memory}
use Rattle.operations.specs.Branches.{jumped}
use Rattle.operations.specs.Codes.{or_codes}
use Rattle.stack.specs.Frames.{framed}
use Rattle.stack.specs.Pushing.{once_pushed, pushes}
use Rattle.vectors.specs.Service.{vectored}
use Rattle.vectors.specs.Table.{address_of, masks_of, is_entire}
use Rattle.vectors.specs.declared.table.Vector.{Vector}
use Rattle.vectors.proofs.Laws.{vectors-refuse-exactly}
use Rattle.evaluate.specs.Arming.{arms}
use Rattle.evaluate.specs.Evaluate.{evaluate_of}
use Rattle.evaluate.specs.Room.{is_small}
use Rattle.evaluate.specs.Writes.{frame_writes, memory_makes, made_by}
use Rattle.cycles.specs.Cycles.{cycles_of}
use Rattle.bus.specs.Reads.{instruction_reads}
use Rattle.bus.proofs.Sums.{reads-summed}
use Rattle.calls.specs.Plans.{refused_with, accepted, fenced}
use Rattle.calls.specs.Steps.{Reached, At, NotReached, reached, finished, planned, step_plan}
use Rattle.calls.specs.Interrupts.{vector_of, is_held_off, taken, taken_reads, after_held_off, of_effect, taken_by, interrupt_plan}
use Rattle.calls.specs.Resets.{reset_to, reset_plan}
use Rattle.calls.specs.Calls.{Call, step, interrupt, reset, settings_in, plan_of}
use Rattle.calls.specs.declared.InterruptType.{InterruptType}
use Rattle.calls.specs.declared.Plan.{Plan}
use Rattle.calls.proofs.Accepted.{reset-refuses-exactly}
use Rattle.calls.proofs.Decided.{taken-reads}
use Rattle.calls.proofs.Laws.{ReachedFits, reached-fits, free-fits}
use Rattle.refusals.specs.Operations.{is_fenced}
use Rattle.refusals.specs.Steps.{Met}
use Rattle.refusals.proofs.Operations.{frame-listed}
use Rattle.refusals.proofs.Steps.{steps-refused}
use Rattle.fenced.specs.Laws.{CallsWithin, fenced_frame, InterruptFencedExactly, AllAllowedFree, SamePlaces}
use Rattle.answers.specs.declared.Refusal.{Refusal}

-- ---- what a call stores passes the fence

-- an interrupt that is served: the fence let its frame pass
module _ (mem : List ℕ) (s : Settings) (r : Set) (frame : Effect) (v : Vector) where
  served-passes : (vectored mem s r frame v).answer ≡ (Ok tt) → bars s (listed (vectored mem s r frame v).writes) ≡ false
  unfolding vectored barred
  served-passes = go frame.answer (bars s (listed frame.writes)) refl (eqb (byte_at after pc) 0)
    where
      after : List ℕ
      after = stored s.ram_top (listed frame.writes) mem

      pc : ℕ
      pc = word_at after (address_of v)

      end : Effect
      end = stores (jumped (or_codes frame.regs (masks_of v)) pc) frame.writes

      go : (a : Result ⊤ Refusal) (b : Bool) → bars s (listed frame.writes) ≡ b → (z : Bool)
          → (once_pushed r a (cond b (refuses r Fenced) (cond z (refuses r ZeroAtVector) end))).answer ≡ (Ok tt)
          → bars s (listed (once_pushed r a (cond b (refuses r Fenced) (cond z (refuses r ZeroAtVector) end))).writes) ≡ false
      go (Err x) b e z d = refl
      go (Ok u) true e z d = refl
      go (Ok u) false e true d = refl
      go (Ok u) false e false d = e

taken-passes : (mem : List ℕ) (s : Settings) (r : Set) (v : Vector) (w : Wait) → (taken w mem s r v).answer ≡ (Ok tt) → bars s (listed (taken w mem s r v).writes) ≡ false
taken-passes mem s r v Running = served-passes mem s r (framed r (is_entire v)) v
taken-passes mem s r v Sync = served-passes mem s r (framed r (is_entire v)) v
taken-passes mem s r v Cwai = served-passes mem s r (changes r) v

effect-passes : (s : Settings) (m : Machine) (n : ℕ) (e : Effect) (a : Result ⊤ Refusal) → (a ≡ (Ok tt) → bars s (listed e.writes) ≡ false) → bars s (listed (of_effect m n e a).writes) ≡ false
unfolding barred
effect-passes s m n e (Ok u) h = h refl
effect-passes s m n e (Err x) h = refl

call_passes : (c : Call) (mem : List ℕ) (m : Machine) → bars (settings_in c) (listed (plan_of c mem m).writes) ≡ false
unfolding step_plan interrupt_plan reset_plan barred
call_passes (step s) mem m = go (bars s (listed p.writes)) refl
  where
    p : Plan
    p = planned mem m s (reached mem m)

    go : (b : Bool) → bars s (listed p.writes) ≡ b → bars s (listed (cond b (refused_with m Fenced) p).writes) ≡ false
    go true e = refl
    go false e = e
call_passes (interrupt s i) mem m = go (eqb (length mem) 65536) (is_held_off i m)
  where
    e : Effect
    e = taken m.wait mem s m.regs (vector_of i)

    n : ℕ
    n = length (taken_reads m.wait mem s m.regs (vector_of i))

    go : (l k : Bool)
        → bars s (listed (cond l (cond k (accepted (with_registers m m.regs (after_held_off m.wait)) 0) (of_effect m n e e.answer)) (refused_with m MemoryLength)).writes) ≡ false
    go true true = refl
    go true false = effect-passes s m n e e.answer (taken-passes mem s m.regs (vector_of i) m.wait)
    go false k = refl
call_passes (reset s) mem m = go (eqb (length mem) 65536) _
  where
    go : (l : Bool) (pc : ℕ) → bars s (listed (cond l (reset_to m pc) (refused_with m MemoryLength)).writes) ≡ false
    go true pc = refl
    go false pc = refl

pub calls-within : CallsWithin
calls-within c mem m =
    let h = fences-hold (settings_in c) (listed (plan_of c mem m).writes) in
    record { within = h.exactly.0 (call_passes c mem m); outside = λ k a. h.outside mem k (call_passes c mem m) a }

-- ---- an interrupt is refused by 28 exactly there

abbrev is28 : Result ⊤ Refusal → Bool
is28 a = eqb (number_of_answer a) 28

no-28 : (zero : Bool) → eqb (cond zero 9 0) 28 ≡ false
no-28 true = refl
no-28 false = refl

frame-28 : (b g f zero : Bool) → (b ≡ false → g ≡ f) → eqb (cond b 8 (cond g 28 (cond zero 9 0))) 28 ≡ (not b && f)
frame-28 true g f zero h = refl
frame-28 false true f zero h = h refl
frame-28 false false f zero h = no-28 zero ∙ h refl

answered : (m : Machine) (n : ℕ) (e : Effect) (a : Result ⊤ Refusal) → is28 (of_effect m n e a).answer ≡ is28 a
answered m n e (Ok u) = refl
answered m n e (Err x) = refl

module _ (mem : List ℕ) (s : Settings) (r : Set) (v : Vector) where
  -- whether the vector leads to a zero byte
  abbrev leads : List ℕ → Bool
  leads at = eqb (byte_at at (word_at at (address_of v))) 0

  running : is28 (vectored mem s r (framed r (is_entire v)) v).answer ≡ (not (ltb r.s (cond (is_entire v) 12 3)) && bars s (frame_writes r (is_entire v)))
  running =
      ap (λ (n : ℕ). eqb n 28) (vectors-refuse-exactly.running mem s r v)
      ∙ frame-28 (ltb r.s (cond (is_entire v) 12 3)) (bars s (listed (framed r (is_entire v)).writes)) (bars s (frame_writes r (is_entire v))) (leads (stored s.ram_top (listed (framed r (is_entire v)).writes) mem)) (λ e. ap (bars s) (frame-listed r (is_entire v) e))

  taken-28 : (w : Wait) → is28 (taken w mem s r v).answer ≡ fenced_frame w s r v
  taken-28 Running = running
  taken-28 Sync = running
  taken-28 Cwai = ap (λ (n : ℕ). eqb n 28) (vectors-refuse-exactly.in_cwai mem s r v) ∙ no-28 (leads mem)

pub interrupt-fenced-exactly : InterruptFencedExactly
unfolding interrupt_plan
interrupt-fenced-exactly mem m s i = go (eqb (length mem) 65536) (is_held_off i m)
  where
    e : Effect
    e = taken m.wait mem s m.regs (vector_of i)

    n : ℕ
    n = length (taken_reads m.wait mem s m.regs (vector_of i))

    go : (b c : Bool)
        → is28 (cond b (cond c (accepted (with_registers m m.regs (after_held_off m.wait)) 0) (of_effect m n e e.answer)) (refused_with m MemoryLength)).answer
        ≡ cond b (cond c false (fenced_frame m.wait s m.regs (vector_of i))) false
    go true true = refl
    go true false = answered m n e e.answer ∙ taken-28 mem s m.regs (vector_of i) m.wait
    go false c = refl

-- ---- what an operation writes has addresses of 16 bits

fits-map : (ws : List Write) → AllFit ws → InMap ws
fits-map [] h = tt
fits-map (w ∷ ws) h = (h.0.address, fits-map ws h.1)

both-map : (l k : List Write) → InMap l → InMap k → InMap (l ++ k)
both-map [] k h g = g
both-map (w ∷ l) k h g = (h.0, both-map l k h.1 g)

module _ (r : Set) (system : Bool) where
  name-map : (n : Name) (at : ℕ) → at < 65536 → InMap (value_writes at (read r n) system)
  name-map A at h = (h, tt)
  name-map B at h = (h, tt)
  name-map D at h = (h, (omega arith, tt))
  name-map X at h = (h, (omega arith, tt))
  name-map Y at h = (h, (omega arith, tt))
  name-map U at h = (h, (omega arith, tt))
  name-map S at h = (h, (omega arith, tt))
  name-map PC at h = (h, (omega arith, tt))
  name-map DP at h = (h, tt)
  name-map CC at h = (h, tt)

  pushes-map : (names : List Name) (p : ℕ) → p < 65536 → InMap (pushes r system p names)
  unfolding pushes
  pushes-map [] p h = tt
  pushes-map (n ∷ names) p h =
      both-map (value_writes (p - register_size n) (read r n) system) (pushes r system (p - register_size n) names) (name-map n (p - register_size n) (omega arith))
      (pushes-map names (p - register_size n) (omega arith))

pointer-fits : (r : Set) → Fits r → (own : Stack) → word_of r (stack_word own) < 65536
pointer-fits r f on_s = f.s
pointer-fits r f on_u = f.u

module _ (s : Settings) (mem : List ℕ) (r : Set) (ea : ℕ) (f : Fits r) (l : ea < 65536) where
  memory-map : (op : MemoryOp) → InMap (memory_makes op s mem r ea)
  memory-map (OnMemory op) = (l, tt)
  memory-map (Store8 acc) = (l, tt)
  memory-map (Store16 word) = (l, (omega arith, tt))
  memory-map Bsr = pushes-map r false _ r.s f.s
  memory-map Jsr = pushes-map r false _ r.s f.s
  memory-map Rts = tt
  memory-map Rti = tt
  memory-map (Swi which) = pushes-map _ true _ r.s f.s
  memory-map CWAI = pushes-map _ true _ r.s f.s
  memory-map SYNC = tt
  memory-map (Push own) = pushes-map r false _ (word_of r (stack_word own)) (pointer-fits r f own)
  memory-map (Pull own) = tt

  made-map : (op : Op) → InMap (made_by op s mem r ea)
  made-map (Registers op) = tt
  made-map (Memory op) = memory-map op

-- ---- with all allowed

no-fence : (b c : Bool) → b ≡ false → (not c && b) ≡ true → ⊥
no-fence true c e h = true≢false e
no-fence false true e h = true≢false (sym h)
no-fence false false e h = true≢false (sym h)

module _ (s : Settings) (free : s.profile ≡ everywhere) (mem : List ℕ) (m : Machine) (h : MachineFits m) (b : Bytes mem) where
  free_step : step_plan mem m s ≡ planned mem m s (reached mem m)
  unfolding step_plan
  free_step =
      let p = planned mem m s (reached mem m) in
      ap (λ (t : Bool). cond t (refused_with m Fenced) p) (all-allowed s (listed p.writes) free (fits-map (listed p.writes) (free-fits mem m s h b)))

  never : (a : Reached) → ReachedFits a → Met a (λ op r ea. is_fenced op s mem r ea) → ⊥
  never (At i r ea) k e =
      no-fence (bars s (made_by i.entry.op s mem r ea)) (is_small i.entry.op r (byte_at mem ea)) (all-allowed s (made_by i.entry.op s mem r ea) free (made-map s mem r ea k.0 k.1 i.entry.op)) e
  never (NotReached x) k e = e

  free-interrupt : (i : InterruptType) → eqb (number_of_answer (interrupt_plan mem m s i).answer) 28 ≡ false
  free-interrupt i = interrupt-fenced-exactly mem m s i ∙ go (eqb (length mem) 65536) (is_held_off i m) m.wait
    where
      v : Vector
      v = vector_of i

      frame : bars s (frame_writes m.regs (is_entire v)) ≡ false
      frame = all-allowed s (frame_writes m.regs (is_entire v)) free (pushes-map _ true _ m.regs.s h.registers.s)

      away : (t : Bool) → (not t && bars s (frame_writes m.regs (is_entire v))) ≡ false
      away true = refl
      away false = frame

      go : (l k : Bool) (w : Wait) → cond l (cond k false (fenced_frame w s m.regs v)) false ≡ false
      go false k w = refl
      go true true w = refl
      go true false Running = away (ltb m.regs.s (cond (is_entire v) 12 3))
      go true false Sync = away (ltb m.regs.s (cond (is_entire v) 12 3))
      go true false Cwai = refl

reset-free : (l : Bool) → ◌≡◌ {A = ℕ} (cond l 0 1) 28 → ⊥
reset-free true e = omega arith
reset-free false e = omega arith

pub all-allowed-free : AllAllowedFree
all-allowed-free (step s) mem m free h b = record {
  number = λ e. never s free mem m h b (reached mem m) (reached-fits mem m b h.registers) ((steps-refused mem m s b h.registers.pc).twenty_eight.0 e);
  step = free_step s free mem m h b;
}
all-allowed-free (interrupt s i) mem m free h b = record {
  number = eqb-false (number_of_answer (interrupt_plan mem m s i).answer) 28 (free-interrupt s free mem m h b i);
  step = free_step s free mem m h b;
}
all-allowed-free (reset s) mem m free h b = record {
  number = λ e. reset-free (eqb (length mem) 65536) (sym (reset-refuses-exactly mem m) ∙ e);
  step = free_step s free mem m h b;
}

-- ---- profiles that allow the same places

module _ (top : ℕ) (f : Flags) (p q : List Range) (a : AllowAlike p q) where
  abbrev one : Settings
  one = settings_with top f p

  abbrev two : Settings
  two = settings_with top f q

  same-vector : (mem : List ℕ) (r : Set) (frame : Effect) (v : Vector) → vectored mem one r frame v ≡ vectored mem two r frame v
  unfolding vectored
  same-vector mem r frame v = rw (judge-alike one two refl a (listed frame.writes))

  same_memory : (op : MemoryOp) (mem : List ℕ) (r : Set) (ea : ℕ) → evaluate_of (Memory op) one mem r ea ≡ evaluate_of (Memory op) two mem r ea
  same_memory (OnMemory op) mem r ea = refl
  same_memory (Store8 acc) mem r ea = refl
  same_memory (Store16 word) mem r ea = refl
  same_memory Bsr mem r ea = refl
  same_memory Jsr mem r ea = refl
  same_memory Rts mem r ea = refl
  same_memory Rti mem r ea = refl
  same_memory (Swi which) mem r ea = same-vector mem r _ _
  same_memory CWAI mem r ea = refl
  same_memory SYNC mem r ea = refl
  same_memory (Push own) mem r ea = refl
  same_memory (Pull own) mem r ea = refl

  same_operation : (op : Op) (mem : List ℕ) (r : Set) (ea : ℕ) → evaluate_of op one mem r ea ≡ evaluate_of op two mem r ea
  same_operation (Registers op) mem r ea = refl
  same_operation (Memory op) mem r ea = same_memory op mem r ea

  same-planned : (mem : List ℕ) (m : Machine) (x : Reached) → planned mem m one x ≡ planned mem m two x
  same-planned mem m (At i r ea) =
      let n : length (instruction_reads i mem one m.regs r ea) ≡ length (instruction_reads i mem two m.regs r ea) = reads-summed i mem one m.regs r ea ∙ sym (reads-summed i mem two m.regs r ea) in
      ap (λ (k : ℕ). finished m (cycles_of i mem r ea) (arms i.entry.op (byte_at mem ea)) k (evaluate_of i.entry.op one mem r ea)) n
      ∙ ap (finished m (cycles_of i mem r ea) (arms i.entry.op (byte_at mem ea)) (length (instruction_reads i mem two m.regs r ea))) (same_operation i.entry.op mem r ea)
  same-planned mem m (NotReached x) = refl

  same_step : (mem : List ℕ) (m : Machine) → step_plan mem m one ≡ step_plan mem m two
  unfolding step_plan
  same_step mem m =
      let x = planned mem m two (reached mem m) in
      ap (fenced one m) (same-planned mem m (reached mem m)) ∙ ap (λ (t : Bool). cond t (refused_with m Fenced) x) (judge-alike one two refl a (listed x.writes))

  same_taken : (mem : List ℕ) (r : Set) (v : Vector) (w : Wait) → taken w mem one r v ≡ taken w mem two r v
  same_taken mem r v Running = same-vector mem r (framed r (is_entire v)) v
  same_taken mem r v Sync = same-vector mem r (framed r (is_entire v)) v
  same_taken mem r v Cwai = same-vector mem r (changes r) v

  same-interrupt : (mem : List ℕ) (m : Machine) (i : InterruptType) → interrupt_plan mem m one i ≡ interrupt_plan mem m two i
  unfolding interrupt_plan
  same-interrupt mem m i =
      let n = taken-reads mem one m.regs m.wait (vector_of i) ∙ sym (taken-reads mem two m.regs m.wait (vector_of i)) in
      ap (λ (t : Plan). cond (eqb (length mem) 65536) (cond (is_held_off i m) (accepted (with_registers m m.regs (after_held_off m.wait)) 0) t) (refused_with m MemoryLength))
      (ap (λ (k : ℕ). taken_by m k (taken m.wait mem one m.regs (vector_of i))) n
      ∙ ap (taken_by m (length (taken_reads m.wait mem two m.regs (vector_of i)))) (same_taken mem m.regs (vector_of i) m.wait))

pub same-places : SamePlaces
same-places top f p q a = record { step = same_step top f p q a; interrupt = same-interrupt top f p q a }
