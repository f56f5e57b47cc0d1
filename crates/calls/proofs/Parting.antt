-- The two settings part in a whole step in V alone, exactly where the law of an instruction says.
-- Assumes nothing.
use Rattle.std.proofs.Common.{◌≡◌, ℕ, Bool, true, false, cond, List, sym, refl, ap, ◌∙◌, arith, Err, Ok, Result}
use Rattle.std.specs.Prelude.{⊤}
use Rattle.answers.specs.declared.Refusal.TheVariants.{Fenced}
use Rattle.registers.specs.declared.Flags.TheVariants.{Bought, Manual}
use Rattle.registers.specs.declared.Set.{Set}
use Rattle.memory.specs.Map.{byte_at}
use Rattle.memory.specs.Writes.{listed}
use Rattle.memory.proofs.Fits.{byte_fits}
use Rattle.machine.specs.Fence.{bars}
use Rattle.machine.specs.Machine.{settings_with}
use Rattle.machine.specs.declared.Effect.{Effect}
use Rattle.opcodes.specs.declared.Op.{Op}
use Rattle.machine.specs.declared.Machine.{Machine}
use Rattle.machine.specs.declared.Settings.{Settings}
use Rattle.machine.specs.declared.fence.Range.{Range}
use Rattle.operations.specs.EightBit.{on_memory}
use Rattle.operations.specs.Parting.{EffectsPart, with-operand, on-accumulator}
use Rattle.operations.proofs.Parting.{same-registers}
use Rattle.evaluate.specs.Arming.{arms}
use Rattle.evaluate.specs.Evaluate.{evaluate_of}
use Rattle.evaluate.specs.Parting.{InstructionParts, on-registers, on-memory}
use Rattle.evaluate.proofs.Parting.{renamed as part-renamed, instructions-part}
use Rattle.calls.specs.Parting.{PlansPart, PartsAt, StepsPart}
use Rattle.calls.specs.Plans.{refused_with, fenced}
use Rattle.bus.proofs.Sums.{reads-summed}
use Rattle.cycles.specs.Cycles.{cycles_of}
use Rattle.calls.specs.Steps.{Reached, At, NotReached, reached, finished_as, finished, planned, step_plan}
use Rattle.calls.specs.declared.Plan.{Plan}
use Rattle.calls.proofs.Laws.{ReachedFits, reached-fits}
use Rattle.answers.specs.declared.Refusal.{Refusal}

same : {p q : Plan} {Case : Type 0} → p ≡ q → (Case → ⊥) → PlansPart p q Case
same e n = record {
  writes = ap (λ (h : Plan). h.writes) e;
  answer = ap (λ (h : Plan). h.answer) e;
  reads = ap (λ (h : Plan). h.reads) e;
  cycles = ap (λ (h : Plan). h.machine.cycles) e;
  instructions = ap (λ (h : Plan). h.machine.instructions) e;
  wait = ap (λ (h : Plan). h.machine.wait) e;
  armed = ap (λ (h : Plan). h.machine.armed) e;
  registers = same-registers (ap (λ (h : Plan). h.machine.regs) e) n;
}

-- an instruction that both settings carry out, or both refuse
module _ (m : Machine) (cycles : ℕ) (mark : Bool) (n k : ℕ) (counted : n ≡ k) (e f : Effect) {Case : Type 0} (p : EffectsPart e f Case) where
  finished-part : (Case → e.answer ≡ (Ok tt)) → PlansPart (finished m cycles mark n e) (finished m cycles mark k f) Case
  unfolding finished
  finished-part d = go e.answer f.answer p.answer d
    where
      go : (v w : Result ⊤ Refusal) → v ≡ w → (Case → v ≡ (Ok tt)) → PlansPart (finished_as v m cycles mark n e) (finished_as w m cycles mark k f) Case
      go (Ok u) (Ok w) q h = record { writes = p.writes; answer = refl; reads = counted; cycles = refl; instructions = refl; wait = p.wait; armed = refl; registers = p.registers }
      go (Ok u) (Err y) q h = let z : ◌≡◌ {A = ℕ} 0 1 = cc in absurd (omega arith)
      go (Err x) (Ok u) q h = let z : ◌≡◌ {A = ℕ} 0 1 = cc in absurd (omega arith)
      go (Err x) (Err y) q h =
          let d : x ≡ y = cc in
          same (ap (refused_with m) d) (λ k. let t : Err x ≡ (Ok tt) = h k in let z : ◌≡◌ {A = ℕ} 0 1 = cc in absurd (omega arith))

-- an operation that parts is carried out
parts-done : (op : Op) (top : ℕ) (rs : List Range) (mem : List ℕ) (r : Set) (ea : ℕ) → InstructionParts r (byte_at mem ea) op → (evaluate_of op (settings_with top Bought rs) mem r ea).answer ≡ (Ok tt)
unfolding on_memory
parts-done op top rs mem r ea (on-registers (with-operand k)) = refl
parts-done op top rs mem r ea (on-registers (on-accumulator k)) = refl
parts-done op top rs mem r ea (on-memory k) = refl

-- the same parting, where the case is named otherwise
renamed : {p q : Plan} {C E : Type 0} → PlansPart p q C → (C → E) → (E → C) → PlansPart p q E
renamed p f g = record {
  writes = p.writes;
  answer = p.answer;
  reads = p.reads;
  cycles = p.cycles;
  instructions = p.instructions;
  wait = p.wait;
  armed = p.armed;
  registers = part-renamed p.registers f g;
}

-- plans that write the same bytes are fenced alike; where they are refused they are the same
module _ (s t : Settings) (m : Machine) (p q : Plan) {Case : Type 0} (part : PlansPart p q Case) (done : Case → p.answer ≡ (Ok tt)) where
  fenced-part : s.profile ≡ t.profile → s.ram_top ≡ t.ram_top → PlansPart (fenced s m p) (fenced t m q) (((fenced s m p).answer ≡ (Ok tt)) × Case)
  fenced-part e f =
      let alike : bars s (listed p.writes) ≡ bars t (listed q.writes) = rw (e, f, part.writes) in
      go (bars s (listed p.writes)) (bars t (listed q.writes)) alike
    where
      go : (b c : Bool) → b ≡ c → PlansPart (cond b (refused_with m Fenced) p) (cond c (refused_with m Fenced) q) (((cond b (refused_with m Fenced) p).answer ≡ (Ok tt)) × Case)
      go true true g = same refl (λ k. let r : Err Fenced ≡ (Ok tt) = k.0 in let z : ◌≡◌ {A = ℕ} 0 1 = cc in omega arith)
      go false false g = renamed part (λ k. (done k, k)) (λ k. k.1)
      go true false g = let z : ◌≡◌ {A = ℕ} 0 1 = cc in absurd (omega arith)
      go false true g = let z : ◌≡◌ {A = ℕ} 0 1 = cc in absurd (omega arith)

-- a step whose case holds is accepted, but for the fence
case-done : (mem : List ℕ) (m : Machine) (top : ℕ) (rs : List Range) (a : Reached) → PartsAt mem a → (planned mem m (settings_with top Bought rs) a).answer ≡ (Ok tt)
unfolding finished
case-done mem m top rs (At i r ea) k = rw (parts-done i.entry.op top rs mem r ea k)
case-done mem m top rs (NotReached x) k = absurd k

pub steps-part : StepsPart
unfolding step_plan
steps-part mem m top rs l h =
    fenced-part (settings_with top Bought rs) (settings_with top Manual rs) m _ _ (go (reached mem m) (reached-fits mem m l h)) (case-done mem m top rs (reached mem m)) refl refl
  where
    go : (a : Reached) → ReachedFits a → PlansPart (planned mem m (settings_with top Bought rs) a) (planned mem m (settings_with top Manual rs) a) (PartsAt mem a)
    go (At i r ea) k = finished-part m (cycles_of i mem r ea) (arms i.entry.op (byte_at mem ea)) _ _ (reads-summed i mem (settings_with top Bought rs) m.regs r ea ∙ sym (reads-summed i mem (settings_with top Manual rs) m.regs r ea)) _ _ (instructions-part i.entry.op top rs mem r ea k.0.a k.0.b (byte_fits mem l ea)) (parts-done i.entry.op top rs mem r ea)
    go (NotReached x) k = same refl (λ c. c)
