-- Laws of every call: a refused one changes nothing, at most twelve bytes are written, machine and writes fit their widths, and wait state,
-- mark and counters move as they should.
-- Assumes nothing.
use Rattle.std.proofs.Common.{◌≡◌, ℕ, ◌+◌, ◌<◌, ◌≤◌, Bool, true, false, cond, eqb, List, [], length, sym, refl, ap, ◌∙◌, mod-lt, lit<, Err, Ok, Result}
use Rattle.std.specs.Prelude.{⊤}
use Rattle.answers.specs.declared.Refusal.{Refusal}
use Rattle.answers.specs.declared.Refusal.TheVariants.{MemoryLength, Fenced}
use Rattle.registers.specs.Fits.{Fits}
use Rattle.registers.specs.RegisterSet.{after_reset}
use Rattle.registers.specs.declared.Set.{Set}
use Rattle.memory.specs.Fits.{Bytes, AllFit}
use Rattle.memory.specs.Map.{byte_at, word_at}
use Rattle.memory.specs.Writes.{writes_of, listed, stored, reported}
use Rattle.memory.proofs.Fits.{none-fit, listed-fit, word_fits}
use Rattle.memory.proofs.Folds.{listed_back}
use Rattle.memory.proofs.Twelve.{Full, none-full, at-most-twelve}
use Rattle.machine.specs.Fence.{bars}
use Rattle.machine.specs.Machine.{with_registers, marked, MachineFits}
use Rattle.machine.specs.declared.Effect.{Effect}
use Rattle.machine.specs.declared.Machine.{Machine}
use Rattle.machine.specs.declared.Settings.{Settings}
use Rattle.machine.specs.declared.Wait.{Wait}
use Rattle.machine.specs.declared.Wait.TheVariants.{Running, Cwai, Sync}
use Rattle.opcodes.specs.declared.Entry.{Entry}
use Rattle.decode.specs.Decode.{decoded_at}
use Rattle.decode.specs.Laws.{DecodedFits}
use Rattle.decode.specs.declared.instruction.Instruction.{Instruction}
use Rattle.decode.proofs.Laws.{decode-fits}
use Rattle.addressing.specs.Address.{resolved_of}
use Rattle.addressing.specs.Laws.{ResolvedFits}
use Rattle.addressing.proofs.Widths.{resolve-fits}
use Rattle.operations.specs.Branches.{jumped}
use Rattle.operations.specs.Sound.{Sound, Given}
use Rattle.operations.proofs.Widths.{jumped-fits}
use Rattle.vectors.specs.Table.{address_of}
use Rattle.vectors.specs.declared.table.Vector.{Vector}
use Rattle.vectors.specs.declared.table.Vector.TheVariants.{Reset}
use Rattle.vectors.proofs.Sound.{vectors-sound}
use Rattle.evaluate.specs.Arming.{arms}
use Rattle.evaluate.specs.Waits.{wait_after}
use Rattle.evaluate.proofs.Sound.{evaluated-sound}
use Rattle.evaluate.proofs.Writes.{not_done}
use Rattle.evaluate.proofs.Waits.{cwai-alone, sync-alone}
use Rattle.cycles.specs.Bills.{BoundedAt}
use Rattle.cycles.specs.Cycles.{extra_of, cycles_of}
use Rattle.cycles.proofs.Bills.{instruction-bounded}
use Rattle.calls.specs.Plans.{refused_with, accepted, carried_out, memory_with, PlanFits, NothingChanged}
use Rattle.calls.specs.Steps.{Reached, At, NotReached, addressed, of_decoded, decoded_to, unless_waiting, reached, finished_as, finished, planned, step_plan}
use Rattle.calls.specs.Interrupts.{vector_of, is_held_off, taken, taken_reads, after_held_off, of_effect, interrupt_plan}
use Rattle.calls.specs.Resets.{reset_to, reset_plan}
use Rattle.calls.specs.Calls.{step, interrupt, reset, RefusedCall, FewWrites, CallFits}
use Rattle.calls.specs.Moves.{Moved, MovedBy, StepMoves, BoundedBy, StepBounded, Still, InterruptStill, ResetStill}
use Rattle.calls.specs.declared.InterruptType.{InterruptType}
use Rattle.calls.specs.declared.Plan.{Plan}
use Rattle.addressing.specs.declared.Addressed.{Addressed}

-- what a call is given
record Provided (mem : List ℕ) (m : Machine) : Type 0 where
  machine : MachineFits m
  bytes : Bytes mem

-- a plan is whole: its writes stand in the twelve places; where it is refused it is the machine as it was, with no write; machine and writes
-- fit where P says that what came does; and where it is accepted, Moves holds of the new machine
record Whole (P : Type 0) (Moves : Machine → Type 0) (m : Machine) (p : Plan) : Type 0 where
  few : Full p.writes
  refused : (x : Refusal) → p.answer ≡ Err x → p ≡ refused_with m x
  fits : P → MachineFits p.machine
  widths : P → AllFit p.writes.list
  moves : p.answer ≡ (Ok tt) → Moves p.machine

module _ {P : Type 0} {Moves : Machine → Type 0} (m : Machine) (h : P → MachineFits m) where
  refused-whole : (y : Refusal) → Whole P Moves m (refused_with m y)
  refused-whole y = record {
    few = none-full;
    refused = λ x e. let d : y ≡ x = cc in ap (refused_with m) d;
    fits = h;
    widths = λ g. none-fit;
    moves = λ e. not_done e;
  }

-- what a sound effect rests on, given by something else
weaker : {P Q : Type 0} {r : Set} {w : Wait} {e : Effect} → (Q → P) → Sound P r w e → Sound Q r w e
weaker f t = record { few = t.few; waits = t.waits; refused = t.refused; registers = λ g. t.registers (f g); widths = λ g. t.widths (f g) }

-- ---- a step

-- an operation that is carried out, by the entry e
module _ {P : Type 0} (m : Machine) (h : P → MachineFits m) (e : Entry) (cost : ℕ) (mark : Bool) (reads : ℕ) (f : Effect) (r : Set) (s : Sound P r (wait_after e.op) f) where
  as-whole : (a : Result ⊤ Refusal) → (a ≡ (Ok tt) → f.wait ≡ wait_after e.op) → Whole P (Moved e cost mark m) m (finished_as a m cost mark reads f)
  as-whole (Ok u) w = record {
    few = record { places = s.few };
    refused = λ x d. not_done (sym d);
    fits = λ g. record { registers = s.registers g; cycles = mod-lt (m.cycles + cost) (lit< tt); instructions = mod-lt (m.instructions + 1) (lit< tt) };
    widths = s.widths;
    moves = λ d. record { cycles = refl; instructions = refl; cwai = rw (w refl) (cwai-alone e.op); sync = rw (w refl) (sync-alone e.op); armed = refl };
  }
  as-whole (Err y) w = refused-whole m h y

  finished-whole : Whole P (Moved e cost mark m) m (finished m cost mark reads f)
  unfolding finished
  finished-whole = as-whole f.answer s.waits

-- what was reached fits
abbrev pub ReachedFits : Reached → Type 0
ReachedFits (At i r ea) = Fits r × (ea < 65536)
ReachedFits (NotReached x) = Unit {0}

module _ (mem : List ℕ) (m : Machine) where
  pub reached-fits : Bytes mem → Fits m.regs → ReachedFits (reached mem m)
  unfolding reached decoded_to
  reached-fits b f = go (eqb (length mem) 65536)
    where
      of-address : (i : Instruction) (a : Result Addressed Refusal) → ResolvedFits a → ReachedFits (addressed i a)
      of-address i (Ok a) k = (k.registers, k.address)
      of-address i (Err x) k = tt

      of-decoded : (d : Result Instruction Refusal) → DecodedFits m.regs.pc d → ReachedFits (of_decoded mem m.regs d)
      of-decoded (Ok i) k = of-address i (resolved_of mem m.regs i.operand i.next) (resolve-fits mem b m.regs f i.operand i.next k.operand)
      of-decoded (Err x) k = tt

      waiting : (w : Wait) → ReachedFits (unless_waiting w mem m.regs)
      waiting Running = of-decoded (decoded_at mem m.regs.pc) (decode-fits mem m.regs.pc b f.pc)
      waiting Cwai = tt
      waiting Sync = tt

      go : (b : Bool) → ReachedFits (cond b (unless_waiting m.wait mem m.regs) (NotReached MemoryLength))
      go true = waiting m.wait
      go false = tt

  planned-whole : (s : Settings) (a : Reached) → (Provided mem m → ReachedFits a) → Whole (Provided mem m) (MovedBy mem a m) m (planned mem m s a)
  unfolding cycles_of
  planned-whole s (At i r ea) k =
      finished-whole m (λ g. g.machine) i.entry (i.entry.cycles + extra_of i mem r ea) (arms i.entry.op (byte_at mem ea)) _ _ r
      (weaker (λ g. record { registers = (k g).0; bytes = g.bytes; address = (k g).1 }) (evaluated-sound i.entry.op s mem r ea))
  planned-whole s (NotReached x) k = refused-whole m (λ g. g.machine) x

  free-whole : (s : Settings) → Whole (Provided mem m) (MovedBy mem (reached mem m) m) m (planned mem m s (reached mem m))
  free-whole s = planned-whole s (reached mem m) (λ g. reached-fits g.bytes g.machine.registers)

  -- before the fence, too, a refused step is the machine as it was
  pub free-refused : (s : Settings) (x : Refusal) → (planned mem m s (reached mem m)).answer ≡ Err x → planned mem m s (reached mem m) ≡ refused_with m x
  free-refused s x e = (free-whole s).refused x e

  pub free-fits : (s : Settings) → MachineFits m → Bytes mem → AllFit (listed (planned mem m s (reached mem m)).writes)
  free-fits s h b = listed-fit (planned mem m s (reached mem m)).writes ((free-whole s).widths (record { machine = h; bytes = b }))

  step-whole : (s : Settings) → Whole (Provided mem m) (MovedBy mem (reached mem m) m) m (step_plan mem m s)
  unfolding step_plan
  step-whole s = go (bars s (listed (planned mem m s (reached mem m)).writes))
    where
      go : (b : Bool) → Whole (Provided mem m) (MovedBy mem (reached mem m) m) m (cond b (refused_with m Fenced) (planned mem m s (reached mem m)))
      go true = refused-whole m (λ g. g.machine) Fenced
      go false = free-whole s

  -- ---- interrupts and reset

  -- registers, wait and mark changed and nothing written
  accepted-whole : (r : Set) (w : Wait) (a : Bool) (reads : ℕ) → (Provided mem m → Fits r) → Whole (Provided mem m) (Still a m) m (accepted (marked (with_registers m r w) a) reads)
  accepted-whole r w a reads h = record {
    few = none-full;
    refused = λ x e. not_done (sym e);
    fits = λ g. record { registers = h g; cycles = g.machine.cycles; instructions = g.machine.instructions };
    widths = λ g. none-fit;
    moves = λ d. record { cycles = refl; instructions = refl; armed = refl };
  }

  effect-whole : (reads : ℕ) (e : Effect) → Sound (Provided mem m) m.regs Running e → (a : Result ⊤ Refusal) → Whole (Provided mem m) (Still m.armed m) m (of_effect m reads e a)
  effect-whole reads e s (Ok u) = record {
    few = record { places = s.few };
    refused = λ x d. not_done (sym d);
    fits = λ g. record { registers = s.registers g; cycles = g.machine.cycles; instructions = g.machine.instructions };
    widths = s.widths;
    moves = λ d. record { cycles = refl; instructions = refl; armed = refl };
  }
  effect-whole reads e s (Err x) = refused-whole m (λ g. g.machine) x

  -- an interrupt has no effective address: any will do
  given : Provided mem m → Given mem m.regs 0
  given g = record { registers = g.machine.registers; bytes = g.bytes; address = lit< tt }

  taken-sound : (s : Settings) (v : Vector) (w : Wait) → Sound (Provided mem m) m.regs Running (taken w mem s m.regs v)
  taken-sound s v Running = weaker given ((vectors-sound mem s m.regs 0).running v)
  taken-sound s v Sync = weaker given ((vectors-sound mem s m.regs 0).running v)
  taken-sound s v Cwai = weaker given ((vectors-sound mem s m.regs 0).in_cwai v)

  interrupt-whole : (s : Settings) (i : InterruptType) → Whole (Provided mem m) (Still m.armed m) m (interrupt_plan mem m s i)
  unfolding interrupt_plan
  interrupt-whole s i = go (eqb (length mem) 65536) (is_held_off i m)
    where
      e : Effect
      e = taken m.wait mem s m.regs (vector_of i)

      n : ℕ
      n = length (taken_reads m.wait mem s m.regs (vector_of i))

      go : (l k : Bool)
          → Whole (Provided mem m) (Still m.armed m) m (cond l (cond k (accepted (with_registers m m.regs (after_held_off m.wait)) 0) (of_effect m n e e.answer)) (refused_with m MemoryLength))
      go true true = accepted-whole m.regs (after_held_off m.wait) m.armed 0 (λ g. g.machine.registers)
      go true false = effect-whole n e (taken-sound s (vector_of i) m.wait) e.answer
      go false k = refused-whole m (λ g. g.machine) MemoryLength

  cleared-fits : Fits after_reset
  cleared-fits = record { x = lit< tt; y = lit< tt; u = lit< tt; s = lit< tt; pc = lit< tt; a = lit< tt; b = lit< tt; dp = lit< tt; cc = lit< tt }

  reset-whole : Whole (Provided mem m) (Still false m) m (reset_plan mem m)
  unfolding reset_plan
  reset-whole = go (eqb (length mem) 65536) (word_at mem (address_of Reset)) (λ g. word_fits mem g.bytes (address_of Reset))
    where
      go : (l : Bool) (pc : ℕ) → (Provided mem m → pc < 65536) → Whole (Provided mem m) (Still false m) m (cond l (reset_to m pc) (refused_with m MemoryLength))
      go true pc h = accepted-whole (jumped after_reset pc) Running false _ (λ g. jumped-fits after_reset cleared-fits pc (h g))
      go false pc h = refused-whole m (λ g. g.machine) MemoryLength

-- ---- what follows

module _ {P : Type 0} {Moves : Machine → Type 0} {m : Machine} (p : Plan) (w : Whole P Moves m p) where
  whole-unchanged : (s : Settings) (mem : List ℕ) (x : Refusal) → p.answer ≡ Err x → NothingChanged s m mem p
  unfolding stored reported
  whole-unchanged s mem x e =
      let q = w.refused x e in
      record {
        machine = ap (λ (g : Plan). g.machine) q;
        memory = ap (λ (g : Plan). memory_with s g mem) q ∙ ap (λ l. stored s.ram_top l mem) (listed_back []);
        devices = ap (λ (g : Plan). (carried_out s g).devices) q ∙ ap (λ l. writes_of (reported s.ram_top l)) (listed_back []);
        reads = ap (λ (g : Plan). (carried_out s g).reads) q;
        writes = ap (λ (g : Plan). (carried_out s g).writes) q ∙ ap length (listed_back []);
      }

  whole-fits : P → PlanFits p
  whole-fits g = record { machine = w.fits g; writes = listed-fit p.writes (w.widths g) }

  whole-few : length (listed p.writes) ≤ 12
  whole-few = at-most-twelve p.writes w.few

pub refused-call : RefusedCall
refused-call (step t) mem m = whole-unchanged (step_plan mem m t) (step-whole mem m t) t mem
refused-call (interrupt t i) mem m = whole-unchanged (interrupt_plan mem m t i) (interrupt-whole mem m t i) t mem
refused-call (reset t) mem m = whole-unchanged (reset_plan mem m) (reset-whole mem m) t mem

pub few-writes : FewWrites
few-writes (step t) mem m = whole-few (step_plan mem m t) (step-whole mem m t)
few-writes (interrupt t i) mem m = whole-few (interrupt_plan mem m t i) (interrupt-whole mem m t i)
few-writes (reset t) mem m = whole-few (reset_plan mem m) (reset-whole mem m)

pub call_fits : CallFits
call_fits (step t) mem m h b = whole-fits (step_plan mem m t) (step-whole mem m t) (record { machine = h; bytes = b })
call_fits (interrupt t i) mem m h b = whole-fits (interrupt_plan mem m t i) (interrupt-whole mem m t i) (record { machine = h; bytes = b })
call_fits (reset t) mem m h b = whole-fits (reset_plan mem m) (reset-whole mem m) (record { machine = h; bytes = b })

pub step-moves : StepMoves
step-moves mem m s d = (step-whole mem m s).moves d

-- how much a step costs: its instruction was decoded
pub step-bounded : StepBounded
unfolding reached decoded_to
step-bounded mem m b = go (eqb (length mem) 65536)
  where
    of-address : (i : Instruction) (a : Result Addressed Refusal) → BoundedAt mem (Ok i) → BoundedBy mem (addressed i a)
    of-address i (Ok a) k = k a.regs a.ea
    of-address i (Err x) k = tt

    of-decoded : (d : Result Instruction Refusal) → BoundedAt mem d → BoundedBy mem (of_decoded mem m.regs d)
    of-decoded (Ok i) k = of-address i (resolved_of mem m.regs i.operand i.next) k
    of-decoded (Err x) k = tt

    waiting : (w : Wait) → BoundedBy mem (unless_waiting w mem m.regs)
    waiting Running = of-decoded (decoded_at mem m.regs.pc) (instruction-bounded mem m.regs.pc b)
    waiting Cwai = tt
    waiting Sync = tt

    go : (t : Bool) → BoundedBy mem (cond t (unless_waiting m.wait mem m.regs) (NotReached MemoryLength))
    go true = waiting m.wait
    go false = tt

-- a refused call leaves counters and mark with the machine
still : {P : Type 0} {m : Machine} (p : Plan) → Whole P (Still m.armed m) m p → Still m.armed m p.machine
still {m = m} p w = go p.answer refl
  where
    go : (a : Result ⊤ Refusal) → p.answer ≡ a → Still m.armed m p.machine
    go (Ok u) e = w.moves e
    go (Err x) e = rw (w.refused x e) (record { cycles = refl; instructions = refl; armed = refl })

pub interrupt-still : InterruptStill
interrupt-still mem m s i = still (interrupt_plan mem m s i) (interrupt-whole mem m s i)

pub reset-still : ResetStill
reset-still mem m d = (reset-whole mem m).moves d
