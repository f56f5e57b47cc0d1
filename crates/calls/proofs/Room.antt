-- A call is refused by 8 exactly where a stack pointer is too small.
-- Assumes nothing.
use Rattle.std.proofs.Common.{◌≡◌, ℕ, ◌<◌, Bool, true, false, cond, eqb, ltb, ◌≢◌, List, length, sym, refl, ap, ◌∙◌, ⊎_elim, arith, lt-ltb, eq-eqb, ne_eqb, eqb-true, Err, Ok, Result}
use Rattle.std.specs.Prelude.{⊤}
use Rattle.answers.specs.Numbers.{number_of, number_of_answer}
use Rattle.answers.specs.declared.Refusal.{Refusal}
use Rattle.answers.specs.declared.Refusal.TheVariants.{MemoryLength, PastEnd, Fenced}
use Rattle.memory.specs.Map.{byte_at, word_at}
use Rattle.memory.specs.Writes.{listed, stored}
use Rattle.machine.specs.Fence.{bars}
use Rattle.machine.specs.Machine.{with_registers}
use Rattle.machine.specs.declared.Effect.{Effect}
use Rattle.machine.specs.declared.Machine.{Machine}
use Rattle.machine.specs.declared.Settings.{Settings}
use Rattle.machine.specs.declared.Wait.{Wait}
use Rattle.machine.specs.declared.Wait.TheVariants.{Running, Cwai, Sync}
use Rattle.decode.specs.Decode.{decoded_at}
use Rattle.decode.specs.Laws.{OfDecoding, RefusedSo}
use Rattle.decode.specs.declared.instruction.Instruction.{Instruction}
use Rattle.decode.proofs.Laws.{decoding-number, decode-refuses}
use Rattle.addressing.specs.Address.{resolved_of}
use Rattle.addressing.proofs.Refusals.{resolve-refuses}
use Rattle.evaluate.specs.Arming.{arms}
use Rattle.evaluate.specs.Evaluate.{evaluate_of}
use Rattle.evaluate.proofs.Room.{small-exactly}
use Rattle.stack.specs.Frames.{stacked_by, framed as stacked}
use Rattle.stack.specs.Pushing.{bytes_pushed}
use Rattle.vectors.specs.Service.{served}
use Rattle.vectors.specs.Table.{address_of, is_entire}
use Rattle.vectors.specs.declared.table.Vector.{Vector}
use Rattle.vectors.proofs.Laws.{vectors-refuse-exactly}
use Rattle.bus.specs.Reads.{instruction_reads}
use Rattle.cycles.specs.Cycles.{cycles_of}
use Rattle.calls.specs.Plans.{refused_with, accepted, fenced}
use Rattle.calls.specs.Steps.{Reached, At, NotReached, addressed, of_decoded, decoded_to, unless_waiting, reached, finished_as, finished, planned, step_plan}
use Rattle.calls.specs.Interrupts.{vector_of, is_held_off, taken, taken_reads, after_held_off, of_effect, interrupt_plan}
use Rattle.calls.specs.Room.{small_at, StepSmallExactly, small_frame, InterruptSmallExactly}
use Rattle.calls.specs.declared.InterruptType.{InterruptType}
use Rattle.calls.specs.declared.Plan.{Plan}
use Rattle.calls.proofs.Laws.{free-refused}
use Rattle.calls.proofs.Passing.{barred-done}
use Rattle.addressing.specs.declared.Addressed.{Addressed}

abbrev is_eight : Result ⊤ Refusal → Bool
is_eight a = eqb (number_of_answer a) 8

-- ---- what comes before the operation is refused by another number

abbrev Other : Refusal → Type 0
Other x = eqb (number_of x) 8 ≡ false

of-decoding : (x : Refusal) → OfDecoding x → Other x
of-decoding x t = ne_eqb (number_of x) 8 (λ e. ⊎_elim (λ p. omega (arith, p.1)) (λ p. omega arith) (decoding-number x t))

abbrev OtherReached : Reached → Type 0
OtherReached (At i r ea) = Unit {0}
OtherReached (NotReached x) = Other x

reached-other : (mem : List ℕ) (m : Machine) → OtherReached (reached mem m)
unfolding reached decoded_to
reached-other mem m = go (eqb (length mem) 65536)
  where
    of-address : (i : Instruction) (a : Result Addressed Refusal) → ((x : Refusal) → a ≡ Err x → x ≡ PastEnd) → OtherReached (addressed i a)
    of-address i (Ok a) k = tt
    of-address i (Err x) k = rw (k x refl) refl

    of-decoded : (d : Result Instruction Refusal) → RefusedSo d → OtherReached (of_decoded mem m.regs d)
    of-decoded (Ok i) k = of-address i (resolved_of mem m.regs i.operand i.next) (resolve-refuses mem m.regs i.operand i.next)
    of-decoded (Err x) k = of-decoding x k

    waiting : (w : Wait) → OtherReached (unless_waiting w mem m.regs)
    waiting Running = of-decoded (decoded_at mem m.regs.pc) (decode-refuses mem m.regs.pc)
    waiting Cwai = refl
    waiting Sync = refl

    go : (b : Bool) → OtherReached (cond b (unless_waiting m.wait mem m.regs) (NotReached MemoryLength))
    go true = waiting m.wait
    go false = refl

-- ---- the operation's answer is the step's

done : (m : Machine) (cycles : ℕ) (mark : Bool) (reads : ℕ) (e : Effect) → is_eight (finished m cycles mark reads e).answer ≡ is_eight e.answer
unfolding finished
done m cycles mark reads e = go e.answer
  where
    go : (a : Result ⊤ Refusal) → is_eight (finished_as a m cycles mark reads e).answer ≡ is_eight a
    go (Ok u) = refl
    go (Err x) = refl

-- the fence refuses by another number what was accepted before it
fenced-eight : (s : Settings) (m : Machine) (p : Plan) → ((x : Refusal) → p.answer ≡ Err x → p ≡ refused_with m x) → is_eight (fenced s m p).answer ≡ is_eight p.answer
fenced-eight s m p h = go (bars s (listed p.writes)) refl
  where
    go : (b : Bool) → bars s (listed p.writes) ≡ b → is_eight (cond b (refused_with m Fenced) p).answer ≡ is_eight p.answer
    go true e = sym (ap is_eight (barred-done s m p h e))
    go false e = refl

pub step-small-exactly : StepSmallExactly
unfolding step_plan
step-small-exactly mem m s = fenced-eight s m (planned mem m s (reached mem m)) (free-refused mem m s) ∙ go (reached mem m) (reached-other mem m)
  where
    go : (a : Reached) → OtherReached a → is_eight (planned mem m s a).answer ≡ small_at mem a
    go (At i r ea) k = done m (cycles_of i mem r ea) (arms i.entry.op (byte_at mem ea)) (length (instruction_reads i mem s m.regs r ea)) (evaluate_of i.entry.op s mem r ea) ∙ small-exactly i.entry.op s mem r ea
    go (NotReached x) k = k

-- ---- an interrupt

answered : (m : Machine) (reads : ℕ) (e : Effect) (a : Result ⊤ Refusal) → is_eight (of_effect m reads e a).answer ≡ is_eight a
answered m reads e (Ok u) = refl
answered m reads e (Err x) = refl

-- 8 for the frame; 28, 9 or nothing after it
no-eight : (zero : Bool) → eqb (cond zero 9 0) 8 ≡ false
no-eight true = refl
no-eight false = refl

eight : (b fence zero : Bool) → eqb (cond b 8 (cond fence 28 (cond zero 9 0))) 8 ≡ b
eight true fence zero = refl
eight false true zero = refl
eight false false zero = no-eight zero

frame-eight : (entire fence zero : Bool) (s : ℕ) → eqb (cond (ltb s (cond entire 12 3)) 8 (cond fence 28 (cond zero 9 0))) 8 ≡ ltb s (bytes_pushed (stacked_by entire))
frame-eight true fence zero s = eight (ltb s 12) fence zero
frame-eight false fence zero s = eight (ltb s 3) fence zero

module _ (mem : List ℕ) (m : Machine) (s : Settings) (v : Vector) where
  -- whether the vector leads to a zero byte
  leads : List ℕ → Bool
  leads at = eqb (byte_at at (word_at at (address_of v))) 0

  running : is_eight (served mem s m.regs v).answer ≡ ltb m.regs.s (bytes_pushed (stacked_by (is_entire v)))
  unfolding leads
  running =
      ap (λ (n : ℕ). eqb n 8) (vectors-refuse-exactly.running mem s m.regs v)
      ∙ frame-eight (is_entire v) (bars s (listed (stacked m.regs (is_entire v)).writes)) (leads (stored s.ram_top (listed (stacked m.regs (is_entire v)).writes) mem)) m.regs.s

  framed : (w : Wait) → is_eight (taken w mem s m.regs v).answer ≡ small_frame w m.regs.s v
  unfolding leads
  framed Running = running
  framed Sync = running
  framed Cwai = ap (λ (n : ℕ). eqb n 8) (vectors-refuse-exactly.in_cwai mem s m.regs v) ∙ no-eight (leads mem)

pub interrupt-small-exactly : InterruptSmallExactly
unfolding interrupt_plan
interrupt-small-exactly mem m s i = go (eqb (length mem) 65536) (is_held_off i m)
  where
    e : Effect
    e = taken m.wait mem s m.regs (vector_of i)

    n : ℕ
    n = length (taken_reads m.wait mem s m.regs (vector_of i))

    go : (b c : Bool)
        → is_eight (cond b (cond c (accepted (with_registers m m.regs (after_held_off m.wait)) 0) (of_effect m n e e.answer)) (refused_with m MemoryLength)).answer
        ≡ cond b (cond c false (small_frame m.wait m.regs.s (vector_of i))) false
    go true true = refl
    go true false = answered m n e e.answer ∙ framed mem m s (vector_of i) m.wait
    go false c = refl

-- the number, where the frame does not fit
pub small-interrupt : (mem : List ℕ) (m : Machine) (s : Settings) (i : InterruptType) → length mem ≡ 65536 → is_held_off i m ≡ false → m.wait ≢ Cwai
    → m.regs.s < bytes_pushed (stacked_by (is_entire (vector_of i))) → number_of_answer (interrupt_plan mem m s i).answer ≡ 8
small-interrupt mem m s i size k n l =
    eqb-true (number_of_answer (interrupt_plan mem m s i).answer) 8 (interrupt-small-exactly mem m s i ∙ rw (eq-eqb (length mem) 65536 size, k) (go m.wait refl))
  where
    go : (w : Wait) → m.wait ≡ w → small_frame w m.regs.s (vector_of i) ≡ true
    go Running e = lt-ltb m.regs.s (bytes_pushed (stacked_by (is_entire (vector_of i)))) l
    go Sync e = lt-ltb m.regs.s (bytes_pushed (stacked_by (is_entire (vector_of i)))) l
    go Cwai e = absurd (n e)
