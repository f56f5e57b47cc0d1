-- A step is refused by each number exactly where its law says: from the laws of decoding, of the address and of the operation.
-- Assumes nothing.
use Rattle.std.specs.Prelude.{Err, Ok, Result, ⊤}
use Prim.Native.Nat.{ℕ, ◌≤◌, ◌<◌}
use mathlib.Core.Bool.{Bool, true, false, cond, not, ◌||◌}
use mathlib.Core.List.{List}
use mathlib.Core.Logic.{◌↔◌, ◌≢◌, ◌⊎◌, inl, inr, ⊎_elim}
use mathlib.Core.Path.{◌≡◌, refl, sym, ap, ◌∙◌}
use native.Mathlib.Omega.{arith}
use borrow.Author.Tests.{eq-eqb, eqb-true, eqb-false, leb-true}
use lib.Dec.{T, eqb, eqb→eq, leb, leb→le}
use lib.ListN.{length}
use Rattle.answers.specs.Numbers.{number_of, number_of_answer}
use Rattle.answers.specs.declared.Refusal.{Refusal}
use Rattle.answers.specs.declared.Refusal.TheVariants.{MemoryLength, Opcode, PastEnd, PostByte, PostByte8F, Fenced}
use Rattle.answers.proofs.Numbers.{refused-by-a-number, numbers_apart}
use Rattle.registers.specs.declared.Set.{Set}
use Rattle.memory.specs.Map.{byte_at}
use Rattle.memory.specs.Writes.{listed}
use Rattle.memory.specs.declared.writes.Write.{Write}
use Rattle.machine.specs.Fence.{barred, bars}
use Rattle.machine.specs.declared.Effect.{Effect}
use Rattle.machine.specs.declared.Machine.{Machine}
use Rattle.machine.specs.declared.Settings.{Settings}
use Rattle.machine.specs.declared.Wait.{Wait}
use Rattle.machine.specs.declared.Wait.TheVariants.{Running, Cwai, Sync}
use Rattle.opcodes.specs.declared.Op.{Op}
use Rattle.decode.specs.Decode.{decoded_at}
use Rattle.decode.specs.Laws.{RefusedSo}
use Rattle.decode.specs.declared.instruction.Instruction.{Instruction}
use Rattle.decode.specs.declared.operand.Operand.{Operand}
use Rattle.decode.proofs.CutShort.{bytes-refused}
use Rattle.decode.proofs.Formless.{post-byte-refused}
use Rattle.decode.proofs.Laws.{decoding-number, decode-refuses, opcode-refused}
use Rattle.addressing.specs.Address.{resolved_of}
use Rattle.addressing.proofs.Refusals.{resolve-refuses, next-refused}
use Rattle.evaluate.specs.Arming.{arms}
use Rattle.operations.specs.Refusals.{code_refused}
use Rattle.evaluate.specs.Evaluate.{evaluate_of}
use Rattle.evaluate.specs.Room.{is_small}
use Rattle.evaluate.specs.Writes.{made_by}
use Rattle.evaluate.proofs.Writes.{no-write-lost}
use Rattle.cycles.specs.Cycles.{cycles_of}
use Rattle.calls.specs.Plans.{refused_with, fenced}
use Rattle.calls.specs.declared.Plan.{Plan}
use Rattle.calls.specs.Steps.{Reached, At, NotReached, addressed, of_decoded, decoded_to, unless_waiting, reached, finished_as, finished, planned, step_plan}
use Rattle.refusals.specs.Operations.{is_fenced, leads_to_zero}
use Rattle.refusals.specs.Steps.{Runs, NextPast, Met, StepsRefused}
use Rattle.refusals.proofs.Operations.{fenced_answer, number_with, operation-number}
use Rattle.addressing.specs.declared.Addressed.{Addressed}

-- ---- the numbers of the parts

-- of what stands before the operation: 0 where the operation is reached
abbrev before : Reached → ℕ
before (At i r ea) = 0
before (NotReached x) = number_of x

-- of the step
abbrev whole : List ℕ → Settings → Reached → ℕ
whole mem s (At i r ea) = number_with s mem r ea i.entry.op
whole mem s (NotReached x) = number_of x

-- a plan that is made of an effect, once the fence has judged it; made are the writes of the effect where it is carried out
done : (s : Settings) (m : Machine) (cycles reads : ℕ) (mark : Bool) (e : Effect) (made : List Write) → (e.answer ≡ (Ok tt) → listed e.writes ≡ made)
    → number_of_answer (fenced s m (finished m cycles mark reads e)).answer ≡ number_of_answer (fenced_answer s made e.answer)
unfolding finished barred
done s m cycles reads mark e made h = go e.answer h
  where
    through : (b : Bool) (p : Plan) → p.answer ≡ (Ok tt) → number_of_answer (cond b (refused_with m Fenced) p).answer ≡ number_of_answer (cond {A = Result ⊤ Refusal} b (Err Fenced) (Ok tt))
    through true p d = refl
    through false p d = ap number_of_answer d

    go : (a : Result ⊤ Refusal) → (a ≡ (Ok tt) → listed e.writes ≡ made) → number_of_answer (fenced s m (finished_as a m cycles mark reads e)).answer ≡ number_of_answer (fenced_answer s made a)
    go (Ok u) k = rw (k refl) (through (bars s made) _ refl)
    go (Err x) k = refl

step-number : (mem : List ℕ) (m : Machine) (s : Settings) → number_of_answer (step_plan mem m s).answer ≡ whole mem s (reached mem m)
unfolding step_plan barred
step-number mem m s = go (reached mem m)
  where
    go : (a : Reached) → number_of_answer (fenced s m (planned mem m s a)).answer ≡ whole mem s a
    go (At i r ea) = done s m (cycles_of i mem r ea) _ (arms i.entry.op (byte_at mem ea)) (evaluate_of i.entry.op s mem r ea) (made_by i.entry.op s mem r ea) (no-write-lost i.entry.op s mem r ea).all
    go (NotReached x) = refl

-- ---- decoding and the address

-- the address is refused by 4, decoding by 3, 4, 5 or 24
abbrev OfAddress : ℕ → Type 0
OfAddress n = (n ≡ 0) ⊎ (n ≡ 4)

of-resolved : (i : Instruction) (x : Result Addressed Refusal) → ((y : Refusal) → x ≡ Err y → y ≡ PastEnd) → OfAddress (before (addressed i x))
of-resolved i (Ok a) k = inl refl
of-resolved i (Err x) k = inr (ap number_of (k x refl))

-- a refusal and its number
resolved-by : (i : Instruction) (x : Result Addressed Refusal) (y : Refusal) → (before (addressed i x) ≡ number_of y) ↔ (x ≡ Err y)
resolved-by i (Ok a) y =
    (λ q. absurd (omega (arith, refused-by-a-number y)), λ q. let z : ◌≡◌ {A = ℕ} 0 1 = cc in absurd (omega arith))
resolved-by i (Err x) y = (λ q. ap Err (numbers_apart x y q), λ q. let d : x ≡ y = cc in ap number_of d)

module _ (mem : List ℕ) (r : Set) where
  abbrev number : Result Instruction Refusal → ℕ
  number d = before (of_decoded mem r d)

  address-number : (i : Instruction) (o : Operand) (next : ℕ) → OfAddress (before (addressed i (resolved_of mem r o next)))
  address-number i o next = of-resolved i (resolved_of mem r o next) (resolve-refuses mem r o next)

  -- 3, 5 and 24: by decoding alone
  by-decoding : (y : Refusal) → (OfAddress (number_of y) → ⊥) → {P : Type 0} (d : Result Instruction Refusal) → (d ≡ Err y) ↔ P → (number d ≡ number_of y) ↔ P
  by-decoding y n (Ok i) f = (
    λ q. absurd (n (rw q at (address-number i i.operand i.next))),
    λ p. let c = f.1 p in let z : ◌≡◌ {A = ℕ} 0 1 = cc in absurd (omega arith),
  )
  by-decoding y n (Err x) f =
      (λ q. f.0 (ap Err (numbers_apart x y q)), λ p. let c = f.1 p in let d : x ≡ y = cc in ap number_of d)

  -- 4: by decoding or by the next address
  by-four : {P : Type 0} (d : Result Instruction Refusal) → (d ≡ Err PastEnd) ↔ P → (number d ≡ 4) ↔ (P ⊎ NextPast d)
  by-four (Ok i) f =
      let b = resolved-by i (resolved_of mem r i.operand i.next) PastEnd in
      let g = next-refused mem r i.operand i.next in (
        λ q. inr (g.0 (b.0 q)),
        λ h. ⊎_elim (λ p. let c = f.1 p in let z : ◌≡◌ {A = ℕ} 0 1 = cc in absurd (omega arith)) (λ k. b.1 (g.1 k)) h,
      )
  by-four (Err x) f = (
    λ q. inl (f.0 (ap Err (numbers_apart x PastEnd q))),
    λ h. ⊎_elim (λ p. let c = f.1 p in let d : x ≡ PastEnd = cc in ap number_of d) (λ k. absurd k) h,
  )

  -- neither 1 nor 2, and at most 5 or 24
  record Middle (n : ℕ) : Type 0 where
    one : n ≡ 1 → ⊥
    two : n ≡ 2 → ⊥
    most : (n ≤ 5) ⊎ (n ≡ 24)

  of-address : (n : ℕ) → OfAddress n → Middle n
  of-address n (inl e) = record { one = λ q. omega arith; two = λ q. omega arith; most = inl (omega arith) }
  of-address n (inr e) = record { one = λ q. omega arith; two = λ q. omega arith; most = inl (omega arith) }

  of_number : (n : ℕ) → ((3 ≤ n) × (n ≤ 5)) ⊎ (n ≡ 24) → Middle n
  of_number n (inl (l, h)) = record { one = λ q. omega arith; two = λ q. omega arith; most = inl (omega arith) }
  of_number n (inr e) = record { one = λ q. omega arith; two = λ q. omega arith; most = inr e }

  middle : (d : Result Instruction Refusal) → RefusedSo d → Middle (number d)
  middle (Ok i) k = of-address _ (address-number i i.operand i.next)
  middle (Err x) k = of_number (number_of x) (decoding-number x k)

-- ---- 1 and 2 come first

data Case (mem : List ℕ) (m : Machine) (n : ℕ) : Type 0 where
  short : n ≡ 1 → length mem ≢ 65536 → Case mem m n
  waits : n ≡ 2 → length mem ≡ 65536 → m.wait ≢ Running → Case mem m n
  runs : n ≡ number mem m.regs (decoded_at mem m.regs.pc) → Runs mem m → Case mem m n

module _ (mem : List ℕ) (m : Machine) where
  case : Case mem m (before (reached mem m))
  unfolding reached decoded_to
  case = go (eqb (length mem) 65536) refl
    where
      waiting : length mem ≡ 65536 → (w : Wait) → m.wait ≡ w → Case mem m (before (unless_waiting w mem m.regs))
      waiting l Running e = runs refl (record { sized = l; running = e })
      waiting l Cwai e = waits refl l (λ q. let z : ◌≡◌ {A = ℕ} 0 1 = cc in omega arith)
      waiting l Sync e = waits refl l (λ q. let z : ◌≡◌ {A = ℕ} 0 1 = cc in omega arith)

      go : (t : Bool) → eqb (length mem) 65536 ≡ t → Case mem m (before (cond t (unless_waiting m.wait mem m.regs) (NotReached MemoryLength)))
      go true d = waiting (eqb-true (length mem) 65536 d) m.wait refl
      go false d = short refl (eqb-false (length mem) 65536 d)

  abbrev here : Result Instruction Refusal
  here = decoded_at mem m.regs.pc

  in-middle : Middle mem m.regs (number mem m.regs here)
  in-middle = middle mem m.regs here (decode-refuses mem m.regs.pc)

  module _ (n : ℕ) where
    is_one : Case mem m n → (n ≡ 1) ↔ (length mem ≢ 65536)
    is_one (short e h) = (λ q. h, λ k. e)
    is_one (waits e l w) = (λ q. absurd (omega arith), λ k. absurd (k l))
    is_one (runs e r) = (λ q. absurd (in-middle.one (sym e ∙ q)), λ k. absurd (k r.sized))

    is-two : Case mem m n → (n ≡ 2) ↔ ((length mem ≡ 65536) × (m.wait ≢ Running))
    is-two (short e h) = (λ q. absurd (omega arith), λ k. absurd (h k.0))
    is-two (waits e l w) = (λ q. (l, w), λ k. e)
    is-two (runs e r) = (λ q. absurd (in-middle.two (sym e ∙ q)), λ k. absurd (k.1 r.running))

    is-more : (k : ℕ) → 2 < k → {P : Type 0} → (number mem m.regs here ≡ k) ↔ P → Case mem m n → (n ≡ k) ↔ (Runs mem m × P)
    is-more k l f (short e h) = (λ q. absurd (omega arith), λ p. absurd (h p.0.sized))
    is-more k l f (waits e g w) = (λ q. absurd (omega arith), λ p. absurd (w p.0.running))
    is-more k l f (runs e r) = (λ q. (r, f.0 (sym e ∙ q)), λ p. e ∙ f.1 p.1)

    is-most : Case mem m n → (n ≤ 5) ⊎ (n ≡ 24)
    is-most (short e h) = inl (omega arith)
    is-most (waits e l w) = inl (omega arith)
    is-most (runs e r) = rw e in-middle.most

-- ---- the operation

exact : (n k : ℕ) (b : Bool) → eqb n k ≡ b → (n ≡ k) ↔ (b ≡ true)
exact n k b h = (λ e. sym h ∙ eq-eqb n k e, λ e. eqb-true n k (h ∙ e))

not-early : (n k : ℕ) → T (eqb n 0 || leb 7 n) → 0 < k → k < 6 → n ≡ k → ⊥
not-early n k t l h e = go (eqb n 0) refl t
  where
    go : (b : Bool) → eqb n 0 ≡ b → T (b || leb 7 n) → ⊥
    go true p t = omega (arith, eqb-true n 0 p)
    go false p t = omega (arith, leb→le 7 n t)

few : (n : ℕ) → T (leb n 9 || eqb n 28) → (n ≤ 9) ⊎ (n ≡ 28)
few n t = go (leb n 9) refl t
  where
    go : (b : Bool) → leb n 9 ≡ b → T (b || eqb n 28) → (n ≤ 9) ⊎ (n ≡ 28)
    go true e k = inl (leb-true n 9 e)
    go false e k = inr (eqb→eq n 28 k)

module _ (mem : List ℕ) (s : Settings) where
  -- a number that no operation gives
  record Early (k : ℕ) : Type 0 where
    some : 0 < k
    none : (op : Op) (r : Set) (ea : ℕ) → number_with s mem r ea op ≡ k → ⊥

  most-number : (op : Op) (r : Set) (ea : ℕ) → (number_with s mem r ea op ≤ 9) ⊎ (number_with s mem r ea op ≡ 28)
  most-number op r ea = few (number_with s mem r ea op) (operation-number s mem r ea op).most

  below : (k : ℕ) → 0 < k → k < 6 → Early k
  below k l h = record { some = l; none = λ op r ea q. not-early _ k (operation-number s mem r ea op).other l h q }

  above : (k : ℕ) → 9 < k → k < 28 → Early k
  above k l h = record { some = omega arith; none = λ op r ea q. ⊎_elim (λ p. omega arith) (λ p. omega arith) (most-number op r ea) }

  early : (k : ℕ) → Early k → (a : Reached) → (whole mem s a ≡ k) ↔ (before a ≡ k)
  early k h (At i r ea) = (λ q. absurd (h.none i.entry.op r ea q), λ q. absurd (omega (arith, h.some)))
  early k h (NotReached x) = (λ q. q, λ q. q)

  late : (k : ℕ) → 5 < k → k ≢ 24 → (test : Op → Set → ℕ → Bool)
      → ((op : Op) (r : Set) (ea : ℕ) → eqb (number_with s mem r ea op) k ≡ test op r ea)
      → (a : Reached) → (before a ≤ 5) ⊎ (before a ≡ 24) → (whole mem s a ≡ k) ↔ Met a test
  late k l g test f (At i r ea) h = exact _ k (test i.entry.op r ea) (f i.entry.op r ea)
  late k l g test f (NotReached x) h = (λ q. absurd (⊎_elim (λ p. omega arith) (λ p. g (sym q ∙ p)) h), λ q. absurd q)

  no_other : (a : Reached) → (before a ≤ 5) ⊎ (before a ≡ 24) → (whole mem s a ≤ 9) ⊎ ((whole mem s a ≡ 24) ⊎ (whole mem s a ≡ 28))
  no_other (At i r ea) h = ⊎_elim (λ p. inl p) (λ p. inr (inr p)) (most-number i.entry.op r ea)
  no_other (NotReached x) h = ⊎_elim (λ p. inl (omega arith)) (λ p. inr (inl p)) h

-- ---- the laws

-- from the number of what was reached to that of the step
through : {A : Type 0} {n p k : ℕ} → n ≡ p → (p ≡ k) ↔ A → (n ≡ k) ↔ A
through e f = (λ q. f.0 (sym e ∙ q), λ a. e ∙ f.1 a)

joined : {A B C : Type 0} → A ↔ B → B ↔ C → A ↔ C
joined f g = (λ a. g.0 (f.0 a), λ c. f.1 (g.1 c))

not-address : (k : ℕ) → T (not (eqb k 0 || eqb k 4)) → OfAddress k → ⊥
not-address k t (inl e) = rw e at t
not-address k t (inr e) = rw e at t

pub steps-refused : StepsRefused
steps-refused mem m s b l = record {
  one = at 1 (below mem s 1 (omega arith) (omega arith)) (is_one mem m _ c);
  two = at 2 (below mem s 2 (omega arith) (omega arith)) (is-two mem m _ c);
  three = at 3 (below mem s 3 (omega arith) (omega arith)) (is-more mem m _ 3 (omega arith) (by-decoding mem r Opcode (not-address 3 tt) d (opcode-refused mem pc b)) c);
  four = at 4 (below mem s 4 (omega arith) (omega arith)) (is-more mem m _ 4 (omega arith) (by-four mem r d (bytes-refused mem pc l)) c);
  five = at 5 (below mem s 5 (omega arith) (omega arith)) (is-more mem m _ 5 (omega arith) (by-decoding mem r PostByte (not-address 5 tt) d (post-byte-refused PostByte tt mem pc)) c);
  twenty_four = at 24 (above mem s 24 (omega arith) (omega arith)) (is-more mem m _ 24 (omega arith) (by-decoding mem r PostByte8F (not-address 24 tt) d (post-byte-refused PostByte8F tt mem pc)) c);
  seven = through e (late mem s 7 (omega arith) (λ q. omega arith) (λ op q ea. code_refused op mem ea) (λ op q ea. (operation-number s mem q ea op).is7) a most);
  eight = through e (late mem s 8 (omega arith) (λ q. omega arith) (λ op q ea. is_small op q (byte_at mem ea)) (λ op q ea. (operation-number s mem q ea op).is8) a most);
  twenty_eight = through e (late mem s 28 (omega arith) (λ q. omega arith) (λ op q ea. is_fenced op s mem q ea) (λ op q ea. (operation-number s mem q ea op).is28) a most);
  nine = through e (late mem s 9 (omega arith) (λ q. omega arith) (λ op q ea. leads_to_zero op s mem q) (λ op q ea. (operation-number s mem q ea op).is9) a most);
  only = rw e (no_other mem s a most);
}
  where
    a : Reached
    a = reached mem m

    r : Set
    r = m.regs

    pc : ℕ
    pc = m.regs.pc

    d : Result Instruction Refusal
    d = decoded_at mem m.regs.pc

    c : Case mem m (before (reached mem m))
    c = case mem m

    most : (before (reached mem m) ≤ 5) ⊎ (before (reached mem m) ≡ 24)
    most = is-most mem m _ c

    e : number_of_answer (step_plan mem m s).answer ≡ whole mem s (reached mem m)
    e = step-number mem m s

    at : {A : Type 0} (k : ℕ) → Early mem s k → (before (reached mem m) ≡ k) ↔ A → (number_of_answer (step_plan mem m s).answer ≡ k) ↔ A
    at k h f = through e (joined (early mem s k h (reached mem m)) f)
