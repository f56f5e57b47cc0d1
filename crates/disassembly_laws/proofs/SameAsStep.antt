-- From the laws of a step's refusals and of decoding, by the cases of what was decoded.
-- Assumes nothing.
use Rattle.std.specs.Prelude.{Err, None, Ok, Option, Result, Some}
use Prim.Native.Nat.{ℕ, ◌+◌, ◌-◌, ◌<◌}
use mathlib.Core.Path.{◌≡◌, refl, sym, ap, subst, ◌∙◌}
use mathlib.Core.Bool.{Bool, true, false, cond, not, ◌&&◌, ◌||◌}
use mathlib.Core.List.{List, reverse}
use mathlib.Core.Logic.{◌↔◌, ◌⊎◌, inl, inr, ⊎_elim}
use native.Mathlib.Nat.{mod-add-mod}
use native.Mathlib.Omega.{arith}
use borrow.Author.Tests.{eqb-true, eq-eqb, leb-true, leb-false}
use lib.Dec.{T, eqb, leb, ltb}
use lib.ListN.{length}
use Rattle.answers.specs.Numbers.{number_of}
use Rattle.answers.specs.declared.Refusal.{Refusal}
use Rattle.answers.specs.declared.Refusal.TheVariants.{Opcode, PastEnd, PostByte, PostByte8F, TransferCode, LineShort}
use Rattle.answers.proofs.Numbers.{numbers_apart}
use Rattle.registers.specs.RegisterSet.{with_pc}
use Rattle.registers.specs.ConditionCodes.{bit_at}
use Rattle.registers.specs.declared.Set.{Set}
use Rattle.registers.specs.declared.Stack.{Stack}
use Rattle.registers.specs.declared.Stack.TheVariants.{S as stack_s, U as stack_u}
use Rattle.memory.specs.Fits.{Bytes}
use Rattle.memory.specs.Map.{byte_at}
use Rattle.machine.specs.declared.Machine.{Machine}
use Rattle.machine.specs.declared.Settings.{Settings}
use Rattle.machine.specs.declared.Wait.{Wait}
use Rattle.opcodes.specs.Manual.{entry_of}
use Rattle.opcodes.specs.Rows.{values}
use Rattle.opcodes.specs.declared.Entry.{Entry}
use Rattle.opcodes.specs.declared.Mode.{Mode}
use Rattle.opcodes.specs.declared.Mode.TheVariants.{Inherent, Immediate8, Immediate16, Direct, Indexed, Extended, Relative8, Relative16}
use Rattle.opcodes.specs.declared.Op.{Op}
use Rattle.opcodes.specs.declared.Op.TheVariants.{Registers, Memory}
use Rattle.opcodes.specs.declared.Page.{Page}
use Rattle.opcodes.specs.declared.Page.TheVariants.{Plain, Ten, Eleven}
use Rattle.opcodes.specs.declared.RegisterOp.{RegisterOp}
use Rattle.opcodes.proofs.Rows.{alike}
use Rattle.decode.specs.Decode.{decoded_at}
use Rattle.decode.specs.Laws.{RefusedSo}
use Rattle.decode.specs.Operand.{operand_at}
use Rattle.decode.specs.Origin.{Origin, OriginOf}
use Rattle.decode.specs.declared.instruction.Instruction.{Instruction}
use Rattle.decode.specs.declared.operand.Operand.TheVariants.{Immediate as ByValue}
use Rattle.decode.proofs.CutShort.{bytes-refused}
use Rattle.decode.proofs.Formless.{post-byte-refused}
use Rattle.decode.proofs.Laws.{decoding-number, decode-refuses, opcode-refused}
use Rattle.decode.proofs.Origin.{decode-origin}
use Rattle.addressing.specs.Address.{effective_of, resolved_of}
use Rattle.addressing.specs.declared.Addressed.{Addressed}
use Rattle.operations.specs.Refusals.{names_two, code_refused}
use Rattle.operations.specs.Transfers.{transferable}
use Rattle.stack.specs.Pushing.{order, chosen}
use Rattle.calls.specs.Steps.{At, addressed, of_decoded, decoded_to, unless_waiting, reached}
use Rattle.refusals.specs.Steps.{Runs, NextPast, Met, StepRefused, Answers}
use Rattle.refusals.proofs.Steps.{steps-refused}
use Rattle.disassembly.specs.Names.{name_text, slot_text, list_text}
use Rattle.disassembly.specs.Disassembly.{immediate_at, taken_as_step, judged_from, legible, answered, disassembled_of}
use Rattle.disassembly.proofs.Spans.{one-to-five}
use Rattle.disassembly_laws.specs.SameAsStep.{number_of_line, OfInstruction, SameAsStep, DisassemblesAsStep, TargetOfStep, comma_between, ListsWhatIsPulled}
use Rattle.decode.specs.declared.operand.Operand.{Operand}

pub target-of-step : TargetOfStep
target-of-step r next n = mod-add-mod next 65536 n

-- one test of the 256 post-bytes for each stack
all_listed : (stack : Stack) → values (λ (post : ℕ). list_text stack post) 0 256 ≡ values (λ (post : ℕ). comma_between (chosen post (reverse (order stack)))) 0 256
unfolding slot_text name_text chosen bit_at
all_listed stack_s = refl
all_listed stack_u = refl

pub lists-what-is-pulled : ListsWhatIsPulled
lists-what-is-pulled stack post l =
    alike (λ (post : ℕ). list_text stack post) (λ (post : ℕ). comma_between (chosen post (reverse (order stack)))) 256 (all_listed stack) post l

no : {A : Type 0} → ◌≡◌ {A = ℕ} 0 1 → A
no z = absurd (omega arith)

-- ---- the operand of TFR and EXG is immediate

is_immediate : Mode → Bool
is_immediate Inherent = false
is_immediate Immediate8 = true
is_immediate Immediate16 = false
is_immediate Direct = false
is_immediate Indexed = false
is_immediate Extended = false
is_immediate Relative8 = false
is_immediate Relative16 = false

fit : Op → Mode → Bool
fit (Registers op) mode = not (names_two op) || is_immediate mode
fit (Memory op) mode = true

place_fit : Option Entry → Bool
place_fit (Some e) = fit e.op e.mode
place_fit None = true

all_fit : (page : Page) → values (λ (code : ℕ). place_fit (entry_of page code)) 0 256 ≡ values (λ (code : ℕ). true) 0 256
unfolding place_fit fit is_immediate entry_of
all_fit Plain = refl
all_fit Ten = refl
all_fit Eleven = refl

entry-fits : (page : Page) (code : ℕ) (e : Entry) → code < 256 → entry_of page code ≡ Some e → fit e.op e.mode ≡ true
unfolding place_fit
entry-fits page code e l p =
    subst (λ (q : Option Entry). place_fit q ≡ true) p (alike (λ (code : ℕ). place_fit (entry_of page code)) (λ (code : ℕ). true) 256 (all_fit page) code l)

-- an immediate operand is its own address
abbrev ByAddress : Result (Operand × ℕ) Refusal → Type 0
ByAddress (Ok (o, next)) = (mem : List ℕ) (r : Set) (n : ℕ) → (effective_of o mem r n).ea ≡ immediate_at o
ByAddress (Err x) = Unit {0}

tested : (t : Bool) (at next : ℕ) → ByAddress (cond t (Ok (ByValue at, next)) (Err PastEnd))
tested true at next = λ mem r n. refl
tested false at next = tt

is_address : (mode : Mode) (mem : List ℕ) (at : ℕ) → is_immediate mode ≡ true → ByAddress (operand_at mode mem at)
unfolding operand_at is_immediate
is_address Immediate8 mem at e = tested (leb (at + 1) 0x10000) at (at + 1)
is_address Inherent mem at e = no cc
is_address Immediate16 mem at e = no cc
is_address Direct mem at e = no cc
is_address Indexed mem at e = no cc
is_address Extended mem at e = no cc
is_address Relative8 mem at e = no cc
is_address Relative16 mem at e = no cc

-- so 7 is judged by the same byte
module _ (mem : List ℕ) (r : Set) (i : Instruction) (o : Origin mem i) where
  abbrev ea : ℕ
  ea = (effective_of i.operand mem r i.next).ea

  by_names : (op : RegisterOp) (t : Bool) → names_two op ≡ t → fit (Registers op) i.entry.mode ≡ true → code_refused (Registers op) mem ea ≡ code_refused (Registers op) mem (immediate_at i.operand)
  unfolding fit
  by_names op false e f = rw e
  by_names op true e f =
      let m : is_immediate i.entry.mode ≡ true = rw e at f in
      let a = subst ByAddress o.operand (is_address i.entry.mode mem o.after m) in
      ap (λ (n : ℕ). names_two op && not (transferable (byte_at mem n))) (a mem r i.next)

  by-op : (op : Op) → fit op i.entry.mode ≡ true → code_refused op mem ea ≡ code_refused op mem (immediate_at i.operand)
  by-op (Registers op) f = by_names op (names_two op) refl f
  by-op (Memory op) f = refl

  same_code : code_refused i.entry.op mem ea ≡ code_refused i.entry.op mem (immediate_at i.operand)
  same_code = by-op i.entry.op (entry-fits o.page o.code i.entry o.byte o.entry)

-- ---- the number of a disassembly, by what was decoded

module _ (mem : List ℕ) (at room : ℕ) where
  abbrev our : Result Instruction Refusal → ℕ
  our d = number_of_line (answered at room (judged_from mem d))

  abbrev last : ℕ → Bool → ℕ
  last n t = number_of_line (cond t (Err LineShort) (Ok n))

  short : (n : ℕ) (t : Bool) → (last n t ≡ number_of LineShort) ⊎ (last n t ≡ 0)
  short n true = inl refl
  short n false = inr refl

  -- an instruction: 4 by its next address, then 7, then 25 or 0
  abbrev rest : Instruction → Bool → Bool → ℕ
  rest i s t = number_of_line (answered at room (cond s (cond t (Err TransferCode) (Ok i)) (Err PastEnd)))

  of-taken : (i : Instruction) → our (Ok i) ≡ rest i (leb i.next 0xFFFF) (code_refused i.entry.op mem (immediate_at i.operand))
  unfolding taken_as_step
  of-taken i = refl

  among : (i : Instruction) (s t : Bool) → (rest i s t ≡ 4) ⊎ ((rest i s t ≡ 7) ⊎ ((rest i s t ≡ number_of LineShort) ⊎ (rest i s t ≡ 0)))
  among i true true = inr (inl refl)
  among i true false = inr (inr (short (i.next - at) (ltb room 48)))
  among i false t = inl refl

  -- 3, 5 and 24
  by-decoding : (x : Refusal) → (number_of x ≡ 4 → ⊥) → (number_of x ≡ 7 → ⊥) → (number_of x ≡ number_of LineShort → ⊥) → (number_of x ≡ 0 → ⊥) → (d : Result Instruction Refusal) → (our d ≡ number_of x) ↔ (d ≡ Err x)
  by-decoding x a b c e (Err y) = (λ q. ap Err (numbers_apart y x q), λ q. let z : y ≡ x = cc in ap number_of z)
  by-decoding x a b c e (Ok i) = (
    λ q.
        let n = sym (of-taken i) ∙ q in
        absurd (⊎_elim (λ p. a (sym n ∙ p)) (λ p. ⊎_elim (λ u. b (sym n ∙ u)) (λ u. ⊎_elim (λ v. c (sym n ∙ v)) (λ v. e (sym n ∙ v)) u) p) (among i (leb i.next 0xFFFF) (code_refused i.entry.op mem (immediate_at i.operand)))),
    λ q. no cc,
  )

  -- 4
  by_next : (i : Instruction) (s : Bool) → leb i.next 0xFFFF ≡ s → (t : Bool) → (rest i s t ≡ 4) ↔ (0xFFFF < i.next)
  by_next i true e true = let l = leb-true i.next 0xFFFF e in (λ q. absurd (omega arith), λ h. absurd (omega arith))
  by_next i true e false =
      let l = leb-true i.next 0xFFFF e in
      (λ q. absurd (⊎_elim (λ p. omega arith) (λ p. omega arith) (short (i.next - at) (ltb room 48))), λ h. absurd (omega arith))
  by_next i false e t = let l = leb-false i.next 0xFFFF e in (λ q. omega arith, λ h. refl)

  by-four : (d : Result Instruction Refusal) → (our d ≡ 4) ↔ ((d ≡ Err PastEnd) ⊎ NextPast d)
  by-four (Err y) = (λ q. inl (ap Err (numbers_apart y PastEnd q)), λ q. ⊎_elim (λ p. let z : y ≡ PastEnd = cc in ap number_of z) (λ p. absurd p) q)
  by-four (Ok i) =
      let t = code_refused i.entry.op mem (immediate_at i.operand) in
      let f = by_next i (leb i.next 0xFFFF) refl t in
      (λ q. inr (f.0 (sym (of-taken i) ∙ q)), λ q. ⊎_elim (λ p. no cc) (λ p. of-taken i ∙ f.1 p) q)

  -- 7
  by_code : (i : Instruction) (s t : Bool) → (rest i s t ≡ 7) ↔ ((s ≡ true) × (t ≡ true))
  by_code i true true = (λ q. (refl, refl), λ q. refl)
  by_code i true false = (λ q. absurd (⊎_elim (λ p. omega arith) (λ p. omega arith) (short (i.next - at) (ltb room 48))), λ q. no (let e = q.1 in cc))
  by_code i false t = (λ q. absurd (omega arith), λ q. no (let e = q.0 in cc))

module _ (mem : List ℕ) (r : Set) (room : ℕ) where
  abbrev test : Op → Set → ℕ → Bool
  test op q ea = code_refused op mem ea

  met : (i : Instruction) → Origin mem i → (s : Bool) → leb i.next 0xFFFF ≡ s → Met (of_decoded mem r (Ok i)) test ↔ ((s ≡ true) × (code_refused i.entry.op mem (immediate_at i.operand) ≡ true))
  unfolding resolved_of
  met i o true e = rw e (λ q. (refl, sym (same_code mem r i o) ∙ q), λ q. same_code mem r i o ∙ q.1)
  met i o false e = rw e (λ q. absurd q, λ q. no (let z = q.0 in cc))

  by-seven : (at : ℕ) (d : Result Instruction Refusal) → RefusedSo d → OriginOf mem d → (our mem at room d ≡ 7) ↔ Met (of_decoded mem r d) test
  by-seven at (Err y) f o = (λ q. absurd (⊎_elim (λ p. omega arith) (λ p. omega arith) (decoding-number y f)), λ q. absurd q)
  by-seven at (Ok i) f o =
      let g = by_code mem at room i (leb i.next 0xFFFF) (code_refused i.entry.op mem (immediate_at i.operand)) in
      let h = met i o (leb i.next 0xFFFF) refl in
      (λ q. h.1 (g.0 (sym (of-taken mem at room i) ∙ q)), λ q. of-taken mem at room i ∙ g.1 (h.0 q))

-- ---- the laws

joined : {A B C : Type 0} → A ↔ B → C ↔ B → A ↔ C
joined f g = (λ a. g.1 (f.0 a), λ c. f.1 (g.0 c))

both : {A B C : Type 0} → A ↔ B → B ↔ C → A ↔ C
both f g = (λ a. g.0 (f.0 a), λ c. f.1 (g.1 c))

in_sum : {A B C : Type 0} → A ↔ B → (A ⊎ C) ↔ (B ⊎ C)
in_sum f = (λ q. ⊎_elim (λ a. inl (f.0 a)) (λ c. inr c) q, λ q. ⊎_elim (λ b. inl (f.1 b)) (λ c. inr c) q)

-- one of the five numbers
one_of : (k : ℕ) → OfInstruction k → (P : ℕ → Type 0) → P 3 → P 4 → P 5 → P 24 → P 7 → P k
one_of k h P a b c d e = go (eqb k 3) refl (eqb k 4) refl (eqb k 5) refl (eqb k 24) refl (eqb k 7) refl h
  where
    is : (n : ℕ) → eqb k n ≡ true → P n → P k
    is n q p = subst P (sym (eqb-true k n q)) p

    go : (s : Bool) → eqb k 3 ≡ s → (t : Bool) → eqb k 4 ≡ t → (u : Bool) → eqb k 5 ≡ u → (v : Bool) → eqb k 24 ≡ v → (w : Bool) → eqb k 7 ≡ w → T (s || (t || (u || (v || w)))) → P k
    go true q t r u x v y w z i = is 3 q a
    go false q true r u x v y w z i = is 4 r b
    go false q false r true x v y w z i = is 5 x c
    go false q false r false x true y w z i = is 24 y d
    go false q false r false x false y true z i = is 7 z e
    go false q false r false x false y false z i = absurd i

-- given that the machine runs
given : {A B R : Type 0} → R → A ↔ (R × B) → A ↔ B
given r f = (λ a. (f.0 a).1, λ b. f.1 (r, b))

module _ (mem : List ℕ) (m : Machine) (s : Settings) (room : ℕ) (b : Bytes mem) (l : m.regs.pc < 65536) (runs : Runs mem m) where
  pc : ℕ
  pc = m.regs.pc

  d : Result Instruction Refusal
  d = decoded_at mem pc

  number : ℕ
  number = number_of_line (disassembled_of mem pc room)

  as-our : number ≡ our mem pc room d
  unfolding number d disassembled_of legible
  as-our = rw (eq-eqb (length mem) 65536 runs.sized)

  through : {A : Type 0} {k : ℕ} → (our mem pc room d ≡ k) ↔ A → (number ≡ k) ↔ A
  through f = (λ q. f.0 (sym as-our ∙ q), λ a. as-our ∙ f.1 a)

  step : StepRefused mem m s
  step = steps-refused mem m s b l

  as-reached : reached mem m ≡ of_decoded mem m.regs d
  unfolding reached decoded_to d pc
  as-reached = rw (eq-eqb (length mem) 65536 runs.sized) (ap (λ (w : Wait). unless_waiting w mem m.regs) runs.running)

  by-post-byte : (x : Refusal) → (number_of x ≡ 4 → ⊥) → (number_of x ≡ 7 → ⊥) → (number_of x ≡ number_of LineShort → ⊥) → (number_of x ≡ 0 → ⊥) → {A : Type 0} → (d ≡ Err x) ↔ A → (number ≡ number_of x) ↔ A
  by-post-byte x e f g h q = both (through (by-decoding mem pc room x e f g h d)) q

  three : Answers mem m s 3 ↔ (number ≡ 3)
  unfolding d pc
  three = joined (given runs step.three) (by-post-byte Opcode (λ q. omega arith) (λ q. omega arith) (λ q. omega arith) (λ q. omega arith) (opcode-refused mem m.regs.pc b))

  four : Answers mem m s 4 ↔ (number ≡ 4)
  unfolding d pc
  four = joined (given runs step.four) (both (through (by-four mem pc room d)) (in_sum (bytes-refused mem m.regs.pc l)))

  five : Answers mem m s 5 ↔ (number ≡ 5)
  unfolding d pc
  five = joined (given runs step.five) (by-post-byte PostByte (λ q. omega arith) (λ q. omega arith) (λ q. omega arith) (λ q. omega arith) (post-byte-refused PostByte tt mem m.regs.pc))

  twenty-four : Answers mem m s 24 ↔ (number ≡ 24)
  unfolding d pc
  twenty-four = joined (given runs step.twenty_four) (by-post-byte PostByte8F (λ q. omega arith) (λ q. omega arith) (λ q. omega arith) (λ q. omega arith) (post-byte-refused PostByte8F tt mem m.regs.pc))

  seven : Answers mem m s 7 ↔ (number ≡ 7)
  unfolding d pc
  seven = joined (rw as-reached at step.seven) (through (by-seven mem m.regs room pc d (decode-refuses mem m.regs.pc) (decode-origin mem m.regs.pc b)))

  -- the next address
  pc-after : (j i : Instruction) (r : Set) (ea : ℕ) → of_decoded mem m.regs (Ok j) ≡ At i r ea → r.pc ≡ j.next
  unfolding resolved_of
  pc-after j i r ea = go (leb j.next 0xFFFF)
    where
      found : Addressed
      found = effective_of j.operand mem m.regs j.next

      go : (t : Bool) → addressed j (cond t (Ok (record { regs = with_pc found.regs j.next; ea = found.ea })) (Err PastEnd)) ≡ At i r ea → r.pc ≡ j.next
      go true q = let z : with_pc found.regs j.next ≡ r = cc in sym (ap (λ (x : Set). x.pc) z)
      go false q = no cc

  length-of : (j : Instruction) (n : ℕ) (s t : Bool) → answered m.regs.pc room (cond s (cond t (Err TransferCode) (Ok j)) (Err PastEnd)) ≡ Ok n → n ≡ j.next - m.regs.pc
  length-of j n true false = inner (ltb room 48)
    where
      inner : (u : Bool) → cond u (Err LineShort) (Ok (j.next - m.regs.pc)) ≡ Ok n → n ≡ j.next - m.regs.pc
      inner true q = no cc
      inner false q = cc
  length-of j n true true = λ q. no cc
  length-of j n false t = λ q. no cc

  next_of : (e : Result Instruction Refusal) → decoded_at mem m.regs.pc ≡ e → (i : Instruction) (r : Set) (ea n : ℕ) → of_decoded mem m.regs e ≡ At i r ea → answered m.regs.pc room (judged_from mem e) ≡ Ok n → r.pc ≡ m.regs.pc + n
  unfolding taken_as_step
  next_of (Err x) e i r ea n p q = no cc
  next_of (Ok j) e i r ea n p q =
      let k = length-of j n (leb j.next 0xFFFF) (code_refused j.entry.op mem (immediate_at j.operand)) q in
      omega (arith, pc-after j i r ea p, k, (one-to-five mem m.regs.pc j b l e).0)

  pub same : SameAsStep mem m s room
  unfolding number d pc disassembled_of legible
  same = record {
    refused = λ k h. one_of k h (λ n. Answers mem m s n ↔ (number ≡ n)) three four five twenty-four seven;
    next = λ i r ea n p q. next_of (decoded_at mem m.regs.pc) refl i r ea n (sym as-reached ∙ p) (rw (eq-eqb (length mem) 65536 runs.sized) at q);
  }

pub disassembles-as-step : DisassemblesAsStep
disassembles-as-step mem m s room b l runs = same mem m s room b l runs
