-- By which number an operation is refused, and when: the tables of 7, 8, 28 and 9 are exact, and there is no other number.
-- Assumes nothing.
use Rattle.std.specs.Prelude.{Err, Ok, Result, ⊤}
use Prim.Native.Nat.{ℕ}
use mathlib.Core.Bool.{Bool, true, false, not, cond, ◌&&◌, ◌||◌, true≢false}
use mathlib.Core.List.{List}
use mathlib.Core.Path.{◌≡◌, refl, sym, ap, ◌∙◌}
use native.Mathlib.Omega.{arith}
use borrow.Author.Tests.{ne_eqb}
use lib.Dec.{T, eqb, leb, ltb}
use Rattle.answers.specs.Numbers.{number_of, number_of_answer}
use Rattle.answers.specs.declared.Refusal.TheVariants.{Fenced}
use Rattle.answers.proofs.Numbers.{refused-by-a-number}
use Rattle.registers.specs.Names.{stack_word}
use Rattle.registers.specs.RegisterSet.{word_of}
use Rattle.registers.specs.declared.Set.{Set}
use Rattle.memory.specs.Map.{byte_at}
use Rattle.memory.specs.Writes.{listed}
use Rattle.memory.specs.declared.writes.Write.{Write}
use Rattle.machine.specs.Fence.{barred, bars}
use Rattle.machine.specs.declared.Settings.{Settings}
use Rattle.opcodes.specs.declared.MemoryOp.{MemoryOp}
use Rattle.opcodes.specs.declared.MemoryOp.TheVariants.{OnMemory, Store8, Store16, Bsr, Jsr, Rts, Rti, Swi, Cwai, Sync, Push, Pull}
use Rattle.opcodes.specs.declared.Op.{Op}
use Rattle.opcodes.specs.declared.Op.TheVariants.{Registers, Memory}
use Rattle.opcodes.specs.declared.Software.{Software}
use Rattle.opcodes.specs.declared.Software.TheVariants.{Swi as SWI, Swi2 as SWI2, Swi3 as SWI3}
use Rattle.operations.specs.EightBit.{on_memory}
use Rattle.operations.specs.Change.{changed_of}
use Rattle.operations.specs.Refusals.{number_of_changed, names_two, code_refused}
use Rattle.operations.specs.Transfers.{transferable}
use Rattle.operations.specs.Words.{store16}
use Rattle.operations.proofs.Refusals.{change-refuses-exactly}
use Rattle.stack.specs.Frames.{framed}
use Rattle.stack.specs.Pushing.{bytes_pushed}
use Rattle.stack.proofs.Laws.{stack-refuses-exactly}
use Rattle.vectors.specs.Table.{software_vector}
use Rattle.vectors.proofs.Laws.{vectors-refuse-exactly}
use Rattle.evaluate.specs.Evaluate.{effect_of, evaluate_of}
use Rattle.evaluate.specs.Room.{is_small}
use Rattle.evaluate.specs.Writes.{frame_writes, made_by}
use Rattle.evaluate.proofs.Writes.{of-frame}
use Rattle.refusals.specs.Operations.{is_fenced, leads_to_zero}
use Rattle.answers.specs.declared.Refusal.{Refusal}

-- n is 7, 8, 9 or 28 exactly where its table says so, and otherwise 0
pub record Numbered (n : ℕ) (seven eight nine fence : Bool) : Type 0 where
  pub is7 : eqb n 7 ≡ seven
  pub is8 : eqb n 8 ≡ eight
  pub is9 : eqb n 9 ≡ nine
  pub is28 : eqb n 28 ≡ fence
  pub other : T (eqb n 0 || leb 7 n)
  pub most : T (leb n 9 || eqb n 28)

is-0 : Numbered 0 false false false false
is-0 = record { is7 = refl; is8 = refl; is9 = refl; is28 = refl; other = tt; most = tt }

is-7 : Numbered 7 true false false false
is-7 = record { is7 = refl; is8 = refl; is9 = refl; is28 = refl; other = tt; most = tt }

is-8 : Numbered 8 false true false false
is-8 = record { is7 = refl; is8 = refl; is9 = refl; is28 = refl; other = tt; most = tt }

is-9 : Numbered 9 false false true false
is-9 = record { is7 = refl; is8 = refl; is9 = refl; is28 = refl; other = tt; most = tt }

is-28 : Numbered 28 false false false true
is-28 = record { is7 = refl; is8 = refl; is9 = refl; is28 = refl; other = tt; most = tt }

-- ---- from the number of a subject, and whether the fence bars the writes of an operation that none refuses

abbrev then28 : ℕ → Bool → ℕ
then28 k fence = cond (eqb k 0) (cond fence 28 0) k

by-7 : (n : ℕ) (b : Bool) → n ≡ then28 (cond b 7 0) false → Numbered n b false false false
by-7 n true e = rw e is-7
by-7 n false e = rw e is-0

by_8 : (n : ℕ) (b f : Bool) → n ≡ then28 (cond b 8 0) f → Numbered n false b false (not b && f)
by_8 n true f e = rw e is-8
by_8 n false true e = rw e is-28
by_8 n false false e = rw e is-0

by-9 : (n : ℕ) (b g f z : Bool) → (b ≡ false → g ≡ f) → n ≡ then28 (cond b 8 (cond g 28 (cond z 9 0))) f → Numbered n false b (not b && (not f && z)) (not b && f)
by-9 n true g f z h e = rw e is-8
by-9 n false true true z h e = rw e is-28
by-9 n false false false true h e = rw e is-9
by-9 n false false false false h e = rw e is-0
by-9 n false true false z h e = absurd (true≢false (h refl))
by-9 n false false true z h e = absurd (true≢false (sym (h refl)))

-- an answer once the fence has judged the writes: 28 where they are barred, and an earlier refusal stays
abbrev pub fenced_answer : Settings → List Write → Result ⊤ Refusal → Result ⊤ Refusal
fenced_answer s ws (Ok u) = cond (bars s ws) (Err Fenced) (Ok tt)
fenced_answer s ws (Err x) = Err x

-- its number
pub judged-number : (s : Settings) (ws : List Write) (a : Result ⊤ Refusal) → number_of_answer (fenced_answer s ws a) ≡ then28 (number_of_answer a) (bars s ws)
judged-number s ws (Ok u) = go (bars s ws)
  where
    go : (b : Bool) → number_of_answer (cond {A = Result ⊤ Refusal} b (Err Fenced) (Ok tt)) ≡ cond b 28 0
    go true = refl
    go false = refl
judged-number s ws (Err x) = let e : eqb (number_of x) 0 ≡ false = ne_eqb (number_of x) 0 (λ q. omega (arith, refused-by-a-number x)) in rw e

-- a number of 0 is done
number-done : (a : Result ⊤ Refusal) → number_of_answer a ≡ 0 → a ≡ (Ok tt)
number-done (Ok u) e = refl
number-done (Err x) e = absurd (omega (arith, refused-by-a-number x))

-- a frame that has room lists its writes
pub frame-listed : (r : Set) (entire : Bool) → ltb r.s (cond entire 12 3) ≡ false → listed (framed r entire).writes ≡ frame_writes r entire
frame-listed r entire e = of-frame r entire (number-done (framed r entire).answer (stack-refuses-exactly.frame r entire ∙ rw e))

-- a change of registers has the number of its refusal
changed-number : (r : Set) (c : Result Set Refusal) → number_of_answer (effect_of r c).answer ≡ number_of_changed c
changed-number r (Ok q) = refl
changed-number r (Err x) = refl

module _ (s : Settings) (mem : List ℕ) (r : Set) (ea : ℕ) where
  -- the number of an operation, with the fence
  abbrev pub number_with : Op → ℕ
  number_with op = number_of_answer (fenced_answer s (made_by op s mem r ea) (evaluate_of op s mem r ea).answer)

  Right : Op → Type 0
  Right op = Numbered (number_with op) (code_refused op mem ea) (is_small op r (byte_at mem ea)) (leads_to_zero op s mem r) (is_fenced op s mem r ea)

  by-subject : (op : Op) {k : ℕ} → number_of_answer (evaluate_of op s mem r ea).answer ≡ k → number_with op ≡ then28 k (bars s (made_by op s mem r ea))
  by-subject op e = judged-number s (made_by op s mem r ea) (evaluate_of op s mem r ea).answer ∙ rw e

  of-swi : (which : Software) → Right (Memory (Swi which))
  unfolding Right
  of-swi SWI = by-9 _ (ltb r.s 12) _ _ _ (λ e. ap (bars s) (frame-listed r true e)) (by-subject (Memory (Swi SWI)) (vectors-refuse-exactly.running mem s r (software_vector SWI)))
  of-swi SWI2 = by-9 _ (ltb r.s 12) _ _ _ (λ e. ap (bars s) (frame-listed r true e)) (by-subject (Memory (Swi SWI2)) (vectors-refuse-exactly.running mem s r (software_vector SWI2)))
  of-swi SWI3 = by-9 _ (ltb r.s 12) _ _ _ (λ e. ap (bars s) (frame-listed r true e)) (by-subject (Memory (Swi SWI3)) (vectors-refuse-exactly.running mem s r (software_vector SWI3)))

  of-memory : (op : MemoryOp) → Right (Memory op)
  unfolding Right on_memory store16 barred
  of-memory (OnMemory op) = by_8 _ false _ (by-subject (Memory (OnMemory op)) refl)
  of-memory (Store8 acc) = by_8 _ false _ (by-subject (Memory (Store8 acc)) refl)
  of-memory (Store16 word) = by_8 _ false _ (by-subject (Memory (Store16 word)) refl)
  of-memory Bsr = by_8 _ (ltb r.s 2) _ (by-subject (Memory Bsr) (stack-refuses-exactly.jsr r ea))
  of-memory Jsr = by_8 _ (ltb r.s 2) _ (by-subject (Memory Jsr) (stack-refuses-exactly.jsr r ea))
  of-memory Rts = is-0
  of-memory Rti = is-0
  of-memory (Swi which) = of-swi which
  of-memory Cwai = by_8 _ (ltb r.s 12) _ (by-subject (Memory Cwai) (vectors-refuse-exactly.cwai r (byte_at mem ea)))
  of-memory Sync = is-0
  of-memory (Push own) = by_8 _ (ltb (word_of r (stack_word own)) (bytes_pushed (byte_at mem ea))) _ (by-subject (Memory (Push own)) (stack-refuses-exactly.push r own (byte_at mem ea) false))
  of-memory (Pull own) = is-0

  pub operation-number : (op : Op)
      → Numbered (number_with op) (code_refused op mem ea) (is_small op r (byte_at mem ea)) (leads_to_zero op s mem r) (is_fenced op s mem r ea)
  unfolding Right barred
  operation-number (Registers op) =
      by-7 _ (names_two op && not (transferable (byte_at mem ea)))
      (by-subject (Registers op) (changed-number r (changed_of op s.flags mem r ea) ∙ change-refuses-exactly op s.flags mem r ea))
  operation-number (Memory op) = of-memory op
