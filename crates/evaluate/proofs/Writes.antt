-- No write is lost: a list in the twelve places is read back whole, and no operation lays down more than fits.
-- Assumes nothing.
use Rattle.std.specs.Prelude.{Err, Ok, Result, ⊤}
use Prim.Native.Nat.{ℕ}
use mathlib.Core.Bool.{Bool, true, false, cond}
use mathlib.Core.List.{List, []}
use mathlib.Core.Path.{◌≡◌, refl, ap, ◌∙◌}
use native.Mathlib.Omega.{arith}
use lib.Dec.{eqb, ltb}
use lib.ListN.{length}
use Rattle.answers.specs.declared.Refusal.{Refusal}
use Rattle.answers.specs.declared.Refusal.TheVariants.{StackTooSmall, Fenced, ZeroAtVector}
use Rattle.registers.specs.ConditionCodes.{put}
use Rattle.registers.specs.Names.{stack_word}
use Rattle.registers.specs.RegisterSet.{word_of}
use Rattle.registers.specs.declared.CCBit.TheVariants.{E}
use Rattle.registers.specs.declared.Set.{Set}
use Rattle.registers.specs.declared.Stack.{Stack}
use Rattle.registers.specs.declared.Stack.TheVariants.{S}
use Rattle.registers.specs.declared.Word.{Word}
use Rattle.memory.specs.Map.{byte_at, word_at}
use Rattle.memory.specs.Writes.{listed, stored, word_writes}
use Rattle.memory.specs.declared.writes.Write.{Write}
use Rattle.memory.proofs.Folds.{one-write, two-writes, listed_back}
use Rattle.machine.specs.Effect.{stores, refuses}
use Rattle.machine.specs.Fence.{bars}
use Rattle.machine.specs.declared.Effect.{Effect}
use Rattle.machine.specs.declared.Settings.{Settings}
use Rattle.machine.specs.declared.Wait.TheVariants.{Cwai as InCwai}
use Rattle.opcodes.specs.declared.MemoryOp.{MemoryOp}
use Rattle.opcodes.specs.declared.MemoryOp.TheVariants.{OnMemory, Store8, Store16, Bsr, Jsr, Rts, Rti, Swi, Cwai, Sync, Push, Pull}
use Rattle.opcodes.specs.declared.Op.{Op}
use Rattle.opcodes.specs.declared.Op.TheVariants.{Registers, Memory}
use Rattle.opcodes.specs.declared.Software.TheVariants.{Swi as SWI, Swi2 as SWI2, Swi3 as SWI3}
use Rattle.operations.specs.Branches.{jumped}
use Rattle.operations.specs.Change.{changed_of}
use Rattle.operations.specs.Codes.{with_codes, and_codes, or_codes}
use Rattle.operations.specs.EightBit.{on_memory}
use Rattle.operations.specs.Words.{store16}
use Rattle.stack.specs.Frames.{stacked_by, framed}
use Rattle.stack.specs.Pushing.{registers_named, bytes_pushed, pushes, pushed, once_pushed, jumped_to_subroutine}
use Rattle.stack.proofs.Laws.{none_dropped}
use Rattle.vectors.specs.Service.{vectored, served}
use Rattle.vectors.specs.Table.{address_of, masks_of, is_entire, software_vector}
use Rattle.vectors.specs.Waits.{waiting}
use Rattle.vectors.specs.declared.table.Vector.{Vector}
use Rattle.evaluate.specs.Evaluate.{effect_of, evaluate_of}
use Rattle.evaluate.specs.Writes.{frame_writes, memory_makes, made_by, bytes_made, NoWriteLost, NoFrameLost}
use Rattle.evaluate.proofs.Sound.{evaluated-sound}

-- an effect that is carried out lists l
abbrev Lists : Effect → List Write → Type 0
Lists e l = e.answer ≡ (Ok tt) → listed e.writes ≡ l

-- a refusal is not done
pub not_done : {A : Type 0} {x : Refusal} → ◌≡◌ {A = Result ⊤ Refusal} (Err x) (Ok tt) → A
not_done e = let z : ◌≡◌ {A = ℕ} 0 1 = cc in absurd (omega arith)

-- ---- parts

either : (b : Bool) (e f : Effect) (l : List Write) → Lists e l → Lists f l → Lists (cond b e f) l
either true e f l h k = h
either false e f l h k = k

once : (r : Set) (a : Result ⊤ Refusal) (e : Effect) (l : List Write) → (a ≡ (Ok tt) → Lists e l) → Lists (once_pushed r a e) l
once r (Ok u) e l h = h refl
once r (Err x) e l h = λ d. not_done d

-- a change of registers, refused or not, lists nothing
of-change : (r : Set) (c : Result Set Refusal) → listed (effect_of r c).writes ≡ []
of-change r (Ok q) = listed_back []
of-change r (Err x) = listed_back []

of-push : (r : Set) (own : Stack) (mask : ℕ) (system : Bool) → Lists (pushed r own mask system) (pushes r system (word_of r (stack_word own)) (registers_named own mask))
unfolding pushed
of-push r own mask system =
    let l = pushes r system (word_of r (stack_word own)) (registers_named own mask) in
    either (ltb (word_of r (stack_word own)) (bytes_pushed mask)) (refuses r StackTooSmall) _ l (λ d. not_done d) (λ d. listed_back l)

of-jsr : (r : Set) (ea : ℕ) → Lists (jumped_to_subroutine r ea) (pushes r false r.s (registers_named S 0x80))
unfolding jumped_to_subroutine
of-jsr r ea =
    let p = pushed r S 0x80 false in
    once r p.answer (stores (jumped p.regs ea) p.writes) (pushes r false r.s (registers_named S 0x80)) (λ a d. of-push r S 0x80 false a)

pub of-frame : (r : Set) (entire : Bool) → Lists (framed r entire) (frame_writes r entire)
unfolding framed
of-frame r entire =
    let q = with_codes r (put E entire r.cc) in
    let p = pushed q S (stacked_by entire) true in
    once r p.answer p (frame_writes r entire) (λ a d. of-push q S (stacked_by entire) true a)

of-served : (mem : List ℕ) (s : Settings) (r : Set) (v : Vector) → Lists (served mem s r v) (frame_writes r (is_entire v))
unfolding vectored
of-served mem s r v =
    let frame = framed r (is_entire v) in
    let after = stored s.ram_top (listed frame.writes) mem in
    let pc = word_at after (address_of v) in
    once r frame.answer _ (frame_writes r (is_entire v))
    (λ a. either (bars s (listed frame.writes)) (refuses r Fenced) _ (frame_writes r (is_entire v)) (λ d. not_done d)
    (either (eqb (byte_at after pc) 0) (refuses r ZeroAtVector) (stores (jumped (or_codes frame.regs (masks_of v)) pc) frame.writes) (frame_writes r (is_entire v))
    (λ d. not_done d) (λ d. of-frame r (is_entire v) a)))

of-wait : (r : Set) (m : ℕ) → Lists (waiting r m) (frame_writes (and_codes r m) true)
unfolding waiting
of-wait r m =
    let frame = framed (and_codes r m) true in
    once r frame.answer (record { writes = frame.writes; regs = frame.regs; wait = InCwai; answer = (Ok tt) }) (frame_writes (and_codes r m) true)
    (λ a d. of-frame (and_codes r m) true a)

of-store : (r : Set) (w : Word) (ea : ℕ) → Lists (store16 r w ea) (word_writes ea (word_of r w) false)
unfolding store16
of-store r w ea =
    λ d. rw (two-writes _ _) (listed_back (word_writes ea (word_of r w) false))

-- ---- every operation

module _ (s : Settings) (mem : List ℕ) (r : Set) (ea : ℕ) where
  of-memory : (op : MemoryOp) → Lists (evaluate_of (Memory op) s mem r ea) (memory_makes op s mem r ea)
  unfolding on_memory
  of-memory (OnMemory op) d = ap listed (one-write _) ∙ listed_back _
  of-memory (Store8 acc) d = ap listed (one-write _) ∙ listed_back _
  of-memory (Store16 word) d = of-store r word ea d
  of-memory Bsr d = of-jsr r ea d
  of-memory Jsr d = of-jsr r ea d
  of-memory Rts d = listed_back []
  of-memory Rti d = listed_back []
  of-memory (Swi SWI) d = of-served mem s r (software_vector SWI) d
  of-memory (Swi SWI2) d = of-served mem s r (software_vector SWI2) d
  of-memory (Swi SWI3) d = of-served mem s r (software_vector SWI3) d
  of-memory Cwai d = of-wait r (byte_at mem ea) d
  of-memory Sync d = listed_back []
  of-memory (Push own) d = of-push r own (byte_at mem ea) false d
  of-memory (Pull own) d = listed_back []

  all_listed : (op : Op) → Lists (evaluate_of op s mem r ea) (made_by op s mem r ea)
  all_listed (Registers op) d = of-change r (changed_of op s.flags mem r ea)
  all_listed (Memory op) d = of-memory op d

  memory-many : (op : MemoryOp) → length (memory_makes op s mem r ea) ≡ bytes_made (Memory op) (byte_at mem ea)
  memory-many (OnMemory op) = refl
  memory-many (Store8 acc) = refl
  memory-many (Store16 word) = refl
  memory-many Bsr = none_dropped.bytes r S 0x80 r.s false
  memory-many Jsr = none_dropped.bytes r S 0x80 r.s false
  memory-many Rts = refl
  memory-many Rti = refl
  memory-many (Swi which) = none_dropped.bytes _ S 0xFF r.s true
  memory-many Cwai = none_dropped.bytes _ S 0xFF r.s true
  memory-many Sync = refl
  memory-many (Push own) = none_dropped.bytes r own (byte_at mem ea) (word_of r (stack_word own)) false
  memory-many (Pull own) = refl

  many-made : (op : Op) → length (made_by op s mem r ea) ≡ bytes_made op (byte_at mem ea)
  many-made (Registers op) = refl
  many-made (Memory op) = memory-many op

pub no-write-lost : NoWriteLost
no-write-lost op s mem r ea = record {
  all = all_listed s mem r ea op;
  many = many-made s mem r ea op;
  none = λ x e. ap (λ (f : Effect). listed f.writes) ((evaluated-sound op s mem r ea).refused x e) ∙ listed_back [];
}

pub no-frame-lost : NoFrameLost
no-frame-lost mem s r v = of-served mem s r v
