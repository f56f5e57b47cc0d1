-- 8, 28 and 9 are given exactly where they should be, and no vector wraps.
-- Assumes nothing.
use Rattle.std.specs.Prelude.{Err, Ok, Result, ⊤}
use Prim.Native.Nat.{ℕ}
use mathlib.Core.Bool.{Bool, true, false, cond}
use mathlib.Core.List.{List, []}
use mathlib.Core.Path.{◌≡◌, refl, ◌∙◌}
use native.Mathlib.Omega.{arith}
use lib.Dec.{eqb, ltb}
use Rattle.answers.specs.Numbers.{number_of_answer}
use Rattle.answers.proofs.Numbers.{refused-by-a-number}
use Rattle.answers.specs.declared.Refusal.TheVariants.{Fenced, ZeroAtVector}
use Rattle.registers.specs.declared.Set.{Set}
use Rattle.memory.specs.Map.{byte_at, word_at}
use Rattle.memory.specs.Writes.{listed, stored, writes_of}
use Rattle.memory.specs.declared.writes.Writes.{Writes}
use Rattle.machine.specs.Effect.{stores, refuses}
use Rattle.machine.specs.Fence.{barred, bars}
use Rattle.machine.specs.declared.Effect.{Effect}
use Rattle.machine.specs.declared.Settings.{Settings}
use Rattle.operations.specs.Branches.{jumped}
use Rattle.operations.specs.Codes.{and_codes, or_codes}
use Rattle.stack.specs.Frames.{framed}
use Rattle.stack.specs.Pushing.{once_pushed}
use Rattle.stack.proofs.Laws.{once-number, stack-refuses-exactly}
use Rattle.vectors.specs.Laws.{NoVectorWraps, zero_number, VectorsRefuseExactly}
use Rattle.vectors.specs.Service.{vectored, served}
use Rattle.vectors.specs.Table.{address_of, masks_of, is_entire}
use Rattle.vectors.specs.Waits.{waiting}
use Rattle.vectors.specs.declared.table.Vector.{Vector}
use Rattle.vectors.specs.declared.table.Vector.TheVariants.{Swi3, Swi2, Firq, Irq, Swi, Nmi, Reset}
use Rattle.answers.specs.declared.Refusal.{Refusal}

pub no-vector-wraps : NoVectorWraps
unfolding word_at
no-vector-wraps mem Swi3 = refl
no-vector-wraps mem Swi2 = refl
no-vector-wraps mem Firq = refl
no-vector-wraps mem Irq = refl
no-vector-wraps mem Swi = refl
no-vector-wraps mem Nmi = refl
no-vector-wraps mem Reset = refl

-- what is left once the frame is stacked
zero : (r q : Set) (ws : Writes) (f b : Bool) → number_of_answer (cond f (refuses r Fenced) (cond b (refuses r ZeroAtVector) (stores q ws))).answer ≡ cond f 28 (cond b 9 0)
zero r q ws true b = refl
zero r q ws false true = refl
zero r q ws false false = refl

-- the frame's number, or what follows
once : (r : Set) (a : Result ⊤ Refusal) (e : Effect) (b : Bool) (n : ℕ) → number_of_answer a ≡ cond b 8 0 → number_of_answer e.answer ≡ n → number_of_answer (once_pushed r a e).answer ≡ cond b 8 n
once r (Ok u) e true n h k = absurd (omega arith)
once r (Ok u) e false n h k = k
once r (Err x) e true n h k = h
once r (Err x) e false n h k = absurd (omega (arith, refused-by-a-number x))

running : (mem : List ℕ) (s : Settings) (r : Set) (v : Vector)
    → number_of_answer (served mem s r v).answer ≡ cond (ltb r.s (cond (is_entire v) 12 3)) 8 (cond (bars s (listed (framed r (is_entire v)).writes)) 28 (zero_number (stored s.ram_top (listed (framed r (is_entire v)).writes) mem) v))
unfolding vectored
running mem s r v =
    let frame = framed r (is_entire v) in
    let after = stored s.ram_top (listed frame.writes) mem in
    let pc = word_at after (address_of v) in
    once r frame.answer _ (ltb r.s (cond (is_entire v) 12 3)) _ (stack-refuses-exactly.frame r (is_entire v))
    (zero r (jumped (or_codes frame.regs (masks_of v)) pc) frame.writes (bars s (listed frame.writes)) (eqb (byte_at after pc) 0))

pub vectors-refuse-exactly : VectorsRefuseExactly
unfolding vectored waiting stored barred
vectors-refuse-exactly = record {
  running = running;
  in_cwai = λ mem s r v. let pc = word_at mem (address_of v) in zero r (jumped (or_codes r (masks_of v)) pc) (writes_of []) false (eqb (byte_at mem pc) 0);
  cwai = λ r m. once-number r (framed (and_codes r m) true).answer _ refl ∙ stack-refuses-exactly.frame (and_codes r m) true;
  sync = λ r. refl;
}
