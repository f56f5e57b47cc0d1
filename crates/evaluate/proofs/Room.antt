-- 8 is given exactly where a stack pointer is too small: the numbers of each subject's refusals say so.
-- Assumes nothing.
use Rattle.std.specs.Prelude.{Err, Ok, Result}
use Prim.Native.Nat.{ℕ}
use mathlib.Core.Bool.{Bool, true, false, not, cond, ◌&&◌}
use mathlib.Core.List.{List}
use mathlib.Core.Path.{◌≡◌, refl, ap, ◌∙◌}
use lib.Dec.{eqb, ltb}
use Rattle.answers.specs.Numbers.{number_of_answer}
use Rattle.registers.specs.Names.{stack_word}
use Rattle.registers.specs.RegisterSet.{word_of}
use Rattle.registers.specs.declared.Set.{Set}
use Rattle.memory.specs.Map.{byte_at, word_at}
use Rattle.memory.specs.Writes.{listed, stored}
use Rattle.machine.specs.Fence.{bars}
use Rattle.machine.specs.declared.Settings.{Settings}
use Rattle.opcodes.specs.declared.MemoryOp.TheVariants.{OnMemory, Store8, Store16, Bsr, Jsr, Rts, Rti, Swi, Cwai, Sync, Push, Pull}
use Rattle.opcodes.specs.declared.Op.TheVariants.{Registers, Memory}
use Rattle.opcodes.specs.declared.Software.TheVariants.{Swi as SWI, Swi2 as SWI2, Swi3 as SWI3}
use Rattle.operations.specs.EightBit.{on_memory}
use Rattle.operations.specs.Change.{changed_of}
use Rattle.operations.specs.Refusals.{number_of_changed, names_two}
use Rattle.operations.specs.Transfers.{transferable}
use Rattle.operations.specs.Words.{store16}
use Rattle.operations.proofs.Refusals.{change-refuses-exactly}
use Rattle.stack.specs.Frames.{framed}
use Rattle.stack.specs.Pushing.{bytes_pushed, jumped_to_subroutine}
use Rattle.stack.proofs.Laws.{stack-refuses-exactly}
use Rattle.vectors.specs.Laws.{zero_number}
use Rattle.vectors.specs.Service.{served}
use Rattle.vectors.specs.Table.{address_of, is_entire, software_vector}
use Rattle.vectors.specs.declared.table.Vector.{Vector}
use Rattle.vectors.proofs.Laws.{vectors-refuse-exactly}
use Rattle.evaluate.specs.Evaluate.{effect_of}
use Rattle.evaluate.specs.Room.{SmallExactly}
use Rattle.answers.specs.declared.Refusal.{Refusal}

-- the number of a refusal is 8, or another
abbrev is_eight : ℕ → Bool
is_eight n = eqb n 8

eight : (b : Bool) (n : ℕ) → is_eight n ≡ false → is_eight (cond b 8 n) ≡ b
eight true n h = refl
eight false n h = h

other : (b : Bool) (m n : ℕ) → is_eight m ≡ false → is_eight n ≡ false → is_eight (cond b m n) ≡ false
other true m n h k = h
other false m n h k = k

of-jsr : (r : Set) (ea : ℕ) → is_eight (number_of_answer (jumped_to_subroutine r ea).answer) ≡ ltb r.s 2
of-jsr r ea = ap is_eight (stack-refuses-exactly.jsr r ea) ∙ eight (ltb r.s 2) 0 refl

of-service : (mem : List ℕ) (s : Settings) (r : Set) (v : Vector) → is_eight (number_of_answer (served mem s r v).answer) ≡ ltb r.s (cond (is_entire v) 12 3)
of-service mem s r v =
    let frame = listed (framed r (is_entire v)).writes in
    let after = stored s.ram_top frame mem in
    ap is_eight (vectors-refuse-exactly.running mem s r v)
    ∙ eight (ltb r.s (cond (is_entire v) 12 3)) (cond (bars s frame) 28 (zero_number after v))
    (other (bars s frame) 28 (zero_number after v) refl (other (eqb (byte_at after (word_at after (address_of v))) 0) 9 0 refl refl))

-- a change of registers has the number of its refusal
numbered : (r : Set) (c : Result Set Refusal) → number_of_answer (effect_of r c).answer ≡ number_of_changed c
numbered r (Ok q) = refl
numbered r (Err x) = refl

pub small-exactly : SmallExactly
unfolding on_memory store16
small-exactly (Registers op) s mem r ea =
    ap is_eight (numbered r (changed_of op s.flags mem r ea) ∙ change-refuses-exactly op s.flags mem r ea)
    ∙ other (names_two op && not (transferable (byte_at mem ea))) 7 0 refl refl
small-exactly (Memory (OnMemory op)) s mem r ea = refl
small-exactly (Memory (Store8 acc)) s mem r ea = refl
small-exactly (Memory (Store16 word)) s mem r ea = refl
small-exactly (Memory Bsr) s mem r ea = of-jsr r ea
small-exactly (Memory Jsr) s mem r ea = of-jsr r ea
small-exactly (Memory Rts) s mem r ea = refl
small-exactly (Memory Rti) s mem r ea = refl
small-exactly (Memory (Swi SWI)) s mem r ea = of-service mem s r (software_vector SWI)
small-exactly (Memory (Swi SWI2)) s mem r ea = of-service mem s r (software_vector SWI2)
small-exactly (Memory (Swi SWI3)) s mem r ea = of-service mem s r (software_vector SWI3)
small-exactly (Memory Cwai) s mem r ea = ap is_eight (vectors-refuse-exactly.cwai r (byte_at mem ea)) ∙ eight (ltb r.s 12) 0 refl
small-exactly (Memory Sync) s mem r ea = refl
small-exactly (Memory (Push own)) s mem r ea = ap is_eight (stack-refuses-exactly.push r own (byte_at mem ea) false) ∙ eight (ltb (word_of r (stack_word own)) (bytes_pushed (byte_at mem ea))) 0 refl
small-exactly (Memory (Pull own)) s mem r ea = refl
