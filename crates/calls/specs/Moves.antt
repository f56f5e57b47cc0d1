-- How wait state, mark and counters move (document 01, section "The machine"; document 02, [3] and [5]): by an accepted step; an interrupt
-- moves neither mark nor counters, and a reset clears the mark.
-- Assumes nothing.
use Rattle.std.specs.Prelude.{◌≡◌, ℕ, ◌+◌, ◌%◌, ◌^◌, Bool, false, ◌||◌, ◌↔◌, List, Ok}
use Rattle.machine.specs.declared.Machine.{Machine}
use Rattle.machine.specs.declared.Settings.{Settings}
use Rattle.machine.specs.declared.Wait.TheVariants.{Cwai as InCwai, Sync as InSync}
use Rattle.opcodes.specs.declared.Entry.{Entry}
use Rattle.opcodes.specs.declared.MemoryOp.TheVariants.{Cwai, Sync}
use Rattle.opcodes.specs.declared.Op.TheVariants.{Memory}
use Rattle.memory.specs.Fits.{Bytes}
use Rattle.memory.specs.Map.{byte_at}
use Rattle.evaluate.specs.Arming.{arms}
use Rattle.cycles.specs.Bills.{Bounded}
use Rattle.cycles.specs.Cycles.{extra_of}
use Rattle.calls.specs.Steps.{Reached, At, NotReached, reached, step_plan}
use Rattle.calls.specs.Interrupts.{interrupt_plan}
use Rattle.calls.specs.Resets.{reset_plan}
use Rattle.calls.specs.declared.InterruptType.{InterruptType}

-- machine n comes after machine m by an instruction with the table's entry e that costs so many cycles: the counters wrap, CWAI and SYNC
-- alone begin a wait, and the mark is the old one or that the operation arms
pub record Moved (e : Entry) (cost : ℕ) (a : Bool) (m n : Machine) : Type 0 where
  pub cycles : n.cycles ≡ (m.cycles + cost) % 2 ^ 64
  pub instructions : n.instructions ≡ (m.instructions + 1) % 2 ^ 64
  pub cwai : (n.wait ≡ InCwai) ↔ (e.op ≡ Memory Cwai)
  pub sync : (n.wait ≡ InSync) ↔ (e.op ≡ Memory Sync)
  pub armed : n.armed ≡ (m.armed || a)

-- the base figure and the extra of what was reached, and whether it arms
abbrev pub MovedBy : List ℕ → Reached → Machine → Machine → Type 0
MovedBy mem (At i r ea) m n = Moved i.entry (i.entry.cycles + extra_of i mem r ea) (arms i.entry.op (byte_at mem ea)) m n
MovedBy mem (NotReached x) m n = ⊥

-- an accepted step moves them by the instruction that it reached
abbrev pub StepMoves : Type 0
StepMoves = (mem : List ℕ) (m : Machine) (s : Settings) → (step_plan mem m s).answer ≡ (Ok tt) → MovedBy mem (reached mem m) m (step_plan mem m s).machine

-- how much: an extra is at most 12, and a step costs at most 20
abbrev pub BoundedBy : List ℕ → Reached → Type 0
BoundedBy mem (At i r ea) = Bounded mem i r ea
BoundedBy mem (NotReached x) = Unit {0}

abbrev pub StepBounded : Type 0
StepBounded = (mem : List ℕ) (m : Machine) → Bytes mem → BoundedBy mem (reached mem m)

-- neither counter moves, and the mark is then a
pub record Still (a : Bool) (m n : Machine) : Type 0 where
  pub cycles : n.cycles ≡ m.cycles
  pub instructions : n.instructions ≡ m.instructions
  pub armed : n.armed ≡ a

-- an interrupt keeps the mark, served, held off or refused
abbrev pub InterruptStill : Type 0
InterruptStill = (mem : List ℕ) (m : Machine) (s : Settings) (i : InterruptType) → Still m.armed m (interrupt_plan mem m s i).machine

-- an accepted reset clears it
abbrev pub ResetStill : Type 0
ResetStill = (mem : List ℕ) (m : Machine) → (reset_plan mem m).answer ≡ (Ok tt) → Still false m (reset_plan mem m).machine
