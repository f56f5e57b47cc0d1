-- Room on the stack (document 01, number 8): a call is refused by 8 exactly where it pushes and the stack pointer is smaller than the bytes.
-- Assumes nothing.
use Rattle.std.specs.Prelude.{◌≡◌, ℕ, Bool, false, cond, List, length, ◌==◌, nat_lt}
use Rattle.answers.specs.Numbers.{number_of_answer}
use Rattle.memory.specs.Map.{byte_at}
use Rattle.machine.specs.declared.Machine.{Machine}
use Rattle.machine.specs.declared.Settings.{Settings}
use Rattle.machine.specs.declared.Wait.{Wait}
use Rattle.machine.specs.declared.Wait.TheVariants.{Running, Cwai, Sync}
use Rattle.evaluate.specs.Room.{is_small}
use Rattle.stack.specs.Frames.{stacked_by}
use Rattle.stack.specs.Pushing.{bytes_pushed}
use Rattle.vectors.specs.Table.{is_entire}
use Rattle.vectors.specs.declared.table.Vector.{Vector}
use Rattle.calls.specs.Steps.{Reached, At, NotReached, reached, step_plan}
use Rattle.calls.specs.Interrupts.{vector_of, is_held_off, interrupt_plan}
use Rattle.calls.specs.declared.InterruptType.{InterruptType}

-- a step: where an operation is reached that pushes
abbrev pub small_at : List ℕ → Reached → Bool
small_at mem (At i r ea) = is_small i.entry.op r (byte_at mem ea)
small_at mem (NotReached x) = false

abbrev pub StepSmallExactly : Type 0
StepSmallExactly = (mem : List ℕ) (m : Machine) (s : Settings) → (number_of_answer (step_plan mem m s).answer == 8) ≡ small_at mem (reached mem m)

-- an interrupt: where it is served and its frame is not stacked already
abbrev pub small_frame : Wait → ℕ → Vector → Bool
small_frame Running s v = nat_lt s (bytes_pushed (stacked_by (is_entire v)))
small_frame Sync s v = nat_lt s (bytes_pushed (stacked_by (is_entire v)))
small_frame Cwai s v = false

abbrev pub small_interrupt : List ℕ → Machine → InterruptType → Bool
small_interrupt mem m i =
    cond (length mem == 65536) (cond (is_held_off i m) false (small_frame m.wait m.regs.s (vector_of i))) false

abbrev pub InterruptSmallExactly : Type 0
InterruptSmallExactly =
    (mem : List ℕ) (m : Machine) (s : Settings) (i : InterruptType)
    → (number_of_answer (interrupt_plan mem m s i).answer == 8) ≡ small_interrupt mem m i
