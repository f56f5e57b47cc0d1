-- What the fence promises of whole calls (document 02, [14]). That a step is refused by 28 exactly where it passes 1 to 8 and would store outside
-- the profile is a part of StepRefused, in refusals/specs/Steps.antt, beside the other numbers.
-- Assumes nothing.
use Rattle.std.specs.Prelude.{ℕ, Bool, false, not, cond, ◌&&◌, List, ◌≢◌, ◌≡◌, eqb, ltb, length, get_or}
use Rattle.answers.specs.Numbers.{number_of_answer}
use Rattle.registers.specs.declared.Flags.{Flags}
use Rattle.registers.specs.declared.Set.{Set}
use Rattle.memory.specs.Fits.{Bytes}
use Rattle.memory.specs.Writes.{listed}
use Rattle.machine.specs.Fence.{allows, everywhere, bars, Within, AllowAlike}
use Rattle.machine.specs.Machine.{MachineFits, settings_with}
use Rattle.machine.specs.declared.Machine.{Machine}
use Rattle.machine.specs.declared.Settings.{Settings}
use Rattle.machine.specs.declared.Wait.{Wait}
use Rattle.machine.specs.declared.Wait.TheVariants.{Running, Cwai, Sync}
use Rattle.machine.specs.declared.fence.Range.{Range}
use Rattle.vectors.specs.Table.{is_entire}
use Rattle.vectors.specs.declared.table.Vector.{Vector}
use Rattle.evaluate.specs.Writes.{frame_writes}
use Rattle.calls.specs.Plans.{memory_with}
use Rattle.calls.specs.Steps.{reached, planned, step_plan}
use Rattle.calls.specs.Interrupts.{vector_of, is_held_off, interrupt_plan}
use Rattle.calls.specs.Calls.{Call, settings_in, plan_of}
use Rattle.calls.specs.declared.InterruptType.{InterruptType}

-- all that a call stores lies within the profile; so a place outside it keeps its byte, whatever the call answers
pub record CallWithin (c : Call) (mem : List ℕ) (m : Machine) : Type 0 where
  pub within : Within (settings_in c) (listed (plan_of c mem m).writes)
  pub outside : (k : ℕ) → allows (settings_in c).profile k ≡ false → get_or (memory_with (settings_in c) (plan_of c mem m) mem) k 0 ≡ get_or mem k 0

abbrev pub CallsWithin : Type 0
CallsWithin = (c : Call) (mem : List ℕ) (m : Machine) → CallWithin c mem m

-- an interrupt is refused by 28 exactly where it is served, its frame is not stacked already and has room, and the fence bars the frame
abbrev pub fenced_frame : Wait → Settings → Set → Vector → Bool
fenced_frame Running s r v = not (ltb r.s (cond (is_entire v) 12 3)) && bars s (frame_writes r (is_entire v))
fenced_frame Sync s r v = not (ltb r.s (cond (is_entire v) 12 3)) && bars s (frame_writes r (is_entire v))
fenced_frame Cwai s r v = false

abbrev pub fenced_interrupt : List ℕ → Machine → Settings → InterruptType → Bool
fenced_interrupt mem m s i =
    cond (eqb (length mem) 65536) (cond (is_held_off i m) false (fenced_frame m.wait s m.regs (vector_of i))) false

abbrev pub InterruptFencedExactly : Type 0
InterruptFencedExactly =
    (mem : List ℕ) (m : Machine) (s : Settings) (i : InterruptType)
    → eqb (number_of_answer (interrupt_plan mem m s i).answer) 28 ≡ fenced_interrupt mem m s i

-- with all allowed a call is what it was without a fence: no number is 28, and the plan of a step is the one before the fence
pub record CallFree (c : Call) (mem : List ℕ) (m : Machine) : Type 0 where
  pub number : number_of_answer (plan_of c mem m).answer ≢ 28
  pub step : step_plan mem m (settings_in c) ≡ planned mem m (settings_in c) (reached mem m)

abbrev pub AllAllowedFree : Type 0
AllAllowedFree =
    (c : Call) (mem : List ℕ) (m : Machine) → (settings_in c).profile ≡ everywhere → MachineFits m → Bytes mem → CallFree c mem m

-- two profiles that allow the same places give the same call
pub record SameCalls (top : ℕ) (f : Flags) (p q : List Range) : Type 0 where
  pub step : (mem : List ℕ) (m : Machine) → step_plan mem m (settings_with top f p) ≡ step_plan mem m (settings_with top f q)
  pub interrupt : (mem : List ℕ) (m : Machine) (i : InterruptType) → interrupt_plan mem m (settings_with top f p) i ≡ interrupt_plan mem m (settings_with top f q) i

abbrev pub SamePlaces : Type 0
SamePlaces = (top : ℕ) (f : Flags) (p q : List Range) → AllowAlike p q → SameCalls top f p q
