-- Where the two flag settings part in a whole step: in V alone, where an operation that parts is reached at its listed inputs.
-- Assumes nothing.
use Rattle.std.specs.Prelude.{◌≡◌, ℕ, List, Ok}
use Rattle.registers.specs.Fits.{Fits}
use Rattle.registers.specs.declared.Flags.TheVariants.{Bought, Manual}
use Rattle.memory.specs.Fits.{Bytes}
use Rattle.memory.specs.Map.{byte_at}
use Rattle.machine.specs.Machine.{settings_with}
use Rattle.machine.specs.declared.Machine.{Machine}
use Rattle.machine.specs.declared.fence.Range.{Range}
use Rattle.operations.specs.Parting.{PartInV}
use Rattle.evaluate.specs.Parting.{InstructionParts}
use Rattle.calls.specs.Steps.{Reached, At, NotReached, reached, step_plan}
use Rattle.calls.specs.declared.Plan.{Plan}

-- two plans that write the same bytes, read as many, answer alike and leave the same machine but for V, which differs exactly in the case named
pub record PlansPart (p q : Plan) (Case : Type 0) : Type 0 where
  pub writes : p.writes ≡ q.writes
  pub answer : p.answer ≡ q.answer
  pub reads : p.reads ≡ q.reads
  pub cycles : p.machine.cycles ≡ q.machine.cycles
  pub instructions : p.machine.instructions ≡ q.machine.instructions
  pub wait : p.machine.wait ≡ q.machine.wait
  pub armed : p.machine.armed ≡ q.machine.armed
  pub registers : PartInV p.machine.regs q.machine.regs Case

-- the case: an operation is reached that parts at its registers and the byte at its address
abbrev pub PartsAt : List ℕ → Reached → Type 0
PartsAt mem (At i r ea) = InstructionParts r (byte_at mem ea) i.entry.op
PartsAt mem (NotReached x) = ⊥

-- the law: as bought on the left, by the manual on the right; memory and devices follow the writes. The settings part where the step is
-- accepted, which is where the fence lets what it stores pass
abbrev pub StepsPart : Type 0
StepsPart =
    (mem : List ℕ) (m : Machine) (top : ℕ) (rs : List Range) → Bytes mem → Fits m.regs
    → PlansPart (step_plan mem m (settings_with top Bought rs)) (step_plan mem m (settings_with top Manual rs))
    (((step_plan mem m (settings_with top Bought rs)).answer ≡ (Ok tt)) × PartsAt mem (reached mem m))
