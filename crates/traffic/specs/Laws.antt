-- Laws of the two counts: what the bytes at the counted addresses decide, and the ceilings.
-- Assumes nothing.
use Rattle.std.specs.Prelude.{ℕ, ◌+◌, ◌≤◌, ◌<◌, List, [], ◌∷◌, ◌≡◌, length, Err, Ok}
use Rattle.answers.specs.declared.Refusal.{Refusal}
use Rattle.memory.specs.Fits.{Bytes}
use Rattle.memory.specs.Map.{byte_at}
use Rattle.machine.specs.declared.Machine.{Machine}
use Rattle.machine.specs.declared.Settings.{Settings}
use Rattle.machine.specs.declared.Wait.TheVariants.{Running}
use Rattle.calls.specs.Steps.{decoded_to}
use Rattle.calls.specs.Plans.{carried_out}
use Rattle.calls.specs.Calls.{Call, step, interrupt, settings_in, plan_of}
use Rattle.calls.specs.declared.InterruptType.{InterruptType}
use Rattle.traffic.specs.Counts.{reads_of, read_count, write_count, counts_of, counts_at}

-- ---- what is reported

-- a call reports as many reads as it has addresses, and as many writes as its list has
pub record ReportsCounts (c : Call) (mem : List ℕ) (m : Machine) : Type 0 where
  pub reads : (carried_out (settings_in c) (plan_of c mem m)).reads ≡ read_count c mem m
  pub writes : (carried_out (settings_in c) (plan_of c mem m)).writes ≡ write_count c mem m

abbrev pub CountsReported : Type 0
CountsReported = (c : Call) (mem : List ℕ) (m : Machine) → ReportsCounts c mem m

-- ---- counts mean accesses

-- a read at each of the addresses gives the same byte in both memories: they have the same byte at each address's place
abbrev pub AgreeAt : List ℕ → List ℕ → List ℕ → Type 0
AgreeAt mem other [] = Unit {0}
AgreeAt mem other (at ∷ rest) = (byte_at other at ≡ byte_at mem at) × AgreeAt mem other rest

-- the call does the same on both memories: answer, machine and writes, and the addresses that it reads
pub record SameCall (c : Call) (mem other : List ℕ) (m : Machine) : Type 0 where
  pub plan : plan_of c other m ≡ plan_of c mem m
  pub reads : reads_of c other m ≡ reads_of c mem m

-- a call that is accepted depends on no byte but those that it counts: on any other memory that agrees at their addresses it does the same
abbrev pub CountsMeanAccesses : Type 0
CountsMeanAccesses =
    (c : Call) (mem other : List ℕ) (m : Machine)
    → Bytes mem → m.regs.pc < 65536 → length other ≡ 65536 → (plan_of c mem m).answer ≡ (Ok tt)
    → AgreeAt mem other (reads_of c mem m) → SameCall c mem other m

-- a step's counts are those of the instruction that it reaches, for any memory of 65,536 bytes and a machine that runs
abbrev pub StepCounts : Type 0
StepCounts =
    (mem : List ℕ) (m : Machine) (s : Settings) → length mem ≡ 65536 → m.wait ≡ Running
    → counts_of (step s) mem m ≡ counts_at mem m s (decoded_to mem m.regs)

-- ---- the ceilings

-- of a step
pub record StepCeilings (mem : List ℕ) (m : Machine) (s : Settings) : Type 0 where
  pub reads : read_count (step s) mem m ≤ 14
  pub writes : write_count (step s) mem m ≤ 12
  pub together : read_count (step s) mem m + write_count (step s) mem m ≤ 17

abbrev pub StepsBounded : Type 0
StepsBounded = (mem : List ℕ) (m : Machine) (s : Settings) → Bytes mem → m.regs.pc < 65536 → StepCeilings mem m s

-- of an interrupt
abbrev pub InterruptsBounded : Type 0
InterruptsBounded =
    (mem : List ℕ) (m : Machine) (s : Settings) (i : InterruptType)
    → read_count (interrupt s i) mem m + write_count (interrupt s i) mem m ≤ 15

-- a refused call counts neither
abbrev pub RefusedCounts : Type 0
RefusedCounts =
    (c : Call) (mem : List ℕ) (m : Machine) (x : Refusal)
    → (plan_of c mem m).answer ≡ Err x → (read_count c mem m ≡ 0) × (write_count c mem m ≡ 0)
