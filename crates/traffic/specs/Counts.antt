-- How many bytes a call reads and writes (document 02, [11]). A refused call counts neither: what it looked at to find its refusal is not
-- counted, and it writes nothing. The journal's bytes, and the old bytes that a record keeps, are no traffic of the machine's bus.
-- Assumes nothing.
use Rattle.std.specs.Prelude.{ℕ, cond, List, [], length, Err, Ok, Result, ⊤}
use Rattle.registers.specs.declared.Set.{Set}
use Rattle.memory.specs.Writes.{listed}
use Rattle.machine.specs.declared.Machine.{Machine}
use Rattle.machine.specs.declared.Settings.{Settings}
use Rattle.calls.specs.Plans.{fenced}
use Rattle.calls.specs.Steps.{Reached, At, NotReached, reached, planned}
use Rattle.calls.specs.Interrupts.{vector_of, is_held_off, taken_reads}
use Rattle.calls.specs.Resets.{reset_reads}
use Rattle.calls.specs.Calls.{Call, step, interrupt, reset, plan_of}
use Rattle.bus.specs.Reads.{instruction_reads}
use Rattle.answers.specs.declared.Refusal.{Refusal}

-- a step: the instruction that was reached; r are the registers before it
abbrev pub reached_reads : List ℕ → Settings → Set → Reached → List ℕ
reached_reads mem s r (At i q ea) = instruction_reads i mem s r q ea
reached_reads mem s r (NotReached x) = []

-- what a call reads if it is accepted. An interrupt that is held off reads nothing, a reset its vector
abbrev pub reads_by : Call → List ℕ → Machine → List ℕ
reads_by (step t) mem m = reached_reads mem t m.regs (reached mem m)
reads_by (interrupt t i) mem m = cond (is_held_off i m) [] (taken_reads m.wait mem t m.regs (vector_of i))
reads_by (reset t) mem m = reset_reads

abbrev pub if_accepted : Result ⊤ Refusal → List ℕ → List ℕ
if_accepted (Ok u) reads = reads
if_accepted (Err x) reads = []

-- the addresses that a call reads
unfoldable pub reads_of : Call → List ℕ → Machine → List ℕ
reads_of c mem m = if_accepted (plan_of c mem m).answer (reads_by c mem m)

-- ---- the two counts

abbrev pub read_count : Call → List ℕ → Machine → ℕ
read_count c mem m = length (reads_of c mem m)

-- every byte of the list of writes: stored, ignored or a device's
abbrev pub write_count : Call → List ℕ → Machine → ℕ
write_count c mem m = length (listed (plan_of c mem m).writes)

-- reads and writes of a call
abbrev pub counts_of : Call → List ℕ → Machine → ℕ × ℕ
counts_of c mem m = (read_count c mem m, write_count c mem m)

-- and of a step once an instruction is reached
abbrev pub counts_at : List ℕ → Machine → Settings → Reached → ℕ × ℕ
counts_at mem m s a =
    let p = fenced s m (planned mem m s a) in
    (length (if_accepted p.answer (reached_reads mem s m.regs a)), length (listed p.writes))
