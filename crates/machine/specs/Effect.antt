-- What an instruction does: the bytes to write, the registers and the wait state after it, or its refusal.
-- Assumes nothing.
use Rattle.std.specs.Prelude.{[], Err, Ok}
use Rattle.answers.specs.declared.Refusal.{Refusal}
use Rattle.registers.specs.declared.Set.{Set}
use Rattle.memory.specs.Writes.{writes_of}
use Rattle.memory.specs.declared.writes.Writes.{Writes}
use Rattle.machine.specs.declared.Effect.{Effect}
use Rattle.machine.specs.declared.Wait.TheVariants.{Running}

-- registers and memory change
abbrev pub stores : Set → Writes → Effect
stores r ws = record { writes = ws; regs = r; wait = Running; answer = (Ok tt) }

-- registers alone change
abbrev pub changes : Set → Effect
changes r = stores r (writes_of [])

-- nothing changes
abbrev pub refuses : Set → Refusal → Effect
refuses r x = record { writes = writes_of []; regs = r; wait = Running; answer = Err x }
