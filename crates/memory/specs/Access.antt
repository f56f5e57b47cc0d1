-- The calls that write one value and answer by number.
-- Assumes nothing.
use Rattle.std.specs.Prelude.{ℕ, cond, List, length, ◌==◌, Err, Ok, Result, ⊤}
use Rattle.u8oru16.specs.declared.u8u16.{u8u16}
use Rattle.u8oru16.specs.declared.u8u16.TheVariants.{u8}
use Rattle.memory.specs.Map.{is_system}
use Rattle.memory.specs.Writes.{writes_of, value_writes, stored, reported}
use Rattle.memory.specs.declared.AccessType.{AccessType}
use Rattle.answers.specs.declared.Refusal.TheVariants.{MemoryLength}
use Rattle.memory.specs.declared.writes.Write.{Write}
use Rattle.memory.specs.declared.writes.Writes.{Writes}
use Rattle.answers.specs.declared.Refusal.{Refusal}

abbrev pub byte : ℕ → u8u16
byte b = u8 b

-- 1 unless memory has 65,536 bytes
abbrev pub write_answer : ℕ → Result ⊤ Refusal
write_answer n = cond (n == 65536) (Ok tt) (Err MemoryLength)

abbrev made : AccessType → ℕ → u8u16 → List Write
made access at v = value_writes at v (is_system access)

-- a refused call writes nothing
abbrev if_allowed : Result ⊤ Refusal → List ℕ → List ℕ → List ℕ
if_allowed (Ok u) after mem = after
if_allowed (Err r) after mem = mem

abbrev if_done : Result ⊤ Refusal → Writes → Result Writes Refusal
if_done (Ok u) ws = Ok ws
if_done (Err r) ws = Err r

-- the memory after the call, and the device writes that it returns
unfoldable pub memory_after : ℕ → AccessType → ℕ → u8u16 → List ℕ → List ℕ
memory_after top access at v mem = if_allowed (write_answer (length mem)) (stored top (made access at v) mem) mem

unfoldable pub wrote_of : ℕ → AccessType → ℕ → u8u16 → List ℕ → Result Writes Refusal
wrote_of top access at v mem = if_done (write_answer (length mem)) (writes_of (reported top (made access at v)))
