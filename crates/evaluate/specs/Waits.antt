-- The wait state that an operation leaves: CWAI and SYNC begin a wait, every other operation leaves the processor running.
-- Assumes nothing.
use Rattle.std.specs.Prelude.{◌≡◌, ◌↔◌}
use Rattle.machine.specs.declared.Wait.{Wait}
use Rattle.machine.specs.declared.Wait.TheVariants.{Running, Cwai as InCwai, Sync as InSync}
use Rattle.opcodes.specs.declared.MemoryOp.{MemoryOp}
use Rattle.opcodes.specs.declared.MemoryOp.TheVariants.{OnMemory, Store8, Store16, Bsr, Jsr, Rts, Rti, Swi, Cwai, Sync, Push, Pull}
use Rattle.opcodes.specs.declared.Op.{Op}
use Rattle.opcodes.specs.declared.Op.TheVariants.{Registers, Memory}

abbrev pub memory_wait : MemoryOp → Wait
memory_wait (OnMemory op) = Running
memory_wait (Store8 acc) = Running
memory_wait (Store16 word) = Running
memory_wait Bsr = Running
memory_wait Jsr = Running
memory_wait Rts = Running
memory_wait Rti = Running
memory_wait (Swi which) = Running
memory_wait Cwai = InCwai
memory_wait Sync = InSync
memory_wait (Push own) = Running
memory_wait (Pull own) = Running

abbrev pub wait_after : Op → Wait
wait_after (Registers op) = Running
wait_after (Memory op) = memory_wait op

-- the laws: no other operation begins either wait
abbrev pub CwaiAlone : Type 0
CwaiAlone = (op : Op) → (wait_after op ≡ InCwai) ↔ (op ≡ Memory Cwai)

abbrev pub SyncAlone : Type 0
SyncAlone = (op : Op) → (wait_after op ≡ InSync) ↔ (op ≡ Memory Sync)
