-- What the operation itself refuses once its address is found: 28 and 9. The table of 7 is code_refused of operations/specs/Refusals.antt, that of 8
-- is_small of evaluate/specs/Room.antt. r are the registers with PC at the next instruction, ea is the effective address.
-- Assumes nothing.
use Rattle.std.specs.Prelude.{ℕ, Bool, true, false, not, ◌&&◌, List, eqb, ltb}
use Rattle.registers.specs.declared.Set.{Set}
use Rattle.memory.specs.Map.{byte_at, word_at}
use Rattle.memory.specs.Writes.{listed, stored}
use Rattle.machine.specs.Fence.{bars}
use Rattle.machine.specs.declared.Settings.{Settings}
use Rattle.opcodes.specs.declared.MemoryOp.{MemoryOp}
use Rattle.opcodes.specs.declared.MemoryOp.TheVariants.{OnMemory, Store8, Store16, Bsr, Jsr, Rts, Rti, Swi, Cwai, Sync, Push, Pull}
use Rattle.opcodes.specs.declared.Op.{Op}
use Rattle.opcodes.specs.declared.Op.TheVariants.{Registers, Memory}
use Rattle.stack.specs.Frames.{framed}
use Rattle.vectors.specs.Table.{address_of, software_vector}
use Rattle.evaluate.specs.Room.{is_small}
use Rattle.evaluate.specs.Writes.{frame_writes, made_by}

-- memory once SWI, SWI2 or SWI3 has stacked all registers
abbrev pub after_frame : Settings → List ℕ → Set → List ℕ
after_frame s mem r = stored s.ram_top (listed (framed r true).writes) mem

-- 28: the stack has room, and the fence bars what the operation would store
abbrev pub is_fenced : Op → Settings → List ℕ → Set → ℕ → Bool
is_fenced op s mem r ea = not (is_small op r (byte_at mem ea)) && bars s (made_by op s mem r ea)

-- 9: S has room for the 12 bytes, the fence lets them pass, and the vector, read after stacking, leads to a zero byte
abbrev pub memory_to_zero : MemoryOp → Settings → List ℕ → Set → Bool
memory_to_zero (OnMemory op) s mem r = false
memory_to_zero (Store8 acc) s mem r = false
memory_to_zero (Store16 word) s mem r = false
memory_to_zero Bsr s mem r = false
memory_to_zero Jsr s mem r = false
memory_to_zero Rts s mem r = false
memory_to_zero Rti s mem r = false
memory_to_zero (Swi which) s mem r =
    let after = after_frame s mem r in
    not (ltb r.s 12) && (not (bars s (frame_writes r true)) && eqb (byte_at after (word_at after (address_of (software_vector which)))) 0)
memory_to_zero Cwai s mem r = false
memory_to_zero Sync s mem r = false
memory_to_zero (Push own) s mem r = false
memory_to_zero (Pull own) s mem r = false

abbrev pub leads_to_zero : Op → Settings → List ℕ → Set → Bool
leads_to_zero (Registers op) s mem r = false
leads_to_zero (Memory op) s mem r = memory_to_zero op s mem r
