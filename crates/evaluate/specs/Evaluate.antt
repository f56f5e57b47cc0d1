-- What each operation does: settings s, memory, the registers r with PC at the next instruction, the effective address ea.
-- Assumes nothing.
use Rattle.std.specs.Prelude.{ℕ, false, List, Err, Ok, Result}
use Rattle.registers.specs.declared.Set.{Set}
use Rattle.registers.specs.declared.Stack.TheVariants.{S}
use Rattle.memory.specs.Map.{byte_at}
use Rattle.machine.specs.Effect.{changes, refuses}
use Rattle.machine.specs.declared.Effect.{Effect}
use Rattle.machine.specs.declared.Settings.{Settings}
use Rattle.opcodes.specs.declared.MemoryOp.{MemoryOp}
use Rattle.opcodes.specs.declared.MemoryOp.TheVariants.{OnMemory, Store8, Store16, Bsr, Jsr, Rts, Rti, Swi, Cwai, Sync, Push, Pull}
use Rattle.opcodes.specs.declared.Op.{Op}
use Rattle.opcodes.specs.declared.Op.TheVariants.{Registers, Memory}
use Rattle.operations.specs.EightBit.{on_memory, store8}
use Rattle.operations.specs.Change.{changed_of}
use Rattle.operations.specs.Words.{store16}
use Rattle.stack.specs.Pulling.{pulled, returned_from_interrupt}
use Rattle.stack.specs.Pushing.{pushed, jumped_to_subroutine}
use Rattle.vectors.specs.Service.{software}
use Rattle.vectors.specs.Waits.{waiting, synchronized}
use Rattle.answers.specs.declared.Refusal.{Refusal}

-- the operations that may write memory, use a stack or wait; PSH and PUL have their post-byte at ea, CWAI its mask
abbrev pub memory_of : MemoryOp → Settings → List ℕ → Set → ℕ → Effect
memory_of (OnMemory op) s mem r ea = on_memory op s.flags mem r ea
memory_of (Store8 acc) s mem r ea = store8 r acc ea
memory_of (Store16 word) s mem r ea = store16 r word ea
memory_of Bsr s mem r ea = jumped_to_subroutine r ea
memory_of Jsr s mem r ea = jumped_to_subroutine r ea
memory_of Rts s mem r ea = changes (pulled mem r S 0x80)
memory_of Rti s mem r ea = changes (returned_from_interrupt mem r)
memory_of (Swi which) s mem r ea = software mem s r which
memory_of Cwai s mem r ea = waiting r (byte_at mem ea)
memory_of Sync s mem r ea = synchronized r
memory_of (Push own) s mem r ea = pushed r own (byte_at mem ea) false
memory_of (Pull own) s mem r ea = changes (pulled mem r own (byte_at mem ea))

-- a change of registers as an effect: a refusal hands back the registers that came
abbrev pub effect_of : Set → Result Set Refusal → Effect
effect_of r (Ok q) = changes q
effect_of r (Err x) = refuses r x

abbrev pub evaluate_of : Op → Settings → List ℕ → Set → ℕ → Effect
evaluate_of (Registers op) s mem r ea = effect_of r (changed_of op s.flags mem r ea)
evaluate_of (Memory op) s mem r ea = memory_of op s mem r ea
