-- Every operation is sound, since those of its subject are.
-- Assumes nothing.
use Rattle.std.specs.Prelude.{Err, Ok, Result}
use mathlib.Core.Bool.{false}
use Rattle.registers.specs.declared.Set.{Set}
use Rattle.registers.specs.declared.Stack.TheVariants.{S}
use Rattle.registers.specs.Fits.{Fits}
use Rattle.memory.specs.Map.{byte_at}
use Rattle.machine.specs.declared.Wait.TheVariants.{Running}
use Rattle.opcodes.specs.declared.MemoryOp.TheVariants.{OnMemory, Store8, Store16, Bsr, Jsr, Rts, Rti, Swi, Cwai, Sync, Push, Pull}
use Rattle.opcodes.specs.declared.Op.TheVariants.{Registers, Memory}
use Rattle.operations.specs.Change.{changed_of}
use Rattle.operations.specs.Sound.{Sound, ChangedFits}
use Rattle.operations.proofs.Sound.{changed-sound, refused-sound, on-memory-sound, store8-sound, store16-sound}
use Rattle.operations.proofs.Widths.{changes-fit}
use Rattle.stack.proofs.Sound.{stack-sound}
use Rattle.vectors.specs.Table.{software_vector}
use Rattle.vectors.proofs.Sound.{vectors-sound}
use Rattle.evaluate.specs.Evaluate.{effect_of}
use Rattle.evaluate.specs.Sound.{EvaluatedSound}
use Rattle.answers.specs.declared.Refusal.{Refusal}

of-change : {P : Type 0} (r : Set) (c : Result Set Refusal) → (P → Fits r) → (P → ChangedFits c) → Sound P r Running (effect_of r c)
of-change r (Ok q) h f = changed-sound r q f
of-change r (Err x) h f = refused-sound r h x

pub evaluated-sound : EvaluatedSound
evaluated-sound (Registers op) s mem r ea = of-change r (changed_of op s.flags mem r ea) (λ g. g.registers) (changes-fit op s.flags mem r ea)
evaluated-sound (Memory (OnMemory op)) s mem r ea = on-memory-sound mem r ea op s.flags
evaluated-sound (Memory (Store8 acc)) s mem r ea = store8-sound mem r ea acc
evaluated-sound (Memory (Store16 word)) s mem r ea = store16-sound mem r ea word
evaluated-sound (Memory Bsr) s mem r ea = (stack-sound mem r ea).jsr
evaluated-sound (Memory Jsr) s mem r ea = (stack-sound mem r ea).jsr
evaluated-sound (Memory Rts) s mem r ea = changed-sound r _ ((stack-sound mem r ea).pull S 0x80)
evaluated-sound (Memory Rti) s mem r ea = changed-sound r _ (stack-sound mem r ea).rti
evaluated-sound (Memory (Swi which)) s mem r ea = (vectors-sound mem s r ea).running (software_vector which)
evaluated-sound (Memory Cwai) s mem r ea = (vectors-sound mem s r ea).cwai
evaluated-sound (Memory Sync) s mem r ea = (vectors-sound mem s r ea).sync
evaluated-sound (Memory (Push own)) s mem r ea = (stack-sound mem r ea).push own (byte_at mem ea) false
evaluated-sound (Memory (Pull own)) s mem r ea = changed-sound r _ ((stack-sound mem r ea).pull own (byte_at mem ea))
