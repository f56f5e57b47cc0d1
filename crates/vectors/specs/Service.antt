-- How an interrupt is served (document 01, section "Interrupts, SWI, reset").
-- Assumes nothing.
use Rattle.std.specs.Prelude.{ℕ, cond, List, eqb}
use Rattle.answers.specs.declared.Refusal.TheVariants.{Fenced, ZeroAtVector}
use Rattle.registers.specs.declared.Set.{Set}
use Rattle.memory.specs.Map.{byte_at, word_at}
use Rattle.memory.specs.Writes.{listed, stored}
use Rattle.machine.specs.Effect.{stores, refuses}
use Rattle.machine.specs.Fence.{bars}
use Rattle.machine.specs.declared.Effect.{Effect}
use Rattle.machine.specs.declared.Settings.{Settings}
use Rattle.opcodes.specs.declared.Software.{Software}
use Rattle.operations.specs.Branches.{jumped}
use Rattle.operations.specs.Codes.{or_codes}
use Rattle.stack.specs.Frames.{framed}
use Rattle.stack.specs.Pushing.{once_pushed}
use Rattle.vectors.specs.Table.{address_of, masks_of, is_entire, software_vector}
use Rattle.vectors.specs.declared.table.Vector.{Vector}

-- after a frame, unless the fence refuses it (28): the masks are ORed into CC, and PC is the word at the vector. The vector and the byte that
-- it leads to are read from memory as it is after stacking, and a zero byte refuses (9). A refusal leaves the registers r from before the frame
unfoldable pub vectored : List ℕ → Settings → Set → Effect → Vector → Effect
vectored mem s r frame v =
    let after = stored s.ram_top (listed frame.writes) mem in
    let pc = word_at after (address_of v) in
    once_pushed r frame.answer
    (cond (bars s (listed frame.writes)) (refuses r Fenced)
    (cond (eqb (byte_at after pc) 0) (refuses r ZeroAtVector)
    (stores (jumped (or_codes frame.regs (masks_of v)) pc) frame.writes)))

-- an interrupt while the machine runs. In CWAI nothing is stacked again: the frame is then `changes r`
abbrev pub served : List ℕ → Settings → Set → Vector → Effect
served mem s r v = vectored mem s r (framed r (is_entire v)) v

-- SWI, SWI2, SWI3
abbrev pub software : List ℕ → Settings → Set → Software → Effect
software mem s r which = served mem s r (software_vector which)
