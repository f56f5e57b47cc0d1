-- CWAI and SYNC (manual, appendix A; document 01, section "Interrupts, SWI, reset").
-- Assumes nothing.
use Rattle.std.specs.Prelude.{ℕ, true, [], Ok}
use Rattle.registers.specs.declared.Set.{Set}
use Rattle.memory.specs.Writes.{writes_of}
use Rattle.machine.specs.declared.Effect.{Effect}
use Rattle.machine.specs.declared.Wait.TheVariants.{Cwai, Sync}
use Rattle.operations.specs.Codes.{and_codes}
use Rattle.stack.specs.Frames.{framed}
use Rattle.stack.specs.Pushing.{once_pushed}

-- CWAI: CC is ANDed with the byte, E set, all registers stacked, and the wait begins
unfoldable pub waiting : Set → ℕ → Effect
waiting r m =
    let frame = framed (and_codes r m) true in
    once_pushed r frame.answer (record { writes = frame.writes; regs = frame.regs; wait = Cwai; answer = (Ok tt) })

-- SYNC: the wait begins, and nothing is stacked
abbrev pub synchronized : Set → Effect
synchronized r = record { writes = writes_of []; regs = r; wait = Sync; answer = (Ok tt) }
