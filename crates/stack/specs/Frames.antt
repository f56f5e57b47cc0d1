-- The frame of an interrupt (document 01, section "Interrupts, SWI, reset").
-- Assumes nothing.
use Rattle.std.specs.Prelude.{ℕ, Bool, true, false}
use Rattle.registers.specs.ConditionCodes.{put}
use Rattle.registers.specs.declared.CCBit.TheVariants.{E}
use Rattle.registers.specs.declared.Set.{Set}
use Rattle.registers.specs.declared.Stack.TheVariants.{S}
use Rattle.machine.specs.declared.Effect.{Effect}
use Rattle.operations.specs.Codes.{with_codes}
use Rattle.stack.specs.Pushing.{pushed, once_pushed}

-- the registers in a frame, as a post-byte names them: with E set all, with E clear PC and CC
abbrev pub stacked_by : Bool → ℕ
stacked_by true = 0xFF
stacked_by false = 0x81

-- E is set or cleared, then the registers are pushed on S by System writes
unfoldable pub framed : Set → Bool → Effect
framed r entire =
    let p = pushed (with_codes r (put E entire r.cc)) S (stacked_by entire) true in
    once_pushed r p.answer p
