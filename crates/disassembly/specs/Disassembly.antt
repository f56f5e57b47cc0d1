-- The text of one instruction, written to a lent line (document 02, request [7]). Refused by 1, then as a step meets them: opcode bytes (4),
-- 3, post-byte (4), 5 or 24, offset (4), the next address (4), 7; then by 25 where the line is too short.
-- Assumes nothing.
use Rattle.std.specs.Prelude.{ℕ, ◌-◌, cond, List, ◌++◌, length, drop, ◌==◌, nat_le, nat_lt, Err, Ok, Result}
use Rattle.answers.specs.declared.Refusal.TheVariants.{MemoryLength, PastEnd, TransferCode, LineShort}
use Rattle.decode.specs.Decode.{decoded_at}
use Rattle.decode.specs.declared.instruction.Instruction.{Instruction}
use Rattle.decode.specs.declared.operand.Operand.{Operand}
use Rattle.decode.specs.declared.operand.Operand.TheVariants.{Inherent as Nothing, Immediate as ByValue, Direct as InPage, Indexed as ByIndex, Extended as AtAddress, Relative as Branch}
use Rattle.operations.specs.Refusals.{code_refused}
use Rattle.disassembly.specs.Line.{line_length, instruction_line}
use Rattle.answers.specs.declared.Refusal.{Refusal}

-- where an immediate operand stands; the other operands have no such address
abbrev pub immediate_at : Operand → ℕ
immediate_at Nothing = 0
immediate_at (ByValue at) = at
immediate_at (InPage low) = 0
immediate_at (ByIndex ix) = 0
immediate_at (AtAddress at) = 0
immediate_at (Branch offset) = 0

-- 4 where the next address lies past FFFF, 7 where TFR or EXG names no two registers of one size
unfoldable pub taken_as_step : List ℕ → Instruction → Result Instruction Refusal
taken_as_step mem i =
    cond (nat_le i.next 0xFFFF)
    (cond (code_refused i.entry.op mem (immediate_at i.operand)) (Err TransferCode) (Ok i))
    (Err PastEnd)

abbrev pub judged_from : List ℕ → Result Instruction Refusal → Result Instruction Refusal
judged_from mem (Ok i) = taken_as_step mem i
judged_from mem (Err x) = Err x

-- the instruction at an address, as a step takes it
unfoldable pub legible : List ℕ → ℕ → Result Instruction Refusal
legible mem at = judged_from mem (decoded_at mem at)

-- how long the instruction is, or the refusal
abbrev pub answered : ℕ → ℕ → Result Instruction Refusal → Result ℕ Refusal
answered at room (Ok i) = cond (nat_lt room line_length) (Err LineShort) (Ok (i.next - at))
answered at room (Err x) = Err x

unfoldable pub disassembled_of : List ℕ → ℕ → ℕ → Result ℕ Refusal
disassembled_of mem at room = cond (length mem == 65536) (answered at room (legible mem at)) (Err MemoryLength)

-- the line afterwards: the text in its first 48 bytes and the rest as it was; if refused, all as it was
abbrev pub written_to : List ℕ → ℕ → List ℕ → Result Instruction Refusal → List ℕ
written_to mem at line (Ok i) = cond (nat_lt (length line) line_length) line (instruction_line mem at i ++ drop line_length line)
written_to mem at line (Err x) = line

unfoldable pub line_after : List ℕ → ℕ → List ℕ → List ℕ
line_after mem at line = cond (length mem == 65536) (written_to mem at line (legible mem at)) line
