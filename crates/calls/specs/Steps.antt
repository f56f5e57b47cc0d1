-- A step (document 01, "Numbers returned" gives the order of refusals): 1, 2, then decoding, the address, the operation, then the fence.
-- Assumes nothing.
use Rattle.std.specs.Prelude.{ℕ, ◌+◌, ◌%◌, ◌^◌, Bool, cond, ◌||◌, List, length, ◌==◌, Err, Ok, Result, ⊤}
use Rattle.answers.specs.declared.Refusal.{Refusal}
use Rattle.answers.specs.declared.Refusal.TheVariants.{MemoryLength, Waiting}
use Rattle.registers.specs.declared.Set.{Set}
use Rattle.memory.specs.Map.{byte_at}
use Rattle.machine.specs.declared.Effect.{Effect}
use Rattle.machine.specs.declared.Machine.{Machine}
use Rattle.machine.specs.declared.Settings.{Settings}
use Rattle.machine.specs.declared.Wait.{Wait}
use Rattle.machine.specs.declared.Wait.TheVariants.{Running, Cwai, Sync}
use Rattle.decode.specs.Decode.{decoded_at}
use Rattle.decode.specs.declared.instruction.Instruction.{Instruction}
use Rattle.addressing.specs.Address.{resolved_of}
use Rattle.bus.specs.Reads.{instruction_reads}
use Rattle.evaluate.specs.Arming.{arms}
use Rattle.evaluate.specs.Evaluate.{evaluate_of}
use Rattle.cycles.specs.Cycles.{cycles_of}
use Rattle.calls.specs.Plans.{refused_with, fenced, carried_out, memory_with}
use Rattle.calls.specs.declared.Plan.{Plan}
use Rattle.calls.specs.declared.Report.{Report}
use Rattle.addressing.specs.declared.Addressed.{Addressed}

-- ---- what stands before the operation

-- the instruction, the registers with PC at the next one, and the address; or the refusal
pub data Reached : Type 0 where
  At : Instruction → Set → ℕ → Reached
  NotReached : Refusal → Reached

abbrev pub addressed : Instruction → Result Addressed Refusal → Reached
addressed i (Ok a) = At i a.regs a.ea
addressed i (Err x) = NotReached x

abbrev pub of_decoded : List ℕ → Set → Result Instruction Refusal → Reached
of_decoded mem r (Ok i) = addressed i (resolved_of mem r i.operand i.next)
of_decoded mem r (Err x) = NotReached x

-- 4, 3, 4, 5 or 24, 4 by decoding, then 4 by the next address
unfoldable pub decoded_to : List ℕ → Set → Reached
decoded_to mem r = of_decoded mem r (decoded_at mem r.pc)

abbrev pub unless_waiting : Wait → List ℕ → Set → Reached
unless_waiting Running mem r = decoded_to mem r
unless_waiting Cwai mem r = NotReached Waiting
unless_waiting Sync mem r = NotReached Waiting

-- 1 unless memory has 65,536 bytes, then 2 while waiting
unfoldable pub reached : List ℕ → Machine → Reached
reached mem m = cond (length mem == 65536) (unless_waiting m.wait mem m.regs) (NotReached MemoryLength)

-- ---- the operation

-- an instruction that is carried out: instructions and 1, cycles and what the step costs, both wrapping; armed where it was so or the
-- instruction arms
abbrev pub after_instruction : Machine → ℕ → Bool → Set → Wait → Machine
after_instruction m cycles a r w =
    record {
      cycles = (m.cycles + cycles) % 2 ^ 64;
      instructions = (m.instructions + 1) % 2 ^ 64;
      regs = r;
      wait = w;
      armed = m.armed || a;
    }

abbrev pub finished_as : Result ⊤ Refusal → Machine → ℕ → Bool → ℕ → Effect → Plan
finished_as (Ok u) m cycles a reads e =
    record { writes = e.writes; machine = after_instruction m cycles a e.regs e.wait; reads = reads; answer = (Ok tt) }
finished_as (Err x) m cycles a reads e = refused_with m x

unfoldable pub finished : Machine → ℕ → Bool → ℕ → Effect → Plan
finished m cycles a reads e = finished_as e.answer m cycles a reads e

abbrev pub operated : List ℕ → Machine → Settings → Instruction → Set → ℕ → Plan
operated mem m s i r ea =
    finished m
    (cycles_of i mem r ea)
    (arms i.entry.op (byte_at mem ea))
    (length (instruction_reads i mem s m.regs r ea))
    (evaluate_of i.entry.op s mem r ea)

abbrev pub planned : List ℕ → Machine → Settings → Reached → Plan
planned mem m s (At i r ea) = operated mem m s i r ea
planned mem m s (NotReached x) = refused_with m x

-- the fence judges once the writes are known. SWI's frame it has judged already, before the vector was read
unfoldable pub step_plan : List ℕ → Machine → Settings → Plan
step_plan mem m s = fenced s m (planned mem m s (reached mem m))

-- the step carried out: what it returns, and memory
abbrev pub step_of : List ℕ → Machine → Settings → Report
step_of mem m s = carried_out s (step_plan mem m s)

abbrev pub memory_after_step : List ℕ → Machine → Settings → List ℕ
memory_after_step mem m s = memory_with s (step_plan mem m s) mem
