-- What a call reports is what it counts.
-- Assumes nothing.
use Rattle.std.specs.Prelude.{Err, Ok, Result, ⊤}
use Prim.Native.Nat.{ℕ}
use mathlib.Core.Bool.{Bool, true, false, cond}
use mathlib.Core.List.{List, []}
use mathlib.Core.Path.{◌≡◌, refl}
use lib.Dec.{eqb}
use lib.ListN.{length}
use Rattle.answers.specs.declared.Refusal.TheVariants.{MemoryLength, Fenced}
use Rattle.memory.specs.Map.{byte_at, word_at}
use Rattle.memory.specs.Writes.{listed}
use Rattle.machine.specs.Fence.{bars}
use Rattle.machine.specs.Machine.{with_registers}
use Rattle.machine.specs.declared.Effect.{Effect}
use Rattle.machine.specs.declared.Machine.{Machine}
use Rattle.machine.specs.declared.Settings.{Settings}
use Rattle.evaluate.specs.Arming.{arms}
use Rattle.evaluate.specs.Evaluate.{evaluate_of}
use Rattle.cycles.specs.Cycles.{cycles_of}
use Rattle.vectors.specs.Table.{address_of}
use Rattle.vectors.specs.declared.table.Vector.TheVariants.{Reset}
use Rattle.bus.specs.Reads.{instruction_reads}
use Rattle.calls.specs.Plans.{refused_with, accepted}
use Rattle.calls.specs.Steps.{Reached, At, NotReached, reached, finished_as, finished, planned, step_plan}
use Rattle.calls.specs.Interrupts.{vector_of, is_held_off, taken, taken_reads, after_held_off, of_effect, interrupt_plan}
use Rattle.calls.specs.Resets.{reset_reads, reset_to, reset_plan}
use Rattle.calls.specs.Calls.{Call, step, interrupt, reset, plan_of}
use Rattle.calls.specs.declared.Plan.{Plan}
use Rattle.traffic.specs.Counts.{reached_reads, if_accepted, reads_of, read_count}
use Rattle.traffic.specs.Laws.{CountsReported}
use Rattle.answers.specs.declared.Refusal.{Refusal}

-- a plan counts these reads, if it is accepted
abbrev Counts : Plan → List ℕ → Type 0
Counts p reads = p.reads ≡ length (if_accepted p.answer reads)

module _ (m : Machine) where
  as-finished : (a : Result ⊤ Refusal) (cycles : ℕ) (mark : Bool) (reads : List ℕ) (e : Effect) → Counts (finished_as a m cycles mark (length reads) e) reads
  as-finished (Ok u) cycles mark reads e = refl
  as-finished (Err x) cycles mark reads e = refl

  as-taken : (reads : List ℕ) (e : Effect) (a : Result ⊤ Refusal) → Counts (of_effect m (length reads) e a) reads
  as-taken reads e (Ok u) = refl
  as-taken reads e (Err x) = refl

  module _ (mem : List ℕ) where
    as-planned : (s : Settings) (a : Reached) → Counts (planned mem m s a) (reached_reads mem s m.regs a)
    unfolding finished
    as-planned s (At i r ea) =
        let e = evaluate_of i.entry.op s mem r ea in
        as-finished e.answer (cycles_of i mem r ea) (arms i.entry.op (byte_at mem ea)) (instruction_reads i mem s m.regs r ea) e
    as-planned s (NotReached x) = refl

    counted : (c : Call) → (plan_of c mem m).reads ≡ read_count c mem m
    unfolding reads_of step_plan interrupt_plan reset_plan
    counted (step t) = go (bars t (listed (planned mem m t (reached mem m)).writes))
      where
        go : (b : Bool) → Counts (cond b (refused_with m Fenced) (planned mem m t (reached mem m))) (reached_reads mem t m.regs (reached mem m))
        go true = refl
        go false = as-planned t (reached mem m)
    counted (interrupt t i) = go (eqb (length mem) 65536) (is_held_off i m)
      where
        rs : List ℕ
        rs = taken_reads m.wait mem t m.regs (vector_of i)

        e : Effect
        e = taken m.wait mem t m.regs (vector_of i)

        go : (l k : Bool)
            → Counts (cond l (cond k (accepted (with_registers m m.regs (after_held_off m.wait)) 0) (of_effect m (length rs) e e.answer)) (refused_with m MemoryLength)) (cond k [] rs)
        go true true = refl
        go true false = as-taken rs e e.answer
        go false k = refl
    counted (reset t) = go (eqb (length mem) 65536) (word_at mem (address_of Reset))
      where
        go : (l : Bool) (pc : ℕ) → Counts (cond l (reset_to m pc) (refused_with m MemoryLength)) reset_reads
        go true pc = refl
        go false pc = refl

pub counts-reported : CountsReported
counts-reported c mem m = record { reads = counted m mem c; writes = refl }
