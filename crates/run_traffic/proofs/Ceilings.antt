-- Step by step: each adds at most a step's ceilings.
-- Assumes nothing.
use Rattle.std.specs.Prelude.{Err, Ok, Option, Result, ⊤}
use Prim.Native.Nat.{ℕ, zero, suc, ◌+◌, ◌*◌, ◌≤◌}
use mathlib.Core.List.{List}
use mathlib.Core.Path.{◌≡◌, refl}
use native.Mathlib.Omega.{arith}
use lib.Dec.{lit≤}
use lib.ListN.{length}
use Rattle.memory.specs.Writes.{listed, reported}
use Rattle.memory.specs.declared.writes.Write.{Write}
use Rattle.machine.specs.declared.Settings.{Settings}
use Rattle.calls.specs.Calls.{step, plan_of}
use Rattle.journal.specs.Recorded.{State, Typed, Ended, ending, returned, call_answer, recorded, called, stepped}
use Rattle.history.proofs.Theorem.{forward-typed}
use Rattle.traffic.proofs.Ceilings.{steps-bounded}
use Rattle.traffic.proofs.Reported.{counts-reported}
use Rattle.runs.specs.Runs.{tested, RunEnded, unmade, counting, ends_by, running}
use Rattle.runs.proofs.Running.{either_way}
use Rattle.run_traffic.specs.Laws.{RunCeilings, RunsBounded}
use Rattle.answers.specs.declared.Refusal.{Refusal}

-- ---- a step

record Within (e : Ended) : Type 0 where
  reads : e.reads ≤ 14
  writes : e.writes ≤ 12
  together : e.reads + e.writes ≤ 17

ending-within : (a : Result ⊤ Refusal) (s new : State) (ds : List Write) (n k : ℕ) → n ≤ 14 → k ≤ 12 → n + k ≤ 17 → Within (ending a s new ds n k)
ending-within (Ok u) s new ds n k h g j = record { reads = h; writes = g; together = j }
ending-within (Err x) s new ds n k h g j = record { reads = lit≤ tt; writes = lit≤ tt; together = lit≤ tt }

step-within : (t : Settings) (s : State) → Typed s → Within (stepped t s)
unfolding called
step-within t s w =
    let mem = s.memory in
    let m = s.twin.machine in
    let p = plan_of (step t) mem m in
    let b = steps-bounded mem m t w.memory w.machine.registers.pc in
    let c = counts-reported (step t) mem m in
    ending-within (call_answer t p s) s (recorded t p s) (reported t.ram_top (listed p.writes)) p.reads (length (listed p.writes))
    (omega (arith, b.reads, c.reads)) b.writes (omega (arith, b.together, c.reads))

-- ---- a run

one_more : (e : Ended) (n : ℕ) (r : RunEnded) → Within e → RunCeilings n r → RunCeilings (suc n) (counting e r)
one_more e n r w c =
    record { reads = omega (arith, w.reads, c.reads); writes = omega (arith, w.writes, c.writes); together = omega (arith, w.together, c.together) }

none : (n : ℕ) (r : RunEnded) → r.reads ≡ 0 → r.writes ≡ 0 → RunCeilings n r
none n r e f = record { reads = omega arith; writes = omega arith; together = omega arith }

module _ (t : Settings) (stop : Option ℕ) where
  bounded : (n : ℕ) (e : Ended) → Typed e.state → RunCeilings n (running (stepped t) stop n e)
  unfolding running
  bounded zero e w = none 0 _ refl refl
  bounded (suc n) e w =
      let f = stepped t e.state in
      one_more f n _ (step-within t e.state w)
      (either_way (RunCeilings n) (tested stop (returned f)) f _ (λ reason. none n (ends_by reason f) refl refl) (bounded n f (forward-typed (step t) e.state w)))

pub runs-bounded : RunsBounded
runs-bounded t stop n s w = bounded t stop n (unmade s) w
