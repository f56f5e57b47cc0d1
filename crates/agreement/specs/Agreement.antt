-- The two engines agree (document 02, [13]): a call of the second engine ends as the same call of the first, for all settings, machines,
-- memories, journals and counts. It is said of the contracts that rattle generates of the sources.
-- Assumes nothing.
use Rattle.std.specs.Prelude.{ℕ, List, ◌≡◌}
use contract.Lifetimes.{Lfts}
use denote.Triple.Clauses.{Lasts, at_exit}
use borrow.Fn.Kinds.{ParamKind, ResultKind, Out, Dens, res_t, ended_of}
use Rattle.calls.proofs as calls
use Rattle.journal.proofs as journal
use Rattle.runs.proofs as runs
use Rattle.training.proofs as training

-- At the same arguments, what meets the first contract is what meets the second: the result x, and what stands behind each `&mut` at exit, ws
abbrev pub Agree : (n : ℕ) (ps : List (ParamKind n)) (r : ResultKind n) → Out n ps r → Out n ps r → Type 0
Agree n ps r First Second =
    (κs : Lfts n) (a : Dens κs ps) (x y : (res_t r κs).Denot) (ws vs : Lasts (ended_of n ps r) κs a)
    → First κs a x (at_exit (ended_of n ps r) κs a ws) → Second κs a y (at_exit (ended_of n ps r) κs a vs) → (x ≡ y) × (ws ≡ vs)

-- The result is a plan, a report or an outcome: the answer, the registers, the wait state, the mark, the counters, the numbers of bytes read and
-- written, the counts of the journal and the device writes. Behind the `&mut` are memory and the journal. Interrupt, reset, undo, the newest
-- record and drop are not named by themselves: they are the same functions
pub record EnginesAgree : Type 0 where
  pub plan : Agree 1 calls.plan_step.Kinds.ps calls.plan_step.Kinds.r calls.plan_step.Reads.Post training.plan_step.Reads.Post
  pub step : Agree 1 calls.step.Kinds.ps calls.step.Kinds.r calls.step.Reads.Post training.step.Reads.Post
  pub recorded-step : Agree 2 journal.step.Kinds.ps journal.step.Kinds.r journal.step.Reads.Post training.record_step.Reads.Post
  pub recorded-call : Agree 2 journal.call.Kinds.ps journal.call.Kinds.r journal.call.Reads.Post training.call.Reads.Post
  pub run : Agree 2 runs.run.Kinds.ps runs.run.Kinds.r runs.run.Reads.Post runs.run_second.Reads.Post
