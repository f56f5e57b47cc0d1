-- Demand 3 of the code through runs, from the contracts that rattle generates of it: where a run meets its contract, the steps of which it is
-- made continue a chain of calls, and so all that demand 3 says of chains holds after it.
-- Assumes nothing.
use Rattle.std.proofs.Common.{◌≡◌, ℕ, zero, suc, ◌<◌, List, sym, refl, ap, ◌∙◌, subst, arith, Ok, Option, Result}
use Rattle.std.specs.Prelude.{⊤}
use contract.Lifetimes.{Lfts}
use denote.Triple.Clauses.{at_exit}
use borrow.Fn.Kinds.{Dens, ended_of}
use Rattle.machine.specs.declared.Settings.{Settings}
use Rattle.calls.specs.Calls.{step}
use Rattle.journal.specs.Recorded.{State, Typed, stepped}
use Rattle.history.specs.Sequence.{Snap, push}
use Rattle.history.specs.History.{Chain, calls}
use Rattle.history.proofs.History.{Lies, lent, generated, happens}
use Rattle.history.proofs.Theorem.{forward-typed}
use Rattle.runs.specs.Runs.{RunEnded, RunLeaves, ran, ran_returned}
use Rattle.runs.specs.Laws.{after, IsSteps}
use Rattle.runs.specs.declared.RunOutcome.{RunOutcome}
use Rattle.runs.proofs.Laws.{run-is-steps}
use Rattle.runs.proofs as code
use Rattle.answers.specs.declared.Refusal.{Refusal}

-- at some lifetimes, with memory and journal somewhere: what the contract of `run` says of its result and of memory and journal at exit
pub record Runs (t : Settings) (stop : Option ℕ) (n : ℕ) (s : State) (r : RunEnded) : Type 0 where
  pub κs : Lfts 2
  pub mem : Lies
  pub jrn : Lies
  pub post : let a : Dens κs code.run.Kinds.ps = (lent mem s.memory, (lent jrn s.journal, (s.twin, (t, (n, (stop, tt)))))) in
      code.run.Reads.Post κs a (ran_returned r)
      (at_exit (ended_of 2 code.run.Kinds.ps code.run.Kinds.r) κs a (r.last.state.memory, (r.last.state.journal, (tt, (tt, (tt, (tt, tt)))))))

-- and it is not empty: from a state that fits, a run can end as its definition says
pub run-happens : Lfts 2 → (t : Settings) (stop : Option ℕ) (n : ℕ) (s : State) → Typed s → Runs t stop n s (ran t stop n s)
run-happens κs t stop n s h =
    let at : Lies = record { ptr = (0, 0); name = 0 } in
    record { κs = κs; mem = at; jrn = at; post = (record { result = refl; memory-is = refl; journal-is = refl }, h) }

-- what stood before each of k steps, newest first, on what stood before those calls that are held
unfoldable pub pasts : Settings → ℕ → State → List Snap → List Snap
pasts t zero s past = past
pasts t (suc k) s past = pasts t k (stepped t s).state (push (Ok tt) s past)

-- the run made so many steps, and the chain goes on by them
pub record Continues (t : Settings) (n : ℕ) (s : State) (past : List Snap) (r : RunEnded) : Type 0 where
  pub steps : IsSteps t n s r
  pub chain : Chain generated r.last.state (pasts t steps.steps s past)

abbrev pub ChainsContinue : Type 0
ChainsContinue =
    (t : Settings) (stop : Option ℕ) (n : ℕ) (s : State) (past : List Snap) (r : RunEnded) → Chain generated s past → Runs t stop n s r → Continues t n s past r

module _ (κs : Lfts 2) (t : Settings) where
  chain-on : (k : ℕ) (s : State) (past : List Snap) → Typed s → Chain generated s past → ((i : ℕ) → i < k → (stepped t (after t i s)).answer ≡ (Ok tt))
      → Chain generated (after t k s) (pasts t k s past)
  unfolding after pasts
  chain-on zero s past h c a = c
  chain-on (suc k) s past h c a =
      chain-on k (stepped t s).state (push (Ok tt) s past) (forward-typed (step t) s h)
      (subst (λ (x : Result ⊤ Refusal). Chain generated (stepped t s).state (push x s past)) (a 0 (omega arith)) (calls (step t) s past (stepped t s) c (happens κs (step t) s h)))
      (λ i l. a (suc i) (omega arith))

pub chains-continue : ChainsContinue
chains-continue t stop n s past r c m =
    let l = m.post.0 in
    let k = run-is-steps t stop n s in
    let e : r.last.state ≡ (ran t stop n s).last.state = λ i. record { twin = (l.result i).twin; memory = l.memory-is i; journal = l.journal-is i } in
    record {
      steps = record {
        steps = k.steps;
        most = k.most;
        state = e ∙ k.state;
        accepted = k.accepted;
        all = λ q. k.all (sym (ap (λ (o : RunOutcome). o.reason) l.result) ∙ q);
      };
      chain = subst (λ (z : State). Chain generated z (pasts t k.steps s past)) (sym (e ∙ k.state)) (chain-on m.κs t k.steps s past m.post.1 c k.accepted);
    }
