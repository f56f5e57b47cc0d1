-- Demand 3 of the code: what Sequence.antt says of the definitions, said of any chain of calls each of which meets its contract.
-- A chain asks nothing of widths: that memory is bytes, and that each number in a machine fits, each contract tells of its own arguments.
-- Assumes nothing.
use Rattle.std.specs.Prelude.{ℕ, ◌≡◌, ◌↔◌, ◌≢◌, List, [], Ok}
use Rattle.machine.specs.declared.Machine.{Machine}
use Rattle.calls.specs.Calls.{Call}
use Rattle.journal.specs.Recorded.{State, in_hand, Ended}
use Rattle.journal.specs.Undos.{viewed}
use Rattle.history.specs.Sequence.{Window, Snap, push, pop, lose, host_writes, BringsBack, Shows, Drops, Counts, Unchanged}

-- What contracts say of a forward call, of undo and of drop: that a call at a state may end so
pub record Contracts {ℓ} : Type (ℓ + 1) where
  pub forward : Call → State → Ended → Type ℓ
  pub back : State → Ended → Type ℓ
  pub forget : ℕ → State → Ended → Type ℓ

-- Calls that meet the contracts lead from a journal with no record to a state. Each call is given the twin, the memory and the journal
-- that the call before it left, but for what the host wrote in FF00-FFDF. Beside the state, newest first, is how machine and memory stood
-- just before each accepted forward call still held, by the answers that the calls returned
pub data Chain {ℓ} (C : Contracts {ℓ}) : State → List Snap → Type ℓ where
  begins : (m : Machine) (memory journal : List ℕ) → Chain C (in_hand memory journal (record { machine = m; records = 0; bytes = 0 })) []
  calls : (c : Call) (s : State) (past : List Snap) (e : Ended) → Chain C s past → C.forward c s e → Chain C e.state (push e.answer s past)
  undoes : (s : State) (past : List Snap) (e : Ended) → Chain C s past → C.back s e → Chain C e.state (pop e.answer past)
  drops : (k : ℕ) (s : State) (past : List Snap) (e : Ended) → Chain C s past → C.forget k s e → Chain C e.state (lose k e.answer past)
  writes : (s : State) (past : List Snap) (a v : ℕ) → Chain C s past → Window a → Chain C (host_writes a v s) past

-- An undo at s that ended as e, where the calls of past are held
pub record Undone (s : State) (past : List Snap) (e : Ended) : Type 0 where
  pub exactly : (e.answer ≡ (Ok tt)) ↔ (past ≢ [])
  pub brings : BringsBack s past e

-- the counts, and what the statement of `newest` cites
pub record Counted (s : State) (past : List Snap) : Type 0 where
  pub counts : Counts s past
  pub shows : Shows past (viewed s)

-- What demand 3 says of the code: at each point of each chain, of whatever the calls return and leave
pub record Demand3Of {ℓ} (C : Contracts {ℓ}) : Type ℓ where
  pub counted : (s : State) (past : List Snap) → Chain C s past → Counted s past
  pub undo : (s : State) (past : List Snap) (e : Ended) → Chain C s past → C.back s e → Undone s past e
  pub drop : (k : ℕ) (s : State) (past : List Snap) (e : Ended) → Chain C s past → C.forget k s e → Drops k s past e
  pub refused-call : (c : Call) (s : State) (e : Ended) → C.forward c s e → e.answer ≢ (Ok tt) → Unchanged s e
  pub refused-undo : (s : State) (e : Ended) → C.back s e → e.answer ≢ (Ok tt) → Unchanged s e
  pub refused-drop : (k : ℕ) (s : State) (e : Ended) → C.forget k s e → e.answer ≢ (Ok tt) → Unchanged s e
