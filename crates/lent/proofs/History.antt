-- Demand 3 of the lent machine, from the contracts that rattle generates of `step` and `undo`, as their `clauses` say them in the program logic:
-- a contract is met where the `ensures` holds of some resource, in any model of that logic; and as a fact in it is truncated, so is what is
-- said here. Interrupt, reset and drop are the journal's, on a twin by value.
-- Assumes nothing.
use Rattle.std.specs.Prelude.{Ok}
use mathlib.Core.Path.{◌≡◌, ◌∙◌}
use mathlib.Core.Logic.{◌≢◌, ∥∥₁_prop, ∥∥₁_elim, ∥∥₁_map}
use mathlib.Core.List.{List}
use Prim.Native.Nat.{ℕ}
use seplogic.Ra.Ura.{Ura}
use seplogic.Bi.Sat.{Sat}
use base.Logic.{SProp}
use contract.Fact.{fact}
use contract.Lifetimes.{Lfts}
use contract.Monad.{Fun}
use prog.Memory.{Memory}
use prog.Routine.{Routine}
use types.Logic.{Logic}
use denote.Triple.Entry.{Args}
use denote.Triple.Clauses.{at_exit}
use Rattle.machine.specs.declared.Settings.{Settings}
use Rattle.calls.specs.Calls.{Call, step, interrupt, reset}
use Rattle.journal.specs.Recorded.{State, Ended, Typed, call}
use Rattle.journal.specs.Undos.{undone}
use Rattle.journal.specs.Drops.{dropped}
use Rattle.history.specs.Sequence.{Snap, Drops, Unchanged}
use Rattle.history.specs.History.{Contracts, Chain, begins, calls, undoes, drops, writes, Counted, Undone, Demand3Of}
use Rattle.history.proofs.History.{Lies, lent, shown, generated, tell, demand-of}
use Rattle.lent.specs.Lending.{report_of, LeavesTwin}
use Rattle.lent.specs.contracts

-- a fact that holds of some resource
true-fact : {M : Type 1} (𝓤 : Ura M) (φ : Type 0) → Sat 𝓤.op (fact 𝓤 φ) → ∥ φ ∥₁
unfolding Sat
true-fact 𝓤 φ s = ∥∥₁_elim s ∥∥₁_prop (λ t. ∥∥₁_map t.1 (λ u. u.0))

-- what the definitions say of a call, of an undo and of a drop
abbrev plain : Contracts {0}
plain = record { forward = λ c s e. (e ≡ call c s) × Typed s; back = λ s e. (e ≡ undone s) × Typed s; forget = λ k s e. e ≡ dropped k s }

plain-demand : Demand3Of plain
plain-demand = demand-of plain (record { forward = λ c s e m. m; back = λ s e m. m; forget = λ k s e m. m })

-- a call that leaves so ended so
ends : (e f : Ended) → LeavesTwin (report_of e) e.state.twin e.state.memory e.state.journal f → e ≡ f
ends e f l = λ i. record { answer = (l.result i).answer; state = record { twin = l.twin-is i; memory = l.memory-is i; journal = l.journal-is i }; devices = (l.result i).devices; reads = (l.result i).reads; writes = (l.result i).writes }

module _ {M : Type 1} {𝓤 : Ura M} (𝓛 : Logic 𝓤) (mem : Memory → SProp 𝓤) (run : Routine → Fun 𝓤) where
  pub record Steps (t : Settings) (s : State) (e : Ended) : Type 1 where
    pub κs : Lfts 3
    pub twin-at : Lies
    pub mem-at : Lies
    pub jrn-at : Lies
    pub post : let a : Args (contracts.step.ended).signature κs = (record { ref_ptr = twin-at.ptr; ghost_name = twin-at.name; now = s.twin }, (lent mem-at s.memory, (lent jrn-at s.journal, (t, tt)))) in
        Sat 𝓤.op ((contracts.step.clauses 𝓛 mem run κs a).ensures tt (report_of e) (at_exit contracts.step.ended κs a (e.state.twin, (e.state.memory, (e.state.journal, (tt, tt))))))

  -- the journal is lent to be read only
  pub record Undoing (s : State) (e : Ended) : Type 1 where
    pub κs : Lfts 3
    pub twin-at : Lies
    pub mem-at : Lies
    pub jrn-at : Lies
    pub read_only : e.state.journal ≡ s.journal
    pub post : let a : Args (contracts.undo.ended).signature κs = (record { ref_ptr = twin-at.ptr; ghost_name = twin-at.name; now = s.twin }, (lent mem-at s.memory, (shown jrn-at s.journal, tt))) in
        Sat 𝓤.op ((contracts.undo.clauses 𝓛 mem run κs a).ensures tt (report_of e) (at_exit contracts.undo.ended κs a (e.state.twin, (e.state.memory, (tt, tt)))))

  pub record ByValue (c : Call) (s : State) (e : Ended) : Type 1 where
    pub met : generated.forward c s e

  pub record DropByValue (k : ℕ) (s : State) (e : Ended) : Type 1 where
    pub met : generated.forget k s e

  abbrev pub forwards : Call → State → Ended → Type 1
  forwards (step t) s e = Steps t s e
  forwards (interrupt t i) s e = ByValue (interrupt t i) s e
  forwards (reset t) s e = ByValue (reset t) s e

  abbrev pub lending : Contracts {1}
  lending = record { forward = forwards; back = Undoing; forget = DropByValue }

  pub tell-forward : (c : Call) (s : State) (e : Ended) → forwards c s e → ∥ ((e ≡ call c s) × Typed s) ∥₁
  tell-forward (step t) s e m = ∥∥₁_map (true-fact 𝓤 _ m.post) (λ p. (ends e (call (step t) s) p.0, p.1))
  tell-forward (interrupt t i) s e m = ∣ tell.forward (interrupt t i) s e m.met ∣₁
  tell-forward (reset t) s e m = ∣ tell.forward (reset t) s e m.met ∣₁

  tell-back : (s : State) (e : Ended) → Undoing s e → ∥ ((e ≡ undone s) × Typed s) ∥₁
  tell-back s e m =
      ∥∥₁_map (true-fact 𝓤 _ m.post) (λ p.
      (ends e (undone s) (record { result = p.0.result; twin-is = p.0.twin-is; memory-is = p.0.memory-is; journal-is = m.read_only ∙ p.0.journal-is }), p.1))

  to-plain : (s : State) (past : List Snap) → Chain lending s past → ∥ Chain plain s past ∥₁
  to-plain s past (begins m memory journal) = ∣ begins m memory journal ∣₁
  to-plain s past (calls c t p e h m) = ∥∥₁_elim (to-plain t p h) ∥∥₁_prop (λ h'. ∥∥₁_map (tell-forward c t e m) (λ m'. calls c t p e h' m'))
  to-plain s past (undoes t p e h m) = ∥∥₁_elim (to-plain t p h) ∥∥₁_prop (λ h'. ∥∥₁_map (tell-back t e m) (λ m'. undoes t p e h' m'))
  to-plain s past (drops k t p e h m) = ∥∥₁_map (to-plain t p h) (λ h'. drops k t p e h' (tell.forget k t e m.met))
  to-plain s past (writes t p a v h w) = ∥∥₁_map (to-plain t p h) (λ h'. writes t p a v h' w)

  pub record Demand3Lent : Type 1 where
    pub counted : (s : State) (past : List Snap) → Chain lending s past → ∥ Counted s past ∥₁
    pub undo : (s : State) (past : List Snap) (e : Ended) → Chain lending s past → Undoing s e → ∥ Undone s past e ∥₁
    pub drop : (k : ℕ) (s : State) (past : List Snap) (e : Ended) → Chain lending s past → DropByValue k s e → ∥ Drops k s past e ∥₁
    pub refused-call : (c : Call) (s : State) (e : Ended) → forwards c s e → e.answer ≢ (Ok tt) → ∥ Unchanged s e ∥₁
    pub refused-undo : (s : State) (e : Ended) → Undoing s e → e.answer ≢ (Ok tt) → ∥ Unchanged s e ∥₁

  pub demand-3-lent : Demand3Lent
  demand-3-lent = record {
    counted = λ s past h. ∥∥₁_map (to-plain s past h) (plain-demand.counted s past);
    undo = λ s past e h m. ∥∥₁_elim (to-plain s past h) ∥∥₁_prop (λ h'. ∥∥₁_map (tell-back s e m) (plain-demand.undo s past e h'));
    drop = λ k s past e h m. ∥∥₁_map (to-plain s past h) (λ h'. plain-demand.drop k s past e h' (tell.forget k s e m.met));
    refused-call = λ c s e m r. ∥∥₁_map (tell-forward c s e m) (λ m'. plain-demand.refused-call c s e m' r);
    refused-undo = λ s e m r. ∥∥₁_map (tell-back s e m) (λ m'. plain-demand.refused-undo s e m' r);
  }
