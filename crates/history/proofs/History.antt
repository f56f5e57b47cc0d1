-- Demand 3 of the code, from the contracts that rattle generates of it: `F.Reads.Post`, over the kinds of `F.Kinds`.
-- Assumes nothing.
use Rattle.std.specs.Prelude.{Ok}
use mathlib.Core.Path.{◌≡◌, refl, sym, ◌∙◌, subst}
use mathlib.Core.Logic.{◌≢◌}
use mathlib.Core.List.{List, []}
use Prim.Native.Nat.{ℕ}
use base.Fml.{GName}
use contract.Lifetimes.{Lfts}
use denote.Ref.{Bor, MutBor}
use denote.Triple.Clauses.{Lasts, at_exit}
use borrow.Fn.Kinds.{ParamKind, ResultKind, Out, Dens, res_t, ended_of}
use Rattle.machine.specs.declared.Settings.{Settings}
use Rattle.calls.specs.declared.InterruptType.{InterruptType}
use Rattle.calls.specs.Calls.{Call, step, interrupt, reset}
use Rattle.journal.specs.Recorded.{State, in_hand, Ended, Typed, Leaves, returned, call}
use Rattle.journal.specs.Undos.{undone}
use Rattle.journal.specs.Drops.{dropped}
use Rattle.journal.proofs as code
use Rattle.history.specs.Sequence.{Window, Snap, push, pop, lose, host_writes, Drops, Unchanged}
use Rattle.history.specs.History.{Contracts, Chain, begins, calls, undoes, drops, writes, Undone, Counted, Demand3Of}
use Rattle.history.proofs.Chain.{Kept}
use Rattle.history.proofs.Theorem.{start-kept, forward-kept, undo-kept, drop-kept, host-kept, holds, called-stays, undone-stays, dropped-stays}

-- ---- the contracts of the five functions

-- a slice that lies somewhere, under some name
pub record Lies : Type 0 where
  pub ptr : ℕ × ℕ
  pub name : GName

abbrev pub lent : Lies → List ℕ → MutBor (List ℕ)
lent l xs = record { ref_ptr = l.ptr; ghost_name = l.name; now = xs }

-- one that is lent to be read only has no name
abbrev pub shown : Lies → List ℕ → Bor (List ℕ)
shown l xs = record { ref_ptr = l.ptr; now = xs }

-- at some lifetimes, with memory and journal somewhere, the arguments being what is in hand: what the contract says of the result and of memory and journal at exit
pub record Steps (t : Settings) (s : State) (e : Ended) : Type 0 where
  pub κs : Lfts 2
  pub mem : Lies
  pub jrn : Lies
  pub post : let a : Dens κs code.step.Kinds.ps = (lent mem s.memory, (lent jrn s.journal, (s.twin, (t, tt)))) in
      code.step.Reads.Post κs a (returned e) (at_exit (ended_of 2 code.step.Kinds.ps code.step.Kinds.r) κs a (e.state.memory, (e.state.journal, (tt, (tt, tt)))))

pub record Interrupts (t : Settings) (i : InterruptType) (s : State) (e : Ended) : Type 0 where
  pub κs : Lfts 2
  pub mem : Lies
  pub jrn : Lies
  pub post : let a : Dens κs code.interrupt.Kinds.ps = (lent mem s.memory, (lent jrn s.journal, (s.twin, (t, (i, tt))))) in
      code.interrupt.Reads.Post κs a (returned e) (at_exit (ended_of 2 code.interrupt.Kinds.ps code.interrupt.Kinds.r) κs a (e.state.memory, (e.state.journal, (tt, (tt, (tt, tt))))))

pub record Resets (t : Settings) (s : State) (e : Ended) : Type 0 where
  pub κs : Lfts 2
  pub mem : Lies
  pub jrn : Lies
  pub post : let a : Dens κs code.reset.Kinds.ps = (lent mem s.memory, (lent jrn s.journal, (s.twin, (t, tt)))) in
      code.reset.Reads.Post κs a (returned e) (at_exit (ended_of 2 code.reset.Kinds.ps code.reset.Kinds.r) κs a (e.state.memory, (e.state.journal, (tt, (tt, tt)))))

-- the journal is lent to be read only: it is at exit what it was
pub record Undoing (s : State) (e : Ended) : Type 0 where
  pub κs : Lfts 2
  pub mem : Lies
  pub jrn : Lies
  pub post : let a : Dens κs code.undo.Kinds.ps = (lent mem s.memory, (shown jrn s.journal, (s.twin, tt))) in
      code.undo.Reads.Post κs a (returned e) (at_exit (ended_of 2 code.undo.Kinds.ps code.undo.Kinds.r) κs a (e.state.memory, (tt, (tt, tt))))
  pub read_only : e.state.journal ≡ s.journal

-- no memory is lent: it is what it was
pub record Dropping (k : ℕ) (s : State) (e : Ended) : Type 0 where
  pub κs : Lfts 1
  pub jrn : Lies
  pub post : let a : Dens κs code.drop.Kinds.ps = (lent jrn s.journal, (s.twin, (k, tt))) in
      code.drop.Reads.Post κs a (returned e) (at_exit (ended_of 1 code.drop.Kinds.ps code.drop.Kinds.r) κs a (e.state.journal, (tt, (tt, tt))))
  pub not-lent : e.state.memory ≡ s.memory

abbrev pub forwards : Call → State → Ended → Type 0
forwards (step t) s e = Steps t s e
forwards (interrupt t i) s e = Interrupts t i s e
forwards (reset t) s e = Resets t s e

abbrev pub generated : Contracts {0}
generated = record { forward = forwards; back = Undoing; forget = Dropping }

-- ---- what they say

-- a call that leaves so ended so
ends : (e f : Ended) → Leaves (returned e) e.state.memory e.state.journal f → e ≡ f
ends e f l = λ i. record { answer = (l.result i).answer; state = record { twin = (l.result i).twin; memory = l.memory-is i; journal = l.journal-is i }; devices = (l.result i).devices; reads = (l.result i).reads; writes = (l.result i).writes }

-- what contracts must tell: how a call ends, and that its arguments fit
pub record Tells (C : Contracts {0}) : Type 0 where
  pub forward : (c : Call) (s : State) (e : Ended) → C.forward c s e → (e ≡ call c s) × Typed s
  pub back : (s : State) (e : Ended) → C.back s e → (e ≡ undone s) × Typed s
  pub forget : (k : ℕ) (s : State) (e : Ended) → C.forget k s e → e ≡ dropped k s

tell-forward : (c : Call) (s : State) (e : Ended) → forwards c s e → (e ≡ call c s) × Typed s
tell-forward (step t) s e m = (ends e _ m.post.0, m.post.1)
tell-forward (interrupt t i) s e m = (ends e _ m.post.0, m.post.1)
tell-forward (reset t) s e m = (ends e _ m.post.0, m.post.1)

pub tell : Tells generated
tell = record {
  forward = tell-forward;
  back = λ s e m. (ends e _ (subst (λ (j : List ℕ). Leaves (returned e) e.state.memory j (undone s)) (sym m.read_only) m.post.0), m.post.1);
  forget = λ k s e m. ends e _ (subst (λ (l : List ℕ). Leaves (returned e) l e.state.journal (dropped k s)) (sym m.not-lent) (m.post s.memory));
}

-- and no contract is empty: from a state that fits, each call can end as its definition says
somewhere : Lies
somewhere = record { ptr = (0, 0); name = 0 }

pub happens : Lfts 2 → (c : Call) (s : State) → Typed s → generated.forward c s (call c s)
happens κs (step t) s h = record { κs = κs; mem = somewhere; jrn = somewhere; post = (record { result = refl; memory-is = refl; journal-is = refl }, h) }
happens κs (interrupt t i) s h = record { κs = κs; mem = somewhere; jrn = somewhere; post = (record { result = refl; memory-is = refl; journal-is = refl }, h) }
happens κs (reset t) s h = record { κs = κs; mem = somewhere; jrn = somewhere; post = (record { result = refl; memory-is = refl; journal-is = refl }, h) }

-- ---- at each point of a chain

undo-is : (s : State) (past : List Snap) → Kept s past → Undone s past (undone s)
undo-is s past v = let u = holds s past v in record { exactly = u.exactly; brings = u.brings }

module _ (C : Contracts {0}) (tells : Tells C) where
  kept : (s : State) (past : List Snap) → Chain C s past → Kept s past
  kept s past (begins m memory journal) = start-kept m memory journal
  kept s past (calls c t p e h m) =
      let x = tells.forward c t e m in
      subst (λ (z : Ended). Kept z.state (push z.answer t p)) (sym x.0) (forward-kept c t x.1 p (kept t p h))
  kept s past (undoes t p e h m) = subst (λ (z : Ended). Kept z.state (pop z.answer p)) (sym (tells.back t e m).0) (undo-kept t p (kept t p h))
  kept s past (drops k t p e h m) = subst (λ (z : Ended). Kept z.state (lose k z.answer p)) (sym (tells.forget k t e m)) (drop-kept k t p (kept t p h))
  kept s past (writes t p a v h w) = host-kept t p a v w (kept t p h)

  pub demand-of : Demand3Of C
  demand-of = record {
    counted = λ s past h. let u = holds s past (kept s past h) in record { counts = u.counts; shows = u.shows };
    undo = λ s past e h m. subst (Undone s past) (sym (tells.back s e m).0) (undo-is s past (kept s past h));
    drop = λ k s past e h m. subst (Drops k s past) (sym (tells.forget k s e m)) ((holds s past (kept s past h)).drops k);
    refused-call = λ c s e m. subst (λ (z : Ended). z.answer ≢ (Ok tt) → Unchanged s z) (sym (tells.forward c s e m).0) (called-stays c s);
    refused-undo = λ s e m. subst (λ (z : Ended). z.answer ≢ (Ok tt) → Unchanged s z) (sym (tells.back s e m).0) (undone-stays s);
    refused-drop = λ k s e m. subst (λ (z : Ended). z.answer ≢ (Ok tt) → Unchanged s z) (sym (tells.forget k s e m)) (dropped-stays k s);
  }

pub demand-3-of-the-code : Demand3Of generated
demand-3-of-the-code = demand-of generated tell
