-- A refused call leaves everything: of the calls on a twin by their ends, of the host's by the conversions.
-- Assumes nothing.
use Rattle.std.specs.Prelude.{Err, Ok, Result, ⊤}
use Prim.Native.Nat.{ℕ}
use mathlib.Core.Bool.{Bool, true, false}
use mathlib.Core.List.{List, []}
use mathlib.Core.Path.{◌≡◌, refl, sym, ap, ◌∙◌}
use native.Mathlib.Omega.{arith}
use Rattle.answers.specs.Numbers.{number_of_answer}
use Rattle.answers.specs.declared.Refusal.{Refusal}
use Rattle.memory.specs.declared.writes.Write.{Write}
use Rattle.machine.specs.declared.Settings.{Settings}
use Rattle.calls.specs.declared.Plan.{Plan}
use Rattle.journal.specs.Recorded.{State, Ended, ending, called, call_answer, recorded}
use Rattle.journal.specs.Undos.{undo_answer, restored, undone}
use Rattle.journal.specs.Drops.{drop_answer, shortened, dropped}
use Rattle.host.specs.Numbers.{is_twin}
use Rattle.host.specs.Structs.{host_twin, host_outcome, unnamed}
use Rattle.host.specs.Ends.{handed, Ends}
use Rattle.host.specs.declared.HostTwin.{HostTwin}
use Rattle.host.specs.declared.HostOutcome.{HostOutcome}
use Rattle.host.proofs.Back.{twins-back}
use Rattle.host_calls.specs.Refusals.{Keeps, CallsKeep, HostKept, RefusedKept}

not_done : {A : Type 0} {x : Refusal} → ◌≡◌ {A = Result ⊤ Refusal} (Err x) (Ok tt) → A
not_done e = let z : ◌≡◌ {A = ℕ} 0 1 = cc in absurd (omega arith)

-- an end that is refused
ended : (a : Result ⊤ Refusal) (s new : State) (ws : List Write) (n k : ℕ) (x : Refusal) → (ending a s new ws n k).answer ≡ Err x → (ending a s new ws n k).state ≡ s
ended (Ok u) s new ws n k x e = not_done (sym e)
ended (Err y) s new ws n k x e = refl

called-keeps : (t : Settings) (p : Plan) (s : State) (x : Refusal) → (called t p s).answer ≡ Err x → (called t p s).state ≡ s
unfolding called
called-keeps t p s x e = ended (call_answer t p s) s (recorded t p s) _ _ _ x e

undone-keeps : Keeps undone
unfolding undone
undone-keeps s x e = ended (undo_answer s) s (restored s) [] 0 0 x e

dropped_keeps : (k : ℕ) → Keeps (dropped k)
unfolding dropped
dropped_keeps k s x e = ended (drop_answer k s) s (shortened k s) [] 0 0 x e

pub calls-keep : CallsKeep
calls-keep =
    record {
      step = λ t s x e. called-keeps _ _ _ x e;
      interrupt = λ t i s x e. called-keeps _ _ _ x e;
      reset = λ t s x e. called-keeps _ _ _ x e;
      undo = undone-keeps;
      drop = dropped_keeps;
    }

module _ (call : State → Ended) (t : HostTwin) (memory journal : List ℕ) (r : HostOutcome) (us vs : List ℕ) where
  refused-so : (x : Refusal) → Keeps call → is_twin t ≡ true → Ends true call t memory journal r us vs → (call (handed memory journal t)).answer ≡ Err x
      → HostKept t memory journal r us vs
  unfolding host_outcome
  refused-so x keeps named e d =
      let k = keeps (handed memory journal t) x d in
      record {
        twin = ap (λ (o : HostOutcome). o.twin) e.result ∙ ap (λ (s : State). host_twin s.twin) k ∙ twins-back.host t named;
        memory-is = e.memory-is ∙ ap (λ (s : State). s.memory) k;
        journal-is = e.journal-is ∙ ap (λ (s : State). s.journal) k;
      }

  zero-so : Ends true call t memory journal r us vs → (call (handed memory journal t)).answer ≡ (Ok tt) → r.answer ≡ 0
  unfolding host_outcome
  zero-so e d = ap (λ (o : HostOutcome). o.answer) e.result ∙ ap number_of_answer d

  by_answer : (a : Result ⊤ Refusal) → Keeps call → is_twin t ≡ true → Ends true call t memory journal r us vs → (r.answer ≡ 0 → ⊥) → (call (handed memory journal t)).answer ≡ a
      → HostKept t memory journal r us vs
  by_answer (Ok u) keeps named e n d = absurd (n (zero-so e d))
  by_answer (Err x) keeps named e n d = refused-so x keeps named e d

  unnamed-so : Ends false call t memory journal r us vs → HostKept t memory journal r us vs
  unfolding unnamed
  unnamed-so e = record { twin = ap (λ (o : HostOutcome). o.twin) e.result; memory-is = e.memory-is; journal-is = e.journal-is }

pub refused-kept : RefusedKept
refused-kept true call t memory journal r us vs keeps named e n = by_answer call t memory journal r us vs _ keeps (named refl) e n refl
refused-kept false call t memory journal r us vs keeps named e n = unnamed-so call t memory journal r us vs e
