-- Demand 3 through a run: its steps are forward calls of a sequence, and as many undos bring back how it began.
-- Assumes nothing.
use Rattle.std.proofs.Common.{◌≡◌, ℕ, zero, suc, ◌+◌, ◌<◌, ◌≤◌, List, [], ◌∷◌, ◌++◌, length, sym, refl, ap, ◌∙◌, subst, arith, Ok, Result}
use Rattle.std.specs.Prelude.{⊤}
use native.Mathlib.Decide.{dec_lt}
use Rattle.memory.specs.Fits.{Bytes}
use Rattle.machine.specs.Machine.{MachineFits}
use Rattle.machine.specs.declared.Machine.{Machine}
use Rattle.machine.specs.declared.Settings.{Settings}
use Rattle.calls.specs.Calls.{step}
use Rattle.journal.specs.Record.{All}
use Rattle.journal.specs.Recorded.{State, Ended, stepped}
use Rattle.journal.specs.Undos.{undone}
use Rattle.history.specs.Sequence.{Event, forward, back as backward, Legal, Snap, World, push, pop, rest, next, run, without_records, Same, Restores, BringsBack, Held}
use Rattle.history.proofs.Theorem.{demand-3}
use Rattle.runs.specs.Runs.{ran}
use Rattle.runs.specs.Laws.{after, back, IsSteps, TakenBack, RunTakenBack}
use Rattle.answers.specs.declared.Refusal.{Refusal}

-- ---- worlds to which a sequence leads

record Reached (w : World) : Type 0 where
  machine : Machine
  memory : List ℕ
  journal : List ℕ
  events : List Event
  fits : MachineFits machine
  bytes : Bytes memory
  legal : All Legal events
  is : run events (without_records machine memory journal) ≡ w

one_more : (es : List Event) (e : Event) (w : World) → run (es ++ (e ∷ [])) w ≡ next e (run es w)
unfolding run
one_more [] e w = refl
one_more (d ∷ es) e w = one_more es e (next d w)

all-legal : (es : List Event) (e : Event) → All Legal es → Legal e → All Legal (es ++ (e ∷ []))
all-legal [] e l h = (h, tt)
all-legal (d ∷ es) e l h = (l.0, all-legal es e l.1 h)

reached-next : (e : Event) (w : World) → Legal e → Reached w → Reached (next e w)
reached-next e w h r = record {
  machine = r.machine;
  memory = r.memory;
  journal = r.journal;
  events = r.events ++ (e ∷ []);
  fits = r.fits;
  bytes = r.bytes;
  legal = all-legal r.events e r.legal h;
  is = one_more r.events e (without_records r.machine r.memory r.journal) ∙ ap (next e) r.is;
}

held : (w : World) → Reached w → Held w
held w r = subst Held r.is (demand-3.held r.machine r.memory r.journal r.events r.fits r.bytes r.legal)

-- ---- so many steps, and so many undos

walked : Settings → ℕ → World → World
walked t zero w = w
walked t (suc k) w = walked t k (next (forward (step t)) w)

walked-now : (t : Settings) (k : ℕ) (w : World) → (walked t k w).now ≡ after t k w.now
unfolding walked after next
walked-now t zero w = refl
walked-now t (suc k) w = walked-now t k (next (forward (step t)) w)

backs : ℕ → World → World
backs zero w = w
backs (suc k) w = next backward (backs k w)

backs-now : (k : ℕ) (w : World) → (backs k w).now ≡ back k w.now
unfolding backs back next
backs-now zero w = refl
backs-now (suc k) w = ap (λ (s : State). (undone s).state) (backs-now k w)

-- from v, where k steps from w led, k undos lead home
record Home (w v : World) (k : ℕ) : Type 0 where
  reached : Reached (backs k v)
  accepted : (i : ℕ) → i < k → (undone (backs i v).now).answer ≡ (Ok tt)
  past : (backs k v).past ≡ w.past
  machine : (backs k v).now.twin.machine ≡ w.now.twin.machine
  memory : Same (backs k v).now.memory w.now.memory

same-all : (m : List ℕ) → Same m m
same-all m = record { size = refl; bytes = λ i h. refl }

-- one undo more
farther : (w v : World) (k : ℕ) (s : State) (past : List Snap) → Home w v k → w.past ≡ push (Ok tt) s past → Home (record { now = s; past = past }) v (suc k)
unfolding backs next
farther w v k s past h e =
    let q = h.past ∙ e in
    let b = subst (λ (p : List Snap). BringsBack (backs k v).now p (undone (backs k v).now)) q (held (backs k v) h.reached).brings in
    record {
      reached = reached-next backward (backs k v) tt h.reached;
      accepted = λ i l. each i l b.accepted (dec_lt i k);
      past = ap (λ (a : Result ⊤ Refusal). pop a (backs k v).past) b.accepted ∙ ap rest q;
      machine = b.machine;
      memory = b.memory;
    }
  where
    each : (i : ℕ) → i < suc k → (undone (backs k v).now).answer ≡ (Ok tt) → Dec (i < k) → (undone (backs i v).now).answer ≡ (Ok tt)
    each i l d (yes p) = h.accepted i p
    each i l d (no p) = let z : i ≡ k = omega arith in rw z d

module _ (t : Settings) where
  home : (k : ℕ) (w : World) → Reached w → ((i : ℕ) → i < k → (stepped t (after t i w.now)).answer ≡ (Ok tt)) → Home w (walked t k w) k
  unfolding walked backs after next
  home zero w r a = record { reached = r; accepted = λ i h. absurd (omega arith); past = refl; machine = refl; memory = same-all w.now.memory }
  home (suc k) w r a =
      let u = next (forward (step t)) w in
      farther u (walked t k u) k w.now w.past (home k u (reached-next (forward (step t)) w tt r) (λ i h. a (suc i) (omega arith)))
      (ap (λ (x : Result ⊤ Refusal). push x w.now w.past) (a 0 (omega arith)))

pub run-taken-back : RunTakenBack
run-taken-back t stop n m mem j es f b l h =
    let w = run es (without_records m mem j) in
    let r : Reached w = record { machine = m; memory = mem; journal = j; events = es; fits = f; bytes = b; legal = l; is = refl } in
    let k = h.steps in
    let v = walked t k w in
    let d = home t k w r h.accepted in
    subst (λ (e : State). TakenBack w.now e k) (walked-now t k w ∙ sym h.state)
    (record {
      accepted = λ i p. subst (λ (z : State). (undone z).answer ≡ (Ok tt)) (backs-now i v) (d.accepted i p);
      machine = sym (ap (λ (z : State). z.twin.machine) (backs-now k v)) ∙ d.machine;
      records =
          sym (ap (λ (z : State). z.twin.records) (backs-now k v))
          ∙ (held (backs k v) d.reached).counts.records
          ∙ ap length d.past
          ∙ sym (held w r).counts.records;
      memory = subst (λ (z : State). Same z.memory w.now.memory) (backs-now k v) d.memory;
    })
