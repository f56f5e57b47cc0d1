-- Allowances, what the reason tells, and that a run is so many steps.
-- Assumes nothing.
use Rattle.std.proofs.Common.{◌≡◌, ℕ, zero, suc, ◌+◌, ◌%◌, ◌^◌, ◌<◌, ◌≤◌, Bool, true, false, cond, ltb, ◌≢◌, ◌↔◌, [], ◌∷◌, get_or, sym, refl, ap, ◌∙◌, subst, arith, Err, None, Ok, Option, Result, Some}
use Rattle.std.specs.Prelude.{⊤}
use Rattle.answers.specs.Numbers.{number_of_answer}
use Rattle.answers.proofs.Numbers.{refused-by-a-number}
use Rattle.memory.specs.Writes.{writes_of}
use Rattle.machine.specs.declared.Settings.{Settings}
use Rattle.calls.specs.Calls.{step}
use Rattle.journal.specs.Recorded.{State, Ended, returned, stepped}
use Rattle.history.proofs.Theorem.{called-stays}
use Rattle.runs.specs.Runs.{is_refused, waits, is_at, tested, RunEnded, unmade, ends_by, counting, unless_ends, running, ran, reason_number, ran_returned}
use Rattle.runs.specs.Laws.{LargerAllowance, RunsJoin, Joined, one_after, ReasonsTell, ReasonsApart, after, IsSteps, RunIsSteps}
use Rattle.runs.specs.declared.Reason.{Reason}
use Rattle.runs.specs.declared.Reason.TheVariants.{StepRefused, Waits, StopAddress, DeviceWrite, Allowance}
use Rattle.runs.specs.declared.RunOutcome.{RunOutcome}
use Rattle.runs.proofs.Running.{Passed, passed, not-by-allowance, accepts, Alike, resumed, from-state, larger, joins, Close, unmoved, all_made, stopped, close}
use Rattle.runs.proofs.Loop.{neat}
use Rattle.answers.specs.declared.Refusal.{Refusal}

pub larger-allowance : LargerAllowance
larger-allowance t stop n m s h r = larger (stepped t) stop n m (unmade s) h r

-- ---- a run that ended on its allowance

-- its last step was accepted and reported nothing; where there was one, it leaves the machine running, and not at the stop address
record UsedUp (stop : Option ℕ) (n : ℕ) (e : Ended) : Type 0 where
  answer : e.answer ≡ (Ok tt)
  devices : e.devices ≡ writes_of []
  runs : 0 < n → waits e.state.twin.machine.wait ≡ false
  elsewhere : 0 < n → is_at stop e.state.twin.machine.regs.pc ≡ false

module _ (t : Settings) (stop : Option ℕ) where
  after-pass : (n : ℕ) (s : State) → tested stop (returned (stepped t s)) ≡ None → UsedUp stop n (stepped t s)
  after-pass n s g =
      let p = passed stop (returned (stepped t s)) g in
      record { answer = accepts (stepped t s).answer p.accepted; devices = neat t s p.quiet; runs = λ l. p.runs; elsewhere = λ l. p.elsewhere }

  used-by : (n : ℕ) (s : State) (r : RunEnded) → Close (stepped t) stop n (unmade s) r → r.reason ≡ Allowance → UsedUp stop n r.last
  used-by n s r (unmoved z q l) h = rw l (record { answer = refl; devices = refl; runs = λ p. absurd (omega arith); elsewhere = λ p. absurd (omega arith) })
  used-by n s r (all_made u p g q l) h = rw l (after-pass n u g)
  used-by n s r (stopped u g l) h = absurd (not-by-allowance stop (returned (stepped t u)) (g ∙ ap Some h))

  used-up : (n : ℕ) (s : State) → (ran t stop n s).reason ≡ Allowance → UsedUp stop n (ran t stop n s).last
  used-up n s h = used-by n s (ran t stop n s) (close (stepped t) stop n (unmade s)) h

-- ---- two runs

both-wrap : (a x b : ℕ) → x % 2 ^ 64 ≡ b % 2 ^ 64 → (a + x) % 2 ^ 64 ≡ (a % 2 ^ 64 + b % 2 ^ 64) % 2 ^ 64
both-wrap a x b h = omega arith

joined : (a x b c : RunEnded) → Alike x b → c ≡ resumed a.reads a.writes x → Joined a b c
joined a x b c h e = rw e (record {
  result = λ i. record {
    devices = (h.result i).devices;
    twin = (h.result i).twin;
    reason = (h.result i).reason;
    number = (h.result i).number;
    reads = both-wrap a.reads x.reads b.reads (ap (λ (o : RunOutcome). o.reads) h.result) i;
    writes = both-wrap a.writes x.writes b.writes (ap (λ (o : RunOutcome). o.writes) h.result) i;
    answer = (Ok tt);
  };
  state = h.state;
})

pub runs-join : RunsJoin
runs-join t stop n m s r =
    let a = ran t stop n s in
    let u = used-up t stop n s r in
    joined a (running (stepped t) stop m a.last) (ran t stop m a.last.state) (ran t stop (n + m) s)
    (from-state (stepped t) stop m a.last u.answer u.devices) (joins (stepped t) stop n m (unmade s) r)

-- ---- what the reason tells

apart : {x : Reason} → x ≡ Allowance → x ≢ StepRefused
apart h k = let z : ◌≡◌ {A = ℕ} 0 1 = cc in omega arith

-- the first test comes first
refused-first : (a b c d : Bool) (x : Reason) → cond a (Some StepRefused) (cond b (Some Waits) (cond c (Some StopAddress) (cond d (Some DeviceWrite) None))) ≡ Some x
    → (x ≡ StepRefused) ↔ (a ≡ true)
refused-first true b c d x e = ((λ h. refl), (λ h. cc))
refused-first false true c d x e = ((λ h. cc), (λ h. cc))
refused-first false false true d x e = ((λ h. cc), (λ h. cc))
refused-first false false false true x e = ((λ h. cc), (λ h. cc))
refused-first false false false false x e = ((λ h. cc), (λ h. cc))

numbered : (a : Result ⊤ Refusal) → (is_refused a ≡ true) ↔ (number_of_answer a ≢ 0)
numbered (Ok u) = ((λ h. let z : ◌≡◌ {A = ℕ} 0 1 = cc in absurd (omega arith)), (λ h. absurd (h refl)))
numbered (Err x) = ((λ h e. omega (arith, refused-by-a-number x)), (λ h. refl))

module _ (t : Settings) (stop : Option ℕ) where
  unrefused : (n : ℕ) (r : RunEnded) → UsedUp stop n r.last → r.reason ≡ Allowance → (r.reason ≡ StepRefused) ↔ ((ran_returned r).number ≢ 0)
  unrefused n r u h = ((λ k. absurd (apart h k)), (λ k. absurd (k (ap number_of_answer u.answer))))

  number_by : (n : ℕ) (s : State) (r : RunEnded) → Close (stepped t) stop n (unmade s) r → (r.reason ≡ StepRefused) ↔ ((ran_returned r).number ≢ 0)
  unfolding tested
  number_by n s r (unmoved z q l) = unrefused n r (used-by t stop n s r (unmoved z q l) q) q
  number_by n s r (all_made u p g q l) = unrefused n r (used-by t stop n s r (all_made u p g q l) q) q
  number_by n s r (stopped u g l) =
      let o = returned (stepped t u) in
      let p = refused-first (is_refused o.answer) (waits o.twin.machine.wait) (is_at stop o.twin.machine.regs.pc) (ltb 0 o.devices.count) r.reason g in
      let q = numbered o.answer in
      rw l ((λ h. q.0 (p.0 h)), (λ h. p.1 (q.1 h)))

  silent-by : (n : ℕ) (s : State) (r : RunEnded) → Close (stepped t) stop n (unmade s) r → (ran_returned r).number ≢ 0 → r.last.devices ≡ writes_of []
  silent-by n s r (unmoved z q l) h = (used-by t stop n s r (unmoved z q l) q).devices
  silent-by n s r (all_made u p g q l) h = (used-by t stop n s r (all_made u p g q l) q).devices
  silent-by n s r (stopped u g l) h = rw l (called-stays (step t) u (λ e. h (ap number_of_answer (ap (λ (x : Ended). x.answer) l ∙ e)))).devices

pub reasons-tell : ReasonsTell
reasons-tell t stop n s =
    let r = ran t stop n s in
    let k = close (stepped t) stop n (unmade s) in
    record {
      number = number_by t stop n s r k;
      refused = λ h. silent-by t stop n s r k ((number_by t stop n s r k).0 h);
      used-up = λ h. (used-up t stop n s h).devices;
      runs_on = λ h. (used-up t stop n s h).runs;
      elsewhere = λ h. (used-up t stop n s h).elsewhere;
    }

reason_of : ℕ → Reason
reason_of n = get_or (Allowance ∷ StepRefused ∷ Waits ∷ StopAddress ∷ DeviceWrite ∷ []) n Allowance

named : (x : Reason) → reason_of (reason_number x) ≡ x
unfolding reason_of
named StepRefused = refl
named Waits = refl
named StopAddress = refl
named DeviceWrite = refl
named Allowance = refl

pub reasons-apart : ReasonsApart
reasons-apart x y e = sym (named x) ∙ ap reason_of e ∙ named y

-- ---- a run is so many steps

module _ (t : Settings) (stop : Option ℕ) where
  -- a step that ends the run: it is counted where it was accepted
  one-step : (n : ℕ) (s : State) (x : Reason) (a : Result ⊤ Refusal) → (stepped t s).answer ≡ a → x ≢ Allowance → IsSteps t (suc n) s (counting (stepped t s) (ends_by x (stepped t s)))
  unfolding after
  one-step n s x (Ok done) e u = record {
    steps = 1;
    most = omega arith;
    state = refl;
    accepted = λ i h. let z : i ≡ 0 = omega arith in rw z e;
    all = λ h. absurd (u h);
  }
  one-step n s x (Err y) e u = record {
    steps = 0;
    most = omega arith;
    state = (called-stays (step t) s (λ d. let z : ◌≡◌ {A = ℕ} 0 1 = cc in omega arith)).state;
    accepted = λ i h. absurd (omega arith);
    all = λ h. absurd (u h);
  }

  more-steps : (n : ℕ) (s : State) (r : RunEnded) → (stepped t s).answer ≡ (Ok tt) → IsSteps t n (stepped t s).state r → IsSteps t (suc n) s (counting (stepped t s) r)
  unfolding after
  more-steps n s r e h = record {
    steps = suc h.steps;
    most = omega (arith, h.most);
    state = h.state;
    accepted = each;
    all = λ q. ap suc (h.all q);
  }
    where
      each : (i : ℕ) → i < suc h.steps → (stepped t (after t i s)).answer ≡ (Ok tt)
      each zero l = e
      each (suc i) l = h.accepted i (omega arith)

  steps-by : (n : ℕ) (s : State) (r : RunEnded) (v : Option Reason) → tested stop (returned (stepped t s)) ≡ v → IsSteps t n (stepped t s).state r
      → IsSteps t (suc n) s (counting (stepped t s) (unless_ends v (stepped t s) r))
  steps-by n s r (Some x) g h = one-step n s x (stepped t s).answer refl (λ q. not-by-allowance stop (returned (stepped t s)) (g ∙ ap Some q))
  steps-by n s r None g h = more-steps n s r (accepts (stepped t s).answer (passed stop (returned (stepped t s)) g).accepted) h

  is-steps : (n : ℕ) (e : Ended) → IsSteps t n e.state (running (stepped t) stop n e)
  unfolding running after
  is-steps zero e = record { steps = 0; most = omega arith; state = refl; accepted = λ i h. absurd (omega arith); all = λ q. refl }
  is-steps (suc n) e =
      steps-by n e.state (running (stepped t) stop n (stepped t e.state)) (tested stop (returned (stepped t e.state))) refl (is-steps n (stepped t e.state))

pub run-is-steps : RunIsSteps
run-is-steps t stop n s = is-steps t stop n (unmade s)
