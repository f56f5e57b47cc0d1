-- Runs over any step: one more step, the end, and what an allowance changes.
-- Assumes nothing.
use Rattle.std.proofs.Common.{◌≡◌, ℕ, zero, suc, ◌+◌, ◌-◌, ◌%◌, ◌^◌, ◌<◌, ◌≤◌, Bool, true, false, cond, ltb, ◌≢◌, [], sym, refl, ap, ◌∙◌, arith, Err, None, Ok, Option, Result, Some}
use Rattle.std.specs.Prelude.{⊤}
use Rattle.memory.specs.Writes.{writes_of}
use Rattle.journal.specs.Recorded.{State, Ended, returned}
use Rattle.journal.specs.declared.Outcome.{Outcome}
use Rattle.runs.specs.Runs.{is_refused, waits, is_at, tested, reads_in, writes_in, RunEnded, unmade, ends_by, counting, unless_ends, running, ran_returned}
use Rattle.runs.specs.declared.Reason.{Reason}
use Rattle.runs.specs.declared.Reason.TheVariants.{StepRefused, Waits, StopAddress, DeviceWrite, Allowance}
use Rattle.runs.specs.declared.RunOutcome.{RunOutcome}
use Rattle.answers.specs.declared.Refusal.{Refusal}

-- what holds where a step ends the run, and of the rest where it goes on, holds of both
pub either_way : (P : RunEnded → Type 0) (v : Option Reason) (e : Ended) (r : RunEnded) → ((reason : Reason) → P (ends_by reason e)) → P r → P (unless_ends v e r)
either_way P (Some reason) e r h k = h reason
either_way P None e r h k = k

-- ---- the verdict

-- what a step after which the run goes on was
pub record Passed (stop : Option ℕ) (o : Outcome) : Type 0 where
  pub accepted : is_refused o.answer ≡ false
  pub runs : waits o.twin.machine.wait ≡ false
  pub elsewhere : is_at stop o.twin.machine.regs.pc ≡ false
  pub quiet : ltb 0 o.devices.count ≡ false

not_same : Some StepRefused ≢ None
not_same e = let z : ◌≡◌ {A = ℕ} 0 1 = cc in omega arith

all-false : (a b c d : Bool) → cond a (Some StepRefused) (cond b (Some Waits) (cond c (Some StopAddress) (cond d (Some DeviceWrite) None))) ≡ None
    → (a ≡ false) × ((b ≡ false) × ((c ≡ false) × (d ≡ false)))
all-false false false false false e = (refl, (refl, (refl, refl)))
all-false true b c d e = let z : ◌≡◌ {A = ℕ} 0 1 = cc in absurd (omega arith)
all-false false true c d e = let z : ◌≡◌ {A = ℕ} 0 1 = cc in absurd (omega arith)
all-false false false true d e = let z : ◌≡◌ {A = ℕ} 0 1 = cc in absurd (omega arith)
all-false false false false true e = let z : ◌≡◌ {A = ℕ} 0 1 = cc in absurd (omega arith)

no-allowance : (a b c d : Bool) → cond a (Some StepRefused) (cond b (Some Waits) (cond c (Some StopAddress) (cond d (Some DeviceWrite) None))) ≢ Some Allowance
no-allowance true b c d e = let z : ◌≡◌ {A = ℕ} 0 1 = cc in omega arith
no-allowance false true c d e = let z : ◌≡◌ {A = ℕ} 0 1 = cc in omega arith
no-allowance false false true d e = let z : ◌≡◌ {A = ℕ} 0 1 = cc in omega arith
no-allowance false false false true e = let z : ◌≡◌ {A = ℕ} 0 1 = cc in omega arith
no-allowance false false false false e = let z : ◌≡◌ {A = ℕ} 0 1 = cc in omega arith

module _ (stop : Option ℕ) (o : Outcome) where
  pub passed : tested stop o ≡ None → Passed stop o
  unfolding tested
  passed e =
      let h = all-false (is_refused o.answer) (waits o.twin.machine.wait) (is_at stop o.twin.machine.regs.pc) (ltb 0 o.devices.count) e in
      record { accepted = h.0; runs = h.1.0; elsewhere = h.1.1.0; quiet = h.1.1.1 }

  pub not-by-allowance : tested stop o ≢ Some Allowance
  unfolding tested
  not-by-allowance = no-allowance (is_refused o.answer) (waits o.twin.machine.wait) (is_at stop o.twin.machine.regs.pc) (ltb 0 o.devices.count)

pub accepts : (a : Result ⊤ Refusal) → is_refused a ≡ false → a ≡ (Ok tt)
accepts (Ok u) e = refl
accepts (Err x) e = let z : ◌≡◌ {A = ℕ} 0 1 = cc in absurd (omega arith)

-- ---- one more step, and the end

-- two runs that return the same, and leave the same
pub record Alike (a b : RunEnded) : Type 0 where
  pub result : ran_returned a ≡ ran_returned b
  pub state : a.last.state ≡ b.last.state

pub alike_then : {a b c : RunEnded} → Alike a b → Alike b c → Alike a c
alike_then p q = record { result = p.result ∙ q.result; state = p.state ∙ q.state }

-- a run that follows steps which read and wrote so many bytes
abbrev pub resumed : ℕ → ℕ → RunEnded → RunEnded
resumed reads writes r = record { reason = r.reason; last = r.last; reads = reads + r.reads; writes = writes + r.writes }

-- a step that reports no device write reports an empty list
abbrev pub Neat : (State → Ended) → Type 0
Neat step = (s : State) → ltb 0 (step s).devices.count ≡ false → (step s).devices ≡ writes_of []

wraps : (x y a b : ℕ) → a % 2 ^ 64 ≡ b % 2 ^ 64 → (x + (y + a)) % 2 ^ 64 ≡ ((x + y) % 2 ^ 64 + b) % 2 ^ 64
wraps x y a b h = omega arith

-- counts that wrap at each step are those that wrap at the end
carried : (reads writes : ℕ) (f : Ended) (a b : RunEnded) → Alike a b
    → Alike (resumed reads writes (counting f a)) (resumed ((reads + reads_in (returned f)) % 2 ^ 64) ((writes + writes_in (returned f)) % 2 ^ 64) b)
carried reads writes f a b h = record {
  result = λ i. record {
    devices = (h.result i).devices;
    twin = (h.result i).twin;
    reason = (h.result i).reason;
    number = (h.result i).number;
    reads = wraps reads (reads_in (returned f)) a.reads b.reads (ap (λ (o : RunOutcome). o.reads) h.result) i;
    writes = wraps writes (writes_in (returned f)) a.writes b.writes (ap (λ (o : RunOutcome). o.writes) h.result) i;
    answer = (Ok tt);
  };
  state = h.state;
}

module _ (step : State → Ended) (stop : Option ℕ) where
  -- what is left of a run depends on the state alone, where the last step was accepted and reported nothing
  pub from-state : (n : ℕ) (e : Ended) → e.answer ≡ (Ok tt) → e.devices ≡ writes_of [] → Alike (running step stop n e) (running step stop n (unmade e.state))
  unfolding running
  from-state zero e a d = record { result = rw (a, d); state = refl }
  from-state (suc n) e a d = record { result = refl; state = refl }

  pub goes_on : Neat step → (n : ℕ) (s : State) (reads writes : ℕ) → 0 < n → tested stop (returned (step s)) ≡ None
      → Alike (resumed reads writes (running step stop n (unmade s)))
      (resumed ((reads + reads_in (returned (step s))) % 2 ^ 64) ((writes + writes_in (returned (step s))) % 2 ^ 64) (running step stop (n - 1) (unmade (step s).state)))
  unfolding running
  goes_on neat zero s reads writes h g = absurd (omega arith)
  goes_on neat (suc n) s reads writes h g =
      let p = passed stop (returned (step s)) g in
      let w = from-state n (step s) (accepts (step s).answer p.accepted) (neat s p.quiet) in
      let e : suc n - 1 ≡ n = omega arith in
      rw (g, e) (carried reads writes (step s) (running step stop n (step s)) (running step stop n (unmade (step s).state)) w)

  pub ends-here : (n : ℕ) (s : State) (reason : Reason) → 0 < n → tested stop (returned (step s)) ≡ Some reason
      → running step stop n (unmade s) ≡ counting (step s) (ends_by reason (step s))
  unfolding running
  ends-here zero s reason h g = absurd (omega arith)
  ends-here (suc n) s reason h g = rw g

-- ---- a larger allowance

larger-by : (v : Option Reason) (f : Ended) (a b : RunEnded) → (b.reason ≢ Allowance → a ≡ b) → (unless_ends v f b).reason ≢ Allowance
    → counting f (unless_ends v f a) ≡ counting f (unless_ends v f b)
larger-by (Some x) f a b h r = refl
larger-by None f a b h r = ap (counting f) (h r)

module _ (step : State → Ended) (stop : Option ℕ) where
  pub larger : (n m : ℕ) (e : Ended) → n ≤ m → (running step stop n e).reason ≢ Allowance → running step stop m e ≡ running step stop n e
  unfolding running
  larger zero m e h r = absurd (r refl)
  larger (suc n) zero e h r = absurd (omega arith)
  larger (suc n) (suc m) e h r =
      larger-by (tested stop (returned (step e.state))) (step e.state) (running step stop m (step e.state)) (running step stop n (step e.state))
      (larger n m (step e.state) (omega arith)) r

-- ---- two runs, one after the other

none_before : (n : ℕ) → n ≡ 0 + n
none_before n = omega arith

three : (a b c : ℕ) → a + (b + c) ≡ a + b + c
three a b c = omega arith

pub resumed-none : (r : RunEnded) → r ≡ resumed 0 0 r
resumed-none r = λ i. record { reason = r.reason; last = r.last; reads = none_before r.reads i; writes = none_before r.writes i }

joins-by : (v : Option Reason) (f : Ended) (a c : RunEnded) (rest : Ended → RunEnded) → v ≢ Some Allowance → (unless_ends v f a).reason ≡ Allowance
    → (a.reason ≡ Allowance → c ≡ resumed a.reads a.writes (rest a.last))
    → counting f (unless_ends v f c)
    ≡ resumed (counting f (unless_ends v f a)).reads (counting f (unless_ends v f a)).writes (rest (unless_ends v f a).last)
joins-by (Some x) f a c rest u r h = absurd (u (ap Some r))
joins-by None f a c rest u r h =
    ap (counting f) (h r)
    ∙ (λ i. record {
      reason = (rest a.last).reason;
      last = (rest a.last).last;
      reads = three (reads_in (returned f)) a.reads (rest a.last).reads i;
      writes = three (writes_in (returned f)) a.writes (rest a.last).writes i;
    })

module _ (step : State → Ended) (stop : Option ℕ) where
  pub joins : (n m : ℕ) (e : Ended) → (running step stop n e).reason ≡ Allowance
      → running step stop (n + m) e ≡ resumed (running step stop n e).reads (running step stop n e).writes (running step stop m (running step stop n e).last)
  unfolding running
  joins zero m e r = let z : 0 + m ≡ m = omega arith in rw z (resumed-none (running step stop m e))
  joins (suc n) m e r =
      let z : suc n + m ≡ suc (n + m) = omega arith in
      rw z
      (joins-by (tested stop (returned (step e.state))) (step e.state) (running step stop n (step e.state)) (running step stop (n + m) (step e.state))
      (running step stop m) (not-by-allowance stop (returned (step e.state))) r (joins n m (step e.state)))

-- ---- how a run ends

-- no step was made; all were made that were allowed, and the last did not end the run; or a step ended it
pub data Close (step : State → Ended) (stop : Option ℕ) (n : ℕ) (e : Ended) (r : RunEnded) : Type 0 where
  unmoved : n ≡ 0 → r.reason ≡ Allowance → r.last ≡ e → Close step stop n e r
  all_made : (s : State) → 0 < n → tested stop (returned (step s)) ≡ None → r.reason ≡ Allowance → r.last ≡ step s → Close step stop n e r
  stopped : (s : State) → tested stop (returned (step s)) ≡ Some r.reason → r.last ≡ step s → Close step stop n e r

module _ (step : State → Ended) (stop : Option ℕ) where
  later : (n : ℕ) (e : Ended) (r : RunEnded) → tested stop (returned (step e.state)) ≡ None → Close step stop n (step e.state) r
      → Close step stop (suc n) e (counting (step e.state) r)
  later n e r g (unmoved z q l) = all_made e.state (omega arith) g q l
  later n e r g (all_made s p h q l) = all_made s (omega arith) h q l
  later n e r g (stopped s h l) = stopped s h l

  by-verdict : (n : ℕ) (e : Ended) (r : RunEnded) (v : Option Reason) → tested stop (returned (step e.state)) ≡ v → Close step stop n (step e.state) r
      → Close step stop (suc n) e (counting (step e.state) (unless_ends v (step e.state) r))
  by-verdict n e r (Some x) g h = stopped e.state g refl
  by-verdict n e r None g h = later n e r g h

  pub close : (n : ℕ) (e : Ended) → Close step stop n e (running step stop n e)
  unfolding running
  close zero e = unmoved refl refl refl
  close (suc n) e = by-verdict n e (running step stop n (step e.state)) (tested stop (returned (step e.state))) refl (close n (step e.state))
