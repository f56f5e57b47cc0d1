-- The run of recorded steps, as the code's loop makes it.
-- Assumes nothing.
use Rattle.std.proofs.Common.{◌≡◌, ℕ, ◌+◌, ◌-◌, ◌%◌, ◌^◌, ◌<◌, ◌≤◌, false, ltb, List, [], ◌∷◌, length, sym, refl, ap, ◌∙◌, subst, arith, ltb-false, Err, None, Ok, Option, Result, Some}
use Rattle.std.specs.Prelude.{⊤}
use Rattle.answers.specs.Numbers.{number_of_answer}
use Rattle.memory.specs.Writes.{writes_of, listed, reported}
use Rattle.memory.specs.declared.writes.Write.{Write}
use Rattle.machine.specs.declared.Settings.{Settings}
use Rattle.calls.specs.Calls.{step, plan_of}
use Rattle.journal.specs.Recorded.{State, Ended, ending, returned, call_answer, recorded, called, stepped, in_hand, Leaves}
use Rattle.journal.specs.declared.Outcome.{Outcome}
use Rattle.runs.specs.Runs.{tested, reads_in, writes_in, RunEnded, running, ran, ran_returned, RunLeaves}
use Rattle.runs.specs.declared.Reason.{Reason}
use Rattle.runs.specs.declared.Reason.TheVariants.{Allowance}
use Rattle.runs.specs.declared.RunOutcome.{RunOutcome}
use Rattle.runs.proofs.Running.{Alike, alike_then, resumed, Neat, goes_on, ends-here, resumed-none}
use Rattle.answers.specs.declared.Refusal.{Refusal}

-- ---- the recorded step

quiet-ending : (a : Result ⊤ Refusal) (s new : State) (ds : List Write) (n k : ℕ) → ltb 0 (ending a s new ds n k).devices.count ≡ false → (ending a s new ds n k).devices ≡ writes_of []
quiet-ending (Ok u) s new [] n k h = refl
quiet-ending (Ok u) s new (d ∷ ds) n k h = let z : length (d ∷ ds) ≤ 0 = ltb-false 0 (length (d ∷ ds)) h in absurd (omega arith)
quiet-ending (Err x) s new ds n k h = refl

pub neat : (t : Settings) → Neat (stepped t)
unfolding called
neat t s h =
    let p = plan_of (step t) s.memory s.twin.machine in
    quiet-ending (call_answer t p s) s (recorded t p s) (reported t.ram_top (listed p.writes)) p.reads (length (listed p.writes)) h

-- ---- the loop of the code

none_after : (n : ℕ) → n < 2 ^ 64 → (n + 0) % 2 ^ 64 ≡ n
none_after n h = omega arith

below-wrap : (a : ℕ) → a % 2 ^ 64 < 2 ^ 64
below-wrap a = omega arith

one-count : (a b : ℕ) → (a + (b + 0)) % 2 ^ 64 ≡ (a + b) % 2 ^ 64
one-count a b = omega arith

module _ (t : Settings) (stop : Option ℕ) (count : ℕ) (s : State) where
  -- what is left of the run, with the counts so far, is the whole run
  pub record Going (now : State) (reads writes left : ℕ) : Type 0 where
    pub alike : Alike (ran t stop count s) (resumed reads writes (ran t stop left now))
    pub reads_fit : reads < 2 ^ 64
    pub writes-fit : writes < 2 ^ 64

  pub begins : Going s 0 0 count
  begins = record {
    alike = record { result = ap ran_returned (resumed-none (ran t stop count s)); state = refl };
    reads_fit = omega arith;
    writes-fit = omega arith;
  }

  module _ (now : State) (reads writes left : ℕ) (h : Going now reads writes left) where
    abbrev last : Ended
    last = stepped t now

    again : 0 < left → tested stop (returned last) ≡ None
        → Going last.state ((reads + reads_in (returned last)) % 2 ^ 64) ((writes + writes_in (returned last)) % 2 ^ 64) (left - 1)
    again l g = record {
      alike = alike_then h.alike (goes_on (stepped t) stop (neat t) left now reads writes l g);
      reads_fit = below-wrap (reads + reads_in (returned last));
      writes-fit = below-wrap (writes + writes_in (returned last));
    }

    -- what the code returns where a step ends the run, and where the allowance is used up
    stops : (reason : Reason) → 0 < left → tested stop (returned last) ≡ Some reason
        → RunLeaves (record { devices = last.devices; twin = last.state.twin; reason = reason; number = number_of_answer last.answer; reads = (reads + reads_in (returned last)) % 2 ^ 64; writes = (writes + writes_in (returned last)) % 2 ^ 64; answer = (Ok tt) })
        last.state.memory last.state.journal (ran t stop count s)
    stops reason l g =
        let f = subst (λ (r : RunEnded). Alike (ran t stop count s) (resumed reads writes r)) (ends-here (stepped t) stop left now reason l g) h.alike in
        record {
          result = (λ i. record {
            devices = last.devices;
            twin = last.state.twin;
            reason = reason;
            number = number_of_answer last.answer;
            reads = sym (one-count reads (reads_in (returned last))) i;
            writes = sym (one-count writes (writes_in (returned last))) i;
            answer = (Ok tt);
          }) ∙ sym f.result;
          memory-is = ap (λ (z : State). z.memory) (sym f.state);
          journal-is = ap (λ (z : State). z.journal) (sym f.state);
        }

    pub used-up : left ≤ 0
        → RunLeaves (record { devices = writes_of []; twin = now.twin; reason = Allowance; number = 0; reads = reads; writes = writes; answer = (Ok tt) })
        now.memory now.journal (ran t stop count s)
    unfolding running
    used-up l =
        let e : left ≡ 0 = omega arith in
        let f = subst (λ (n : ℕ). Alike (ran t stop count s) (resumed reads writes (ran t stop n now))) e h.alike in
        record {
          result = (λ i. record {
            devices = writes_of [];
            twin = now.twin;
            reason = Allowance;
            number = 0;
            reads = sym (none_after reads h.reads_fit) i;
            writes = sym (none_after writes h.writes-fit) i;
            answer = (Ok tt);
          }) ∙ sym f.result;
          memory-is = ap (λ (z : State). z.memory) (sym f.state);
          journal-is = ap (λ (z : State). z.journal) (sym f.state);
        }

    -- the same of what the calls in the loop return
    module _ (r : Outcome) (mem journal : List ℕ) (x y : ℕ) (l : Leaves r mem journal last) (e : x ≡ (reads + reads_in r) % 2 ^ 64) (f : y ≡ (writes + writes_in r) % 2 ^ 64)
        (p : 0 < left) where
      pub turns : tested stop r ≡ None → Going (in_hand mem journal r.twin) x y (left - 1)
      turns g = rw (e, f, l.result, l.memory-is, l.journal-is) (again p (rw l.result at g))

      pub leaves : (reason : Reason) (o : RunOutcome) → tested stop r ≡ Some reason
          → o ≡ record { devices = r.devices; twin = r.twin; reason = reason; number = number_of_answer r.answer; reads = x; writes = y; answer = (Ok tt) }
          → RunLeaves o mem journal (ran t stop count s)
      leaves reason o g h = rw (h, e, f, l.result, l.memory-is, l.journal-is) (stops reason p (rw l.result at g))
