-- While the journal has room, a recorded call prints what the same call prints by itself.
-- Assumes nothing.
use Rattle.std.specs.Prelude.{Err, Ok, Result, ⊤}
use Prim.Native.Nat.{ℕ, zero, suc, ◌+◌, ◌*◌, ◌≤◌}
use mathlib.Core.Path.{◌≡◌, refl, sym, ap, ◌∙◌}
use mathlib.Core.Bool.{Bool}
use mathlib.Core.List.{◌++◌}
use native.Mathlib.Omega.{arith}
use borrow.Author.Tests.{le-leb}
use lib.ListN.{length, replicate, length-replicate}
use lib.Seq.{length-sets}
use Rattle.answers.specs.declared.Refusal.TheVariants.{JournalFull}
use Rattle.memory.specs.Writes.{listed}
use Rattle.memory.proofs.Folds.{length-stored}
use Rattle.machine.specs.declared.Settings.{Settings}
use Rattle.calls.specs.Calls.{Call, step, reset, plan_of, settings_in}
use Rattle.calls.specs.Plans.{memory_with}
use Rattle.calls.specs.declared.Plan.{Plan}
use Rattle.calls.proofs.Laws.{refused-call, few-writes}
use Rattle.journal.specs.Record.{most_stored, record_length}
use Rattle.journal.specs.Recorded.{State, Ended, fresh_twin, in_hand, need, unless, most_records, saved_for, record_for, plan_answer, call_answer, recorded, concluded, called, stepped, was_reset}
use Rattle.journal.proofs.Answers.{admits-all}
use Rattle.journal.proofs.Laying.{saved-few}
use Rattle.journal.proofs.Reading.{length-encode}
use Rattle.runfile.specs.declared.Operation.TheVariants.{Step}
use Rattle.player.specs.Plays.{zeros, journal_length, call_line, line_for, lines}
use Rattle.player.specs.Boots.{step_lines, run_lines, AsRecorded}
use Rattle.answers.specs.declared.Refusal.{Refusal}

-- ---- one call

abbrev plan_in : Call → State → Plan
plan_in c s = plan_of c s.memory s.twin.machine

-- room for k records more, of any length
record Roomy (k : ℕ) (s : State) : Type 0 where
  bytes : s.twin.bytes + k * record_length most_stored ≤ length s.journal
  counted : s.twin.records + k ≤ most_records

-- a recorded call that ended so shows what the call's plan says, and leaves room for k records more
record Shows (c : Call) (s : State) (k : ℕ) (e : Ended) : Type 0 where
  line : line_for e ≡ call_line (plan_in c s).answer (plan_in c s).machine
  machine : e.state.twin.machine ≡ (plan_in c s).machine
  memory : e.state.memory ≡ memory_with (settings_in c) (plan_in c s) s.memory
  roomy : Roomy k e.state

unless-alone : (a : Result ⊤ Refusal) → unless a (Ok tt) ≡ a
unless-alone (Ok u) = refl
unless-alone (Err x) = refl

module _ (c : Call) (s : State) (k : ℕ) (size : length s.memory ≡ 65536) (space : Roomy (suc k) s) where
  abbrev plan : Plan
  plan = plan_in c s

  abbrev top : ℕ
  top = (settings_in c).ram_top

  record-fits : length (record_for (settings_in c) plan s) ≤ record_length most_stored
  unfolding record_for
  record-fits =
      let saved = saved_for top (listed plan.writes) s.memory in
      omega (arith, length-encode s.twin.machine saved, few-writes c s.memory s.twin.machine, saved-few top (listed plan.writes) s.memory)

  answer-is : call_answer (settings_in c) plan s ≡ plan.answer
  answer-is =
      ap (λ (a : Result ⊤ Refusal). unless a (plan_answer (settings_in c) plan s))
      (sym (admits-all (length s.memory) (length s.journal) s.twin.records s.twin.bytes size (omega (arith, space.bytes)) (omega (arith, space.counted))))
      ∙ ap (λ (b : Bool). unless plan.answer (need b JournalFull (Ok tt)))
      (le-leb (s.twin.bytes + length (record_for (settings_in c) plan s)) (length s.journal) (omega (arith, space.bytes, record-fits)))
      ∙ unless-alone plan.answer

  by_answer : (a : Result ⊤ Refusal) → plan.answer ≡ a → Shows c s k (concluded a (settings_in c) plan s)
  unfolding recorded
  by_answer (Ok u) e = record {
    line = rw e;
    machine = refl;
    memory = refl;
    roomy = record {
      bytes = rw length-sets (omega (arith, space.bytes, record-fits));
      counted = omega (arith, space.counted);
    };
  }
  by_answer (Err x) e =
      let r = refused-call c s.memory s.twin.machine x e in
      record {
        line = rw (e, r.machine);
        machine = sym r.machine;
        memory = sym r.memory;
        roomy = record { bytes = omega (arith, space.bytes); counted = omega (arith, space.counted) };
      }

  shows : Shows c s k (called (settings_in c) plan s)
  unfolding called
  shows = rw answer-is (by_answer plan.answer refl)

-- ---- the lines of a call and of the steps after it

-- memory keeps its length
still-whole : {c : Call} {s : State} {k : ℕ} {e : Ended} → Shows c s k e → length s.memory ≡ 65536 → length e.state.memory ≡ 65536
still-whole {c} {s} h size =
    ap length h.memory ∙ length-stored (settings_in c).ram_top (listed (plan_in c s).writes) s.memory ∙ size

module _ (t : Settings) where
  following : {c : Call} {s : State} {k : ℕ} {e : Ended} → Shows c s k e
      → step_lines t k e.state.memory e.state.twin.machine ≡ lines t (replicate k Step) e.state
      → call_line (plan_in c s).answer (plan_in c s).machine
      ++ step_lines t k (memory_with (settings_in c) (plan_in c s) s.memory) (plan_in c s).machine
      ≡ line_for e ++ lines t (replicate k Step) e.state
  following h rest = rw (h.line, ← h.memory, ← h.machine, rest)

  steps-recorded : (k : ℕ) (s : State) → length s.memory ≡ 65536 → Roomy k s → step_lines t k s.memory s.twin.machine ≡ lines t (replicate k Step) s
  unfolding step_lines lines
  steps-recorded zero s size space = refl
  steps-recorded (suc k) s size space =
      let h = shows (step t) s k size space in
      following h (steps-recorded k (stepped t s).state (still-whole h size) h.roomy)

length-zeros : (n : ℕ) → length (zeros n) ≡ n
unfolding zeros
length-zeros n = length-replicate n 0

pub as-recorded : AsRecorded
unfolding run_lines lines
as-recorded t n mem size few =
    let s = in_hand mem (zeros journal_length) fresh_twin in
    let space : Roomy (suc n) s = record { bytes = rw (length-zeros journal_length) (omega arith); counted = omega arith } in
    let h = shows (reset t) s n size space in
    following t h (steps-recorded t n (was_reset t s).state (still-whole h size) h.roomy)
