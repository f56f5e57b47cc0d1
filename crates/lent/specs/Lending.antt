-- How a recorded call ends (crates/journal, specs/Recorded.antt) where the twin is lent: the twin is left in its place, and the rest is returned.
-- Assumes nothing.
use Rattle.std.specs.Prelude.{ℕ, List, ◌≡◌}
use Rattle.journal.specs.Recorded.{Ended}
use Rattle.journal.specs.declared.Outcome.{Outcome}
use Rattle.journal.specs.declared.Twin.{Twin}
use Rattle.lent.specs.declared.Reported.{Reported}
use Rattle.lent.specs.declared.Returned.{Returned}

-- the device writes, the two counts and the answer
abbrev pub report_of : Ended → Reported
report_of e = record { devices = e.devices; reads = e.reads; writes = e.writes; answer = e.answer }

-- what a recorded call returned, as report and twin
abbrev pub parts : Outcome → Returned
parts o = record { reported = record { devices = o.devices; reads = o.reads; writes = o.writes; answer = o.answer }; twin = o.twin }

-- A call on values: the report and the twin come back together
pub record Returns (r : Returned) (memory journal : List ℕ) (e : Ended) : Type 0 where
  pub result : r ≡ record { reported = report_of e; twin = e.state.twin }
  pub memory-is : memory ≡ e.state.memory
  pub journal-is : journal ≡ e.state.journal

-- A call on a lent twin: the report comes back, and twin, memory and journal are left as the call ends
pub record LeavesTwin (r : Reported) (twin : Twin) (memory journal : List ℕ) (e : Ended) : Type 0 where
  pub result : r ≡ report_of e
  pub twin-is : twin ≡ e.state.twin
  pub memory-is : memory ≡ e.state.memory
  pub journal-is : journal ≡ e.state.journal
