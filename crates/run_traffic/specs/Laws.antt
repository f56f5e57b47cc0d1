-- The ceilings of a step's traffic (document 02, [11]) over a run with an allowance ([12]).
-- Assumes nothing.
use Rattle.std.specs.Prelude.{ℕ, ◌+◌, ◌*◌, ◌≤◌, Option}
use Rattle.machine.specs.declared.Settings.{Settings}
use Rattle.journal.specs.Recorded.{State, Typed}
use Rattle.runs.specs.Runs.{RunEnded, ran}

-- of n steps, before the sums wrap
pub record RunCeilings (n : ℕ) (r : RunEnded) : Type 0 where
  pub reads : r.reads ≤ 14 * n
  pub writes : r.writes ≤ 12 * n
  pub together : r.reads + r.writes ≤ 17 * n

-- n is the allowance. A run that ended before it was used up is the run whose allowance is its steps (LargerAllowance, in runs)
abbrev pub RunsBounded : Type 0
RunsBounded = (t : Settings) (stop : Option ℕ) (n : ℕ) (s : State) → Typed s → RunCeilings n (ran t stop n s)
