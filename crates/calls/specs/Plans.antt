-- A call's plan (what it will do) and its report (what it did). A refused call leaves the machine, and counts no read and no write (document 02,
-- [11]). How many bytes are written is not said a second time: it is the length of the list of writes.
-- Assumes nothing.
use Rattle.std.specs.Prelude.{◌≡◌, ℕ, cond, List, [], length, Err, Ok, Result, ⊤}
use Rattle.answers.specs.declared.Refusal.{Refusal}
use Rattle.answers.specs.declared.Refusal.TheVariants.{Fenced}
use Rattle.memory.specs.Fits.{AllFit}
use Rattle.memory.specs.Writes.{writes_of, listed, stored, reported}
use Rattle.memory.specs.declared.writes.Writes.{Writes}
use Rattle.machine.specs.Fence.{bars}
use Rattle.machine.specs.Machine.{MachineFits}
use Rattle.machine.specs.declared.Machine.{Machine}
use Rattle.machine.specs.declared.Settings.{Settings}
use Rattle.calls.specs.declared.Plan.{Plan}
use Rattle.calls.specs.declared.Report.{Report}

abbrev pub refused_with : Machine → Refusal → Plan
refused_with m x = record { writes = writes_of []; machine = m; reads = 0; answer = Err x }

-- the machine changes, so many bytes are read, and nothing is written
abbrev pub accepted : Machine → ℕ → Plan
accepted m reads = record { writes = writes_of []; machine = m; reads = reads; answer = (Ok tt) }

-- what an effect comes to by its answer: machine n after it and its writes, or machine m as it was
abbrev pub ended_by : Result ⊤ Refusal → Machine → Writes → Machine → ℕ → Plan
ended_by (Ok u) m ws n reads = record { writes = ws; machine = n; reads = reads; answer = (Ok tt) }
ended_by (Err x) m ws n reads = refused_with m x

-- 28 (document 02, [14]): a plan of machine m that would store a byte outside the profile is refused. A refused plan stores nothing
abbrev pub fenced : Settings → Machine → Plan → Plan
fenced s m p = cond (bars s (listed p.writes)) (refused_with m Fenced) p

-- a plan carried out: the device writes in order, the machine, how many bytes were read and written (stored, ignored or a device's), and the
-- answer; and memory
abbrev pub carried_out : Settings → Plan → Report
carried_out s p =
    record {
      devices = writes_of (reported s.ram_top (listed p.writes));
      machine = p.machine;
      reads = p.reads;
      writes = length (listed p.writes);
      answer = p.answer;
    }

abbrev pub memory_with : Settings → Plan → List ℕ → List ℕ
memory_with s p mem = stored s.ram_top (listed p.writes) mem

-- a plan whose machine and writes fit their widths
pub record PlanFits (p : Plan) : Type 0 where
  pub machine : MachineFits p.machine
  pub writes : AllFit (listed p.writes)

-- nothing has changed, nothing is reported and nothing is counted
pub record NothingChanged (s : Settings) (m : Machine) (mem : List ℕ) (p : Plan) : Type 0 where
  pub machine : (carried_out s p).machine ≡ m
  pub memory : memory_with s p mem ≡ mem
  pub devices : (carried_out s p).devices ≡ writes_of []
  pub reads : (carried_out s p).reads ≡ 0
  pub writes : (carried_out s p).writes ≡ 0
