-- A run with an allowance for a host: the stop address as a number, and what comes back.
-- Assumes nothing.
use Rattle.std.specs.Prelude.{ℕ, Bool, cond, List, map, ◌≡◌, leb, ltb, None, Option, Some}
use Rattle.answers.specs.Numbers.{number_of_answer}
use Rattle.host.specs.Structs.{host_twin, host_write, unnamed}
use Rattle.host.specs.declared.HostTwin.{HostTwin}
use Rattle.runs.specs.Runs.{RunEnded, reason_number, ran_returned}
use Rattle.runs.specs.declared.RunOutcome.{RunOutcome}
use Rattle.host_run_recorded.specs.declared.HostStopped.{HostStopped}

-- 0000 to FFFF is an address, and 10000 none; a number above names nothing
abbrev pub is_stop : ℕ → Bool
is_stop n = leb n 0x10000

abbrev pub stop_from : ℕ → Option ℕ
stop_from n = cond (ltb n 0x10000) (Some n) None

unfoldable pub host_stopped : RunOutcome → HostStopped
host_stopped o =
    record {
      outcome = record {
        twin = host_twin o.twin;
        devices = map host_write o.devices.list;
        count = o.devices.count;
        reads = o.reads;
        writes = o.writes;
        answer = number_of_answer o.answer;
      };
      reason = reason_number o.reason;
      number = o.number;
    }

-- where the numbers name nothing: 64, and no reason
abbrev pub not_started : HostTwin → HostStopped
not_started t = record { outcome = unnamed t; reason = 0; number = 0 }

pub record HostRunEnds (named : Bool) (run : RunEnded) (t : HostTwin) (memory journal : List ℕ) (r : HostStopped) (memory' journal' : List ℕ) : Type 0 where
  pub result : r ≡ cond named (host_stopped (ran_returned run)) (not_started t)
  pub memory-is : memory' ≡ cond named run.last.state.memory memory
  pub journal-is : journal' ≡ cond named run.last.state.journal journal
