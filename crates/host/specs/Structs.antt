-- The structs that cross between a host and the twin, and how each is made of the other.
-- Assumes nothing.
use Rattle.std.specs.Prelude.{ℕ, true, false, List, map, ◌≡◌, replicate}
use Rattle.answers.specs.Numbers.{number_of_answer}
use Rattle.memory.specs.declared.writes.Write.{Write}
use Rattle.machine.specs.Machine.{settings_with}
use Rattle.machine.specs.Record.{wait_byte, wait_of, mark_byte, mark_of}
use Rattle.machine.specs.declared.Machine.{Machine}
use Rattle.machine.specs.declared.Settings.{Settings}
use Rattle.machine.specs.declared.fence.Range.{Range}
use Rattle.calls.specs.declared.Report.{Report}
use Rattle.journal.specs.declared.Outcome.{Outcome}
use Rattle.journal.specs.declared.Twin.{Twin}
use Rattle.host.specs.Numbers.{flags_of, flags_number, is_twin, is_settings, unnamed_number}
use Rattle.host.specs.declared.HostRange.{HostRange}
use Rattle.host.specs.declared.HostSettings.{HostSettings}
use Rattle.host.specs.declared.HostTwin.{HostTwin}
use Rattle.host.specs.declared.HostWrite.{HostWrite}
use Rattle.host.specs.declared.HostOutcome.{HostOutcome}

-- ---- settings

abbrev pub range_from : HostRange → Range
range_from g = record { first = g.first; last = g.last }

abbrev pub host_range : Range → HostRange
host_range g = record { first = g.first; last = g.last }

abbrev pub settings_from : HostSettings → Settings
settings_from s = settings_with s.ram_top (flags_of s.flags) (map range_from s.profile)

abbrev pub host_settings : Settings → HostSettings
host_settings s = record { ram_top = s.ram_top; flags = flags_number s.flags; spare = 0; profile = map host_range s.profile }

-- ---- the twin

unfoldable pub machine_from : HostTwin → Machine
machine_from t =
    record {
      cycles = t.cycles;
      instructions = t.instructions;
      regs = record { x = t.x; y = t.y; u = t.u; s = t.s; pc = t.pc; a = t.a; b = t.b; dp = t.dp; cc = record { reg = t.cc } };
      wait = wait_of t.wait;
      armed = mark_of t.armed;
    }

abbrev pub twin_from : HostTwin → Twin
twin_from t = record { machine = machine_from t; records = t.records; bytes = t.bytes }

unfoldable pub host_twin : Twin → HostTwin
host_twin t =
    record {
      cycles = t.machine.cycles;
      instructions = t.machine.instructions;
      records = t.records;
      bytes = t.bytes;
      x = t.machine.regs.x;
      y = t.machine.regs.y;
      u = t.machine.regs.u;
      s = t.machine.regs.s;
      pc = t.machine.regs.pc;
      a = t.machine.regs.a;
      b = t.machine.regs.b;
      dp = t.machine.regs.dp;
      cc = t.machine.regs.cc.reg;
      wait = wait_byte t.machine.wait;
      armed = mark_byte t.machine.armed;
    }

-- ---- what a call returns

abbrev pub host_write : Write → HostWrite
host_write w = record { at = w.at; byte = w.byte; system = w.system }

abbrev pub no_writes : List HostWrite
no_writes = replicate 12 (record { at = 0; byte = 0; system = false })

unfoldable pub host_outcome : Outcome → HostOutcome
host_outcome o =
    record {
      twin = host_twin o.twin;
      devices = map host_write o.devices.list;
      count = o.devices.count;
      reads = o.reads;
      writes = o.writes;
      answer = number_of_answer o.answer;
    }

-- a call that is not recorded keeps both counts of the journal
abbrev pub keeping : HostTwin → Report → Outcome
keeping t r = record { devices = r.devices; twin = record { machine = r.machine; records = t.records; bytes = t.bytes }; reads = r.reads; writes = r.writes; answer = r.answer }

-- where the numbers name nothing: the twin as it was given, no device write, and the host's own number
unfoldable pub unnamed : HostTwin → HostOutcome
unnamed t = record { twin = t; devices = no_writes; count = 0; reads = 0; writes = 0; answer = unnamed_number }

-- ---- laws: what a host names comes back as it was, and all that a call returns has a name

pub record TwinsBack : Type 0 where
  pub host : (t : HostTwin) → is_twin t ≡ true → host_twin (twin_from t) ≡ t
  pub twin : (t : Twin) → twin_from (host_twin t) ≡ t
  pub named : (t : Twin) → is_twin (host_twin t) ≡ true

pub record SettingsBack : Type 0 where
  pub host : (s : HostSettings) → is_settings s ≡ true → host_settings (settings_from s) ≡ s
  pub settings : (s : Settings) → settings_from (host_settings s) ≡ s
  pub named : (s : Settings) → is_settings (host_settings s) ≡ true
