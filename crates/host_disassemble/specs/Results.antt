-- What a host gets of a disassembly.
-- Assumes nothing.
use Rattle.std.specs.Prelude.{Err, Ok, Result, ℕ}
use Rattle.answers.specs.Numbers.{number_of}
use Rattle.host_disassemble.specs.declared.HostLine.{HostLine}
use Rattle.answers.specs.declared.Refusal.{Refusal}

abbrev pub host_line : Result ℕ Refusal → HostLine
host_line (Ok n) = record { count = n; answer = 0 }
host_line (Err x) = record { count = 0; answer = number_of x }
