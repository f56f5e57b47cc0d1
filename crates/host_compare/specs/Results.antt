-- What a host gets of dumps and of a comparison.
-- Assumes nothing.
use Rattle.std.specs.Prelude.{ℕ, Result, Err, Ok}
use Rattle.answers.specs.Numbers.{number_of}
use Rattle.answers.specs.declared.Refusal.{Refusal}
use Rattle.machine.specs.Machine.{fresh}
use Rattle.machine.specs.declared.Machine.{Machine}
use Rattle.host.specs.Numbers.{unnamed_number}
use Rattle.host.specs.Structs.{host_twin}
use Rattle.host_compare.specs.declared.HostCounted.{HostCounted}
use Rattle.host_compare.specs.declared.HostUndumped.{HostUndumped}

-- where a twin's numbers name nothing
abbrev pub unnamed_count : HostCounted
unnamed_count = record { count = 0; answer = unnamed_number }

-- how many bytes, or entries, are written
abbrev pub host_counted : Result ℕ Refusal → HostCounted
host_counted (Ok n) = record { count = n; answer = 0 }
host_counted (Err x) = record { count = 0; answer = number_of x }

-- a dump has no journal: no record is held, and no byte is in use
abbrev pub undumped_as : Machine → ℕ → HostUndumped
undumped_as m n = record { twin = host_twin (record { machine = m; records = 0; bytes = 0 }); answer = n }

abbrev pub host_undumped : Result Machine Refusal → HostUndumped
host_undumped (Ok m) = undumped_as m 0
host_undumped (Err x) = undumped_as fresh (number_of x)
