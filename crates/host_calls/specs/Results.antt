-- What a host gets of the newest record and of S-records.
-- Assumes nothing.
use Rattle.std.specs.Prelude.{ℕ, Bool, cond, List, ◌≡◌, length, take, drop, Err, Ok, Result}
use Rattle.answers.specs.Numbers.{number_of}
use Rattle.answers.specs.declared.Refusal.{Refusal}
use Rattle.journal.specs.Undos.{newest_of, newest_from}
use Rattle.salvage.specs.declared.mended.Salvaged.{Salvaged}
use Rattle.host_calls.specs.declared.HostPart.{HostPart}
use Rattle.host_calls.specs.declared.HostLoaded.{HostLoaded}
use Rattle.host_calls.specs.declared.HostWritten.{HostWritten}
use Rattle.host_calls.specs.declared.HostSalvaged.{HostSalvaged}

-- raised with each change of a struct, or of what a call takes
abbrev pub abi_number : ℕ
abi_number = 4

-- where the newest record stands (crate journal), and how long it is: 0 where there is none
unfoldable pub part_of : List ℕ → ℕ → ℕ → HostPart
part_of j records bytes = record { at = newest_from j records bytes; count = length (newest_of j records bytes) }

-- 0 in place of what is not there
abbrev pub host_loaded : Result ℕ Refusal → HostLoaded
host_loaded (Ok a) = record { start = a; answer = 0 }
host_loaded (Err r) = record { start = 0; answer = number_of r }

abbrev pub host_written : Result ℕ Refusal → HostWritten
host_written (Ok n) = record { count = n; answer = 0 }
host_written (Err r) = record { count = 0; answer = number_of r }

abbrev pub one_if : Bool → ℕ
one_if is = cond is 1 0

abbrev pub host_salvaged : Result Salvaged Refusal → HostSalvaged
host_salvaged (Ok s) = record { bytes = s.bytes; numbers = s.numbers; added = one_if s.added; answer = 0 }
host_salvaged (Err r) = record { bytes = 0; numbers = 0; added = 0; answer = number_of r }

-- the law: that part of the journal is the newest record
abbrev pub NewestPart : Type 0
NewestPart =
    (j : List ℕ) (records bytes : ℕ) → take (part_of j records bytes).count (drop (part_of j records bytes).at j) ≡ newest_of j records bytes
