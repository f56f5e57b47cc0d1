-- A list of writes, and what it does to memory and devices, in order.
-- Assumes nothing.
use Rattle.std.specs.Prelude.{ℕ, ◌+◌, ◌-◌, ◌/◌, ◌%◌, Bool, false, cond, List, [], ◌∷◌, ◌++◌, length, take, replicate, nat_lt, slice_set}
use Rattle.memory.specs.Map.{low_at, landing_of}
use Rattle.u8oru16.specs.declared.u8u16.{u8u16}
use Rattle.u8oru16.specs.declared.u8u16.TheVariants.{u8, u16}
use Rattle.memory.specs.declared.Landing.{Landing}
use Rattle.memory.specs.declared.Landing.TheVariants.{Stored, Device, Ignored}
use Rattle.memory.specs.declared.writes.Write.{Write}
use Rattle.memory.specs.declared.writes.Writes.{Writes}

-- memory after byte b is written, by where the write lands
abbrev pub put_at : Landing → ℕ → List ℕ → List ℕ
put_at (Stored p) b mem = slice_set mem p b
put_at Device b mem = mem
put_at Ignored b mem = mem

-- the write itself if it goes to a device, else nothing
abbrev pub device_at : Landing → Write → List Write
device_at (Stored p) w = []
device_at Device w = w ∷ []
device_at Ignored w = []

-- memory after a list of writes
unfoldable pub stored : ℕ → List Write → List ℕ → List ℕ
stored top [] mem = mem
stored top (w ∷ ws) mem = stored top ws (put_at (landing_of w.at top w.system) w.byte mem)

-- the device writes of a list of writes
unfoldable pub reported : ℕ → List Write → List Write
reported top [] = []
reported top (w ∷ ws) = device_at (landing_of w.at top w.system) w ++ reported top ws

-- a list of at most twelve writes in the twelve places, unused ones zero
unfoldable pub twelve : List Write → List Write
twelve l = l ++ replicate (12 - length l) (record { at = 0; byte = 0; system = false })

abbrev pub writes_of : List Write → Writes
writes_of l = record { count = length l; list = twelve l }

-- the writes that stand in the twelve places
abbrev pub listed : Writes → List Write
listed w = take w.count w.list

-- one more in the twelve places
unfoldable pub added : Writes → Write → Writes
added d w = cond (nat_lt d.count 12) (record { count = d.count + 1; list = slice_set d.list d.count w }) d

-- several more, in order
abbrev pub added_all : Writes → List Write → Writes
added_all d [] = d
added_all d (w ∷ ws) = added_all (added d w) ws

-- a word's two writes, high byte first, and a value's one or two
abbrev pub word_writes : ℕ → ℕ → Bool → List Write
word_writes at w system =
    record { at = at; byte = w / 256; system = system } ∷ record { at = low_at at; byte = w % 256; system = system } ∷ []

abbrev pub value_writes : ℕ → u8u16 → Bool → List Write
value_writes at (u8 b) system = record { at = at; byte = b; system = system } ∷ []
value_writes at (u16 w) system = word_writes at w system
