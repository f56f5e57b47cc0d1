-- Packed records in numbers: by computation.
-- Assumes nothing.
use mathlib.Core.Path.{refl}
use Rattle.machine.specs.Record.{bytes, header}
use Rattle.journal.specs.Record.{entries, encode, wait_at, mark_at, count_of, is_record}
use Rattle.journal.specs.Undos.{newest_at, sound_at, newest_of}
use Rattle.journal.specs.Drops.{reach, passable, walks, moved}
use Rattle.history.specs.Packed.{waits, entry, shortest, second, third, three, undo_judges, drop_judges, PackedRecords}

pub packed-records : PackedRecords
unfolding bytes header entries encode wait_at mark_at count_of is_record newest_at sound_at newest_of reach passable walks moved waits entry shortest second third three undo_judges drop_judges
packed-records = record { written = refl; lengths = refl; view = refl; undo = refl; drop-walk = refl; moves = refl }
