-- A refused file prints its number; a sound one is played in the memory that `load` left.
-- Assumes nothing.
use mathlib.Core.Path.{sym, ◌∙◌}
use lib.ListN.{length}
use Rattle.journal.specs.Recorded.{fresh_twin, in_hand}
use Rattle.runfile.specs.Format.{parsed, placed}
use Rattle.player.specs.Plays.{zeros, journal_length, printed}
use Rattle.player.proofs.Playing.{refused-file}
use Rattle.player.proofs.plays.play_on.Goals as goal

pub play_all-requires : goal.play_all-requires
play_all-requires g c = sym c.in-Ok.is ∙ c.load.ensures.0

pub returns-in-Err : goal.returns-in-Err
unfolding printed
returns-in-Err g c =
    let f = c.args.file.now in
    rw (refused-file (length f) (parsed f) (in_hand (placed (parsed f) (zeros 65536)) (zeros journal_length) fresh_twin) (sym c.load.ensures.0 ∙ c.in-Err.is)) c.put_refusal.ensures

pub returns-in-Ok : goal.returns-in-Ok
unfolding printed
returns-in-Ok g c = rw (← c.zeroed_memory-mem.ensures, ← c.empty_journal-journal.ensures, ← c.load.ensures.1) c.play_all.ensures
