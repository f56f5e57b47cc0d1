-- A refused file prints its number; a sound one is run in the memory that `read` left.
-- Assumes nothing.
use Rattle.player.proofs.Booting.{refused-file, sound-file}
use Rattle.player.proofs.boots.boot_text.Goals as goal

pub returns-in-Err : goal.returns-in-Err
returns-in-Err c =
    let a = c.args in
    let z = c.zeroed_memory-mem.ensures in
    let r = c.read.ensures in
    rw (refused-file a.settings a.count a.text.now z r.0 c.in-Err.is) c.put_refusal.ensures

pub returns-in-Ok : goal.returns-in-Ok
returns-in-Ok c =
    let a = c.args in
    let z = c.zeroed_memory-mem.ensures in
    let r = c.read.ensures in
    rw (sound-file a.settings a.count a.text.now z r.0 r.1 c.in-Ok.is) c.put_run.ensures
