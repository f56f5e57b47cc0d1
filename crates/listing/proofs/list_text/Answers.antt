-- A refused file prints its number; a sound one is listed in the memory that `read` left.
-- Assumes nothing.
use native.Mathlib.Omega.{arith}
use Rattle.answers.specs.Numbers.{number_of}
use Rattle.text.proofs.Texts.{alone-fits}
use Rattle.listing.proofs.Files.{refused-file, sound-file}
use Rattle.listing.proofs.list_text.Goals as goal

pub returns-in-Err : goal.returns-in-Err
returns-in-Err c =
    let a = c.args in
    let z = c.zeroed_memory-mem.ensures in
    let r = c.read.ensures in
    let p = c.put_refusal.ensures in
    rw (refused-file a.given a.at a.count a.text.now z r.0 c.in-Err.is)
    (p.0, (p.1, omega (arith, p.0, alone-fits (number_of c.in-Err.refusal))))

pub returns-in-Ok : goal.returns-in-Ok
returns-in-Ok c =
    let a = c.args in
    let z = c.zeroed_memory-mem.ensures in
    let r = c.read.ensures in
    rw (sound-file a.given a.at a.count a.text.now z r.0 r.1 c.in-Ok.is)
    (rw (c.start-from.ensures, c.read_u16.ensures) at c.put_lines.ensures)
