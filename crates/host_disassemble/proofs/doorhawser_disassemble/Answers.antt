-- The call on memory, and its number.
-- Assumes nothing.

use Rattle.host_disassemble.proofs.doorhawser_disassemble.Goals as goal

pub returns-in-Ok : goal.returns-in-Ok
returns-in-Ok c =
    let d = c.disassemble.ensures in
    (rw (← d.0, c.in-Ok.is), d.1)

pub returns-in-Err : goal.returns-in-Err
returns-in-Err c =
    let d = c.disassemble.ensures in
    (rw (c.number.ensures, ← d.0, c.in-Err.is), d.1)
