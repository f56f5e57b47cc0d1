-- Header, count, entries and length are laid one after the other.
-- Assumes nothing.
use mathlib.Core.Path.{◌≡◌, refl, sym, ap, ◌∙◌}
use native.Mathlib.Omega.{arith}
use lib.ListN.{length, length-set}
use Rattle.memory.specs.Writes.{listed}
use Rattle.journal.specs.Record.{most_stored, record_length}
use Rattle.journal.specs.Recorded.{saved_for}
use Rattle.journal.proofs.Laying.{record-laid}
use Rattle.journal.proofs.recorded.write_record.Goals as goal

pub save_all-requires : goal.save_all-requires
save_all-requires c =
    let p = c.requires in
    (simp length-set (omega (arith, p.0, p.1.1.0, c.write_header.auto)), p.1.1.1)

pub bounds-rest-last : goal.bounds-rest-last
bounds-rest-last c =
    let h = simp length-set at c.save_all.auto.rest in
    omega (arith, h, c.write_header.auto, c.requires)

pub shape_of-rest : goal.shape_of-rest
shape_of-rest c =
    let h = simp length-set at c.save_all.auto.rest in
    simp length-set (omega (arith, h, c.write_header.auto))

pub returns : goal.returns
returns c =
    let a = c.args in
    let p = c.requires in
    rw (c.save_all.ensures, c.write_header.ensures)
    (record-laid a.machine (saved_for a.ram_top (listed a.writes) a.mem.now) a.rest.now a.n p.0 p.1.1.0)
