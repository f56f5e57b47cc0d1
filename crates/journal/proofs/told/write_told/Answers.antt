-- Header, count, entries and length are laid one after the other.
-- Assumes nothing.
use mathlib.Core.Path.{◌≡◌, refl, sym, ap, ◌∙◌}
use native.Mathlib.Omega.{arith}
use lib.ListN.{length, length-set}
use Rattle.machine.specs.Machine.{fresh}
use Rattle.memory.specs.Writes.{listed}
use Rattle.calls.specs.Decisions.{plan_told}
use Rattle.journal.specs.Recorded.{saved_for}
use Rattle.journal.proofs.Laying.{record-laid}
use Rattle.journal.proofs.told.write_told.Goals as goal

pub save_told-requires : goal.save_told-requires
save_told-requires c =
    let p = c.requires in
    (p.0, λ m. simp length-set (omega (arith, p.1.1.1 m, p.1.1.0, c.write_header.auto)))

pub bounds-rest-last : goal.bounds-rest-last
bounds-rest-last c =
    let h = simp length-set at c.save_told.auto.rest in
    omega (arith, h, c.write_header.auto, c.requires.1.0, c.requires.1.1.0)

pub shape_of-rest : goal.shape_of-rest
shape_of-rest c =
    let h = simp length-set at c.save_told.auto.rest in
    simp length-set (omega (arith, h, c.write_header.auto))

pub returns : goal.returns
returns c =
    let a = c.args in
    let p = c.requires in
    λ m.
    rw (c.save_told.ensures m, c.write_header.ensures)
    (record-laid a.machine (saved_for a.settings.ram_top (listed (plan_told m a.settings a.mem.now a.decision).writes) a.mem.now) a.rest.now a.n (p.1.1.1 m) p.1.1.0)
